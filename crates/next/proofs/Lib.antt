mod ItemAdvances
mod Advances
