mod Adopts
mod Counts
