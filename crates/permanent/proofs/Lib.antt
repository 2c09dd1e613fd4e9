mod Summing
mod Upward
