pub mod Shifts
pub mod Settles
pub mod Firsts
