mod Bytes
mod Products
mod RowSums
mod Terms
mod LeavingOut
mod Tabling
