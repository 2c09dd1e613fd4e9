pub mod FileRota
