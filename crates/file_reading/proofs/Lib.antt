mod FileRefusals
mod Values
mod Inside
pub mod Rotas
