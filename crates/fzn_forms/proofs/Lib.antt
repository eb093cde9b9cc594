mod InStep
pub mod Single
mod Told
