pub mod Language
pub mod Readers
pub mod Places
pub mod Gives
pub mod Machine
