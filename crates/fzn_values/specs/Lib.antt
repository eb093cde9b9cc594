pub mod Literals
pub mod Links
pub mod Constants
