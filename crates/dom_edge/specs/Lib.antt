pub mod Causes
pub mod File
pub mod Planned
pub mod Stored
pub mod Text
