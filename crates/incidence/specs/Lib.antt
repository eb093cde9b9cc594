pub mod Selection
pub mod Holders
pub mod Dependents
pub mod Meeting
