pub mod Free
pub mod Completion
pub mod Network
pub mod Place
pub mod Tables
pub mod Filling
pub mod NetworkLaws
