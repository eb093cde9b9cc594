pub mod Laws
pub mod Joins
pub mod Loops
pub mod Lists
pub mod Faults
pub mod Machines
