pub mod Cycle
pub mod Descent
pub mod Grown
pub mod Met
pub mod Order
pub mod Ranked
pub mod Rows
