mod Finds
pub mod Firsts
mod Named
pub mod Sums
