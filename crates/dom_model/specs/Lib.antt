pub mod Solved
pub mod Draft
pub mod Problem
pub mod Least
pub mod Finished
pub mod Sound
