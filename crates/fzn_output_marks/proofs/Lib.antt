mod GapLaws
mod Literals
pub mod SetLaws
mod SignLaws
