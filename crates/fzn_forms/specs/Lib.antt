pub mod Answers
pub mod Reading
pub mod Made
pub mod Kinds
