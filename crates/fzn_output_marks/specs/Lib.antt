pub mod Answers
pub mod Gaps
pub mod Marks
pub mod Reading
pub mod Sets
pub mod Signs
