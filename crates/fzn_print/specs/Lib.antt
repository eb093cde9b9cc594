pub mod Marks
pub mod Canonical
pub mod Aside
pub mod ReadBack
pub mod Spelling
