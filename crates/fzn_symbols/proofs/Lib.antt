mod NumberedAnswers
mod Counting
mod Faults
mod Keys
pub mod Lists
mod Marked
mod Whole
mod Texts
mod ScopedAnswers
mod Declared
mod Declaring
pub mod Places
