pub mod Assignment
pub mod Domain
pub mod Ends
pub mod Literal
pub mod Rises
pub mod Small
pub mod View
