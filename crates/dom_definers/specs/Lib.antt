pub mod Variable
pub mod Definers
pub mod Hulls
pub mod Domains
pub mod Width
pub mod Known
pub mod One
