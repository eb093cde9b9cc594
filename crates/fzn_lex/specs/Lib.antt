pub mod Classes
pub mod Tokens
pub mod Kept
pub mod Cutting
pub mod Scan
pub mod Heading
