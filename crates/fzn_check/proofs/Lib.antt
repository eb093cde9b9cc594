pub mod FoundLaws
mod EdgeLaws
pub mod PlaceLaws
mod DeclarationLaws
mod OutputArrayLaws
pub mod LengthLaws
mod Different
mod ConstraintLaws
mod Marked
mod Told
