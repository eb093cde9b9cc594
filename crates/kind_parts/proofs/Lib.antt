mod CellLaws
mod CoverLaws
mod PlainLaws
pub mod RelationLaws
pub mod SetLaws
mod ToldLaws
pub mod VarsLaws
pub mod WalkLaws
