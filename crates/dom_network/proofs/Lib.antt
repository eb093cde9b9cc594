pub mod FreeLaws
mod KeptLaws
pub mod PlaceLaws
mod HullLaws
mod OrderLaws
mod CompletionLaws
mod AdmissionLaws
mod TableLaws
mod TestLaws
