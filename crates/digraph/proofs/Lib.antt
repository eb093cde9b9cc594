mod DescentLaws
mod GrownLaws
mod MetLaws
pub mod OrderLaws
mod PathLaws
mod Places
mod RankLaws
mod RowLaws
mod SearchLaws
mod StepLaws
pub mod WalkLaws
