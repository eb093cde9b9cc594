pub mod PlaceLaws
pub mod PlanLaws
pub mod ToldLaws
