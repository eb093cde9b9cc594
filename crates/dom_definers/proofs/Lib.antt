pub mod DefinersLaws
pub mod DependenceLaws
pub mod HullLaws
pub mod SolvingLaws
pub mod WidthLaws
pub mod KnownLaws
pub mod OneLaws
