pub mod InSet
pub mod InSetLaws
pub mod Shared
pub use Rattle.dom_core.specs.Ends
pub use Rattle.dom_core.specs.Assignment
pub use Rattle.kind_law.specs.Laws
pub use Rattle.kind_parts.specs.Set
