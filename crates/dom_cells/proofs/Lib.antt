pub mod BitLaws
pub mod BoxLaws
pub mod CellLaws
pub mod EmptyLaws
pub mod FlagLaws
pub mod KeptLaws
pub mod PrefixLaws
pub mod StackLaws
