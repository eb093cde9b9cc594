pub mod Any
pub mod AnyLaws
pub mod Meets
pub mod Never
