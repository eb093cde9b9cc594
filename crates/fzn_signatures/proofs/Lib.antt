mod Found
mod Rising
pub mod Few
