pub mod Numbers
pub mod Arguments
