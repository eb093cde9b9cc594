pub mod Named
mod Chained
mod Told
