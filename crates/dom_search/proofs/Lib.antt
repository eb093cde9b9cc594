mod Counts
mod Order
mod Places
mod Progress
mod Tuples
