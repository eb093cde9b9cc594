mod Ascii
mod Chained
mod Single
mod Entries
