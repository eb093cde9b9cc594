mod InStep
mod Numbered
mod Single
mod Told
