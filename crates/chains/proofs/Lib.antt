mod Unseen
mod Follow
