mod Pieces
mod StoredLemmas
