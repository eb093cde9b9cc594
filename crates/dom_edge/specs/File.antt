-- What a folder tells of its files, and what a read gives of one.
use Rattle.std.specs.Prelude.{◌≡◌, ◌≢◌, ◌↔◌, ℕ, ◌≤◌, List, length, take, drop, Option, Some, None}

-- what is told of a file: nothing, or that it is missing, or its bytes
abbrev pub Told : Type 0
Told = Option (Option (List ℕ))

-- there is told to be no such file
abbrev pub IsMissing : Told → Type 0
IsMissing told = told ≡ Some None

-- the file is told to have these bytes
abbrev pub Holds : Told → List ℕ → Type 0
Holds told file = told ≡ Some (Some file)

-- a buffer begins with the n bytes of the file from a place on, and n is 0 exactly at or past the end
pub record GivesPart (file : List ℕ) (at n : ℕ) (buf : List ℕ) : Type 0 where
  pub part : take n buf ≡ take n (drop at file)
  pub end : (n ≡ 0) ↔ (length file ≤ at)

-- the file of this name has these bytes now, and what is told of every other file is as before
pub record PutsFile (old new : List ℕ → Told) (name file : List ℕ) : Type 0 where
  pub put : Holds (new name) file
  pub others : (other : List ℕ) → other ≢ name → new other ≡ old other
