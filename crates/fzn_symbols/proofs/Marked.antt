-- What the occurrences at the places of a text say.
use Rattle.std.proofs.Common.{◌≡◌, ℕ, zero, suc, ◌<◌, List, [], ◌∷◌, length, take, get_or, Some, slice_get, refl, ◌∙◌, ap}
use Rattle.std.specs.Option.{option_map}
use Rattle.std.proofs.lemmas.Option.{slice_get-get_or, slice_get-map}
use Rattle.fzn_symbols.specs.declared.occurrence.Occurrence.{Occurrence}
use Rattle.fzn_symbols.specs.Marks.{mark_of, marks_of}

pub marked : (os : List Occurrence) (k : ℕ) (d : Occurrence) → k < length os → slice_get (marks_of os) k ≡ Some (mark_of (get_or os k d))
marked os k d within = slice_get-map mark_of os k ∙ ap (option_map mark_of) (slice_get-get_or os k d within)

pub marks_front : (n : ℕ) (os : List Occurrence) → marks_of (take n os) ≡ take n (marks_of os)
marks_front zero os = refl
marks_front (suc n) [] = refl
marks_front (suc n) (o ∷ os) = ap (λ (ms : List _). mark_of o ∷ ms) (marks_front n os)

pub marks_count : (os : List Occurrence) → length (marks_of os) ≡ length os
marks_count [] = refl
marks_count (o ∷ os) = ap suc (marks_count os)
