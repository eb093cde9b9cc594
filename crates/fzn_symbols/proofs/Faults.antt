-- The first fault of a text, from its first double and its first unknown name.
use Rattle.std.proofs.Common.{ℕ, ◌<◌, ◌≤◌, ◌↔◌, List, length, take, arith}
use Rattle.std.proofs.lemmas.Option.{slice_get_within}
use Rattle.fzn_symbols.specs.declared.error.NameError.{NameError}
use Rattle.fzn_symbols.specs.declared.error.NameError.TheVariants.{NameTwice, UnknownName, Memory}
use Rattle.fzn_symbols.specs.Counted.{HasNoDouble, IsFirstUnknown, IsNowhere}
use Rattle.fzn_symbols.specs.Listed.{IsListed}
use Rattle.fzn_symbols.specs.Numbered.{Mark, declared_names, IsTwice, IsUnknown, IsFault, IsFineBefore, IsFirstFault}
use Rattle.fzn_symbols.proofs.Lists.{among_first, first_among}

module _ (os : List Mark) (names : List (List ℕ)) (fine : ℕ) (same : (n : List ℕ) → IsListed names n ↔ IsListed (declared_names os) n) (none : HasNoDouble os fine) where
  unknown_in_whole : (k at : ℕ) → IsUnknown names (take fine os) k at → (k < fine) × IsUnknown (declared_names os) os k at
  unknown_in_whole k at h =
      let there = among_first os fine k h.0 h.1 in
      (there.0, (h.0, there.1, h.2, λ listed. h.3 ((same h.0.name).1 listed), h.4))

  unknown_in_front : (k at : ℕ) → k < fine → IsUnknown (declared_names os) os k at → IsUnknown names (take fine os) k at
  unknown_in_front k at lt h = (h.0, first_among os fine k h.0 lt h.1, h.2, λ listed. h.3 ((same h.0.name).0 listed), h.4)

  fine_before : (k : ℕ) → k ≤ fine → ((j at : ℕ) → j < k → IsUnknown names (take fine os) j at → ⊥) → IsFineBefore os k
  fine_before k le known j (NameTwice at) lt h = none j at (omega (arith, lt, le)) h
  fine_before k le known j (UnknownName at) lt h = known j at lt (unknown_in_front j at (omega (arith, lt, le)) h)
  fine_before k le known j Memory lt h = h

  pub unknown_first : (at : ℕ) → IsFirstUnknown names (take fine os) at → IsFirstFault os (UnknownName at)
  unknown_first at h =
      let whole = unknown_in_whole h.0 at h.1 in
      (h.0, whole.1, fine_before h.0 (omega (arith, whole.0)) h.2)

  pub twice_first : IsNowhere names (take fine os) → (at : ℕ) → IsTwice os fine at → IsFirstFault os (NameTwice at)
  twice_first nowhere at h = (fine, h, fine_before fine (omega arith) (λ j b lt u. nowhere j b u))

  pub no_fault : length os ≤ fine → IsNowhere names (take fine os) → (k : ℕ) (e : NameError) → IsFault os k e → ⊥
  no_fault all nowhere k (NameTwice at) h = none k at (omega (arith, all, slice_get_within os k h.0 h.1)) h
  no_fault all nowhere k (UnknownName at) h = nowhere k at (unknown_in_front k at (omega (arith, all, slice_get_within os k h.0 h.1)) h)
  no_fault all nowhere k Memory h = h
