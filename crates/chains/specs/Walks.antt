-- What is known of each place while chains are followed.
use Rattle.std.specs.Prelude.{◌≡◌, ℕ, zero, suc, ◌<◌, ◌⊎◌, List, length, Option, None, Some, slice_index_or}
use Rattle.chains.specs.declared.link.Link.{Link}
use Rattle.chains.specs.declared.link.Link.TheVariants.{End, To, Nothing}
use Rattle.chains.specs.declared.marks.Mark.{Mark}
use Rattle.chains.specs.declared.marks.Mark.TheVariants.{Unseen, Endless, EndsAt}
use Rattle.chains.specs.declared.walk.Walk.{Walk}
use Rattle.chains.specs.Chains.{link_at, Ends, IsEnd}

-- where a chain goes on, if it does
abbrev pub next_of : Link → ℕ → ℕ
next_of End k = k
next_of (To j) k = j
next_of Nothing k = k

-- the mark of a place whose chain ends there, or nowhere
abbrev pub mark_of : Option ℕ → Mark
mark_of None = Endless
mark_of (Some e) = EndsAt e

-- where the chain of a marked place ends
abbrev pub end_of : Mark → Option ℕ
end_of Unseen = None
end_of Endless = None
end_of (EndsAt e) = Some e

-- the mark of this place: from what is no place no chain ends
abbrev pub mark_at : List Mark → ℕ → Mark
mark_at marks k = slice_index_or marks k Endless

-- the place after so many steps
abbrev pub after : List Link → ℕ → ℕ → ℕ
after links zero k = k
after links (suc i) k = next_of (link_at links (after links i k)) (after links i k)

-- the mark says the truth of this place
abbrev pub IsRight : List Link → ℕ → Mark → Type 0
IsRight links k Unseen = Unit {0}
IsRight links k Endless = IsEnd links k None
IsRight links k (EndsAt e) = Ends links k e

-- every mark says the truth
abbrev pub AreRight : List Link → List Mark → Type 0
AreRight links marks = (k : ℕ) → IsRight links k (mark_at marks k)

-- the place stands among the first so many of the chain
abbrev pub IsOn : List Link → ℕ → ℕ → ℕ → Type 0
IsOn links start count k = (i : ℕ) × (i < count) × (after links i start ≡ k)

-- all marks but those of the chain are right
abbrev pub AreRightBut : List Link → ℕ → ℕ → List Mark → Type 0
AreRightBut links start count marks = (k : ℕ) → IsRight links k (mark_at marks k) ⊎ IsOn links start count k

-- the first so many places of the chain are among so many
abbrev pub StaysWithin : List Link → ℕ → ℕ → ℕ → Type 0
StaysWithin links start count size = (i : ℕ) → i < count → after links i start < size

-- no place that was seen is unseen
abbrev pub StaySeen : List Mark → List Mark → Type 0
StaySeen old new = (k : ℕ) → mark_at new k ≡ Unseen → mark_at old k ≡ Unseen

-- a walk to this end, over so many places that were unseen
abbrev pub walk_of : Option ℕ → ℕ → Walk
walk_of end count = record { end = end; count = count }

-- the chain was followed to its end, or to where it is known
pub record IsWalked (links : List Link) (start : ℕ) (old new : List Mark) (walk : Walk) : Type 0 where
  pub size : length new ≡ length old
  pub seen : StaySeen old new
  pub begun : mark_at new start ≡ Unseen → ⊥
  pub end : IsEnd links start walk.end
  pub within : StaysWithin links start walk.count (length new)
  pub right : AreRightBut links start walk.count new

-- every mark says the truth, and none was taken back
pub record IsSettled (links : List Link) (old new : List Mark) : Type 0 where
  pub size : length new ≡ length old
  pub seen : StaySeen old new
  pub right : AreRight links new

-- likewise, and the chain from this place was followed
pub record IsFollowed (links : List Link) (start : ℕ) (old new : List Mark) : Type 0 where
  pub size : length new ≡ length old
  pub seen : StaySeen old new
  pub begun : mark_at new start ≡ Unseen → ⊥
  pub right : AreRight links new
