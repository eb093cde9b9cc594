-- Which constraint defines a variable, and what its definition reads.
use Rattle.std.specs.Prelude.{◌≡◌, ◌==◌, ◌<◌, Bool, false, if◌then◌else◌, Option, Some, None, List, [], ◌∷◌, ℕ, suc, length, map, slice_get, slice_index_or, slice_set}
use Rattle.any_kind.specs.Any.{any_functional, any_inputs, any_vars}
use Rattle.any_kind.specs.declared.any.AnyKind.{AnyKind}
use Rattle.dom_core.specs.declared.var_id.VarId.{VarId}
use Rattle.dom_definers.specs.declared.posted.Posted.{Posted}

-- the variable is that with this number
abbrev pub is_var : Option VarId → ℕ → Bool
is_var None v = false
is_var (Some x) v = x.0 == v

-- the place of the first constraint that is to define the variable, where the first of the list has this place
abbrev pub definer_from : ℕ → List Posted → ℕ → Option ℕ
definer_from i [] v = None
definer_from i (c ∷ cs) v = if is_var c.defines v then Some i else definer_from (suc i) cs v

-- the place of the first constraint that is to define the variable
abbrev pub definer_of : List Posted → ℕ → Option ℕ
definer_of cs v = definer_from 0 cs v

-- what stands for a variable in a list of definers
abbrev pub definer_at : List (Option ℕ) → ℕ → Option ℕ
definer_at ds v = slice_index_or ds v None

-- the list has for each of so many variables the place of the constraint that defines it
pub record AreDefiners (cs : List Posted) (n : ℕ) (ds : List (Option ℕ)) : Type 0 where
  pub whole : length ds ≡ n
  pub at : (v : ℕ) → v < n → definer_at ds v ≡ definer_of cs v

-- the variable, where there is one, is one of so many
abbrev pub IsBelowSome : ℕ → Option VarId → Type 0
IsBelowSome n None = Unit {0}
IsBelowSome n (Some x) = x.0 < n

-- each constraint defines one of so many variables, or none
abbrev pub DefineBelow : ℕ → List Posted → Type 0
DefineBelow n [] = Unit {0}
DefineBelow n (c ∷ cs) = IsBelowSome n c.defines × DefineBelow n cs

-- the list where the variable, where there is one, is defined at this place
abbrev pub with_definer : List (Option ℕ) → Option VarId → ℕ → List (Option ℕ)
with_definer ds None i = ds
with_definer ds (Some x) i = slice_set ds x.0 (Some i)

-- what a definition by this kind reads: its inputs, and all its variables where it has no functional shape
abbrev pub reads_of : AnyKind → List VarId
reads_of k = if any_functional k then any_inputs k else any_vars k

-- what the constraint reads, where there is one
abbrev pub posted_reads : Option Posted → List VarId
posted_reads None = []
posted_reads (Some c) = reads_of c.kind

-- what the definition at this place reads
abbrev pub reads_at : List Posted → Option ℕ → List VarId
reads_at cs None = []
reads_at cs (Some i) = posted_reads (slice_get cs i)

-- the numbers of the variables
abbrev pub numbers : List VarId → List ℕ
numbers vs = map (λ v. v.0) vs

-- for each variable the numbers of those that its definition reads
abbrev pub dependence : List Posted → List (Option ℕ) → List (List ℕ)
dependence cs [] = []
dependence cs (d ∷ ds) = numbers (reads_at cs d) ∷ dependence cs ds
