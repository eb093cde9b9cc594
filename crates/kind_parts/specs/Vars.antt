-- Lists of the variables of arguments, each once.
use Rattle.std.specs.Prelude.{◌≡◌, ◌==◌, ◌&&◌, Bool, true, false, not, List, [], ◌∷◌, ℕ}
use Rattle.dom_core.specs.declared.arg.Arg.{Arg}
use Rattle.dom_core.specs.declared.arg.Arg.TheVariants.{Var, Const}
use Rattle.dom_core.specs.declared.var_id.VarId.{VarId}
use Rattle.kind_law.specs.Argument.{with_arg, is_listed, is_new, with_new, with_new_arg, distinct}

-- the variables of the arguments
abbrev pub variables_of : List Arg → List VarId
variables_of [] = []
variables_of (x ∷ xs) = with_arg x (variables_of xs)

-- the argument is this variable
abbrev pub is_read_by : Arg → VarId → Bool
is_read_by (Var w) u = w.0 == u.0
is_read_by (Const c) u = false

-- each variable of the second list is new when it comes after those seen
abbrev pub are_new : List VarId → List VarId → Bool
are_new seen [] = true
are_new seen (v ∷ vs) = not (is_listed v seen) && are_new (with_new seen v) vs

-- no variable comes twice
abbrev pub are_distinct : List VarId → Bool
are_distinct vs = are_new [] vs

-- variables, each once, and whether each came once
pub record Gathered : Type 0 where
  pub vars : List VarId
  pub single : Bool

-- what is gathered of variables that come one after the other
abbrev pub gathered : List VarId → Gathered
gathered vs = record { vars = distinct vs; single = are_distinct vs }

-- what is gathered with one argument more
abbrev pub gathered_more : Gathered → Arg → Gathered
gathered_more g x = record { vars = with_new_arg g.vars x; single = g.single && is_new g.vars x }

-- the test tells of each number whether the list has its variable
abbrev pub TellsListed : List VarId → (ℕ → Bool) → Type 0
TellsListed vars has = (n : ℕ) → has n ≡ is_listed (record { 0 = n }) vars
