-- What the lexer takes at a place.
use Rattle.std.specs.Prelude.{ℕ, ◌≤◌, ◌<◌, List, length, take, drop, Result, Ok, Err}
use Rattle.fzn_lex.specs.declared.pieces.Piece.{Piece}
use Rattle.fzn_lex.specs.declared.pieces.Fault.{Fault}
use Rattle.fzn_lex.specs.Cutting.{IsLongest, IsFine, IsFault}

-- the bytes begin with this longest piece, which is a fine one
pub record IsTaken (bs : List ℕ) (p : Piece) : Type 0 where
  pub longest : IsLongest p.sort (take p.len bs) (drop p.len bs)
  pub fine : IsFine p.sort
  pub some : 0 < p.len
  pub fits : p.len ≤ length bs

-- the longest piece at the head, or why none is taken
abbrev pub IsFirst : List ℕ → Result Piece Fault → Type 0
IsFirst bs (Ok p) = IsTaken bs p
IsFirst bs (Err f) = IsFault f bs
