-- The reader of an annotation's arguments.
use Rattle.std.proofs.Common.{Bool, true, false, List, [], ◌∷◌, ◌++◌, inl, refl}
use Rattle.reading.specs.Language.{◌⨾◌}
use Rattle.reading.specs.Readers.{none}
use Rattle.reading.proofs.Laws.{Reads}
use Rattle.reading.proofs.Machines.{Machine, run_reads}
use Rattle.fzn_words.specs.declared.terminal.Terminal.{Terminal}
use Rattle.fzn_words.specs.declared.terminal.Terminal.TheVariants as terminals
use Rattle.fzn_words.specs.declared.word.Word.{Word}
use Rattle.fzn_syntax.specs.declared.expression.Basic.TheVariants as basics
use Rattle.fzn_syntax.specs.declared.turn.Place.{Place}
use Rattle.fzn_syntax.specs.declared.turn.Place.TheVariants as places
use Rattle.fzn_syntax.specs.Grammar.{Sign}
use Rattle.fzn_syntax.specs.Arguments.{Inside, basic, empty, no_others, IsArguments}
use Rattle.fzn_syntax.specs.Turns.{step, opened, inside_at, arguments_at}
use Rattle.fzn_syntax.proofs.Enclosures.{enclosed_reads}
use Rattle.fzn_syntax.proofs.Firsts.{is_example}
use Rattle.fzn_syntax.proofs.Places.{Closer, Tail, Lang, Follows, sign_by, int_by}
use Rattle.fzn_syntax.proofs.PlacesBack.{argument_back}
use Rattle.fzn_syntax.proofs.PlacesForth.{argument_comes}

-- ---- each place has an ending

some_sign : (k : Terminal) → (ws : List Word) × Sign k ws
some_sign k = let e = is_example k in (e.0 ∷ [], sign_by k e.0 e.1)

some_closer : (b : Bool) → (ws : List Word) × Closer b ws
some_closer true = some_sign terminals.RightParen
some_closer false = some_sign terminals.RightBracket

tail_ends : (s : List Bool) → (ws : List Word) × Tail s ws
tail_ends [] = ([], refl)
tail_ends (b ∷ s) = let c = some_closer b in let t = tail_ends s in (c.0 ++ t.0, ([], c.0 ++ t.0, refl, no_others refl, (c.0, t.0, refl, c.1, t.1)))

brace_ends : (b : Bool) (s : List Bool) → (ws : List Word) × (Sign terminals.RightBrace ⨾ Tail (b ∷ s)) ws
brace_ends b s = let c = some_sign terminals.RightBrace in let t = tail_ends (b ∷ s) in (c.0 ++ t.0, (c.0, t.0, refl, c.1, t.1))

ends_by : (place : Place) (b : Bool) (s : List Bool) → (ws : List Word) × Lang place b s ws
ends_by places.First b s = let c = some_closer b in let t = tail_ends s in (c.0 ++ t.0, ([], c.0 ++ t.0, refl, empty refl, (c.0, t.0, refl, c.1, t.1)))
ends_by places.Want b s = let a = some_sign terminals.True in let t = tail_ends (b ∷ s) in (a.0 ++ t.0, (a.0, t.0, refl, basic basics.True a.1, t.1))
ends_by places.After b s = tail_ends (b ∷ s)
ends_by places.Named b s = let t = tail_ends (b ∷ s) in (t.0, inl t.1)
ends_by places.Number b s = let t = tail_ends (b ∷ s) in (t.0, inl t.1)
ends_by places.Dots b s =
    let e = is_example terminals.Int in
    let n = int_by e.0 e.1 in
    let t = tail_ends (b ∷ s) in
    (e.0 ∷ t.0, (n.0, (e.0 ∷ [], t.0, refl, n.1, t.1)))
ends_by places.SetFirst b s = let t = brace_ends b s in (t.0, ([], ([], t.0, refl, refl, t.1)))
ends_by places.SetWant b s =
    let e = is_example terminals.Int in
    let n = int_by e.0 e.1 in
    let t = brace_ends b s in
    (e.0 ∷ t.0, (n.0, [], (e.0 ∷ [], t.0, refl, n.1, ([], t.0, refl, refl, t.1))))
ends_by places.SetAfter b s = let t = brace_ends b s in (t.0, ([], ([], t.0, refl, refl, t.1)))

machine : Machine step Follows
machine = record { back = argument_back; comes = argument_comes; ending = λ p. ends_by p.place p.paren p.below }

pub arguments_reads : Reads IsArguments none arguments_at
unfolding arguments_at
arguments_reads = enclosed_reads Inside inside_at (run_reads step Follows machine opened)
