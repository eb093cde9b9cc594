-- How arguments are followed word by word, with a stack of the brackets that are open.
use Rattle.std.specs.Prelude.{ℕ, Bool, true, false, ◌==◌, List, [], ◌∷◌, Option, Some, None, if◌then◌else◌}
use Rattle.reading.specs.Readers.{Answer, one, pair, made}
use Rattle.reading.specs.Machine.{run}
use Rattle.fzn_words.specs.declared.terminal.Terminal.TheVariants as terminals
use Rattle.fzn_words.specs.declared.word.Word.{Word}
use Rattle.fzn_syntax.specs.declared.turn.Place.{Place}
use Rattle.fzn_syntax.specs.declared.turn.Place.TheVariants as places
use Rattle.fzn_syntax.specs.declared.turn.Turn.{Turn}
use Rattle.fzn_syntax.specs.declared.turn.Turn.TheVariants as turns
use Rattle.fzn_syntax.specs.Position.{Position}
use Rattle.fzn_words.specs.Words.{code, terminal, is}

-- the code of what closes a parenthesis, or a bracket
abbrev pub closer : Bool → ℕ
closer paren = if paren then 5 else 7

-- an argument begins
abbrev pub start : ℕ → Turn
start n =
    if n == 29 then turns.Stay places.After
    else if n == 19 then turns.Stay places.After
    else if n == 2 then turns.Stay places.After
    else if n == 0 then turns.Stay places.Named
    else if n == 3 then turns.Stay places.Number
    else if n == 1 then turns.Stay places.Number
    else if n == 8 then turns.Stay places.SetFirst
    else if n == 6 then turns.Push false
    else turns.Stop

-- an argument is followed
abbrev pub finish : Bool → ℕ → Turn
finish paren n = if n == 10 then turns.Stay places.Want else if n == closer paren then turns.Pop else turns.Stop

-- a number of a set
abbrev pub member : ℕ → Turn
member n = if n == 3 then turns.Stay places.SetAfter else if n == 1 then turns.Stay places.SetAfter else turns.Stop

-- what a word of this code makes of a place
unfoldable pub turn : Place → Bool → ℕ → Turn
turn places.First paren n = if n == closer paren then turns.Pop else start n
turn places.Want paren n = start n
turn places.After paren n = finish paren n
turn places.Named paren n = if n == 4 then turns.Push true else finish paren n
turn places.Number paren n = if n == 15 then turns.Stay places.Dots else finish paren n
turn places.Dots paren n = if n == 3 then turns.Stay places.After else if n == 1 then turns.Stay places.After else turns.Stop
turn places.SetFirst paren n = if n == 9 then turns.Stay places.After else member n
turn places.SetWant paren n = member n
turn places.SetAfter paren n = if n == 10 then turns.Stay places.SetWant else if n == 9 then turns.Stay places.After else turns.Stop

-- a bracket is closed: it was the outermost, or what stands around it goes on
abbrev pub popped : List Bool → Option Position
popped [] = None
popped (paren ∷ below) = Some (record { place = places.After; paren = paren; below = below })

-- what a turn makes of a position
abbrev pub moved : Turn → Bool → List Bool → Option (Option Position)
moved turns.Stop paren below = None
moved turns.Pop paren below = Some (popped below)
moved (turns.Stay place) paren below = Some (Some (record { place = place; paren = paren; below = below }))
moved (turns.Push inner) paren below = Some (Some (record { place = places.First; paren = inner; below = paren ∷ below }))

-- what a word makes of a position
abbrev pub step : Position → Word → Option (Option Position)
step p w = moved (turn p.place p.paren (code (terminal w))) p.paren p.below

-- behind the first parenthesis
abbrev pub opened : Position
opened = record { place = places.First; paren = true; below = [] }

-- a word of the kind, itself
abbrev pub itself : Word → Option Word
itself w = if is terminals.LeftParen w then Some w else None

-- reads [arg {',' arg}*] ')'
abbrev pub inside_at : List Word → Answer Word (List Word)
inside_at = run step opened

-- reads an opening parenthesis, and keeps the word
unfoldable pub paren_at : List Word → Answer Word Word
paren_at = one itself

-- reads '(' [arg {',' arg}*] ')', and keeps the words
unfoldable pub arguments_at : List Word → Answer Word (List Word)
arguments_at = made (λ p. p.0 ∷ p.1) (pair paren_at inside_at)
