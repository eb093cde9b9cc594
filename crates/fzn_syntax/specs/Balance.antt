-- Words whose brackets match, and how they are followed word by word.
use Rattle.std.specs.Prelude.{◌≡◌, ℕ, Bool, true, ◌||◌, not, ◌==◌, List, [], ◌∷◌, ◌++◌, Option, Some, None, if◌then◌else◌}
use Rattle.reading.specs.Language.{◌⨾◌}
use Rattle.reading.specs.Readers.{Answer, pair, made}
use Rattle.reading.specs.Machine.{run}
use Rattle.fzn_words.specs.declared.terminal.Terminal.{Terminal}
use Rattle.fzn_words.specs.declared.terminal.Terminal.TheVariants as terminals
use Rattle.fzn_words.specs.declared.word.Word.{Word}
use Rattle.fzn_syntax.specs.declared.bracket.Bracket.{Bracket}
use Rattle.fzn_syntax.specs.declared.bracket.Bracket.TheVariants as brackets
use Rattle.fzn_syntax.specs.Around.{Around}
use Rattle.fzn_words.specs.Words.{code, terminal}
use Rattle.fzn_syntax.specs.Grammar.{Sign}
use Rattle.fzn_syntax.specs.Turns.{paren_at}

-- the kind of word that opens a bracket
abbrev pub opening : Bracket → Terminal
opening brackets.Paren = terminals.LeftParen
opening brackets.Square = terminals.LeftBracket
opening brackets.Brace = terminals.LeftBrace

-- the kind of word that closes it
abbrev pub closing : Bracket → Terminal
closing brackets.Paren = terminals.RightParen
closing brackets.Square = terminals.RightBracket
closing brackets.Brace = terminals.RightBrace

-- the code of a word that is no bracket and no semicolon
abbrev pub is_inert : ℕ → Bool
is_inert n = not ((n == 4) || ((n == 5) || ((n == 6) || ((n == 7) || ((n == 8) || ((n == 9) || (n == 11)))))))

-- any words but semicolons whose brackets match
pub data Balanced : List Word → Type 0 where
  no_words : {ws : List Word} → ws ≡ [] → Balanced ws
  inert : {ws : List Word} (w : Word) (r : List Word) → ws ≡ w ∷ r → is_inert (code (terminal w)) ≡ true → Balanced r → Balanced ws
  matched : {ws : List Word} (b : Bracket) (o i c r : List Word) → ws ≡ o ++ (i ++ (c ++ r)) → Sign (opening b) o → Balanced i → Sign (closing b) c → Balanced r → Balanced ws

-- '(' balanced ')', kept as its words
abbrev pub IsBody : List Word → List Word → Type 0
IsBody flat ws = (flat ≡ ws) × (Sign terminals.LeftParen ⨾ Balanced ⨾ Sign terminals.RightParen) ws

-- ---- word by word

-- another bracket is opened inside those that are open
abbrev pub covered : Bracket → Around → Option (Option Around)
covered b p = Some (Some (record { bracket = b; below = p.bracket ∷ p.below }))

-- the innermost bracket is closed: none is left, or the next one is the innermost
abbrev pub uncovered : List Bracket → Option Around
uncovered [] = None
uncovered (b ∷ below) = Some (record { bracket = b; below = below })

-- what a word of this code makes of the brackets that are open
abbrev pub around_by : Around → ℕ → Option (Option Around)
around_by p n =
    if n == 4 then covered brackets.Paren p
    else if n == 6 then covered brackets.Square p
    else if n == 8 then covered brackets.Brace p
    else if n == code (closing p.bracket) then Some (uncovered p.below)
    else if is_inert n then Some (Some p)
    else None

-- what a word makes of them
abbrev pub around_step : Around → Word → Option (Option Around)
around_step p w = around_by p (code (terminal w))

-- behind the first parenthesis
abbrev pub enclosed : Around
enclosed = record { bracket = brackets.Paren; below = [] }

-- reads '(' balanced ')'
unfoldable pub body_at : List Word → Answer Word (List Word)
body_at = made (λ p. p.0 ∷ p.1) (pair paren_at (run around_step enclosed))
