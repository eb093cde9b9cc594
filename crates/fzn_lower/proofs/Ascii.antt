-- The names of a text are of ASCII alone.
use Rattle.std.proofs.Common.{◌≡◌, ℕ, ◌<◌, true, List, [], ◌∷◌, sym, arith, All}
use Rattle.std.specs.List.{AllByRecursion}
use Rattle.std.specs.Str.{IsAscii}
use Rattle.std.proofs.lemmas.Bool.Decides.{nat_tests}
use Rattle.std.proofs.lemmas.List.Elements.{All-nil, All-cons, All-weaker, All-from_recursion}
use Rattle.std.proofs.lemmas.Str.Ascii.{IsAscii-from_all}
use Rattle.fzn_lex.specs.Classes.{is_letter, is_digit, is_word}
use Rattle.fzn_model.specs.Variables.{IsAsciiNamed}
use Rattle.fzn_syntax.proofs.Spelled.{IsSpelledName, whole_words}
use Rattle.fzn_syntax.proofs.SpelledItems.{IsSpelledDeclaration, items_spelled}
use Rattle.fzn_syntax.specs.Texts.{AreOfText}
use Rattle.fzn_syntax.specs.declared.declaration.Declaration.{Declaration}
use Rattle.fzn_syntax.specs.declared.declaration.Declaration.TheVariants as declarations
use Rattle.fzn_syntax.specs.declared.items.Items.{Items}
use Rattle.fzn_words.specs.Words.{words}

letter_small : (b : ℕ) → is_letter b ≡ true → b < 128
unfolding is_letter
letter_small b e = grind (arith, nat_tests)

word_small : (b : ℕ) → is_word b ≡ true → b < 128
unfolding is_word is_letter is_digit
word_small b e = grind (arith, nat_tests)

abbrev IsSmallByte : ℕ → Type 0
IsSmallByte b = b < 128

name_ascii : (name : List ℕ) → IsSpelledName name → IsAscii name
name_ascii name ((b, bs, is, letter, others), k) =
    let small : All IsSmallByte bs = All-weaker (λ c. is_word c ≡ true) IsSmallByte word_small bs (All-from_recursion (λ c. is_word c ≡ true) bs others) in
    rw is (IsAscii-from_all (b ∷ bs) (All-cons IsSmallByte b bs (letter_small b letter) small))

declaration_ascii : (d : Declaration) → IsSpelledDeclaration d → IsAsciiNamed d
declaration_ascii (declarations.Parameter p) f = name_ascii p.name.name f.1
declaration_ascii (declarations.Variable v) f = name_ascii v.name.name f.1
declaration_ascii (declarations.ParameterArray a) f = name_ascii a.entries.name.name f.1.1
declaration_ascii (declarations.VariableArray a) f = name_ascii a.name.name f.2

declarations_ascii : (ds : List Declaration) → AllByRecursion IsSpelledDeclaration ds → All IsAsciiNamed ds
declarations_ascii [] f = All-nil IsAsciiNamed
declarations_ascii (d ∷ ds) f = All-cons IsAsciiNamed d ds (declaration_ascii d f.0) (declarations_ascii ds f.1)

pub items_ascii : (t : Items) → AreOfText t → All IsAsciiNamed t.declarations
items_ascii t h = declarations_ascii t.declarations (items_spelled t (words h.bytes h.tokens) h.parsed (whole_words h.bytes h.tokens h.lexed.1)).1
