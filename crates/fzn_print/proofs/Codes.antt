-- The kinds of words by their numbers, since a crate above the grammar can't name them.
use Rattle.std.specs.Prelude.{◌≡◌, ℕ, Bool, ◌==◌, List, Option, Some, None, if◌then◌else◌}
use Rattle.std.proofs.Common.{refl, ap}
use Rattle.std.proofs.lemmas.Bool.{eq-eqb}
use Rattle.reading.specs.Language.{One}
use Rattle.fzn_words.specs.declared.word.Word.{Word}
use Rattle.fzn_words.specs.Words.{code, terminal}

abbrev pub name_code : ℕ
name_code = 0

abbrev pub float_code : ℕ
float_code = 1

abbrev pub text_code : ℕ
text_code = 2

abbrev pub int_code : ℕ
int_code = 3

abbrev pub left_paren_code : ℕ
left_paren_code = 4

abbrev pub right_paren_code : ℕ
right_paren_code = 5

abbrev pub left_bracket_code : ℕ
left_bracket_code = 6

abbrev pub right_bracket_code : ℕ
right_bracket_code = 7

abbrev pub left_brace_code : ℕ
left_brace_code = 8

abbrev pub right_brace_code : ℕ
right_brace_code = 9

abbrev pub comma_code : ℕ
comma_code = 10

abbrev pub semicolon_code : ℕ
semicolon_code = 11

abbrev pub colon_code : ℕ
colon_code = 12

abbrev pub double_colon_code : ℕ
double_colon_code = 13

abbrev pub equal_code : ℕ
equal_code = 14

abbrev pub dot_dot_code : ℕ
dot_dot_code = 15

abbrev pub array_code : ℕ
array_code = 16

abbrev pub bool_code : ℕ
bool_code = 17

abbrev pub constraint_code : ℕ
constraint_code = 18

abbrev pub false_code : ℕ
false_code = 19

abbrev pub float_word_code : ℕ
float_word_code = 20

abbrev pub int_word_code : ℕ
int_word_code = 21

abbrev pub maximize_code : ℕ
maximize_code = 22

abbrev pub minimize_code : ℕ
minimize_code = 23

abbrev pub of_code : ℕ
of_code = 24

abbrev pub predicate_code : ℕ
predicate_code = 25

abbrev pub satisfy_code : ℕ
satisfy_code = 26

abbrev pub set_code : ℕ
set_code = 27

abbrev pub solve_code : ℕ
solve_code = 28

abbrev pub true_code : ℕ
true_code = 29

abbrev pub var_code : ℕ
var_code = 30

-- a word of this number is worth nothing more
abbrev pub coded : ℕ → Word → Option (Unit {0})
coded n w = if code (terminal w) == n then Some tt else None

-- one word of this number
abbrev pub Coded : ℕ → List Word → Type 0
Coded n = One (coded n) tt

pub coded_is : (n : ℕ) (v : Word) → code (terminal v) ≡ n → coded n v ≡ Some tt
coded_is n v e = rw (eq-eqb (code (terminal v)) n e) refl
