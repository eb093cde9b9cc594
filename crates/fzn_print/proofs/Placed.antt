-- What has names with places is read back with other places.
use Rattle.std.proofs.Common.{◌≡◌, ℕ, Bool, true, false, cond, List, [], ◌∷◌, ◌++◌, map, Option, Some, None, refl, sym, ap, subst, ◌∙◌, codes}
use Rattle.std.specs.List.{AllByRecursion}
use Rattle.std.proofs.lemmas.Bool.{eq-eqb}
use Rattle.fzn_lex.specs.declared.words.What.TheVariants as what
use Rattle.reading.specs.Language.{◌⨾◌, Each, MaybeListed}
use Rattle.fzn_words.specs.declared.word.Word.{Word}
use Rattle.fzn_syntax.specs.declared.identifier.Identifier.{Identifier}
use Rattle.fzn_syntax.specs.declared.expression.Basic.{Basic}
use Rattle.fzn_syntax.specs.declared.expression.Basic.TheVariants as basics
use Rattle.fzn_syntax.specs.declared.expression.Expression.{Expression}
use Rattle.fzn_syntax.specs.declared.expression.Expression.TheVariants as expressions
use Rattle.fzn_syntax.specs.declared.number.Number.{Number}
use Rattle.fzn_words.specs.Words.{code, terminal_by, terminal, is}
use Rattle.fzn_syntax.specs.Grammar.{name_worth, IsName, IsBasic, IsExpression}
use Rattle.fzn_print.proofs.Codes.{Coded, comma_code, false_code, left_bracket_code, name_code, right_bracket_code, true_code}
use Rattle.fzn_print.specs.Marks.{Mark, token, space, symbol, name, others, listed}
use Rattle.fzn_print.specs.Canonical.{basic_marks, expression_marks}
use Rattle.fzn_print.specs.Aside.{name_aside, basic_aside, expression_aside}
use Rattle.fzn_syntax.proofs.Spelled.{IsSpelledName, IsSpelledBasic, IsSpelledExpression}
use Rattle.fzn_print.proofs.Back.{AreAlike, alike_parts, sign_back, cons_back, parts_back, word_back, comma_terminal, number_back, bounds_back, set_back}

-- a thing of the words that is the same, places aside
pub record Again {X : Type 0} (D : X → List Word → Type 0) (aside : X → X) (x : X) (ws : List Word) : Type 0 where
  pub thing : X
  pub same : aside thing ≡ aside x
  pub is : D thing ws

name_is : (v : Word) → code (terminal v) ≡ name_code → name_worth v ≡ Some (record { name = v.text; at = v.at })
name_is v e = rw (eq-eqb (code (terminal v)) name_code e) refl

pub name_again : (n : Identifier) (ws : List Word) → IsSpelledName n.name → AreAlike ws (name n.name ∷ []) → Again IsName name_aside n ws
name_again n ws fine (v, vs, parts, what_is, text_is, none) = record {
  thing = record { name = v.text; at = v.at };
  same = ap (λ (t : List ℕ). let i : Identifier = record { name = t; at = 0 } in i) text_is;
  is = (v, name_is v (rw (what_is, text_is) fine.1), parts ∙ ap (λ (l : List Word). v ∷ l) none);
}

true_terminal : code (terminal_by what.Name (codes "true")) ≡ true_code
unfolding terminal_by
true_terminal = refl

false_terminal : code (terminal_by what.Name (codes "false")) ≡ false_code
unfolding terminal_by
false_terminal = refl

named_again : (n : Identifier) (ws : List Word) → Again IsName name_aside n ws → Again IsBasic basic_aside (basics.Name n) ws
named_again n ws a = record { thing = basics.Name a.thing; same = ap (λ (i : Identifier). basics.Name i) a.same; is = a.is }

pub basic_again : (b : Basic) (ws : List Word) → IsSpelledBasic b → AreAlike ws (basic_marks b) → Again IsBasic basic_aside b ws
basic_again basics.True ws fine h = record { thing = basics.True; same = refl; is = word_back true_code (codes "true") ws true_terminal h }
basic_again basics.False ws fine h = record { thing = basics.False; same = refl; is = word_back false_code (codes "false") ws false_terminal h }
basic_again (basics.Name n) ws fine h = named_again n ws (name_again n ws fine h)
basic_again (basics.Number n) ws fine h = record { thing = basics.Number n; same = refl; is = number_back n ws h }
basic_again (basics.Range b) ws fine h = record { thing = basics.Range b; same = refl; is = bounds_back b ws h }
basic_again (basics.Set ns) ws fine h = record { thing = basics.Set ns; same = refl; is = set_back ns ws h }

-- lists with commas
module _ {X : Type 0} (f : X → List Mark) (D : X → List Word → Type 0) (Fine : X → Type 0) (aside : X → X)
    (again : (x : X) (ws : List Word) → Fine x → AreAlike ws (f x) → Again D aside x ws) where
  others_again : (xs : List X) (ws : List Word) → AllByRecursion Fine xs → AreAlike ws (others f xs) → Again (Each (λ y. Coded comma_code ⨾ D y)) (map aside) xs ws
  others_again [] ws fine h = record { thing = []; same = refl; is = h }
  others_again (x ∷ xs) ws (one, fine) (v, vs, parts, what_is, text_is, h) =
      let p = alike_parts vs (f x) (others f xs) h in
      let a = again x p.front one p.front_is in
      let b = others_again xs p.back fine p.back_is in
      record {
        thing = a.thing ∷ b.thing;
        same = rw (a.same, b.same) refl;
        is = (
          v ∷ p.front,
          p.back,
          parts ∙ ap (λ (l : List Word). v ∷ l) p.parts,
          (v ∷ [], p.front, refl, sign_back comma_code what.Comma [] (v ∷ []) comma_terminal (v, [], refl, what_is, text_is, refl), a.is),
          b.is,
        );
      }

  pub listed_again : (xs : List X) (ws : List Word) → AllByRecursion Fine xs → AreAlike ws (listed f xs) → Again (MaybeListed (Coded comma_code) D) (map aside) xs ws
  listed_again [] ws fine h = record { thing = []; same = refl; is = h }
  listed_again (x ∷ xs) ws (one, fine) h =
      let p = alike_parts ws (f x) (others f xs) h in
      let a = again x p.front one p.front_is in
      let b = others_again xs p.back fine p.back_is in
      record { thing = a.thing ∷ b.thing; same = rw (a.same, b.same) refl; is = (p.front, p.back, p.parts, a.is, b.is) }

pub open_bracket_terminal : code (terminal_by what.LeftBracket []) ≡ left_bracket_code
unfolding terminal_by
open_bracket_terminal = refl

pub close_bracket_terminal : code (terminal_by what.RightBracket []) ≡ right_bracket_code
unfolding terminal_by
close_bracket_terminal = refl

list_again : (bs : List Basic) (ws : List Word) → AllByRecursion IsSpelledBasic bs → AreAlike ws (expression_marks (expressions.List bs)) → Again IsExpression expression_aside (expressions.List bs) ws
list_again bs ws fine (v, vs, parts, what_is, text_is, h) =
    let p = alike_parts vs (listed basic_marks bs) (symbol what.RightBracket ∷ []) h in
    let a = listed_again basic_marks IsBasic IsSpelledBasic basic_aside basic_again bs p.front fine p.front_is in
    record {
      thing = expressions.List a.thing;
      same = ap (λ (l : List Basic). expressions.List l) a.same;
      is = (
        v ∷ [],
        vs,
        parts,
        sign_back left_bracket_code what.LeftBracket [] (v ∷ []) open_bracket_terminal (v, [], refl, what_is, text_is, refl),
        (p.front, p.back, p.parts, a.is, sign_back right_bracket_code what.RightBracket [] p.back close_bracket_terminal p.back_is),
      );
    }

basic_expression : (b : Basic) (ws : List Word) → Again IsBasic basic_aside b ws → Again IsExpression expression_aside (expressions.Basic b) ws
basic_expression b ws a = record { thing = expressions.Basic a.thing; same = ap (λ (x : Basic). expressions.Basic x) a.same; is = a.is }

pub expression_again : (e : Expression) (ws : List Word) → IsSpelledExpression e → AreAlike ws (expression_marks e) → Again IsExpression expression_aside e ws
expression_again (expressions.Basic b) ws fine h = basic_expression b ws (basic_again b ws fine h)
expression_again (expressions.List bs) ws fine h = list_again bs ws fine h
