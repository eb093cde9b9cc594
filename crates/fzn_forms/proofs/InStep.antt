-- Types, expressions and what these stand for, one more at a time.
use Rattle.std.proofs.Common.{◌≡◌, ℕ, zero, suc, ◌+◌, ◌<◌, List, [], ◌∷◌, ◌++◌, length, take, get_or, slice_get, Some, refl, sym, ◌∙◌, ap, subst, arith, add-one}
use Rattle.std.proofs.Math.Seq.{take-suc}
use Rattle.std.proofs.lemmas.Option.{slice_get_within, get_or_from_slice_get}
use Rattle.fzn_forms.specs.Reading.{IsReadAs, AreReadAs}
use Rattle.fzn_forms.specs.declared.argument.Argument.{Argument}
use Rattle.fzn_signatures.specs.declared.argument_type.ArgumentType.{ArgumentType}
use Rattle.fzn_syntax.specs.declared.declaration.Declaration.{Declaration}
use Rattle.fzn_syntax.specs.declared.expression.Expression.{Expression}

module _ (ds : List Declaration) where
  -- there are as many types as expressions
  pub one_length : (ts : List ArgumentType) (es : List Expression) (args : List Argument) → AreReadAs ds ts es args → length ts ≡ length es
  one_length [] [] [] h = refl
  one_length [] [] (a ∷ args) h = absurd h
  one_length [] (e ∷ es) args h = absurd h
  one_length (t ∷ ts) [] args h = absurd h
  one_length (t ∷ ts) (e ∷ es) [] h = absurd h
  one_length (t ∷ ts) (e ∷ es) (a ∷ args) h = ap suc (one_length ts es args h.1)

  push : (ts : List ArgumentType) (es : List Expression) (args : List Argument) (t : ArgumentType) (e : Expression) (a : Argument) → AreReadAs ds ts es args → IsReadAs ds t e a
      → AreReadAs ds (ts ++ t ∷ []) (es ++ e ∷ []) (args ++ a ∷ [])
  push [] [] [] t e a h g = (g, tt)
  push [] [] (b ∷ args) t e a h g = absurd h
  push [] (c ∷ es) args t e a h g = absurd h
  push (u ∷ ts) [] args t e a h g = absurd h
  push (u ∷ ts) (c ∷ es) [] t e a h g = absurd h
  push (u ∷ ts) (c ∷ es) (b ∷ args) t e a h g = (h.0, push ts es args t e a h.1 g)

  at : (ts : List ArgumentType) (es : List Expression) (args : List Argument) (i : ℕ) (t : ArgumentType) (e : Expression) → AreReadAs ds ts es args → i < length es
      → (a : Argument) × IsReadAs ds (get_or ts i t) (get_or es i e) a
  at [] [] args i t e h lt = absurd (omega arith)
  at [] (c ∷ es) args i t e h lt = absurd h
  at (u ∷ ts) [] args i t e h lt = absurd h
  at (u ∷ ts) (c ∷ es) [] i t e h lt = absurd h
  at (u ∷ ts) (c ∷ es) (b ∷ args) zero t e h lt = (b, h.0)
  at (u ∷ ts) (c ∷ es) (b ∷ args) (suc i) t e h lt = at ts es args i t e h.1 (omega arith)

  module _ (ts : List ArgumentType) (es : List Expression) (i : ℕ) (t : ArgumentType) (e : Expression) (within : i < length es) (t_at : slice_get ts i ≡ Some t) (e_is : e ≡ get_or es i e) where
    t_is : t ≡ get_or ts i t
    t_is = sym (get_or_from_slice_get ts i t t t_at)

    pub one_more : (args : List Argument) (a : Argument) → AreReadAs ds (take i ts) (take i es) args → IsReadAs ds t e a
        → AreReadAs ds (take (i + 1) ts) (take (i + 1) es) (args ++ a ∷ [])
    one_more args a h g =
        let types : take (i + 1) ts ≡ take i ts ++ t ∷ [] = rw add-one (take-suc ts i t (slice_get_within ts i t t_at) ∙ ap (λ u. take i ts ++ u ∷ []) (sym t_is)) in
        let expressions : take (i + 1) es ≡ take i es ++ e ∷ [] = rw add-one (take-suc es i e within ∙ ap (λ c. take i es ++ c ∷ []) (sym e_is)) in
        rw (types, expressions) (push (take i ts) (take i es) args t e a h g)

    pub one_without : ((a : Argument) → IsReadAs ds t e a → ⊥) → (args : List Argument) → AreReadAs ds ts es args → ⊥
    one_without none args h =
        let p = at ts es args i t e h within in
        none p.0 (subst (λ u. IsReadAs ds u e p.0) (sym t_is) (subst (λ c. IsReadAs ds (get_or ts i t) c p.0) (sym e_is) p.1))
