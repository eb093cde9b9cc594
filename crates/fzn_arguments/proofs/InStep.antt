-- Literals and names, and what they stand for, one more at a time.
use Rattle.std.proofs.Common.{◌≡◌, ℕ, zero, suc, ◌+◌, ◌<◌, List, [], ◌∷◌, ◌++◌, length, take, get_or, sym, ◌∙◌, ap, subst, arith, add-one}
use Rattle.std.proofs.Math.Seq.{take-suc}
use Rattle.dom_core.specs.declared.arg.Arg.{Arg}
use Rattle.dom_definers.specs.declared.form.Form.{Form}
use Rattle.fzn_arguments.specs.Arguments.{IsArg, AreArgs}
use Rattle.fzn_syntax.specs.declared.declaration.Declaration.{Declaration}
use Rattle.fzn_syntax.specs.declared.expression.Basic.{Basic}

module _ (ds : List Declaration) (form : Form) where
  push : (bs : List Basic) (xs : List Arg) (b : Basic) (x : Arg) → AreArgs ds form bs xs → IsArg ds form b x → AreArgs ds form (bs ++ b ∷ []) (xs ++ x ∷ [])
  push [] [] b x h g = (g, tt)
  push [] (y ∷ xs) b x h g = absurd h
  push (c ∷ bs) [] b x h g = absurd h
  push (c ∷ bs) (y ∷ xs) b x h g = (h.0, push bs xs b x h.1 g)

  at : (bs : List Basic) (xs : List Arg) (i : ℕ) (b : Basic) → AreArgs ds form bs xs → i < length bs → (x : Arg) × IsArg ds form (get_or bs i b) x
  at [] xs i b h lt = absurd (omega arith)
  at (c ∷ bs) [] i b h lt = absurd h
  at (c ∷ bs) (x ∷ xs) zero b h lt = (x, h.0)
  at (c ∷ bs) (x ∷ xs) (suc i) b h lt = at bs xs i b h.1 (omega arith)

  module _ (bs : List Basic) (i : ℕ) (b : Basic) (within : i < length bs) (is : b ≡ get_or bs i b) where
    pub one_more : (xs : List Arg) (x : Arg) → AreArgs ds form (take i bs) xs → IsArg ds form b x → AreArgs ds form (take (i + 1) bs) (xs ++ x ∷ [])
    one_more xs x h g =
        let next : take (i + 1) bs ≡ take i bs ++ b ∷ [] = rw add-one (take-suc bs i b within ∙ ap (λ c. take i bs ++ c ∷ []) (sym is)) in
        rw next (push (take i bs) xs b x h g)

    pub one_without : ((x : Arg) → IsArg ds form b x → ⊥) → (xs : List Arg) → AreArgs ds form bs xs → ⊥
    one_without none xs h = let p = at bs xs i b h within in none p.0 (subst (λ c. IsArg ds form c p.0) (sym is) p.1)
