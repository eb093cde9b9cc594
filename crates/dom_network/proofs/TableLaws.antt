-- The tables of a network: which constraints read a variable, and which variables depend on a free one.
use Rattle.std.proofs.Common.{◌≡◌, ◌↔◌, ◌<◌, ◌+◌, Bool, true, false, Option, Some, None, List, [], ◌∷◌, ◌++◌, ℕ, zero, suc, length, get_or, map, take, refl, sym, ◌∙◌, ap, subst, arith, add-one}
use Rattle.std.specs.List.{Contains}
use Rattle.std.specs.Prelude.{is_none}
use Rattle.any_kind.specs.declared.any.AnyKind.{AnyKind}
use Rattle.digraph.specs.Cycle.{Reaches}
use Rattle.digraph.specs.Order.{IsOrder}
use Rattle.dom_definers.specs.Definers.{definer_at}
use Rattle.dom_network.specs.Completion.{definition_at, inputs_at, reading_of}
use Rattle.dom_network.proofs.OrderLaws.{reading_count}
use Rattle.dom_network.specs.Tables.{free_marks}
use Rattle.incidence.specs.Dependents.{AreDependents, DependsOn, IsAsked, IsDependents}
use Rattle.incidence.specs.Selection.{IsSelection}

row_next : (ks : List AnyKind) (ds : List (Option ℕ)) (i : ℕ) (d : Option ℕ) → i < length ds
    → reading_of ks (take (suc i) ds) ≡ reading_of ks (take i ds) ++ inputs_at (definition_at ks (get_or ds i d)) ∷ []
row_next ks [] i d lt = absurd (omega (arith, lt))
row_next ks (x ∷ xs) zero d lt = refl
row_next ks (x ∷ xs) (suc i) d lt = ap (λ (rows : List (List ℕ)). inputs_at (definition_at ks x) ∷ rows) (row_next ks xs i d (omega (arith, lt)))

-- one row more
pub reading_next : (ks : List AnyKind) (ds : List (Option ℕ)) (i : ℕ) (d : Option ℕ) → i < length ds
    → reading_of ks (take (i + 1) ds) ≡ reading_of ks (take i ds) ++ inputs_at (definition_at ks (get_or ds i d)) ∷ []
reading_next ks ds i d lt = ap (λ (n : ℕ). reading_of ks (take n ds)) (add-one i) ∙ row_next ks ds i d lt

pub marks_count : (ds : List (Option ℕ)) → length (free_marks ds) ≡ length ds
marks_count [] = refl
marks_count (d ∷ ds) = ap suc (marks_count ds)

mark_at : (ds : List (Option ℕ)) (v : ℕ) → v < length ds → get_or (free_marks ds) v false ≡ is_none (definer_at ds v)
mark_at [] v lt = absurd (omega (arith, lt))
mark_at (d ∷ ds) zero lt = refl
mark_at (d ∷ ds) (suc v) lt = mark_at ds v (omega (arith, lt))

-- a free variable is asked for
free_asked : (ds : List (Option ℕ)) (v : ℕ) → v < length ds → definer_at ds v ≡ None → IsAsked (free_marks ds) v
free_asked ds v lt free = mark_at ds v lt ∙ ap is_none free

-- the list of a free variable has those that depend on it
pub dependents_read : (ks : List AnyKind) (ds : List (Option ℕ)) (order : List ℕ) (lists : List (List ℕ)) (v : ℕ) → AreDependents (reading_of ks ds) order (free_marks ds) lists
    → v < length ds → definer_at ds v ≡ None → IsDependents (reading_of ks ds) order v (get_or lists v [])
dependents_read ks ds order lists v all lt free =
    let one = all.each v (omega (arith, lt, reading_count ks ds)) in
    record {
      has = λ k. (
        λ c. (let h = (one.has k).0 c in (h.0, h.1.0)),
        λ c. (one.has k).1 (c.0, (c.1, free_asked ds v lt free)),
      );
      along = one.along;
    }
