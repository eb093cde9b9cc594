-- What holds of the variables of an argument holds of the variable that it is.
use Rattle.std.proofs.Common.{◌≡◌, not, List, ℕ, ℤ, sym, ◌∙◌, ap, subst}
use Rattle.dom_core.specs.Assignment.{entry_at}
use Rattle.dom_core.specs.View.{movement_at}
use Rattle.dom_core.specs.declared.arg.Arg.{Arg}
use Rattle.dom_core.specs.declared.arg.Arg.TheVariants.{Var, Const}
use Rattle.dom_core.specs.declared.var_id.VarId.{VarId}
use Rattle.dom_core.specs.declared.view.Movement.{Movement}
use Rattle.dom_cells.specs.declared.start.Start.{Start}
use Rattle.kind_law.specs.Laws.{Each}
use Rattle.kind_law.specs.Argument.{arg_vars, arg_value, arg_left, arg_movement}
use Rattle.kind_parts.specs.Set.{set_has, set_meets, set_keeps}
use Rattle.kind_parts.proofs.SetLaws.{meets_point}
use Rattle.kind_arith.specs.InSet.{Restriction, restriction_met, restriction_refuted, restriction_kept}

pub each_var : (P : VarId → Type 0) (x : Arg) (u : VarId) → x ≡ Var u → Each P (arg_vars x) → P u
each_var P x u is h = (subst (λ (y : Arg). Each P (arg_vars y)) is h).0

pub met_var : (k : Restriction) (a : List ℤ) (u : VarId) → k.arg ≡ Var u → set_has k.set (entry_at a u.0) ≡ restriction_met k a
met_var k a u is = ap (λ (x : Arg). set_has k.set (arg_value a x)) (sym is)

pub met_const : (k : Restriction) (a : List ℤ) (c : ℤ) → k.arg ≡ Const c → set_has k.set c ≡ restriction_met k a
met_const k a c is = ap (λ (x : Arg). set_has k.set (arg_value a x)) (sym is)

pub refuted_var : (k : Restriction) (b : ℕ → Start) (u : VarId) → k.arg ≡ Var u → not (set_meets k.set (b u.0)) ≡ restriction_refuted k b
refuted_var k b u is = ap (λ (x : Arg). not (set_meets k.set (arg_left b x))) (sym is)

pub refuted_const : (k : Restriction) (b : ℕ → Start) (c : ℤ) → k.arg ≡ Const c → not (set_has k.set c) ≡ restriction_refuted k b
refuted_const k b c is = ap not (sym (meets_point k.set c)) ∙ ap (λ (x : Arg). not (set_meets k.set (arg_left b x))) (sym is)

pub kept_var : (k : Restriction) (view : List Movement) (u : VarId) → k.arg ≡ Var u
    → set_keeps k.set (movement_at view u.0).change (movement_at view u.0).after ≡ restriction_kept k view
kept_var k view u is = ap (λ (x : Arg). set_keeps k.set (arg_movement view x).change (arg_movement view x).after) (sym is)

pub kept_const : (k : Restriction) (view : List Movement) (c : ℤ) → k.arg ≡ Const c
    → set_keeps k.set (arg_movement view (Const c)).change (arg_movement view (Const c)).after ≡ restriction_kept k view
kept_const k view c is = ap (λ (x : Arg). set_keeps k.set (arg_movement view x).change (arg_movement view x).after) (sym is)
