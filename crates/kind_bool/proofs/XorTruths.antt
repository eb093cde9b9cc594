-- The truths of two arguments of which it is known whether they are decided.
use Rattle.std.proofs.Common.{◌≡◌, Bool, true, false, ◌∙◌, ap, refl, Some, None}
use Rattle.dom_core.specs.Ends.{Ends, only}
use Rattle.kind_parts.specs.Relation.{number_of, truth_ends}
use Rattle.kind_truths.specs.Operand.{is_certain}
use Rattle.kind_bool.specs.Xor.{differ, IsDecided, truths_by, truths_between}

by_both : (e f : Ends) (c r d s : Bool) → is_certain false e ≡ c → is_certain true e ≡ r → is_certain false f ≡ d → is_certain true f ≡ s → truths_between e f ≡ truths_by c r d s
by_both e f c r d s g h i j =
    ap (λ (t : Bool). truths_by t (is_certain true e) (is_certain false f) (is_certain true f)) g
    ∙ ap (λ (t : Bool). truths_by c t (is_certain false f) (is_certain true f)) h
    ∙ ap (λ (t : Bool). truths_by c r t (is_certain true f)) i ∙ ap (truths_by c r d) j

pub both_decided : (e f : Ends) (p q : Bool) → IsDecided e (Some p) → IsDecided f (Some q) → truths_between e f ≡ only (number_of (differ p q))
both_decided e f true true g h = by_both e f true false true false g.0 g.1 h.0 h.1
both_decided e f true false g h = by_both e f true false false true g.0 g.1 h.0 h.1
both_decided e f false true g h = by_both e f false true true false g.0 g.1 h.0 h.1
both_decided e f false false g h = by_both e f false true false true g.0 g.1 h.0 h.1

none_sure : (d s : Bool) → truths_by false false d s ≡ truth_ends false false
none_sure d s = refl

other_open : (c r : Bool) → truths_by c r false false ≡ truth_ends false false
other_open true true = refl
other_open true false = refl
other_open false true = refl
other_open false false = refl

pub first_open : (e f : Ends) → IsDecided e None → truths_between e f ≡ truth_ends false false
first_open e f g = by_both e f false false (is_certain false f) (is_certain true f) g.0 g.1 refl refl ∙ none_sure (is_certain false f) (is_certain true f)

pub second_open : (e f : Ends) → IsDecided f None → truths_between e f ≡ truth_ends false false
second_open e f g = by_both e f (is_certain false e) (is_certain true e) false false refl refl g.0 g.1 ∙ other_open (is_certain false e) (is_certain true e)
