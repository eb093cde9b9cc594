use Rattle.std.proofs.Common.{rules, ◌≡◌, ◌∙◌, ap, arith, subst, sym, FitsSigned, w64, ℤ, to_z, of_z}
use Rattle.std.proofs.lemmas.Int.{ints, to_z-of_z}
use Rattle.std.specs.Int.{w128}
use Rattle.dom_core.specs.Ends.{Ends}
use Rattle.kind_linear.specs.LinearOutput.{output_given}
use Rattle.kind_linear.specs.LinearOutputLaws.{range_point}
use Rattle.kind_linear.proofs.output.LinearOutputDefine.value.Goals as goal

pub overflow_cast-result : goal.overflow_cast-result
overflow_cast-result c =
    let wide : FitsSigned w128 c.lo-value.result = search rules in
    let is : c.lo-value.result ≡ output_given c.args.self.now c.args.a.now = c.lo-value.ensures.lo ∙ ap (λ (e : Ends). e.lo) (c.solve.ensures.range ∙ range_point c.args.self.now c.args.a.now) in
    let small : FitsSigned w64 (output_given c.args.self.now c.args.a.now) = omega (arith, ints, c.requires.small.low, c.requires.small.high) in
    subst (λ (x : ℤ). FitsSigned w64 x) (sym (to_z-of_z w128 c.lo-value.result wide ∙ is)) small

pub returns : goal.returns
returns c =
    let wide : FitsSigned w128 c.lo-value.result = search rules in
    let is : c.lo-value.result ≡ output_given c.args.self.now c.args.a.now = c.lo-value.ensures.lo ∙ ap (λ (e : Ends). e.lo) (c.solve.ensures.range ∙ range_point c.args.self.now c.args.a.now) in
    let small : FitsSigned w64 (output_given c.args.self.now c.args.a.now) = omega (arith, ints, c.requires.small.low, c.requires.small.high) in
    ap (λ (x : ℤ). to_z w64 (of_z w64 x)) (to_z-of_z w128 c.lo-value.result wide ∙ is) ∙ to_z-of_z w64 (output_given c.args.self.now c.args.a.now) small
