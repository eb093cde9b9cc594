use Rattle.std.proofs.Common.{rules, FitsSigned, w64, ℤ, ◌≡◌, ◌∙◌, ap, sym, subst, ℕ, ◌+◌, Bool, List, take, drop, get_or, pos, int_lt}
use Rattle.std.proofs.lemmas.Int.{to_z-of_z}
use Rattle.dom_core.specs.declared.arg.Arg.TheVariants.{Var}
use Rattle.dom_core.specs.declared.var_id.VarId.{VarId}
use Rattle.kind_sum.specs.SumRelation.{SumRelation}
use Rattle.kind_linear.specs.LinearOutput.{LinearOutput, IsSolved}
use Rattle.kind_sum.specs.Place.{others_at}
use Rattle.kind_law.specs.Argument.{var_of}
use Rattle.kind_parts.specs.Vars.{Gathered, gathered}
use Rattle.kind_sum.specs.Sum.{vars_of}
use Rattle.kind_sum.specs.declared.term.Term.{Term}
use Rattle.kind_linear.proofs.SolvedLaws.{output_at, solved_is}
use Rattle.kind_linear.proofs.output.LinearOutput.new.Goals as goal

-- what reads beyond the terms would give
abbrev none : Term
none = record { coef = pos 0; arg = Var (record { 0 = 0 }) }

-- the equation with its parts as they were computed
computed : (k : SumRelation) (place : ℕ) (t : Term) (turned : Bool) (output : VarId) → turned ≡ int_lt t.coef (pos 0) → output ≡ var_of t.arg
    → output_at k place t ≡ record { front = take place k.terms; turned = turned; output = output; back = drop (place + 1) k.terms; bound = k.bound }
computed k place t turned output e f =
    ap (λ (b : Bool). let d : LinearOutput = record { front = take place k.terms; turned = b; output = var_of t.arg; back = drop (place + 1) k.terms; bound = k.bound } in d) (sym e)
    ∙ ap (λ (u : VarId). let d : LinearOutput = record { front = take place k.terms; turned = turned; output = u; back = drop (place + 1) k.terms; bound = k.bound } in d) (sym f)

pub returns : goal.returns
returns c =
    let own : get_or c.terms.result.now c.args.place none ≡ get_or c.args.linear.terms c.args.place none = ap (λ (ts : List Term). get_or ts c.args.place none) c.terms.ensures in
    let fits : FitsSigned w64 (get_or c.terms.result.now c.args.place none).coef = search rules in
    subst (IsSolved c.args.linear c.args.place)
    (computed c.args.linear c.args.place (get_or c.args.linear.terms c.args.place none) c.is_negative.result c.var_of.result
    (c.is_negative.ensures ∙ ap (λ (x : ℤ). int_lt x (pos 0)) (to_z-of_z w64 (get_or c.terms.result.now c.args.place none).coef fits) ∙ ap (λ (t : Term). int_lt t.coef (pos 0)) own) (c.var_of.ensures ∙ ap (λ (t : Term). var_of t.arg) own))
    (solved_is c.args.linear c.args.place none c.requires)

pub invariant_of-result : goal.invariant_of-result
invariant_of-result c = record {
  sum = (returns c).sum;
  others = c.in_ok-others.ensures ∙ ap (λ (ts : List Term). others_at ts c.args.place) c.terms-2.ensures;
  inputs = c.into_vars-inputs.ensures ∙ ap (λ (g : Gathered). g.vars) (c.in_ok-vars.ensures ∙ ap (λ (ts : List Term). gathered (vars_of ts)) (c.as_slice.ensures.value ∙ c.in_ok-others.ensures ∙ ap (λ (ts : List Term). others_at ts c.args.place) c.terms-2.ensures));
  functional = (returns c).functional;
}
