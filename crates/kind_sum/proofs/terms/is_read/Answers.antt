use Rattle.std.proofs.Common.{◌∙◌, sym, pos}
use Rattle.dom_core.specs.declared.arg.Arg.TheVariants.{Var}
use Rattle.kind_sum.specs.declared.term.Term.{Term}
use Rattle.kind_sum.proofs.VarLaws.{read_here, read_later}
use Rattle.kind_sum.proofs.terms.is_read.Goals as goal

-- what reads beyond the terms would give
abbrev none : Term
none = record { coef = pos 0; arg = Var (record { 0 = 0 }) }

pub returns-then-is_on : goal.returns-then-is_on
returns-then-is_on c =
    sym (c.loop-term.invariant
    ∙ read_here c.args.var c.args.terms.now c.loop-term.term-index none c.loop-term-test.true (sym c.is_on.ensures ∙ c.if-is_on.true))

pub loop-term-preserved : goal.loop-term-preserved
loop-term-preserved c =
    c.loop-term.invariant
    ∙ read_later c.args.var c.args.terms.now c.loop-term.term-index none c.loop-term-test.true (sym c.is_on.ensures ∙ c.if-is_on.false)
