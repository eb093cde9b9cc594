use Rattle.std.proofs.Common.{sym, subst, ◌<◌, length, OnOk}
use Rattle.dom_cells.specs.Box.{cell_of}
use Rattle.kind_law.specs.Reason.{IsCause, IsReason}
use Rattle.kind_sum.specs.SumRelation.{sum_vars}
use Rattle.kind_reified.specs.LinearReified.{LinearReified, reified_refuted}
use Rattle.kind_law.specs.Argument.{ArgHas}
use Rattle.kind_law.proofs.ArgumentLaws.{each_new_arg}
use Rattle.kind_reified.proofs.reified.LinearReifiedPropagate.write_reason.Goals as goal

pub verdict_of-requires-clause-output : goal.verdict_of-requires-clause-output
verdict_of-requires-clause-output c =
    subst (λ (k : LinearReified). ArgHas (λ u. u.0 < length c.args.cells.now.state.starts) k.output) (sym c.self.view_is)
    (each_new_arg (λ u. u.0 < length c.args.cells.now.state.starts) (sum_vars c.args.self.now.sum) c.args.self.now.output c.requires.below).1

pub write_truth_reason-requires-clause-output : goal.write_truth_reason-requires-clause-output
write_truth_reason-requires-clause-output c =
    subst (λ (k : LinearReified). ArgHas (λ u. u.0 < length c.args.cells.now.state.starts) k.output) (sym c.self.view_is)
    (each_new_arg (λ u. u.0 < length c.args.cells.now.state.starts) (sum_vars c.args.self.now.sum) c.args.self.now.output c.requires.below).1

pub write_truth_reason-requires-clause-cause : goal.write_truth_reason-requires-clause-cause
write_truth_reason-requires-clause-cause c =
    subst (λ (k : LinearReified). IsCause (reified_refuted k) (cell_of c.args.cells.now.state) c.args.implied) (sym c.self.view_is) c.requires.cause

pub returns-in-Some : goal.returns-in-Some
returns-in-Some c = subst (λ (k : LinearReified). OnOk c.write_truth_reason.result (IsReason (reified_refuted k) c.args.cells.now.state c.args.implied c.write_truth_reason.new.out)) c.self.view_is c.write_truth_reason.ensures
