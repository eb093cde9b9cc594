use Rattle.std.proofs.Common.{◌∙◌, sym, ap}
use Rattle.kind_linear.specs.LinearOutput.{is_functional}
use Rattle.kind_linear.proofs.output.LinearOutputDefine.is_functional.Goals as goal

pub returns : goal.returns
returns c = sym c.self.invariant.functional ∙ ap is_functional c.self.view_is
