-- What contracts see of a model.
use Rattle.std.specs.Prelude.{List}
use Rattle.dom_definers.specs.declared.variable.Variable.{Variable}
use Rattle.dom_model.specs.declared.goal.Goal.{Goal}
use Rattle.dom_model.specs.declared.output.Output.{Output}
use Rattle.dom_network.specs.Network.{Network}

-- the variables in order of declaration; the constraints, of which those that were posted come first, then the restrictions of
-- defined variables, with definers, hulls and domains; what is asked, and what is printed
pub record Problem : Type 0 where
  pub variables : List Variable
  pub network : Network
  pub goal : Goal
  pub outputs : List Output
