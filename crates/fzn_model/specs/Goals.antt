-- What is asked of the assignments.
use Rattle.std.specs.Prelude.{List}
use Rattle.dom_definers.specs.declared.form.Form.TheVariants as forms
use Rattle.dom_model.specs.declared.goal.Goal as model
use Rattle.dom_model.specs.declared.goal.Goal.TheVariants as asked
use Rattle.fzn_arguments.specs.Numbers.{IsNumbered}
use Rattle.fzn_syntax.specs.declared.declaration.Declaration.{Declaration}
use Rattle.fzn_syntax.specs.declared.solve.SolveGoal as syntax
use Rattle.fzn_syntax.specs.declared.solve.SolveGoal.TheVariants as goals

-- the goal is what the item asks, of an integer variable where it names one
abbrev pub IsAsked : List Declaration → syntax.SolveGoal → model.Goal → Type 0
IsAsked ds goals.Satisfy asked.Satisfy = Unit {0}
IsAsked ds goals.Satisfy (asked.Minimize x) = ⊥
IsAsked ds goals.Satisfy (asked.Maximize x) = ⊥
IsAsked ds (goals.Minimize n) asked.Satisfy = ⊥
IsAsked ds (goals.Minimize n) (asked.Minimize x) = IsNumbered ds forms.Int n.name x
IsAsked ds (goals.Minimize n) (asked.Maximize x) = ⊥
IsAsked ds (goals.Maximize n) asked.Satisfy = ⊥
IsAsked ds (goals.Maximize n) (asked.Minimize x) = ⊥
IsAsked ds (goals.Maximize n) (asked.Maximize x) = IsNumbered ds forms.Int n.name x
