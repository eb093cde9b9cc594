-- What calls tell of literals and names.
use Rattle.std.proofs.Common.{◌≡◌, List, ℤ, Option, None, Some, MatchOption, sym, ◌∙◌, ap, subst}
use Rattle.dom_core.specs.declared.arg.Arg.{Arg}
use Rattle.dom_core.specs.declared.arg.Arg.TheVariants.{Var, Const}
use Rattle.dom_core.specs.declared.var_id.VarId.{VarId}
use Rattle.dom_definers.specs.declared.form.Form.{Form}
use Rattle.fzn_arguments.specs.Arguments.{HasValue, NamesVariable, IsArg}
use Rattle.fzn_arguments.specs.Numbers.{IsNumbered}
use Rattle.fzn_syntax.specs.declared.declaration.Declaration.{Declaration}
use Rattle.fzn_syntax.specs.declared.expression.Basic.{Basic}
use Rattle.fzn_syntax.specs.declared.expression.Basic.TheVariants as basics
use Rattle.fzn_syntax.specs.declared.identifier.Identifier.{Identifier}
use Rattle.fzn_values.specs.Literals.{name_in}

pub named : (ds : List Declaration) (form : Form) (b : Basic) (n : Identifier) (r : Option VarId) → b ≡ basics.Name n
    → MatchOption r ((x : VarId) → IsNumbered ds form n.name x → ⊥) (IsNumbered ds form n.name) → MatchOption r ((x : VarId) → NamesVariable ds form b x → ⊥) (NamesVariable ds form b)
named ds form b n None is h = λ x v.
    let same : Some v.0 ≡ Some n.name = sym v.1 ∙ ap name_in is in
    let one : v.0 ≡ n.name = cc in
    h x (subst (λ m. IsNumbered ds form m x) one v.2)
named ds form b n (Some x) is h = (n.name, ap name_in is, h)

-- what has no value and names no variable stands for nothing
pub stands_for_nothing : (ds : List Declaration) (form : Form) (b : Basic) → ((z : ℤ) → HasValue ds form b z → ⊥) → ((x : VarId) → NamesVariable ds form b x → ⊥)
    → (x : Arg) → IsArg ds form b x → ⊥
stands_for_nothing ds form b no_value no_variable (Const z) h = no_value z h
stands_for_nothing ds form b no_value no_variable (Var x) h = no_variable x h
