-- Whole drafts.
use Rattle.std.proofs.Common.{◌≡◌, ℕ, ◌+◌, ◌≤◌, List, ◌++◌, length, Option, Some, None, Ok, refl, sym, ◌∙◌, ap, subst, arith}
use Rattle.dom_core.specs.declared.arg.Arg.{Arg}
use Rattle.dom_core.specs.declared.var_id.VarId.{VarId}
use Rattle.dom_definers.specs.declared.form.Form.{Form}
use Rattle.dom_definers.specs.declared.posted.Posted.{Posted}
use Rattle.dom_definers.specs.declared.variable.Variable.{Variable}
use Rattle.dom_index_sets.specs.declared.index_set.IndexSet.{IndexSet}
use Rattle.dom_model.specs.Draft.{Draft, IsFitGoal}
use Rattle.dom_model.specs.declared.goal.Goal as model
use Rattle.dom_model.specs.declared.goal.Goal.TheVariants as asked
use Rattle.dom_model.specs.declared.output.Output.{Output}
use Rattle.dom_model.specs.declared.output.Output.TheVariants.{Scalar, Array}
use Rattle.fzn_arguments.specs.Arguments.{HasOneArgList, HasOneScalarArg}
use Rattle.fzn_forms.specs.Kinds.{HasOneKind}
use Rattle.fzn_limits.specs.Sizes.{variables_in}
use Rattle.fzn_model.proofs.Bounds.{numbered_below}
use Rattle.fzn_model.proofs.Declaring.{variables_counted}
use Rattle.fzn_model.proofs.DefiningLaws.{one_numbered}
use Rattle.fzn_model.proofs.Folding.{one_found}
use Rattle.fzn_model.proofs.Postings.{one_posted, posted_length}
use Rattle.fzn_model.specs.Drafts.{AreFew, DraftsOne}
use Rattle.fzn_model.specs.Goals.{IsAsked}
use Rattle.fzn_model.specs.Outputs.{IsIndexedOutput, IsMarkedOutput, IsOutput, mark_of}
use Rattle.fzn_model.specs.Posting.{initial, initialised, IsInitial, IsInitialised}
use Rattle.fzn_model.specs.Steps.{AreEquated, AreWritten}
use Rattle.fzn_model.specs.Variables.{AreDeclared, form_of}
use Rattle.fzn_output_marks.proofs.SetLaws.{one_give}
use Rattle.fzn_symbols.specs.Named.{names_of, AreDifferent}
use Rattle.fzn_syntax.specs.declared.annotation.Annotation.{Annotation}
use Rattle.fzn_syntax.specs.declared.constraint.Constraint.{Constraint}
use Rattle.fzn_syntax.specs.declared.declaration.Declaration.{Declaration}
use Rattle.fzn_syntax.specs.declared.declaration.Declaration.TheVariants.{Parameter, Variable as VariableOf, ParameterArray, VariableArray}
use Rattle.fzn_syntax.specs.declared.declaration.VariableArray as syntax
use Rattle.fzn_syntax.specs.declared.expression.Expression.{Expression}
use Rattle.fzn_syntax.specs.declared.items.Items.{Items}
use Rattle.fzn_syntax.specs.declared.solve.SolveGoal as solving
use Rattle.fzn_syntax.specs.declared.solve.SolveGoal.TheVariants as goals

-- ---- from the variables to the whole

asked_fit : (ds : List Declaration) (s : solving.SolveGoal) (g : model.Goal) → IsAsked ds s g → IsFitGoal (variables_in ds) g
asked_fit ds goals.Satisfy asked.Satisfy h = tt
asked_fit ds goals.Satisfy (asked.Minimize x) h = absurd h
asked_fit ds goals.Satisfy (asked.Maximize x) h = absurd h
asked_fit ds (goals.Minimize n) asked.Satisfy h = absurd h
asked_fit ds (goals.Minimize n) (asked.Minimize x) h = numbered_below ds _ n.name x h
asked_fit ds (goals.Minimize n) (asked.Maximize x) h = absurd h
asked_fit ds (goals.Maximize n) asked.Satisfy h = absurd h
asked_fit ds (goals.Maximize n) (asked.Minimize x) h = absurd h
asked_fit ds (goals.Maximize n) (asked.Maximize x) h = numbered_below ds _ n.name x h

module _ (t : Items) (old : Draft) (declared : AreDeclared t.declarations old (Ok tt)) where
  pub count_old : length old.variables ≡ variables_in t.declarations
  count_old = ap (λ (b : Draft). length b.variables) declared.1 ∙ variables_counted t.declarations

  module _ (vs : List Declaration) (cs : List Constraint) (one : Draft) (same_vs : vs ≡ t.declarations) (same_cs : cs ≡ t.constraints) (written : AreWritten vs cs old one (Ok tt)) where
    pub written_there : AreWritten t.declarations t.constraints old one (Ok tt)
    written_there = subst (λ es. AreWritten t.declarations es old one (Ok tt)) same_cs (subst (λ es. AreWritten es cs old one (Ok tt)) same_vs written)

    pub count_one : length one.variables ≡ variables_in t.declarations
    count_one = ap (λ (b : Draft). length b.variables) written.2 ∙ count_old

    only_written : one.constraints ≡ written_there.0
    only_written = ap (λ (b : Draft). b.constraints) written_there.2 ∙ ap (λ (b : Draft). b.constraints ++ written_there.0) declared.1

    pub few_one : AreFew t → length one.constraints + variables_in t.declarations ≤ 2147483648
    few_one few =
        let size : length one.constraints ≡ length t.constraints =
        ap length only_written ∙ posted_length t.declarations (initialised t.declarations) t.constraints written_there.0 written_there.1 in
        omega (arith, size, few.variables, few.constraints)

    module _ (ds : List Declaration) (two : Draft) (same_ds : ds ≡ t.declarations) (equated : AreEquated ds one two (Ok tt)) where
      equated_there : AreEquated t.declarations one two (Ok tt)
      equated_there = subst (λ es. AreEquated es one two (Ok tt)) same_ds equated

      pub count_two : length two.variables ≡ variables_in t.declarations
      count_two = ap (λ (b : Draft). length b.variables) equated.2 ∙ count_one

      module _ (ws : List Declaration) (g : model.Goal) (same_ws : ws ≡ t.declarations) (asked : IsAsked ws t.solve.goal g) where
        asked_there : IsAsked t.declarations t.solve.goal g
        asked_there = subst (λ es. IsAsked es t.solve.goal g) same_ws asked

        pub goal_fit : IsFitGoal (length two.variables) g
        goal_fit = subst (λ n. IsFitGoal n g) (sym count_two) (asked_fit t.declarations t.solve.goal g asked_there)

-- ---- one draft at most

module _ (ds : List Declaration) (different : AreDifferent (names_of ds)) where
  one_asked : (s : solving.SolveGoal) (f g : model.Goal) → IsAsked ds s f → IsAsked ds s g → f ≡ g
  one_asked goals.Satisfy asked.Satisfy asked.Satisfy h k = refl
  one_asked goals.Satisfy asked.Satisfy (asked.Minimize y) h k = absurd k
  one_asked goals.Satisfy asked.Satisfy (asked.Maximize y) h k = absurd k
  one_asked goals.Satisfy (asked.Minimize x) g h k = absurd h
  one_asked goals.Satisfy (asked.Maximize x) g h k = absurd h
  one_asked (goals.Minimize n) asked.Satisfy g h k = absurd h
  one_asked (goals.Minimize n) (asked.Minimize x) asked.Satisfy h k = absurd k
  one_asked (goals.Minimize n) (asked.Minimize x) (asked.Minimize y) h k = ap (λ (z : VarId). asked.Minimize z) (one_numbered ds different _ _ n.name x y h k)
  one_asked (goals.Minimize n) (asked.Minimize x) (asked.Maximize y) h k = absurd k
  one_asked (goals.Minimize n) (asked.Maximize x) g h k = absurd h
  one_asked (goals.Maximize n) asked.Satisfy g h k = absurd h
  one_asked (goals.Maximize n) (asked.Minimize x) g h k = absurd h
  one_asked (goals.Maximize n) (asked.Maximize x) asked.Satisfy h k = absurd k
  one_asked (goals.Maximize n) (asked.Maximize x) (asked.Minimize y) h k = absurd k
  one_asked (goals.Maximize n) (asked.Maximize x) (asked.Maximize y) h k = ap (λ (z : VarId). asked.Maximize z) (one_numbered ds different _ _ n.name x y h k)

  module _ (scalar : HasOneScalarArg) where
    one_value : (form : Form) (i : ℕ) (v : Option Expression) (p q : Option Posted) → IsInitialised ds form i v p → IsInitialised ds form i v q → p ≡ q
    one_value form i None p q h k = h ∙ sym k
    one_value form i (Some e) None q h k = absurd h
    one_value form i (Some e) (Some p) None h k = absurd k
    one_value form i (Some e) (Some p) (Some q) h k =
        let same : h.0 ≡ k.0 = scalar ds form e h.0 k.0 different h.1 k.1 in
        ap Some (h.2 ∙ ap (λ (x : Arg). initial (record { 0 = i }) x) same ∙ sym k.2)

    one_initial : (i : ℕ) (d : Declaration) (p q : Option Posted) → IsInitial ds i d p → IsInitial ds i d q → p ≡ q
    one_initial i (Parameter a) p q h k = h ∙ sym k
    one_initial i (VariableOf v) p q h k = one_value (form_of v.element) i v.value p q h k
    one_initial i (ParameterArray a) p q h k = h ∙ sym k
    one_initial i (VariableArray a) p q h k = h ∙ sym k

  module _ (list : HasOneArgList) where
    one_indexed : (a : syntax.VariableArray) (sets : List IndexSet) (o p : Output) → IsIndexedOutput ds a sets o → IsIndexedOutput ds a sets p → o ≡ p
    one_indexed a sets (Scalar x) p h k = absurd h
    one_indexed a sets (Array name form others entries) (Scalar x) h k = absurd k
    one_indexed a sets (Array name form others entries) (Array called shaped ranged filled) h k =
        let names : name ≡ called = h.named ∙ sym k.named in
        let forms : form ≡ shaped = h.formed ∙ sym k.formed in
        let indexed : others ≡ ranged = h.indexed ∙ sym k.indexed in
        let listed : entries ≡ filled = list ds (form_of a.element) a.value entries filled different h.listed k.listed in
        cc

    one_marked : (a : syntax.VariableArray) (m : Option Annotation) (o p : Option Output) → IsMarkedOutput ds a m o → IsMarkedOutput ds a m p → o ≡ p
    one_marked a None o p h k = h ∙ sym k
    one_marked a (Some m) None p h k = absurd h
    one_marked a (Some m) (Some o) None h k = absurd k
    one_marked a (Some m) (Some o) (Some p) h k =
        let same : h.sets ≡ k.sets = one_give m.arguments h.sets k.sets h.marked k.marked in
        ap Some (one_indexed a k.sets o p (subst (λ ss. IsIndexedOutput ds a ss o) same h.indexed) k.indexed)

    one_output : (i : ℕ) (d : Declaration) (o p : Option Output) → IsOutput ds i d o → IsOutput ds i d p → o ≡ p
    one_output i (Parameter a) o p h k = h ∙ sym k
    one_output i (VariableOf v) o p h k = h ∙ sym k
    one_output i (ParameterArray a) o p h k = h ∙ sym k
    one_output i (VariableArray a) o p h k = one_marked a (mark_of a.annotations) o p h k

abbrev draft : List Variable → List Posted → model.Goal → List Output → Draft
draft vs ps g os = record { variables = vs; constraints = ps; goal = g; outputs = os }

pub drafts_one : HasOneKind → HasOneScalarArg → HasOneArgList → DraftsOne
drafts_one kind scalar list t c d different h k =
    let ds = t.declarations in
    let written : h.written ≡ k.written = one_posted ds different kind (initialised ds) t.constraints h.written k.written h.posted k.posted in
    let equated : h.initial ≡ k.initial = one_found (IsInitial ds) (one_initial ds different scalar) 0 ds h.initial k.initial h.equated k.equated in
    let constraints : c.constraints ≡ d.constraints =
    h.constraints ∙ ap (λ (ps : List Posted). ps ++ h.initial) written ∙ ap (λ (ps : List Posted). k.written ++ ps) equated ∙ sym k.constraints in
    let asks : c.goal ≡ d.goal = one_asked ds different t.solve.goal c.goal d.goal h.goal k.goal in
    let outputs : c.outputs ≡ d.outputs = one_found (IsOutput ds) (one_output ds different list) 0 ds c.outputs d.outputs h.outputs k.outputs in
    ap (λ vs. draft vs c.constraints c.goal c.outputs) (h.variables ∙ sym k.variables)
    ∙ ap (λ ps. draft d.variables ps c.goal c.outputs) constraints
    ∙ ap (λ g. draft d.variables d.constraints g c.outputs) asks
    ∙ ap (λ os. draft d.variables d.constraints d.goal os) outputs
