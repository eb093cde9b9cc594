-- Right items are put together where all of their constraints are built.
use Rattle.std.proofs.Common.{◌≡◌, inl, inr, ℕ, Bool, true, false, List, [], ◌∷◌, ◌++◌, slice_get, Option, Some, None, refl}
use Rattle.std.specs.List.{AllByRecursion}
use Rattle.any_kind.specs.declared.any.AnyKind.{AnyKind}
use Rattle.dom_core.specs.declared.var_id.VarId.{VarId}
use Rattle.dom_definers.specs.declared.form.Form.TheVariants as forms
use Rattle.dom_definers.specs.declared.posted.Posted.{Posted}
use Rattle.dom_model.specs.Draft.{Draft}
use Rattle.dom_model.specs.declared.goal.Goal as model
use Rattle.dom_model.specs.declared.goal.Goal.TheVariants as asked
use Rattle.dom_model.specs.declared.output.Output.{Output}
use Rattle.fzn_arguments.specs.Numbers.{IsNumbered, number_at}
use Rattle.fzn_check.specs.ConstraintFaults as constraints
use Rattle.fzn_check.specs.DeclarationFaults.{IsFine}
use Rattle.fzn_check.specs.Goals.{IsWellTypedGoal}
use Rattle.fzn_check.specs.Posted.{IsPosted}
use Rattle.fzn_check.specs.declared.fault.Fault.TheVariants.{FloatOrSet, IllTyped}
use Rattle.fzn_forms.proofs.Single.{HasOneRow}
use Rattle.fzn_forms.specs.Kinds.{IsKindOf}
use Rattle.fzn_model.specs.Defining.{Defines, with_defined}
use Rattle.fzn_model.specs.Drafts.{Drafts}
use Rattle.fzn_model.specs.Goals.{IsAsked}
use Rattle.fzn_model.specs.Outputs.{IsOutput}
use Rattle.fzn_model.specs.Posting.{posted_as, ArePosted, initialised, IsInitial}
use Rattle.fzn_model.specs.Variables.{variables_of}
use Rattle.fzn_symbols.specs.Named.{names_of, AreDifferent}
use Rattle.fzn_symbols.specs.Sorts.{sort, Names}
use Rattle.fzn_symbols.specs.declared.base.Base.TheVariants as bases
use Rattle.fzn_syntax.proofs.Spelled.{whole_words}
use Rattle.fzn_syntax.proofs.SpelledItems.{IsSpelledDeclaration, items_spelled}
use Rattle.fzn_syntax.specs.Texts.{AreOfText}
use Rattle.fzn_syntax.specs.declared.annotation.Annotation.{Annotation}
use Rattle.fzn_syntax.specs.declared.constraint.Constraint.{Constraint}
use Rattle.fzn_syntax.specs.declared.declaration.Declaration.{Declaration}
use Rattle.fzn_syntax.specs.declared.items.Items.{Items}
use Rattle.fzn_syntax.specs.declared.solve.SolveGoal.{SolveGoal}
use Rattle.fzn_syntax.specs.declared.solve.SolveGoal.TheVariants as goals
use Rattle.fzn_totality.proofs.Chains.{Likely}
use Rattle.fzn_totality.proofs.Declared.{at_places, likely_found, all_built, likely_initial, likely_output}
use Rattle.fzn_totality.proofs.Scalars.{variable_of_form}
use Rattle.fzn_totality.proofs.Search.{HasBuiltRow, AreBuilt, search}
use Rattle.fzn_totality.proofs.Shapes.{has_kind}
use Rattle.fzn_totality.specs.Totality.{AreRight, UndraftedLaw}
use Rattle.fzn_words.specs.Words.{words}

spelled : (t : Items) → AreOfText t → AllByRecursion IsSpelledDeclaration t.declarations
spelled t h = (items_spelled t (words h.bytes h.tokens) h.parsed (whole_words h.bytes h.tokens h.lexed.1)).1

-- ---- constraints

-- a constraint defines a variable by the first of its annotations by which it does, or none
likely_defines : (ds : List Declaration) (defined : List Bool) (name : List ℕ) (k : AnyKind) (notes : List Annotation) → Likely ((r : Option VarId) × Defines ds defined name k notes r)
likely_defines ds defined name k [] none = none (None, refl)
likely_defines ds defined name k (a ∷ notes) none =
    likely_defines ds defined name k notes (λ later. none (later.0, inr ((λ x by. none (Some x, inl (x, by, refl))), later.1)))

module _ (ds : List Declaration) (different : AreDifferent (names_of ds)) (fine : IsFine ds) where
  -- the constraint is posted right, as far as its faults tell
  abbrev IsLikelyPosted : Constraint → Type 0
  IsLikelyPosted c = Likely (IsPosted ds c)

  posted_likely : (cs : List Constraint) → constraints.IsFine ds cs → (k : ℕ) (c : Constraint) → slice_get cs k ≡ Some c → IsLikelyPosted c
  posted_likely cs faultless k c at not =
      faultless k (IllTyped c.name.at) (c, at, ((λ float. faultless k (FloatOrSet c.name.at) (c, at, (float, refl))), not, refl))

  likely_kind : (c : Constraint) → HasBuiltRow c → IsLikelyPosted c → Likely ((k : AnyKind) × IsKindOf ds c k)
  likely_kind c built likely none = likely (λ right. has_kind ds c different fine right (built right.0 right.1) (λ k is. none (k, is)))

  likely_written : (defined : List Bool) (cs : List Constraint) → AreBuilt cs → AllByRecursion IsLikelyPosted cs → Likely ((ps : List Posted) × ArePosted ds defined cs ps)
  likely_written defined [] built likely none = none ([], tt)
  likely_written defined (c ∷ cs) built likely none =
      likely_kind c built.0 likely.0 (λ k.
      likely_defines ds defined c.name.name k.0 c.annotations (λ r.
      likely_written (with_defined defined r.0) cs built.1 likely.1 (λ q.
      none (posted_as k.0 r.0 ∷ q.0, (record { kind = k.0; is = k.1; defines = r.1; solved = refl }, q.1)))))

  -- ---- the goal

  numbered : (n : List ℕ) → Names ds n (sort bases.Int true false) → (x : VarId) × IsNumbered ds forms.Int n x
  numbered n (d, there, is) = (
    record { 0 = number_at ds there.0 },
    record {
      place = there.0;
      declaration = d;
      declared = there.1;
      named = there.2;
      of_form = variable_of_form ds different fine forms.Int d is;
      number = refl;
    },
  )

  goal_asked : (g : SolveGoal) → IsWellTypedGoal ds g → (x : model.Goal) × IsAsked ds g x
  goal_asked goals.Satisfy h = (asked.Satisfy, tt)
  goal_asked (goals.Minimize n) h = let x = numbered n.name h in (asked.Minimize x.0, x.1)
  goal_asked (goals.Maximize n) h = let x = numbered n.name h in (asked.Maximize x.0, x.1)

-- ---- all of it

likely_goal : (t : Items) → AreRight t → Likely (IsWellTypedGoal t.declarations t.solve.goal)
likely_goal t right not = right.asked (IllTyped t.solve.at) ((λ float. right.asked (FloatOrSet t.solve.at) (float, refl)), not, refl)

likely_draft : (t : Items) → AreRight t → AreBuilt t.constraints → Likely ((d : Draft) × Drafts t d)
likely_draft t right built none =
    let ds = t.declarations in
    let likely = at_places (IsLikelyPosted ds right.different right.declared) t.constraints (posted_likely ds right.different right.declared t.constraints right.posted) in
    likely_written ds right.different right.declared (initialised ds) t.constraints built likely (λ written.
    likely_found (IsInitial ds) 0 ds (at_places (λ d. (j : ℕ) → Likely ((r : Option Posted) × IsInitial ds j d r)) ds (likely_initial ds right.different right.declared)) (λ equated.
    likely_found (IsOutput ds) 0 ds (at_places (λ d. (j : ℕ) → Likely ((o : Option Output) × IsOutput ds j d o)) ds (likely_output ds right.different right.declared)) (λ printed.
    likely_goal t right (λ typed.
    let aim = goal_asked ds right.different right.declared t.solve.goal typed in
    none (
      record { variables = variables_of ds; constraints = written.0 ++ equated.0; goal = aim.0; outputs = printed.0 },
      record {
        built = all_built ds right.different right.declared (spelled t right.text);
        variables = refl;
        written = written.0;
        initial = equated.0;
        posted = written.1;
        equated = equated.1;
        constraints = refl;
        goal = aim.1;
        outputs = printed.1;
      },
    )))))

pub has_unbuilt : HasOneRow → UndraftedLaw
has_unbuilt one t right undrafted =
    elim (search one t.constraints right.known) [
      | inl found ↦ found
      | inr built ↦ absurd (likely_draft t right built (λ d. undrafted d.0 d.1))
    ]
