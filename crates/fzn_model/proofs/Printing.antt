-- What is printed of declarations.
use Rattle.std.proofs.Common.{◌≡◌, ℕ, ◌+◌, ◌<◌, ◌≤◌, Bool, true, false, cond, List, ◌∷◌, ◌++◌, length, take, drop, get_or, slice_index_or, Option, Some, None, Result, Ok, Err, sym, ◌∙◌, ap, subst, arith}
use Rattle.std.specs.List.{find}
use Rattle.std.proofs.lemmas.List.{append_assoc, drop_more}
use Rattle.std.proofs.lemmas.Option.{same_Some}
use Rattle.dom_core.specs.declared.arg.Arg.{Arg}
use Rattle.dom_index_sets.specs.declared.index_set.IndexSet.{IndexSet}
use Rattle.dom_model.specs.Draft.{Draft, IsFitOutput}
use Rattle.dom_model.specs.declared.output.Output.{Output}
use Rattle.dom_model.specs.declared.output.Output.TheVariants.{Scalar, Array}
use Rattle.fzn_arguments.specs.Arguments.{AreArgsOf}
use Rattle.fzn_limits.specs.Sizes.{variables_in}
use Rattle.fzn_arguments.specs.Numbers.{AreNumbers}
use Rattle.fzn_model.proofs.Bounds.{list_fit}
use Rattle.fzn_model.proofs.Folding.{back, found_nowhere}
use Rattle.fzn_model.specs.Answers.{Answers}
use Rattle.fzn_model.specs.Found.{count_by}
use Rattle.fzn_model.specs.Outputs.{is_marked, IsArrayOutput, IsIndexedOutput, IsMarkedOutput, IsOutput, mark_of, scalar_output}
use Rattle.fzn_model.specs.Steps.{AreMarked, with_outputs}
use Rattle.fzn_model.specs.Variables.{form_of, IsBuiltType}
use Rattle.fzn_model.specs.declared.error.ResolveError.{ResolveError}
use Rattle.fzn_model.specs.declared.error.ResolveError.TheVariants.{NotBuilt, Memory}
use Rattle.fzn_output_marks.proofs.SetLaws.{one_give}
use Rattle.fzn_output_marks.specs.Sets.{HasIndexSets}
use Rattle.fzn_syntax.specs.declared.annotation.Annotation.{Annotation}
use Rattle.fzn_syntax.specs.declared.declaration.Declaration.{Declaration}
use Rattle.fzn_syntax.specs.declared.declaration.Declaration.TheVariants.{Parameter, Variable, ParameterArray, VariableArray}
use Rattle.fzn_syntax.specs.declared.declaration.VariableArray as syntax

-- ---- the first that passes

module _ {X : Type 0} (p : X → Bool) (xs : List X) (i : ℕ) (x : X) (within : i < length xs) (is : x ≡ get_or xs i x) where
  split : drop i xs ≡ x ∷ drop (i + 1) xs
  split = drop_more xs i x within ∙ ap (λ b. b ∷ drop (i + 1) xs) (sym is)

  pub find_here : find p (drop i xs) ≡ find p xs → p x ≡ true → find p xs ≡ Some x
  find_here same passes = sym same ∙ ap (find p) split ∙ ap (λ b. cond b (Some x) (find p (drop (i + 1) xs))) passes

  pub find_later : find p (drop i xs) ≡ find p xs → p x ≡ false → find p (drop (i + 1) xs) ≡ find p xs
  find_later same fails = sym (ap (find p) split ∙ ap (λ b. cond b (Some x) (find p (drop (i + 1) xs))) fails) ∙ same

-- ---- arrays

pub unlisted_none : (ds : List Declaration) (a : syntax.VariableArray) (sets : List IndexSet) → ((xs : List Arg) → AreArgsOf ds (form_of a.element) a.value xs → ⊥)
    → (o : Output) → IsIndexedOutput ds a sets o → ⊥
unlisted_none ds a sets none (Scalar x) h = h
unlisted_none ds a sets none (Array name form others entries) h = none entries h.listed

pub indexed_told : (ds : List Declaration) (a : syntax.VariableArray) (mark : Annotation) (sets : List IndexSet) (r : Result Output ResolveError) → IsBuiltType a.element → HasIndexSets mark sets
    → Answers (IsIndexedOutput ds a sets) r → Answers (IsArrayOutput ds a mark) r
indexed_told ds a mark sets (Ok o) typed marked h = record { typed = typed; sets = sets; marked = marked; indexed = h }
indexed_told ds a mark sets (Err NotBuilt) typed marked none =
    λ o h. none o (subst (λ ss. IsIndexedOutput ds a ss o) (one_give mark.arguments h.sets sets h.marked marked) h.indexed)
indexed_told ds a mark sets (Err Memory) typed marked h = tt

-- ---- outputs are of variables that are declared

indexed_fit : (ds : List Declaration) (a : syntax.VariableArray) (sets : List IndexSet) (o : Output) → IsIndexedOutput ds a sets o → IsFitOutput (variables_in ds) o
indexed_fit ds a sets (Scalar x) h = absurd h
indexed_fit ds a sets (Array name form others entries) h = list_fit ds (form_of a.element) a.value entries h.listed

marked_fit : (ds : List Declaration) (a : syntax.VariableArray) (m : Option Annotation) (r : Option Output) (o : Output) → IsMarkedOutput ds a m r → r ≡ Some o → IsFitOutput (variables_in ds) o
marked_fit ds a None r o h is = let e : None ≡ Some o = sym h ∙ is in absurd cc
marked_fit ds a (Some m) None o h is = absurd h
marked_fit ds a (Some m) (Some p) o h is = subst (IsFitOutput (variables_in ds)) (same_Some p o is) (indexed_fit ds a h.sets p h.indexed)

scalar_fit : (b : Bool) (i n : ℕ) (o : Output) → i < n → scalar_output b i ≡ Some o → IsFitOutput n o
scalar_fit true i n o lt is = subst (IsFitOutput n) (same_Some (Scalar (record { 0 = i })) o is) lt
scalar_fit false i n o lt is = absurd cc

pub output_fit : (ds : List Declaration) (i : ℕ) (d : Declaration) (r : Option Output) (o : Output) → i + count_by d ≤ variables_in ds → IsOutput ds i d r → r ≡ Some o → IsFitOutput (variables_in ds) o
output_fit ds i (Parameter p) r o le h is = let e : None ≡ Some o = sym h ∙ is in absurd cc
output_fit ds i (Variable v) r o le h is = scalar_fit (is_marked v.annotations) i (variables_in ds) o (omega (arith, le)) (sym h ∙ is)
output_fit ds i (ParameterArray a) r o le h is = let e : None ≡ Some o = sym h ∙ is in absurd cc
output_fit ds i (VariableArray a) r o le h is = marked_fit ds a (mark_of a.annotations) r o h is

-- ---- one declaration after the other

pub outputs_more : (d : Draft) (os ps : List Output) → with_outputs (with_outputs d os) ps ≡ with_outputs d (os ++ ps)
outputs_more d os ps = ap (λ (qs : List Output). record d { outputs = qs }) (append_assoc d.outputs os ps)

pub marks_none : (ds : List Declaration) (old new : Draft) (i : ℕ) (d : Declaration) (e : ResolveError) → i < length ds → d ≡ get_or ds i d
    → Answers (IsOutput ds (variables_in (take i ds)) d) (Err e) → AreMarked ds old new (Err e)
marks_none ds old new i d NotBuilt within is none = found_nowhere (IsOutput ds) ds i d within is none
marks_none ds old new i d Memory within is none = tt

-- the answer for one declaration among those that have the values, as one for the declarations themselves
pub answer_there : (ds vs : List Declaration) (ns : List ℕ) (i : ℕ) (d : Declaration) (e : ResolveError) → vs ≡ ds → AreNumbers ds ns → i < length ds
    → Answers (IsOutput vs (slice_index_or ns i 0) d) (Err e) → Answers (IsOutput ds (variables_in (take i ds)) d) (Err e)
answer_there ds vs ns i d NotBuilt same numbers within none = λ x h. none x (back IsOutput ds vs same ns numbers i within d x h)
answer_there ds vs ns i d Memory same numbers within none = tt
