-- What the table and the arguments tell of a constraint's kind.
use Rattle.std.proofs.Common.{◌≡◌, ℕ, List, Result, Ok, Err, sym, subst}
use Rattle.any_kind.specs.declared.any.AnyKind.{AnyKind}
use Rattle.fzn_arguments.specs.Arguments.{HasOneScalarArg, HasOneArgList}
use Rattle.fzn_forms.proofs.Single.{HasOneRow, one_entry, made_by}
use Rattle.fzn_forms.specs.Answers.{Answers}
use Rattle.fzn_forms.specs.Kinds.{IsKindOf}
use Rattle.fzn_forms.specs.Made.{IsMade}
use Rattle.fzn_forms.specs.Reading.{AreReadAs}
use Rattle.fzn_forms.specs.declared.argument.Argument.{Argument}
use Rattle.fzn_forms.specs.declared.error.FormError.{FormError}
use Rattle.fzn_forms.specs.declared.error.FormError.TheVariants.{NotBuilt, Memory}
use Rattle.fzn_signatures.specs.Table.{Entry, IsEntryOf, IsUnlisted}
use Rattle.fzn_symbols.specs.Named.{names_of, AreDifferent}
use Rattle.fzn_syntax.specs.declared.constraint.Constraint.{Constraint}
use Rattle.fzn_syntax.specs.declared.declaration.Declaration.{Declaration}
use Rattle.fzn_syntax.specs.declared.expression.Expression.{Expression}
use Rattle.fzn_values.specs.Constants.{HasOneInteger, HasOneList}

module _ (ds : List Declaration) (c : Constraint) (name : List ℕ) (same : name ≡ c.name.name) where
  -- a name without an entry has no kind
  pub unlisted : IsUnlisted name → (k : AnyKind) → IsKindOf ds c k → ⊥
  unlisted none k h = none h.entry (subst (λ n. IsEntryOf n h.entry) (sym same) h.is_entry)

  module _ (row : HasOneRow) (e : Entry) (listed : IsEntryOf name e) (es : List Expression) (all : es ≡ c.arguments) where
    is_entry : IsEntryOf c.name.name e
    is_entry = subst (λ n. IsEntryOf n e) same listed

    -- nor do arguments that stand for nothing
    pub unread : ((args : List Argument) → AreReadAs ds e.arguments es args → ⊥) → (k : AnyKind) → IsKindOf ds c k → ⊥
    unread none k h =
        let here : h.entry ≡ e = one_entry row c.name.name h.entry e h.is_entry is_entry in
        none h.arguments (subst (λ xs. AreReadAs ds e.arguments xs h.arguments) (sym all) (subst (λ (f : Entry). AreReadAs ds f.arguments c.arguments h.arguments) here h.read))

    -- and else the kind is what the entry's shape makes of them
    pub kind_by_shape : HasOneInteger → HasOneList → HasOneScalarArg → HasOneArgList → AreDifferent (names_of ds) → (args : List Argument) → AreReadAs ds e.arguments es args
        → (r : Result AnyKind FormError) → Answers (IsMade e.shape args) r → Answers (IsKindOf ds c) r
    kind_by_shape integer list scalar array different args read (Ok k) made =
        record { entry = e; is_entry = is_entry; arguments = args; read = subst (λ xs. AreReadAs ds e.arguments xs args) all read; made = made }
    kind_by_shape integer list scalar array different args read (Err NotBuilt) none =
        λ k h. none k (made_by integer list scalar array ds different row c e args k is_entry (subst (λ xs. AreReadAs ds e.arguments xs args) all read) h)
    kind_by_shape integer list scalar array different args read (Err Memory) none = tt
