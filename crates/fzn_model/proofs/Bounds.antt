-- The variables that arguments and kinds name are among those that are declared.
use Rattle.std.proofs.Common.{◌≡◌, ℕ, ◌<◌, Bool, true, false, ℤ, pos, negsuc, List, [], ◌∷◌, ◌++◌, refl, sym, subst, arith}
use Rattle.any_kind.specs.Any.{any_vars}
use Rattle.any_kind.specs.declared.any.AnyKind.{AnyKind}
use Rattle.dom_core.specs.declared.arg.Arg.{Arg}
use Rattle.dom_core.specs.declared.arg.Arg.TheVariants.{Var, Const}
use Rattle.dom_core.specs.declared.var_id.VarId.{VarId}
use Rattle.dom_definers.specs.declared.form.Form.{Form}
use Rattle.dom_model.specs.Draft.{AreFitArgs}
use Rattle.fzn_arguments.specs.Arguments.{AreArgs, AreArgsOf, IsArg, IsScalarArg}
use Rattle.fzn_arguments.specs.Numbers.{IsNumbered, IsOfForm}
use Rattle.fzn_forms.specs.Kinds.{IsKindOf}
use Rattle.fzn_forms.specs.Made.{IsMade}
use Rattle.fzn_forms.specs.Reading.{AreReadAs, IsReadAs}
use Rattle.fzn_forms.specs.declared.argument.Argument.{Argument}
use Rattle.fzn_forms.specs.declared.argument.Argument.TheVariants.{Integer, Integers, Scalar, Array}
use Rattle.fzn_limits.specs.Sizes.{is_variable, variables_in}
use Rattle.fzn_model.proofs.Declaring.{number_below}
use Rattle.fzn_signatures.specs.declared.argument_type.ArgumentType.{ArgumentType}
use Rattle.fzn_signatures.specs.declared.argument_type.ArgumentType.TheVariants as types
use Rattle.fzn_signatures.specs.declared.shape.Shape.{Shape}
use Rattle.fzn_signatures.specs.declared.shape.Shape.TheVariants as shapes
use Rattle.fzn_syntax.specs.declared.constraint.Constraint.{Constraint}
use Rattle.fzn_syntax.specs.declared.declaration.Declaration.{Declaration}
use Rattle.fzn_syntax.specs.declared.declaration.Declaration.TheVariants.{Parameter, Variable, ParameterArray, VariableArray}
use Rattle.fzn_syntax.specs.declared.expression.Basic.{Basic}
use Rattle.fzn_syntax.specs.declared.expression.Expression.{Expression}
use Rattle.fzn_syntax.specs.declared.expression.Expression.TheVariants as expressions
use Rattle.kind_truths.specs.Operand.{arguments_of, operand_vars, operands_of, signed}
use Rattle.kind_truths.specs.declared.operand.Operand.{Operand}
use Rattle.kind_law.proofs.ArgumentLaws.{each-new, each_distinct}
use Rattle.kind_law.specs.Argument.{ArgHas, distinct, with_new_arg}
use Rattle.kind_law.specs.Laws.{Each}
use Rattle.kind_parts.specs.Vars.{variables_of}
use Rattle.kind_law.proofs.ArgumentLaws.{join_arg}
use Rattle.kind_sum.specs.Sum.{args_of, terms_of, vars_of}

-- ---- what holds of the arguments holds of the kind's variables

module _ (P : VarId → Type 0) where
  abbrev pub EachHas : List Arg → Type 0
  EachHas [] = Unit {0}
  EachHas (x ∷ xs) = ArgHas P x × EachHas xs

  abbrev HasArgument : Argument → Type 0
  HasArgument (Integer z) = Unit {0}
  HasArgument (Integers zs) = Unit {0}
  HasArgument (Scalar x) = ArgHas P x
  HasArgument (Array xs) = EachHas xs

  abbrev HaveArguments : List Argument → Type 0
  HaveArguments [] = Unit {0}
  HaveArguments (a ∷ args) = HasArgument a × HaveArguments args

  each_variables : (xs : List Arg) → EachHas xs → Each P (variables_of xs)
  each_variables [] h = tt
  each_variables (x ∷ xs) h = join_arg P x (variables_of xs) h.0 (each_variables xs h.1)

  each_distinct_variables : (xs : List Arg) → EachHas xs → Each P (distinct (variables_of xs))
  each_distinct_variables xs h = each_distinct P (variables_of xs) (each_variables xs h)

  each_new : (vs : List VarId) (x : Arg) → Each P vs → ArgHas P x → Each P (with_new_arg vs x)
  each_new vs (Var x) h g = each-new P vs x h g
  each_new vs (Const c) h g = h

  has_terms : (cs : List ℤ) (xs : List Arg) → EachHas xs → EachHas (args_of (terms_of cs xs))
  has_terms [] xs h = tt
  has_terms (c ∷ cs) [] h = tt
  has_terms (c ∷ cs) (x ∷ xs) h = (h.0, has_terms cs xs h.1)

  pub each_sum : (cs : List ℤ) (xs : List Arg) → EachHas xs → Each P (distinct (vars_of (terms_of cs xs)))
  each_sum cs xs h = each_distinct_variables (args_of (terms_of cs xs)) (has_terms cs xs h)

  has_signed : (b : Bool) (xs : List Arg) → EachHas xs → EachHas (arguments_of (signed b xs))
  has_signed b [] h = tt
  has_signed b (x ∷ xs) h = (h.0, has_signed b xs h.1)

  has_both : (xs ys : List Operand) → EachHas (arguments_of xs) → EachHas (arguments_of ys) → EachHas (arguments_of (xs ++ ys))
  has_both [] ys h g = g
  has_both (x ∷ xs) ys h g = (h.0, has_both xs ys h.1 g)

  each_signed : (b : Bool) (xs : List Arg) → EachHas xs → Each P (operand_vars (signed b xs))
  each_signed b xs h = each_distinct_variables (arguments_of (signed b xs)) (has_signed b xs h)

  each_clause : (ps ns : List Arg) → EachHas ps → EachHas ns → Each P (operand_vars (operands_of ps ns))
  each_clause ps ns h g = each_distinct_variables (arguments_of (operands_of ps ns)) (has_both (signed false ps) (signed true ns) (has_signed false ps h) (has_signed true ns g))

  made_has : (s : Shape) (args : List Argument) (k : AnyKind) → HaveArguments args → IsMade s args k → Each P (any_vars k)
  made_has (shapes.Linear r) args k all h =
      let a = subst HaveArguments h.3.0 all in
      subst (λ j. Each P (any_vars j)) (sym h.4) (each_sum h.0 h.1 a.1.0)
  made_has (shapes.LinearReified r) args k all h =
      let a = subst HaveArguments h.4.0 all in
      subst (λ j. Each P (any_vars j)) (sym h.5) (each_new (distinct (vars_of (terms_of h.0 h.1))) h.3 (each_sum h.0 h.1 a.1.0) a.1.1.1.0)
  made_has (shapes.Compared c) args k all h =
      let a = subst HaveArguments h.2 all in
      subst (λ j. Each P (any_vars j)) (sym h.3) (each_sum (pos 1 ∷ negsuc 0 ∷ []) (h.0 ∷ h.1 ∷ []) (a.0, (a.1.0, tt)))
  made_has (shapes.ComparedReified c) args k all h =
      let a = subst HaveArguments h.3 all in
      subst (λ j. Each P (any_vars j)) (sym h.4) (each_new _ h.2 (each_sum (pos 1 ∷ negsuc 0 ∷ []) (h.0 ∷ h.1 ∷ []) (a.0, (a.1.0, tt))) a.1.1.0)
  made_has shapes.Negation args k all h =
      let a = subst HaveArguments h.2 all in
      subst (λ j. Each P (any_vars j)) (sym h.3) (each_sum (pos 1 ∷ pos 1 ∷ []) (h.0 ∷ h.1 ∷ []) (a.0, (a.1.0, tt)))
  made_has shapes.Conversion args k all h =
      let a = subst HaveArguments h.2 all in
      subst (λ j. Each P (any_vars j)) (sym h.3) (each_sum (pos 1 ∷ negsuc 0 ∷ []) (h.0 ∷ h.1 ∷ []) (a.0, (a.1.0, tt)))
  made_has shapes.Sum args k all h =
      let a = subst HaveArguments h.3 all in
      subst (λ j. Each P (any_vars j)) (sym h.4) (each_sum (pos 1 ∷ pos 1 ∷ negsuc 0 ∷ []) (h.0 ∷ h.1 ∷ h.2 ∷ []) (a.0, (a.1.0, (a.1.1.0, tt))))
  made_has shapes.Clause args k all h =
      let a = subst HaveArguments h.2 all in
      subst (λ j. Each P (any_vars j)) (sym h.3) (each_clause h.0 h.1 a.0 a.1.0)
  made_has shapes.ClauseReified args k all h =
      let a = subst HaveArguments h.3 all in
      subst (λ j. Each P (any_vars j)) (sym h.4) (each_new _ h.2 (each_clause h.0 h.1 a.0 a.1.0) a.1.1.0)
  made_has shapes.Conjunction args k all h =
      let a = subst HaveArguments h.2 all in
      subst (λ j. Each P (any_vars j)) (sym h.3) (each_new _ h.1 (each_signed true h.0 a.0) a.1.0)
  made_has shapes.Disjunction args k all h =
      let a = subst HaveArguments h.2 all in
      subst (λ j. Each P (any_vars j)) (sym h.3) (each_new _ h.1 (each_signed false h.0 a.0) a.1.0)
  made_has shapes.And args k all h =
      let a = subst HaveArguments h.3 all in
      subst (λ j. Each P (any_vars j)) (sym h.4) (each_new _ h.2 (each_signed true (h.0 ∷ h.1 ∷ []) (a.0, (a.1.0, tt))) a.1.1.0)
  made_has shapes.Or args k all h =
      let a = subst HaveArguments h.3 all in
      subst (λ j. Each P (any_vars j)) (sym h.4) (each_new _ h.2 (each_signed false (h.0 ∷ h.1 ∷ []) (a.0, (a.1.0, tt))) a.1.1.0)
  made_has shapes.Xor args k all h =
      let a = subst HaveArguments h.3 all in
      subst (λ j. Each P (any_vars j)) (sym h.4) (each_new _ h.2 (each_distinct_variables (h.0 ∷ h.1 ∷ []) (a.0, (a.1.0, tt))) a.1.1.0)
  made_has shapes.Product args k all h = absurd h
  made_has shapes.Maximum args k all h = absurd h
  made_has shapes.Minimum args k all h = absurd h
  made_has shapes.AbsoluteValue args k all h = absurd h
  made_has shapes.Element args k all h = absurd h
  made_has shapes.Membership args k all h = absurd h
  made_has shapes.MembershipReified args k all h = absurd h
  made_has shapes.AllDifferent args k all h = absurd h
  made_has shapes.Count args k all h = absurd h
  made_has shapes.Among args k all h = absurd h
  made_has shapes.AtMost args k all h = absurd h
  made_has shapes.AtLeast args k all h = absurd h
  made_has shapes.Cardinality args k all h = absurd h

-- ---- what arguments name is declared

form_variable : (form : Form) (d : Declaration) → IsOfForm form d → is_variable d ≡ true
form_variable form (Parameter p) h = absurd h
form_variable form (Variable v) h = refl
form_variable form (ParameterArray a) h = absurd h
form_variable form (VariableArray a) h = absurd h

module _ (ds : List Declaration) where
  abbrev Below : VarId → Type 0
  Below x = x.0 < variables_in ds

  pub numbered_below : (form : Form) (name : List ℕ) (x : VarId) → IsNumbered ds form name x → x.0 < variables_in ds
  numbered_below form name x h =
      let lt = number_below ds h.place h.declaration h.declared (form_variable form h.declaration h.of_form) in
      omega (arith, lt, h.number)

  arg_below : (form : Form) (b : Basic) (x : Arg) → IsArg ds form b x → ArgHas Below x
  arg_below form b (Const z) h = tt
  arg_below form b (Var x) h = numbered_below form h.0 x h.2

  pub scalar_below : (form : Form) (e : Expression) (x : Arg) → IsScalarArg ds form e x → ArgHas Below x
  scalar_below form (expressions.Basic b) x h = arg_below form b x h
  scalar_below form (expressions.List bs) x h = absurd h

  args_below : (form : Form) (bs : List Basic) (xs : List Arg) → AreArgs ds form bs xs → EachHas Below xs
  args_below form [] [] h = tt
  args_below form [] (x ∷ xs) h = absurd h
  args_below form (b ∷ bs) [] h = absurd h
  args_below form (b ∷ bs) (x ∷ xs) h = (arg_below form b x h.0, args_below form bs xs h.1)

  scalar_has : (form : Form) (e : Expression) (a : Argument) → ((x : Arg) × (a ≡ Scalar x) × IsScalarArg ds form e x) → HasArgument Below a
  scalar_has form e a h = subst (HasArgument Below) (sym h.1) (scalar_below form e h.0 h.2)

  array_has : (form : Form) (e : Expression) (a : Argument) → ((xs : List Arg) × (a ≡ Array xs) × AreArgsOf ds form e xs) → HasArgument Below a
  array_has form e a h = subst (HasArgument Below) (sym h.1) (args_below form h.2.0 h.0 h.2.2)

  read_has : (t : ArgumentType) (e : Expression) (a : Argument) → IsReadAs ds t e a → HasArgument Below a
  read_has types.ConstantInteger e a h = subst (HasArgument Below) (sym h.1) tt
  read_has types.Set e a h = absurd h
  read_has types.ConstantIntegerArray e a h = subst (HasArgument Below) (sym h.1) tt
  read_has types.ConstantBooleanArray e a h = absurd h
  read_has types.Integer e a h = scalar_has _ e a h
  read_has types.Boolean e a h = scalar_has _ e a h
  read_has types.IntegerArray e a h = array_has _ e a h
  read_has types.BooleanArray e a h = array_has _ e a h

  reads_have : (ts : List ArgumentType) (es : List Expression) (args : List Argument) → AreReadAs ds ts es args → HaveArguments Below args
  reads_have [] [] [] h = tt
  reads_have [] [] (a ∷ args) h = absurd h
  reads_have [] (e ∷ es) args h = absurd h
  reads_have (t ∷ ts) [] args h = absurd h
  reads_have (t ∷ ts) (e ∷ es) [] h = absurd h
  reads_have (t ∷ ts) (e ∷ es) (a ∷ args) h = (read_has t e a h.0, reads_have ts es args h.1)

  -- the variables of a constraint's kind are declared
  pub kind_below : (c : Constraint) (k : AnyKind) → IsKindOf ds c k → Each Below (any_vars k)
  kind_below c k h = made_has Below h.entry.shape h.arguments k (reads_have h.entry.arguments c.arguments h.arguments h.read) h.made

  fit_args : (xs : List Arg) → EachHas Below xs → AreFitArgs (variables_in ds) xs
  fit_args [] h = tt
  fit_args (Var x ∷ xs) h = (h.0, fit_args xs h.1)
  fit_args (Const c ∷ xs) h = (tt, fit_args xs h.1)

  -- so are those of a list
  pub list_fit : (form : Form) (e : Expression) (xs : List Arg) → AreArgsOf ds form e xs → AreFitArgs (variables_in ds) xs
  list_fit form e xs h = fit_args xs (args_below form h.0 xs h.2)
