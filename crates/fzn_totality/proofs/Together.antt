-- Arguments of right types stand for something together.
use Rattle.std.proofs.Common.{◌≡◌, ℕ, ℤ, pos, List, [], ◌∷◌, length, refl, sym, ap, ◌∙◌, subst}
use Rattle.std.proofs.lemmas.Option.{same_Some}
use Rattle.dom_core.specs.declared.arg.Arg.{Arg}
use Rattle.dom_definers.specs.declared.form.Form.{Form}
use Rattle.dom_definers.specs.declared.form.Form.TheVariants as forms
use Rattle.fzn_arguments.specs.Numbers.{base_of}
use Rattle.fzn_check.specs.Arguments.{IsOfType}
use Rattle.fzn_check.specs.DeclarationFaults.{IsFine}
use Rattle.fzn_check.specs.Shapes.{IsLength, HaveOneLengthAt}
use Rattle.fzn_forms.specs.Reading.{IsReadAs, AreReadAs}
use Rattle.fzn_forms.specs.declared.argument.Argument.{Argument}
use Rattle.fzn_forms.specs.declared.argument.Argument.TheVariants.{Integer, Integers, Scalar, Array}
use Rattle.fzn_signatures.specs.declared.argument_type.ArgumentType.{ArgumentType}
use Rattle.fzn_signatures.specs.declared.argument_type.ArgumentType.TheVariants as types
use Rattle.fzn_symbols.specs.Named.{names_of, AreDifferent}
use Rattle.fzn_syntax.specs.declared.declaration.Declaration.{Declaration}
use Rattle.fzn_syntax.specs.declared.expression.Expression.{Expression}
use Rattle.fzn_syntax.specs.declared.expression.Expression.TheVariants as expressions
use Rattle.fzn_totality.proofs.Chains.{Likely}
use Rattle.fzn_totality.proofs.Scalars.{likely_value, likely_arg}
use Rattle.fzn_totality.proofs.Lists.{likely_args, likely_ints, likely_constant_list, likely_list}
use Rattle.fzn_totality.proofs.Types.{scalar, array, two_scalars, three_scalars, AllOfType, first, rest}

module _ (ds : List Declaration) (different : AreDifferent (names_of ds)) (fine : IsFine ds) where
  by_scalar : (f : Form) (e : Expression) → IsOfType ds (scalar f) e → Likely ((x : Arg) × IsReadAs ds (scalar f) e (Scalar x))
  by_scalar forms.Bool (expressions.Basic b) h none = likely_arg ds different fine forms.Bool b h (λ x. none (x.0, (x.0, refl, x.1)))
  by_scalar forms.Bool (expressions.List bs) h none = absurd h
  by_scalar forms.Int (expressions.Basic b) h none = likely_arg ds different fine forms.Int b h (λ x. none (x.0, (x.0, refl, x.1)))
  by_scalar forms.Int (expressions.List bs) h none = absurd h

  -- and it has as many as the expression's length says
  abbrev pub Counts : Expression → ℕ → Type 0
  Counts e n = (z : ℤ) → IsLength ds e z → z ≡ pos n

  by_array : (f : Form) (e : Expression) → IsOfType ds (array f) e → Likely ((xs : List Arg) × IsReadAs ds (array f) e (Array xs) × Counts e (length xs))
  by_array forms.Bool e h none =
      likely_list ds different fine (base_of forms.Bool) e h (λ q.
      likely_args ds different fine forms.Bool q.0 q.2 (λ r. none (r.0, (r.0, refl, (q.0, q.1, r.1)), λ z l. q.3 z l ∙ ap pos (sym r.2))))
  by_array forms.Int e h none =
      likely_list ds different fine (base_of forms.Int) e h (λ q.
      likely_args ds different fine forms.Int q.0 q.2 (λ r. none (r.0, (r.0, refl, (q.0, q.1, r.1)), λ z l. q.3 z l ∙ ap pos (sym r.2))))

  by_integers : (e : Expression) → IsOfType ds types.ConstantIntegerArray e → Likely ((zs : List ℤ) × IsReadAs ds types.ConstantIntegerArray e (Integers zs) × Counts e (length zs))
  by_integers e h none =
      likely_constant_list ds different fine (base_of forms.Int) e h (λ q.
      likely_ints ds different fine q.0 q.2 (λ r. none (r.0, (r.0, refl, (q.0, q.1, r.1)), λ z l. q.3 z l ∙ ap pos (sym r.2))))

  by_integer : (e : Expression) → IsOfType ds types.ConstantInteger e → Likely ((z : ℤ) × IsReadAs ds types.ConstantInteger e (Integer z))
  by_integer (expressions.Basic b) h none = likely_value ds different fine forms.Int b h (λ z. none (z.0, (z.0, refl, z.1)))
  by_integer (expressions.List bs) h none = absurd h

  -- ---- arguments together

  abbrev pub Reads : List ArgumentType → List Expression → List Argument → Type 0
  Reads ts es args = AreReadAs ds ts es args

  pub by_two : (f g : Form) (es : List Expression) → AllOfType ds (two_scalars f g) es → Likely ((x : Arg) × (y : Arg) × Reads (two_scalars f g) es (Scalar x ∷ Scalar y ∷ []))
  by_two f g [] h none = absurd h
  by_two f g (a ∷ []) h none = absurd (rest ds (scalar f) (scalar g ∷ []) a [] h)
  by_two f g (a ∷ b ∷ []) h none =
      let tail = rest ds (scalar f) (scalar g ∷ []) a (b ∷ []) h in
      by_scalar f a (first ds (scalar f) (scalar g ∷ []) a (b ∷ []) h) (λ x.
      by_scalar g b (first ds (scalar g) [] b [] tail) (λ y. none (x.0, y.0, (x.1, (y.1, tt)))))
  by_two f g (a ∷ b ∷ c ∷ es) h none = absurd (rest ds (scalar g) [] b (c ∷ es) (rest ds (scalar f) (scalar g ∷ []) a (b ∷ c ∷ es) h))

  pub by_three : (f g i : Form) (es : List Expression) → AllOfType ds (three_scalars f g i) es
      → Likely ((x : Arg) × (y : Arg) × (z : Arg) × Reads (three_scalars f g i) es (Scalar x ∷ Scalar y ∷ Scalar z ∷ []))
  by_three f g i [] h none = absurd h
  by_three f g i (a ∷ es) h none =
      by_scalar f a (first ds (scalar f) (two_scalars g i) a es h) (λ x.
      by_two g i es (rest ds (scalar f) (two_scalars g i) a es h) (λ r. none (x.0, r.0, r.1, (x.1, r.2))))

  pub by_list_giving : (es : List Expression) → AllOfType ds (array forms.Bool ∷ scalar forms.Bool ∷ []) es
      → Likely ((ps : List Arg) × (r : Arg) × Reads (array forms.Bool ∷ scalar forms.Bool ∷ []) es (Array ps ∷ Scalar r ∷ []))
  by_list_giving [] h none = absurd h
  by_list_giving (a ∷ []) h none = absurd (rest ds (array forms.Bool) (scalar forms.Bool ∷ []) a [] h)
  by_list_giving (a ∷ b ∷ []) h none =
      by_array forms.Bool a (first ds (array forms.Bool) (scalar forms.Bool ∷ []) a (b ∷ []) h) (λ ps.
      by_scalar forms.Bool b (first ds (scalar forms.Bool) [] b [] (rest ds (array forms.Bool) (scalar forms.Bool ∷ []) a (b ∷ []) h)) (λ r.
      none (ps.0, r.0, (ps.1, (r.1, tt)))))
  by_list_giving (a ∷ b ∷ c ∷ es) h none = absurd (rest ds (scalar forms.Bool) [] b (c ∷ es) (rest ds (array forms.Bool) (scalar forms.Bool ∷ []) a (b ∷ c ∷ es) h))

  pub by_lists_giving : (es : List Expression) → AllOfType ds (array forms.Bool ∷ array forms.Bool ∷ scalar forms.Bool ∷ []) es
      → Likely ((ps : List Arg) × (ns : List Arg) × (r : Arg) × Reads (array forms.Bool ∷ array forms.Bool ∷ scalar forms.Bool ∷ []) es (Array ps ∷ Array ns ∷ Scalar r ∷ []))
  by_lists_giving [] h none = absurd h
  by_lists_giving (a ∷ es) h none =
      by_array forms.Bool a (first ds (array forms.Bool) (array forms.Bool ∷ scalar forms.Bool ∷ []) a es h) (λ ps.
      by_list_giving es (rest ds (array forms.Bool) (array forms.Bool ∷ scalar forms.Bool ∷ []) a es h) (λ r. none (ps.0, r.0, r.1, (ps.1, r.2))))

  pub by_lists : (es : List Expression) → AllOfType ds (array forms.Bool ∷ array forms.Bool ∷ []) es
      → Likely ((ps : List Arg) × (ns : List Arg) × Reads (array forms.Bool ∷ array forms.Bool ∷ []) es (Array ps ∷ Array ns ∷ []))
  by_lists [] h none = absurd h
  by_lists (a ∷ []) h none = absurd (rest ds (array forms.Bool) (array forms.Bool ∷ []) a [] h)
  by_lists (a ∷ b ∷ []) h none =
      by_array forms.Bool a (first ds (array forms.Bool) (array forms.Bool ∷ []) a (b ∷ []) h) (λ ps.
      by_array forms.Bool b (first ds (array forms.Bool) [] b [] (rest ds (array forms.Bool) (array forms.Bool ∷ []) a (b ∷ []) h)) (λ ns.
      none (ps.0, ns.0, (ps.1, (ns.1, tt)))))
  by_lists (a ∷ b ∷ c ∷ es) h none = absurd (rest ds (array forms.Bool) [] b (c ∷ es) (rest ds (array forms.Bool) (array forms.Bool ∷ []) a (b ∷ c ∷ es) h))

  one_length : (a b : Expression) (es : List Expression) (m n : ℕ) → HaveOneLengthAt ds (a ∷ b ∷ es) 0 1 → Counts a m → Counts b n → m ≡ n
  one_length a b es m n h of_a of_b =
      let both = h.4 in
      let left : both.0 ≡ pos m = of_a both.0 (subst (λ x. IsLength ds x both.0) (sym (same_Some a h.0 h.2)) both.1) in
      let right : both.0 ≡ pos n = of_b both.0 (subst (λ x. IsLength ds x both.0) (sym (same_Some b h.1 h.3)) both.2) in
      let same : pos m ≡ pos n = sym left ∙ right in
      cc

  -- a bound, and perhaps an output, behind coefficients and as many others
  pub by_weighted : (ts : List ArgumentType) (es : List Expression) (Ends : List Expression → List Argument → Type 0)
      → ((fs : List Expression) → AllOfType ds ts fs → Likely ((args : List Argument) × Reads ts fs args × Ends fs args))
      → AllOfType ds (types.ConstantIntegerArray ∷ array forms.Int ∷ ts) es → HaveOneLengthAt ds es 0 1
      → Likely ((cs : List ℤ) × (xs : List Arg) × (fs : List Expression) × (args : List Argument) × (length cs ≡ length xs) × Ends fs args
      × Reads (types.ConstantIntegerArray ∷ array forms.Int ∷ ts) es (Integers cs ∷ Array xs ∷ args))
  by_weighted ts [] Ends others h same none = absurd h
  by_weighted ts (a ∷ []) Ends others h same none = absurd (rest ds types.ConstantIntegerArray (array forms.Int ∷ ts) a [] h)
  by_weighted ts (a ∷ b ∷ es) Ends others h same none =
      let tail = rest ds types.ConstantIntegerArray (array forms.Int ∷ ts) a (b ∷ es) h in
      by_integers a (first ds types.ConstantIntegerArray (array forms.Int ∷ ts) a (b ∷ es) h) (λ cs.
      by_array forms.Int b (first ds (array forms.Int) ts b es tail) (λ xs.
      others es (rest ds (array forms.Int) ts b es tail) (λ o.
      none (cs.0, xs.0, es, o.0, one_length a b es (length cs.0) (length xs.0) same cs.2 xs.2, o.2, (cs.1, (xs.1, o.1))))))

  -- the arguments end with a bound
  abbrev pub IsBound : List Expression → List Argument → Type 0
  IsBound es args = (z : ℤ) × (args ≡ Integer z ∷ [])

  pub by_bound : (es : List Expression) → AllOfType ds (types.ConstantInteger ∷ []) es → Likely ((args : List Argument) × Reads (types.ConstantInteger ∷ []) es args × IsBound es args)
  by_bound [] h none = absurd h
  by_bound (a ∷ []) h none = by_integer a (first ds types.ConstantInteger [] a [] h) (λ z. none (Integer z.0 ∷ [], (z.1, tt), (z.0, refl)))
  by_bound (a ∷ b ∷ es) h none = absurd (rest ds types.ConstantInteger [] a (b ∷ es) h)

  -- the arguments end with a bound and an output
  abbrev pub IsBoundGiving : List Expression → List Argument → Type 0
  IsBoundGiving es args = (z : ℤ) × (r : Arg) × (args ≡ Integer z ∷ Scalar r ∷ [])

  pub by_bound_giving : (es : List Expression) → AllOfType ds (types.ConstantInteger ∷ scalar forms.Bool ∷ []) es
      → Likely ((args : List Argument) × Reads (types.ConstantInteger ∷ scalar forms.Bool ∷ []) es args × IsBoundGiving es args)
  by_bound_giving [] h none = absurd h
  by_bound_giving (a ∷ []) h none = absurd (rest ds types.ConstantInteger (scalar forms.Bool ∷ []) a [] h)
  by_bound_giving (a ∷ b ∷ []) h none =
      by_integer a (first ds types.ConstantInteger (scalar forms.Bool ∷ []) a (b ∷ []) h) (λ z.
      by_scalar forms.Bool b (first ds (scalar forms.Bool) [] b [] (rest ds types.ConstantInteger (scalar forms.Bool ∷ []) a (b ∷ []) h)) (λ r.
      none (Integer z.0 ∷ Scalar r.0 ∷ [], (z.1, (r.1, tt)), (z.0, r.0, refl))))
  by_bound_giving (a ∷ b ∷ c ∷ es) h none = absurd (rest ds (scalar forms.Bool) [] b (c ∷ es) (rest ds types.ConstantInteger (scalar forms.Bool ∷ []) a (b ∷ c ∷ es) h))
