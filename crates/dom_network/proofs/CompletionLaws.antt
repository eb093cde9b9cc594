-- The values along the order, and the one completion.
use Rattle.std.proofs.Common.{◌≡◌, ◌<◌, ◌≤◌, ◌+◌, true, Option, Some, None, List, [], ◌∷◌, ℕ, zero, suc, length, get_or, set, slice_get, ℤ, pos, refl, sym, ◌∙◌, ap, subst, arith, inl, inr}
use Rattle.std.proofs.lemmas.Bool.{cases_lt}
use Rattle.std.proofs.lemmas.List.{ext_get_or, length-set, get_or-set_same, get_or-set_other}
use Rattle.std.proofs.lemmas.Option.{get_or_from_slice_get, same_Some}
use Rattle.any_kind.specs.Any.{any_given, any_inputs, any_met, any_output}
use Rattle.any_kind.specs.AnyLaws.{any-input, any-value}
use Rattle.any_kind.specs.declared.any.AnyKind.{AnyKind}
use Rattle.dom_core.specs.Assignment.{entry_at, value_at}
use Rattle.dom_core.specs.Ends.{Ends, lies_in}
use Rattle.dom_core.specs.declared.var_id.VarId.{VarId}
use Rattle.dom_core.proofs.RisesLaws.{int_eq_same}
use Rattle.dom_definers.specs.Definers.{definer_at}
use Rattle.dom_definers.specs.Hulls.{spans}
use Rattle.any_kind.specs.Meets.{MeetsEach}
use Rattle.dom_network.specs.Completion.{AreInHulls, HasGiven, IsCompletion}
use Rattle.dom_network.specs.Filling.{IsReadInside, own_definition, with_given, written}
use Rattle.dom_network.specs.Free.{IsTuple, free_of, free_values}
use Rattle.dom_network.specs.Network.{Gives, IsNetwork, Network}
use Rattle.dom_network.specs.NetworkLaws.{AdmittedIsCompleted, HasOneCompletion}
use Rattle.dom_network.proofs.FreeLaws.{each_same, free_one, free_stays, tuple_inside, written_length, written_values}
use Rattle.dom_network.proofs.HullLaws.{LieInHulls, by_definer, given_inside, inputs_fit}
use Rattle.dom_network.proofs.OrderLaws.{IsRead, along, defined_by, defined_none, each_read, each_variable, order_apart, order_below, read_before, read_settled}

-- the variable has what its definition gives, where it has one, and lies in its hull
pub record IsSettled (m : Network) (a : List ℤ) (v : ℕ) : Type 0 where
  pub given : HasGiven (own_definition m v) a v
  pub inside : lies_in (entry_at a v) (spans m.hulls v) ≡ true

-- a free variable whose value is from its domain
pub free_settled : (m : Network) (order : List ℕ) (a : List ℤ) (v : ℕ) → IsNetwork m order → IsTuple m.domains (free_values m.definers a) → v < length m.definers → definer_at m.definers v ≡ None
    → IsSettled m a v
free_settled m order a v net tuple lt e = record {
  given = subst (λ (d : Option AnyKind). HasGiven d a v) (sym (defined_none m v e)) tt;
  inside = free_one (λ u. lies_in (entry_at a u.0) (spans m.hulls u.0) ≡ true) m.definers v lt e (tuple_inside m.hulls (free_of m.definers) m.domains a net.domains tuple);
}

-- a defined variable that has what is given by values in their hulls
pub defined_settled : (m : Network) (a : List ℤ) (v : ℕ) (k : AnyKind) → own_definition m v ≡ Some k → Gives m.hulls v k → entry_at a v ≡ any_given k a → LieInHulls m.hulls a (any_inputs k)
    → IsSettled m a v
defined_settled m a v k e g value h = record {
  given = subst (λ (d : Option AnyKind). HasGiven d a v) (sym e) value;
  inside = subst (λ (x : ℤ). lies_in x (spans m.hulls v) ≡ true) (sym value) (given_inside m.hulls a v k g h);
}

-- where what is read is settled, it lies in its hulls
read_inside : (m : Network) (a : List ℤ) (v : ℕ) (k : AnyKind) → own_definition m v ≡ Some k → ((b : ℕ) → IsRead m v b → IsSettled m a b) → LieInHulls m.hulls a (any_inputs k)
read_inside m a v k e h = each_read m v k (λ b. lies_in (entry_at a b) (spans m.hulls b) ≡ true) e (λ b c. (h b c).inside)

-- all variables are settled
pub settled_completion : (m : Network) (order : List ℕ) (values a : List ℤ) → IsNetwork m order → length a ≡ length m.definers → free_values m.definers a ≡ values
    → ((v : ℕ) → v < length m.definers → IsSettled m a v) → IsCompletion m.constraints m.definers values a × AreInHulls m.hulls a
settled_completion m order values a net whole free h = (
  record { whole = whole; free = free; defined = λ v lt. (h v lt).given },
  record { whole = whole ∙ net.whole; inside = λ v lt. (h v (omega (arith, lt, net.whole))).inside },
)

-- ---- one value more

-- a variable stays settled where another one, which its definition doesn't read, is given a value
settled_stays : (m : Network) (order : List ℕ) (a : List ℤ) (v w : ℕ) (x : ℤ) → IsNetwork m order → w < length m.definers → (w ≡ v → ⊥) → ((b : ℕ) → IsRead m w b → b ≡ v → ⊥) → IsSettled m a w
    → IsSettled m (set a v x) w
settled_stays m order a v w x net lt apart unread s =
    let same : entry_at (set a v x) w ≡ entry_at a w = get_or-set_other a v w x (pos 0) apart in
    record {
      given = by_definer m.hulls m.constraints m.definers w (HasGiven (own_definition m w) (set a v x) w) (definer_at m.definers w) refl (net.given w lt)
          (λ e. subst (λ (d : Option AnyKind). HasGiven d (set a v x) w) (sym (defined_none m w e)) tt)
          (λ i k e g gives. (let own = defined_by m w i k e g in
          let before : entry_at a w ≡ any_given k a = subst (λ (d : Option AnyKind). HasGiven d a w) own s.given in
          let read = each_read m w k (λ b. entry_at a b ≡ entry_at (set a v x) b) own (λ b c. sym (get_or-set_other a v b x (pos 0) (unread b c))) in
          subst (λ (d : Option AnyKind). HasGiven d (set a v x) w) (sym own) (same ∙ before ∙ any-input k a (set a v x) read)));
      inside = subst (λ (y : ℤ). lies_in y (spans m.hulls w) ≡ true) (sym same) s.inside;
    }

-- the free variables have their values, and the first variables of the order are settled
pub record IsFilled (m : Network) (order : List ℕ) (values a : List ℤ) (i : ℕ) : Type 0 where
  pub whole : length a ≡ length m.definers
  pub free : free_values m.definers a ≡ values
  pub settled : (k : ℕ) → k < i → IsSettled m a (get_or order k 0)

module _ (m : Network) (order : List ℕ) (values a : List ℤ) (i : ℕ) (net : IsNetwork m order) (tuple : IsTuple m.domains values) (lt : i < length order) (filled : IsFilled m order values a i) where
  one_more : (b : List ℤ) → ((k : ℕ) → k < i → IsSettled m b (get_or order k 0)) → IsSettled m b (get_or order i 0) → (k : ℕ) → k < i + 1 → IsSettled m b (get_or order k 0)
  one_more b done here k kl = elim (cases_lt k i) [
    | inl below ↦ done k below
    | inr past ↦ (let same : i ≡ k = omega (arith, past, kl) in subst (λ (j : ℕ). IsSettled m b (get_or order j 0)) same here)
  ]

  unread : (k : ℕ) → k < i + 1 → (b : ℕ) → IsRead m (get_or order k 0) b → b ≡ get_or order i 0 → ⊥
  unread k kl b c e =
      let r = read_before m order net k b (omega (arith, kl, lt)) c in
      let one : r.0 ≡ i = order_apart m order net r.0 i (omega (arith, r.1, kl, lt)) lt (get_or_from_slice_get order r.0 b 0 r.2 ∙ e) in
      omega (arith, r.1, one, kl)

  free_next : definer_at m.definers (get_or order i 0) ≡ None → IsFilled m order values (with_given (own_definition m (get_or order i 0)) (get_or order i 0) a) (i + 1)
  free_next e =
      subst (λ (d : Option AnyKind). IsFilled m order values (with_given d (get_or order i 0) a) (i + 1)) (sym (defined_none m (get_or order i 0) e)) (record {
        whole = filled.whole;
        free = filled.free;
        settled = one_more a filled.settled
            (free_settled m order a (get_or order i 0) net (subst (λ (xs : List ℤ). IsTuple m.domains xs) (sym filled.free) tuple) (order_below m order net i lt) e);
      })

  given_next : (p : ℕ) (k : AnyKind) → definer_at m.definers (get_or order i 0) ≡ Some p → slice_get m.constraints p ≡ Some k → Gives m.hulls (get_or order i 0) k
      → IsFilled m order values (with_given (own_definition m (get_or order i 0)) (get_or order i 0) a) (i + 1)
  given_next p k e g gives =
      let own = defined_by m (get_or order i 0) p k e g in
      let below : get_or order i 0 < length a = omega (arith, order_below m order net i lt, filled.whole) in
      let read = each_read m (get_or order i 0) k (λ b. entry_at a b ≡ entry_at (set a (get_or order i 0) (any_given k a)) b) own
      (λ b c. sym (get_or-set_other a (get_or order i 0) b (any_given k a) (pos 0) (unread i (omega arith) b c))) in
      let inside = each_read m (get_or order i 0) k (λ b. lies_in (entry_at (set a (get_or order i 0) (any_given k a)) b) (spans m.hulls b) ≡ true) own
      (λ b c. subst (λ (y : ℤ). lies_in y (spans m.hulls b) ≡ true) (sym (get_or-set_other a (get_or order i 0) b (any_given k a) (pos 0) (unread i (omega arith) b c)))
      (read_settled m order net (IsSettled m a) i lt filled.settled b c).inside) in
      let value : entry_at (set a (get_or order i 0) (any_given k a)) (get_or order i 0) ≡ any_given k (set a (get_or order i 0) (any_given k a)) =
      get_or-set_same a (get_or order i 0) (any_given k a) (pos 0) below ∙ any-input k a (set a (get_or order i 0) (any_given k a)) read in
      subst (λ (d : Option AnyKind). IsFilled m order values (with_given d (get_or order i 0) a) (i + 1)) (sym own) (record {
        whole = length-set a (get_or order i 0) (any_given k a) ∙ filled.whole;
        free = free_stays m.definers (get_or order i 0) p a (any_given k a) e ∙ filled.free;
        settled = one_more (set a (get_or order i 0) (any_given k a))
            (λ j jl. settled_stays m order a (get_or order i 0) (get_or order j 0) (any_given k a) net (order_below m order net j (omega (arith, jl, lt)))
            (λ same. (let one : j ≡ i = order_apart m order net j i (omega (arith, jl, lt)) lt same in omega (arith, one, jl))) (unread j (omega (arith, jl))) (filled.settled j jl))
            (defined_settled m (set a (get_or order i 0) (any_given k a)) (get_or order i 0) k own gives value inside);
      })

  -- one variable more of the order
  pub filled_next : IsFilled m order values (with_given (own_definition m (get_or order i 0)) (get_or order i 0) a) (i + 1)
  filled_next =
      by_definer m.hulls m.constraints m.definers (get_or order i 0) (IsFilled m order values (with_given (own_definition m (get_or order i 0)) (get_or order i 0) a) (i + 1))
      (definer_at m.definers (get_or order i 0)) refl (net.given (get_or order i 0) (order_below m order net i lt)) free_next given_next

  -- what the next definition reads lies in its hulls
  pub next_reads : IsReadInside m.hulls (own_definition m (get_or order i 0)) a
  next_reads =
      by_definer m.hulls m.constraints m.definers (get_or order i 0) (IsReadInside m.hulls (own_definition m (get_or order i 0)) a)
      (definer_at m.definers (get_or order i 0)) refl (net.given (get_or order i 0) (order_below m order net i lt))
      (λ e. subst (λ (d : Option AnyKind). IsReadInside m.hulls d a) (sym (defined_none m (get_or order i 0) e)) tt)
      (λ p k e g gives. (let own = defined_by m (get_or order i 0) p k e g in subst (λ (d : Option AnyKind). IsReadInside m.hulls d a) (sym own)
      (read_inside m a (get_or order i 0) k own (read_settled m order net (IsSettled m a) i lt filled.settled))))

-- at first the free values are written
pub filled_first : (m : Network) (order : List ℕ) (values a : List ℤ) → length values ≡ length (free_of m.definers) → length a ≡ length m.definers
    → IsFilled m order values (written (free_of m.definers) values a) 0
filled_first m order values a e whole = record {
  whole = written_length (free_of m.definers) values a ∙ whole;
  free = written_values m.definers values a e (omega (arith, whole));
  settled = λ k kl. absurd (omega (arith, kl));
}

-- in the end every variable is settled
pub filled_last : (m : Network) (order : List ℕ) (values a : List ℤ) (i : ℕ) → IsNetwork m order → length order ≤ i → IsFilled m order values a i
    → IsCompletion m.constraints m.definers values a × AreInHulls m.hulls a
filled_last m order values a i net past h = settled_completion m order values a net h.whole h.free (each_variable m order net (IsSettled m a) i past h.settled)

-- ---- the laws

pub completions_same : (m : Network) (order : List ℕ) → IsNetwork m order → HasOneCompletion m
completions_same m order net values a b x y =
    ext_get_or (pos 0) a b (x.whole ∙ sym y.whole) (λ v lt. along m order net (λ n. entry_at a n ≡ entry_at b n)
    (λ n below read. by_definer m.hulls m.constraints m.definers n (entry_at a n ≡ entry_at b n) (definer_at m.definers n) refl (net.given n below)
    (λ e. free_one (λ u. entry_at a u.0 ≡ entry_at b u.0) m.definers n below e (each_same a b (free_of m.definers) (x.free ∙ sym y.free)))
    (λ i k e g gives. (let own = defined_by m n i k e g in
    let first : entry_at a n ≡ any_given k a = subst (λ (d : Option AnyKind). HasGiven d a n) own (x.defined n below) in
    let second : entry_at b n ≡ any_given k b = subst (λ (d : Option AnyKind). HasGiven d b n) own (y.defined n below) in
    first ∙ any-input k a b (each_read m n k (λ j. entry_at a j ≡ entry_at b j) own read) ∙ sym second)))
    v (omega (arith, lt, x.whole)))

meets_at : (ks : List AnyKind) (a : List ℤ) (i : ℕ) (k : AnyKind) → MeetsEach ks a → slice_get ks i ≡ Some k → any_met k a ≡ true
meets_at [] a i k h e = absurd (cc)
meets_at (c ∷ ks) a zero k h e = subst (λ (x : AnyKind). any_met x a ≡ true) (same_Some c k e) h.0
meets_at (c ∷ ks) a (suc i) k h e = meets_at ks a i k h.1 e

-- a definition that is satisfied gives its variable its value
met_gives : (hs : List (Option Ends)) (a : List ℤ) (v : ℕ) (k : AnyKind) → Gives hs v k → LieInHulls hs a (any_inputs k) → any_met k a ≡ true → entry_at a v ≡ any_given k a
met_gives hs a v k g h met =
    ap (λ (u : VarId). value_at a u) (sym g.output) ∙ int_eq_same (value_at a (any_output k)) (any_given k a) (sym (any-value k g.functional a (inputs_fit hs a v k g h)) ∙ met)

pub admitted_completed : (m : Network) (order : List ℕ) → IsNetwork m order → AdmittedIsCompleted m
admitted_completed m order net a whole tuple meets =
    settled_completion m order (free_values m.definers a) a net whole refl (along m order net (IsSettled m a)
    (λ v lt read. by_definer m.hulls m.constraints m.definers v (IsSettled m a v) (definer_at m.definers v) refl (net.given v lt)
    (λ e. free_settled m order a v net tuple lt e)
    (λ i k e g gives. (let own = defined_by m v i k e g in
    let inside = read_inside m a v k own read in
    defined_settled m a v k own gives (met_gives m.hulls a v k gives inside (meets_at m.constraints a i k meets g)) inside))))
