-- A walk in depth: how nodes stand, and that what is known stays known at every step.
use Rattle.std.proofs.Common.{◌≡◌, ◌≢◌, ◌⊎◌, inl, inr, ℕ, zero, suc, ◌+◌, ◌-◌, ◌<◌, ◌≤◌, List, [], ◌∷◌, ◌++◌, length, take, get_or, set, slice_get, Some, refl, sym, ap, ◌∙◌, subst, arith}
use Rattle.std.specs.List.{Contains}
use Rattle.std.proofs.lemmas.List.{length-set, length-take, take_more, take_all}
use Rattle.std.proofs.lemmas.List.Elements.{Contains-append_left, Contains-push, Contains-push_cases}
use Rattle.std.proofs.lemmas.Option.{slice_get_within, get_or_from_slice_get}
use Rattle.digraph.specs.declared.depth_first.State.{State}
use Rattle.digraph.specs.declared.depth_first.State.TheVariants.{Fresh, Open, Done}
use Rattle.digraph.specs.Cycle.{Leads}
use Rattle.digraph.specs.Order.{IsOnce}
use Rattle.digraph.specs.Descent.{Descent, state_at, put, entered, left, IsTop, IsLinked, IsDescent}
use Rattle.digraph.proofs.PathLaws.{linked_push, linked_front, front_of}
use Rattle.digraph.proofs.OrderLaws.{once_push, once_front, once_last, behind_push}

-- ---- how nodes stand

-- a node that isn't done is one of the graph
pub fresh_within : (ss : List State) (k : ℕ) → get_or ss k Done ≡ Fresh → k < length ss
fresh_within [] k e = absurd cc
fresh_within (s ∷ ss) zero e = omega arith
fresh_within (s ∷ ss) (suc k) e = omega (arith, fresh_within ss k e)

pub open_within : (ss : List State) (k e : ℕ) → get_or ss k Done ≡ Open e → k < length ss
open_within [] k e is = absurd cc
open_within (s ∷ ss) zero e is = omega arith
open_within (s ∷ ss) (suc k) e is = omega (arith, open_within ss k e is)

-- a node's state is written: it stands so, and the others as before
pub written : (ss : List State) (k : ℕ) (s : State) (j : ℕ) → k < length ss
    → ((j ≡ k) × (get_or (set ss k s) j Done ≡ s)) ⊎ ((j ≢ k) × (get_or (set ss k s) j Done ≡ get_or ss j Done))
written [] k s j lt = absurd (omega arith)
written (x ∷ ss) zero s zero lt = inl (refl, refl)
written (x ∷ ss) zero s (suc j) lt = inr (λ e. absurd cc, refl)
written (x ∷ ss) (suc k) s zero lt = inr (λ e. absurd cc, refl)
written (x ∷ ss) (suc k) s (suc j) lt = elim (written ss k s j (omega arith)) [ inl h ↦ inl (ap suc h.0, h.1) | inr h ↦ inr (λ e. h.0 (omega (arith, e)), h.1) ]

none_taken : (n : ℕ) (xs : List ℕ) (x : ℕ) → n ≡ 0 → Contains (take n xs) x → ⊥
none_taken n xs x none h = absurd (omega (arith, h.1, length-take n xs))

-- ---- what is known stays known

module _ (graph : List (List ℕ)) (d : Descent) (known : IsDescent graph d) where
  -- what is done stays so where a node is written that isn't done
  stays_done : (k : ℕ) (s : State) (b : ℕ) → k < length d.states → (state_at d k ≡ Done → ⊥) → state_at d b ≡ Done → state_at (put d k s) b ≡ Done
  stays_done k s b lt open_ done =
      elim (written d.states k s b lt) [
        | inl h ↦ absurd (open_ (subst (λ x. state_at d x ≡ Done) h.0 done))
        | inr h ↦ h.1 ∙ done
      ]

  -- the walk comes to a fresh node
  pub entered_known : (k : ℕ) → state_at d k ≡ Fresh → ((a : ℕ) → IsTop d.path a → Leads graph a k) → IsDescent graph (entered d k)
  entered_known k fresh lead =
      let lt = fresh_within d.states k fresh in
      let not_done : state_at d k ≡ Done → ⊥ = λ e. absurd cc in
      let off_path : Contains d.path k → ⊥ = λ h. absurd (let o = (known.on_path k h).1 in cc) in
      record {
        width = length-set d.states k (Open 0) ∙ known.width;
        opened = λ j e is. elim (written d.states k (Open 0) j lt) [
          | inl h ↦ subst (Contains (d.path ++ k ∷ [])) (sym h.0) (Contains-push d.path k)
          | inr h ↦ Contains-append_left d.path (k ∷ []) j (known.opened j e (sym h.1 ∙ is))
        ];
        on_path = λ j on. elim (written d.states k (Open 0) j lt) [
          | inl h ↦ (0, h.1)
          | inr h ↦ elim (Contains-push_cases d.path k j on) [
            | inl before ↦ (let o = known.on_path j before in (o.0, h.1 ∙ o.1))
            | inr is ↦ absurd (h.0 (sym is))
          ]
        ];
        apart = once_push d.path k known.apart off_path;
        linked = linked_push graph d.path k known.linked lead;
        passed = λ j e b is on. elim (written d.states k (Open 0) j lt) [
          | inl h ↦ absurd (let same : Open 0 ≡ Open e = sym h.1 ∙ is in let none : 0 ≡ e = cc in none_taken e (get_or graph j []) b (sym none) on)
          | inr h ↦ stays_done k (Open 0) b lt not_done (known.passed j e b (sym h.1 ∙ is) on)
        ];
        done = λ j node is. elim (written d.states k (Open 0) j lt) [
          | inl h ↦ absurd (let same : Open 0 ≡ Done = sym h.1 ∙ is in cc)
          | inr h ↦ known.done j node (sym h.1 ∙ is)
        ];
        in_order = λ j on. (let o = known.in_order j on in (o.0, stays_done k (Open 0) j lt not_done o.1));
        once = known.once;
        behind = known.behind;
      }

  -- the walk passes a successor that is done
  pub passed_known : (k e b : ℕ) → state_at d k ≡ Open e → slice_get (get_or graph k []) e ≡ Some b → state_at d b ≡ Done → IsDescent graph (put d k (Open (e + 1)))
  passed_known k e b is_open there is_done =
      let row = get_or graph k [] in
      let lt = open_within d.states k e is_open in
      let not_done : state_at d k ≡ Done → ⊥ = λ f. absurd cc in
      let more : take (e + 1) row ≡ take e row ++ b ∷ [] = take_more row e 0 (slice_get_within row e b there) ∙ ap (λ x. take e row ++ x ∷ []) (get_or_from_slice_get row e b 0 there) in
      record {
        width = length-set d.states k (Open (e + 1)) ∙ known.width;
        opened = λ j f is. elim (written d.states k (Open (e + 1)) j lt) [
          | inl h ↦ subst (Contains d.path) (sym h.0) (known.opened k e is_open)
          | inr h ↦ known.opened j f (sym h.1 ∙ is)
        ];
        on_path = λ j on. elim (written d.states k (Open (e + 1)) j lt) [
          | inl h ↦ (e + 1, h.1)
          | inr h ↦ (let o = known.on_path j on in (o.0, h.1 ∙ o.1))
        ];
        apart = known.apart;
        linked = known.linked;
        passed = λ j f c is on. elim (written d.states k (Open (e + 1)) j lt) [
          | inl h ↦ (let same : Open (e + 1) ≡ Open f = sym h.1 ∙ is in let next : f ≡ e + 1 = cc in
              let on_row : Contains (take (e + 1) row) c = subst (λ x. Contains (take x row) c) next (subst (λ x. Contains (take f (get_or graph x [])) c) h.0 on) in
              stays_done k (Open (e + 1)) c lt not_done (elim (Contains-push_cases (take e row) b c (subst (λ xs. Contains xs c) more on_row)) [
                | inl before ↦ known.passed k e c is_open before
                | inr last ↦ subst (λ x. state_at d x ≡ Done) last is_done
              ]))
          | inr h ↦ stays_done k (Open (e + 1)) c lt not_done (known.passed j f c (sym h.1 ∙ is) on)
        ];
        done = λ j node is. elim (written d.states k (Open (e + 1)) j lt) [
          | inl h ↦ absurd (let same : Open (e + 1) ≡ Done = sym h.1 ∙ is in cc)
          | inr h ↦ known.done j node (sym h.1 ∙ is)
        ];
        in_order = λ j on. (let o = known.in_order j on in (o.0, stays_done k (Open (e + 1)) j lt not_done o.1));
        once = known.once;
        behind = known.behind;
      }

  -- the walk goes back from a node whose successors are all passed
  left_front : (k e : ℕ) (front : List ℕ) → d.path ≡ front ++ k ∷ [] → state_at d k ≡ Open e → length (get_or graph k []) ≤ e
      → IsDescent graph (record { states = set d.states k Done; path = front; order = d.order ++ k ∷ [] })
  left_front k e front path is_open all =
      let row = get_or graph k [] in
      let lt = open_within d.states k e is_open in
      let not_done : state_at d k ≡ Done → ⊥ = λ f. absurd cc in
      let apart : IsOnce (front ++ k ∷ []) = subst IsOnce path known.apart in
      record {
        width = length-set d.states k Done ∙ known.width;
        opened = λ j f is. elim (written d.states k Done j lt) [
          | inl h ↦ absurd (let same : Done ≡ Open f = sym h.1 ∙ is in cc)
          | inr h ↦ elim (Contains-push_cases front k j (subst (λ xs. Contains xs j) path (known.opened j f (sym h.1 ∙ is)))) [
            | inl on ↦ on
            | inr same ↦ absurd (h.0 (sym same))
          ]
        ];
        on_path = λ j on. elim (written d.states k Done j lt) [
          | inl h ↦ absurd (once_last front k apart (subst (Contains front) h.0 on))
          | inr h ↦ (let o = known.on_path j (subst (λ xs. Contains xs j) (sym path) (Contains-append_left front (k ∷ []) j on)) in (o.0, h.1 ∙ o.1))
        ];
        apart = once_front front k apart;
        linked = linked_front graph front k (subst (IsLinked graph) path known.linked);
        passed = λ j f c is on. elim (written d.states k Done j lt) [
          | inl h ↦ absurd (let same : Done ≡ Open f = sym h.1 ∙ is in cc)
          | inr h ↦ stays_done k Done c lt not_done (known.passed j f c (sym h.1 ∙ is) on)
        ];
        done = λ j node is. elim (written d.states k Done j lt) [
          | inl h ↦ subst (Contains (d.order ++ k ∷ [])) (sym h.0) (Contains-push d.order k)
          | inr h ↦ Contains-append_left d.order (k ∷ []) j (known.done j node (sym h.1 ∙ is))
        ];
        in_order = λ j on. elim (Contains-push_cases d.order k j on) [
          | inl before ↦ (let o = known.in_order j before in (o.0, stays_done k Done j lt not_done o.1))
          | inr same ↦ (omega (arith, same, known.width), elim (written d.states k Done j lt) [ inl h ↦ h.1 | inr h ↦ absurd (h.0 (sym same)) ])
        ];
        once = once_push d.order k known.once (λ h. not_done (known.in_order k h).1);
        behind = behind_push graph d.order k known.behind (λ b leads. known.done b leads.0 (known.passed k e b is_open (subst (λ xs. Contains xs b) (sym (take_all e row all)) leads.1)));
      }

  pub left_known : (k e : ℕ) → IsTop d.path k → state_at d k ≡ Open e → length (get_or graph k []) ≤ e → IsDescent graph (left d k)
  left_known k e top is_open all = left_front k e (take (length d.path - 1) d.path) (front_of d.path k top) is_open all
