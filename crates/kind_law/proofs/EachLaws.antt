-- Facts of each variable of a list.
use Rattle.std.proofs.Common.{◌≡◌, ℕ, zero, suc, ◌+◌, List, [], ◌∷◌, take, Some, slice_get, sym, subst, add-one}
use Rattle.dom_core.specs.declared.var_id.VarId.{VarId}
use Rattle.kind_law.specs.Laws.{Each}

some_same : {A : Type 0} (x y : A) → Some x ≡ Some y → x ≡ y
some_same x y e = cc

pub each_at : (P : VarId → Type 0) (vs : List VarId) (i : ℕ) (u : VarId) → Each P vs → slice_get vs i ≡ Some u → P u
each_at P [] i u h e = absurd (cc)
each_at P (v ∷ vs) zero u h e = subst P (some_same v u e) h.0
each_at P (v ∷ vs) (suc i) u h e = each_at P vs i u h.1 e

pub each_map : (P Q : VarId → Type 0) (vs : List VarId) → ((u : VarId) → P u → Q u) → Each P vs → Each Q vs
each_map P Q [] f h = tt
each_map P Q (v ∷ vs) f h = (f v h.0, each_map P Q vs f h.1)

pub each_both : (P Q R : VarId → Type 0) (vs : List VarId) → ((u : VarId) → P u → Q u → R u) → Each P vs → Each Q vs → Each R vs
each_both P Q R [] f h g = tt
each_both P Q R (v ∷ vs) f h g = (f v h.0 g.0, each_both P Q R vs f h.1 g.1)

pub each_all : (P : VarId → Type 0) (vs : List VarId) → ((u : VarId) → P u) → Each P vs
each_all P [] f = tt
each_all P (v ∷ vs) f = (f v, each_all P vs f)

pub each_none : (P : VarId → Type 0) (vs : List VarId) → Each P (take 0 vs)
each_none P vs = tt

each_suc : (P : VarId → Type 0) (vs : List VarId) (i : ℕ) (u : VarId) → Each P (take i vs) → slice_get vs i ≡ Some u → P u → Each P (take (suc i) vs)
each_suc P [] i u h e p = absurd (cc)
each_suc P (v ∷ vs) zero u h e p = (subst P (sym (some_same v u e)) p, tt)
each_suc P (v ∷ vs) (suc i) u h e p = (h.0, each_suc P vs i u h.1 e p)

pub each_more : (P : VarId → Type 0) (vs : List VarId) (i : ℕ) (u : VarId) → Each P (take i vs) → slice_get vs i ≡ Some u → P u → Each P (take (i + 1) vs)
each_more P vs i u h e p = rw (add-one) (each_suc P vs i u h e p)
