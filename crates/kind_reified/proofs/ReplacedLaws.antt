-- Sums with one part replaced: how large they are, and what a truth makes of them.
use Rattle.std.proofs.Common.{◌≡◌, ℕ, ◌+◌, ◌≤◌, ◌^◌, true, List, ◌++◌, ℤ, ◌-ℤ◌, ◌≤ℤ◌, refl, sym, ◌∙◌, ap, arith, ◌<◌, length}
use Rattle.dom_cells.specs.Box.{Box, IsBox, cell_of, kept}
use Rattle.dom_cells.specs.Cell.{IsPart, IsSane, ends_of}
use Rattle.dom_cells.specs.declared.start.Start.{Start}
use Rattle.dom_cells.proofs.BoxLaws.{cut_at-other, sane-ends}
use Rattle.dom_core.specs.Ends.{Ends, scaled_ends, size_of, replaced_ends}
use Rattle.dom_core.specs.Literal.{is_end}
use Rattle.dom_core.specs.declared.arg.Arg.{Arg}
use Rattle.dom_core.specs.declared.arg.Arg.TheVariants.{Var, Const}
use Rattle.dom_core.specs.declared.literal.Literal.{Literal}
use Rattle.dom_core.specs.declared.var_id.VarId.{VarId}
use Rattle.kind_law.specs.Function.{have_none}
use Rattle.kind_law.specs.Laws.{AllBelow, EndsIn, hulls}
use Rattle.kind_law.specs.Next.{IsBound}
use Rattle.kind_law.proofs.BoundLaws.{box-sane, part, kept_has, kept_sane}
use Rattle.kind_sum.specs.InsertLaws.{magnitude-insert}
use Rattle.kind_sum.specs.SumRelation.{SumRelation, sum_vars}
use Rattle.kind_reified.specs.LinearReified.{LinearReified, reified_vars, reified_refuted}
use Rattle.kind_parts.specs.Relation.{truth_over}
use Rattle.kind_sum.specs.Slack.{IsSlack}
use Rattle.kind_law.specs.Argument.{ArgHas, arg_ends}
use Rattle.kind_sum.specs.Sum.{magnitude, total}
use Rattle.kind_law.proofs.ArgumentLaws.{each_new_arg}
use Rattle.kind_sum.specs.SumLaws.{scaled_in, smaller_size}
use Rattle.kind_reified.specs.TruthNext.{IsTruthSlack}
use Rattle.kind_reified.proofs.OpenLaws.{same_output}
use Rattle.kind_sum.specs.declared.term.Term.{Term}
use Rattle.kind_sum.proofs.SlackLaws.{kept_total, own_has, rest_ordered}

-- ---- how large the parts are

first_of_two : (a b c : ℕ) → a ≡ b + c → a ≤ 2 ^ 101 → b ≤ 2 ^ 101
first_of_two a b c e h = omega arith

pub own_size : (k : SumRelation) (c : ℤ) (known : Ends) (b : ℕ → Start) (u : VarId) → IsSlack k c known b u → size_of (scaled_ends c (ends_of (b u.0))) ≤ 2 ^ 101
own_size k c known b u s =
    let own : Term = record { coef = c; arg = Var u } in
    first_of_two (magnitude k.terms (arg_ends (hulls b))) (size_of (scaled_ends c (ends_of (b u.0)))) (magnitude (s.front ++ s.back) (arg_ends (hulls b)))
    (ap (λ (ts : List Term). magnitude ts (arg_ends (hulls b))) s.split ∙ magnitude-insert s.front s.back own (arg_ends (hulls b))) s.fits

ends_part : (b : ℕ → Start) (l : Literal) (v : ℕ) → is_end l.rel ≡ true → IsSane (b v) → IsSane (kept b l v) → EndsIn (ends_of (kept b l v)) (ends_of (b v))
ends_part b l v e sane cut =
    let p : IsPart true (kept b l v) (b v) = part true (kept b l v) (b v) cut sane (λ x h. kept_has b l v x e h) in
    record { low = p.low; order = sane-ends (kept b l v) cut; high = p.high }

below_both : (a b n : ℕ) → a ≤ b → b ≤ n → a ≤ n
below_both a b n h g = omega arith

pub kept_size : (k : SumRelation) (c : ℤ) (known : Ends) (b : ℕ → Start) (u : VarId) (l : Literal) → IsSlack k c known b u → is_end l.rel ≡ true
    → IsSane (b u.0) → IsSane (kept b l u.0) → size_of (scaled_ends c (ends_of (kept b l u.0))) ≤ 2 ^ 101
kept_size k c known b u l s e sane cut =
    below_both (size_of (scaled_ends c (ends_of (kept b l u.0)))) (size_of (scaled_ends c (ends_of (b u.0)))) (2 ^ 101)
    (smaller_size (scaled_ends c (ends_of (kept b l u.0))) (scaled_ends c (ends_of (b u.0))) (scaled_in c (ends_of (kept b l u.0)) (ends_of (b u.0)) (ends_part b l u.0 e sane cut)))
    (own_size k c known b u s)

-- ---- what a truth makes of it

-- the answer for the box with the bound
pub truth_answer : (k : LinearReified) (c : ℤ) (known span : Ends) (b : ℕ → Start) (l : Literal) (old new t truth : Ends) → IsTruthSlack k c known span b l.var
    → old ≡ scaled_ends c (ends_of (b l.var.0)) → new ≡ scaled_ends c (ends_of (kept b l l.var.0)) → t ≡ replaced_ends known old new → truth ≡ truth_over k.sum.relation t k.sum.bound
    → have_none truth span ≡ reified_refuted k (kept b l)
truth_answer k c known span b l old new t truth s e f g h =
    let sum : t ≡ total k.sum.terms (arg_ends (hulls (kept b l))) =
    g ∙ ap (λ (x : Ends). replaced_ends known x new) e ∙ ap (replaced_ends known (scaled_ends c (ends_of (b l.var.0)))) f ∙ sym (kept_total k.sum c known b l.var l s.slack refl) in
    ap (λ (x : Ends). have_none x span) (h ∙ ap (λ (x : Ends). truth_over k.sum.relation x k.sum.bound) sum)
    ∙ ap (have_none (truth_over k.sum.relation (total k.sum.terms (arg_ends (hulls (kept b l)))) k.sum.bound)) (s.output ∙ sym (same_output b l k.output s.other))

-- ---- one question about a term's variable

module _ (m : Box) (k : LinearReified) (c : ℤ) (known span : Ends) (l : Literal) (s : IsTruthSlack k c known span (cell_of m) l.var)
    (asked : IsBound (reified_vars k) (length m.starts) (cell_of m) l) (sound : IsBox m) where
  sum_below : AllBelow (length m.starts) (sum_vars k.sum)
  sum_below = (each_new_arg (λ w. w.0 < length m.starts) (sum_vars k.sum) k.output asked.below).0

  pub term_below : l.var.0 < length m.starts
  term_below = own_has (λ w. w.0 < length m.starts) k.sum c known (cell_of m) l.var s.slack sum_below

  pub term_sane : IsSane (cell_of m l.var.0)
  term_sane = sound.cells l.var.0 term_below

  pub term_kept : IsSane (kept (cell_of m) l l.var.0)
  term_kept = kept_sane (cell_of m) l l.var.0 asked.value asked.end_is asked.has asked.holds term_sane

  pub kept_part : size_of (scaled_ends c (ends_of (kept (cell_of m) l l.var.0))) ≤ 2 ^ 101
  kept_part = kept_size k.sum c known (cell_of m) l.var l s.slack asked.end_is term_sane term_kept

  pub other_parts : (known.lo -ℤ (scaled_ends c (ends_of (cell_of m l.var.0))).lo) ≤ℤ (known.hi -ℤ (scaled_ends c (ends_of (cell_of m l.var.0))).hi)
  other_parts = rest_ordered k.sum c known (cell_of m) l.var s.slack (box-sane m (sum_vars k.sum) sound sum_below)
