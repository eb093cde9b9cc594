-- A relation that is kept: it stays by the change alone, or it is certain afterwards.
use Rattle.std.proofs.Common.{◌≡◌, Bool, true, false, ◌||◌, ℤ, refl, sym, ◌∙◌, ap}
use Rattle.dom_core.specs.Ends.{Ends}
use Rattle.dom_core.specs.declared.relation.Relation.{Relation}
use Rattle.dom_core.specs.declared.relation.Relation.TheVariants.{AtMost, Equal, Differ}
use Rattle.dom_core.proofs.RisesLaws.{or_left}
use Rattle.kind_parts.specs.Relation.{certain_by, kept_by}
use Rattle.kind_sum.specs.SumRelation.{stays_by}

kept_parts : (r : Relation) (change after : Ends) (c : ℤ) → kept_by r change after c ≡ (stays_by r change || certain_by r after c)
kept_parts AtMost change after c = refl
kept_parts Equal change after c = refl
kept_parts Differ change after c = refl

-- where the change alone decides
pub stays_kept : (r : Relation) (change after : Ends) (c : ℤ) → stays_by r change ≡ true → true ≡ kept_by r change after c
stays_kept r change after c h = sym (kept_parts r change after c ∙ or_left (stays_by r change) (certain_by r after c) h)

-- where the values afterwards decide
pub certain_kept : (r : Relation) (change after : Ends) (c : ℤ) → stays_by r change ≡ false → certain_by r after c ≡ kept_by r change after c
certain_kept r change after c h = sym (kept_parts r change after c ∙ ap (λ (b : Bool). b || certain_by r after c) h)
