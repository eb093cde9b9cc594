-- The answer for the occurrences of a text, once its declared names are added.
use Rattle.std.proofs.Common.{◌≡◌, ℕ, ◌<◌, ◌≤◌, List, length, take, get_or, Option, None, Some, Ok, sym, ◌∙◌, ap, subst, arith}
use Rattle.std.proofs.Math.ListN.{get_or-map}
use Rattle.fzn_symbols.specs.declared.error.NameError.TheVariants.{NameTwice, UnknownName}
use Rattle.fzn_symbols.specs.declared.occurrence.Occurrence.{Occurrence}
use Rattle.fzn_symbols.specs.Counted.{IsCounted, IsFirstDouble, IsFirstUnknown, IsNowhere, fine_of}
use Rattle.fzn_symbols.specs.Marks.{mark_of, marks_of}
use Rattle.fzn_symbols.specs.Numbered.{Mark, IsFirstFault, IsNumbered}
use Rattle.fzn_symbols.proofs.Counting.{fine_within}
use Rattle.fzn_symbols.proofs.Marked.{marks_front, marks_count}
use Rattle.fzn_symbols.proofs.Whole.{first_is_unknown, first_is_double, nothing_wrong}

pub place_within : (os : List Occurrence) (names : List (List ℕ)) (double : Option ℕ) (place : ℕ) → IsCounted (marks_of os) (length (marks_of os)) names double → double ≡ Some place → place < length os
place_within os names double place counted is =
    let first : IsFirstDouble (marks_of os) (length (marks_of os)) names (Some place) = subst (IsFirstDouble (marks_of os) (length (marks_of os)) names) is counted.first in
    omega (arith, first.0, marks_count os)

module _ (os : List Occurrence) (names : List (List ℕ)) (double : Option ℕ) (counted : IsCounted (marks_of os) (length (marks_of os)) names double) (fine : ℕ) (fine_is : fine ≡ fine_of double (length os)) where
  fine_too : fine ≡ fine_of double (length (marks_of os))
  fine_too = fine_is ∙ ap (fine_of double) (sym (marks_count os))

  pub fine_inside : fine ≤ length os
  fine_inside = omega (arith, fine_too, fine_within (marks_of os) names double counted.first, marks_count os)

  front_too : IsNowhere names (marks_of (take fine os)) → IsNowhere names (take fine (marks_of os))
  front_too nowhere = subst (IsNowhere names) (marks_front fine os) nowhere

  pub unknown_told : (at : ℕ) → IsFirstUnknown names (marks_of (take fine os)) at → IsFirstFault (marks_of os) (UnknownName at)
  unknown_told at h =
      first_is_unknown (marks_of os) names double counted fine fine_too at (subst (λ (ms : List Mark). IsFirstUnknown names ms at) (marks_front fine os) h)

  pub double_told : (place : ℕ) (d : Occurrence) → double ≡ Some place → IsNowhere names (marks_of (take fine os)) → IsFirstFault (marks_of os) (NameTwice (get_or os place d).at)
  double_told place d is nowhere =
      subst (λ (m : Mark). IsFirstFault (marks_of os) (NameTwice m.at)) (get_or-map mark_of os place d)
      (first_is_double (marks_of os) names double counted fine fine_too place (mark_of d) is (front_too nowhere))

  pub names_told : double ≡ None → IsNowhere names (marks_of (take fine os)) → IsNumbered (marks_of os) (Ok names)
  names_told is nowhere = nothing_wrong (marks_of os) names double counted fine fine_too is (front_too nowhere)
