use Rattle.std.proofs.Common.{◌≡◌, ◌∙◌, ap, w64}
use Rattle.std.proofs.lemmas.Int.{to_z-of_z}
use Rattle.std.specs.List.{list_any}
use Rattle.std.specs.Ordering.{int_eq}
use Rattle.dom_core.specs.Rises.{is_among}
use Rattle.kind_parts.proofs.CellLaws.{any_among}
use Rattle.kind_parts.proofs.sets.set_has.Goals as goal

pub returns-in-Values : goal.returns-in-Values
returns-in-Values c =
    let listed : c.lists.result ≡ list_any (int_eq c.args.value) c.as_slice.result.now = rw (to_z-of_z w64 c.args.value c.ranges.value) at c.lists.ensures in
    rw c.in-Values.is (listed ∙ any_among c.args.value c.as_slice.result.now ∙ ap (is_among c.args.value) c.as_slice.ensures)
