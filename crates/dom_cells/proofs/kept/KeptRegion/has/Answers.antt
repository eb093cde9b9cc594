use Rattle.std.proofs.Common.{◌≡◌, ◌∙◌, sym, ap, arith, w64, Bool, true, false, ◌&&◌}
use Rattle.std.proofs.lemmas.Int.{to_z-of_z}
use Rattle.dom_cells.specs.Cell.{has_of}
use Rattle.dom_cells.specs.Box.{cell_of}
use Rattle.dom_core.specs.Literal.{holds_at}
use Rattle.dom_cells.proofs.KeptLaws.{kept-has_same}
use Rattle.dom_cells.proofs.kept.KeptRegion.has.Goals as goal

pub returns-then-at : goal.returns-then-at
returns-then-at c =
    let at : c.args.self.now.literal.var.0 ≡ c.args.var.0 = omega arith in
    let held : holds_at c.args.self.now.literal c.args.value ≡ true = rw (to_z-of_z w64 c.args.value c.ranges.value) at (sym c.at.ensures ∙ c.if-at.true) in
    let has : c.has-then-at.result ≡ has_of (cell_of c.args.self.now.cells.now.state c.args.var.0) c.args.value = rw (to_z-of_z w64 c.args.value c.ranges.value) at c.has-then-at.ensures in
    has ∙ ap (λ (b : Bool). b && has_of (cell_of c.args.self.now.cells.now.state c.args.var.0) c.args.value) (sym held) ∙ kept-has_same c.args.var.0 (cell_of c.args.self.now.cells.now.state c.args.var.0) c.args.self.now.literal c.args.self.now.end at c.args.value

pub returns-else-at : goal.returns-else-at
returns-else-at c =
    let at : c.args.self.now.literal.var.0 ≡ c.args.var.0 = omega arith in
    let held : holds_at c.args.self.now.literal c.args.value ≡ false = rw (to_z-of_z w64 c.args.value c.ranges.value) at (sym c.at.ensures ∙ c.if-at.false) in
    c.if-at.false ∙ ap (λ (b : Bool). b && has_of (cell_of c.args.self.now.cells.now.state c.args.var.0) c.args.value) (sym held) ∙ kept-has_same c.args.var.0 (cell_of c.args.self.now.cells.now.state c.args.var.0) c.args.self.now.literal c.args.self.now.end at c.args.value
