use Rattle.std.proofs.Common.{sym}
use Rattle.std.proofs.lemmas.List.{length-map}
use Rattle.reading.specs.Readers.{none}
use Rattle.reading.proofs.Loops.{shorter, goes_on}
use Rattle.fzn_words.specs.Words.{words}
use Rattle.fzn_syntax.specs.ItemReading.{declaration_at, declarations_at}
use Rattle.fzn_syntax.specs.Items.{IsDeclaration}
use Rattle.fzn_syntax.proofs.Firsts.{leads}
use Rattle.fzn_syntax.proofs.ItemLaws.{declares, declaration_loops}
use Rattle.fzn_syntax.proofs.declaration.read_declarations.Goals as goal

pub more-smaller : goal.more-smaller
more-smaller c =
    simp length-map at (shorter IsDeclaration none (leads declares) declaration_at declaration_loops (words c.args.bytes.now c.more.rest.now) c.in_ok-declaration.declaration
    (words c.args.bytes.now c.in_ok-declaration.after.now) c.in_ok-declaration.ensures)

pub more-preserved : goal.more-preserved
more-preserved c =
    rw c.in_ok-push.ensures.items
    (goes_on IsDeclaration none (leads declares) declaration_at declaration_loops c.more.declarations.items (words c.args.bytes.now c.more.rest.now) c.in_ok-declaration.declaration
    (words c.args.bytes.now c.in_ok-declaration.after.now) (declarations_at (words c.args.bytes.now c.args.tokens.now)) (sym c.more-test.ensures) c.in_ok-declaration.ensures c.more.invariant)
