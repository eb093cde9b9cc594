-- One piece more is cut, and a cut text has its tokens in order.
use Rattle.std.proofs.Common.{arith, drop}
use Rattle.std.proofs.lemmas.List.{length-drop}
use Rattle.fzn_lex.specs.Heading.{IsTaken}
use Rattle.fzn_lex.proofs.Fronts.{front_more, front_whole, whole_tokens}
use Rattle.fzn_lex.proofs.lexing.lex.Goals as goal

pub pieces-preserved : goal.pieces-preserved
pieces-preserved c =
    let t : IsTaken (drop c.pieces.at c.args.bytes.now) c.in-Ok.piece = rw c.after.ensures at c.in-Ok.ensures in
    record {
      front = rw c.in_ok-tell-in-Ok.ensures.ok (front_more c.args.bytes.now c.pieces.at c.pieces.tokens.items c.in-Ok.piece c.pieces.invariant.front t);
      within = let f = t.fits in let l = length-drop c.pieces.at c.args.bytes.now in omega arith;
      short = c.pieces.invariant.short;
    }

pub returns-clause-spans : goal.returns-clause-spans
returns-clause-spans c =
    whole_tokens c.args.bytes.now c.pieces.tokens.items (front_whole c.args.bytes.now c.pieces.at c.pieces.tokens.items c.pieces.invariant.front c.pieces-test.false)
