-- What was read is the file, or its first bytes.
use Rattle.std.proofs.Common.{◌∙◌, arith, refl}
use Rattle.dom_top.proofs.AnswerLemmas.{show_answered}
use Rattle.dom_top.proofs.running.show_file.Goals as goal

pub returns-in-Ok-clause-right : goal.returns-in-Ok-clause-right
returns-in-Ok-clause-right g c =
    show_answered _ c.args.model.now c.as_slice.result.now 16777217 (omega arith)
    (λ missing. let failed = c.in-Ok.ensures.missing missing (omega arith) in cc)
    (λ file holds. c.as_slice.ensures.value ∙ c.in-Ok.ensures.read file holds)
    refl
    _ c.show_text.ensures.right
