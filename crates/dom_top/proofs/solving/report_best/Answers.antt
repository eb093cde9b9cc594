-- The least assignment has a value for each variable.
use Rattle.dom_domains.proofs.AllowedLaws.{allowed_places}
use Rattle.dom_top.proofs.solving.report_best.Goals as goal

pub answer_text-requires : goal.answer_text-requires
answer_text-requires g c =
    let places = (allowed_places c.args.model.now.variables c.args.best.now).0 c.requires.least.feasible.allowed in
    places.0
