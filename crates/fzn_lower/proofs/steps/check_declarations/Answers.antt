use Rattle.std.proofs.Common.{◌≡◌, ◌∙◌, ap, Some}
use Rattle.fzn_check.specs.declared.fault.Fault.TheVariants.{IllTyped, FloatOrSet}
use Rattle.fzn_lower.proofs.Chained.{fine_declarations, faulty_declaration}
use Rattle.fzn_lower.proofs.steps.check_declarations.Goals as goal

pub returns-in-None : goal.returns-in-None
returns-in-None c = fine_declarations c.args.scope.now c.args.items.now.declarations c.in_ok-first_declaration_fault.field-0 c.requires c.in-None.is c.in_ok-first_declaration_fault.ensures

pub returns-in-Some-IllTyped : goal.returns-in-Some-IllTyped
returns-in-Some-IllTyped c =
    faulty_declaration c.args.scope.now c.args.items.now.declarations c.in_ok-first_declaration_fault.field-0 (IllTyped c.in-Some-IllTyped.at) c.requires
    (c.in-Some-IllTyped.is ∙ ap Some c.in-Some-IllTyped.field-0-is) c.in_ok-first_declaration_fault.ensures

pub returns-in-Some-FloatOrSet : goal.returns-in-Some-FloatOrSet
returns-in-Some-FloatOrSet c =
    faulty_declaration c.args.scope.now c.args.items.now.declarations c.in_ok-first_declaration_fault.field-0 (FloatOrSet c.in-Some-FloatOrSet.at) c.requires
    (c.in-Some-FloatOrSet.is ∙ ap Some c.in-Some-FloatOrSet.field-0-is) c.in_ok-first_declaration_fault.ensures
