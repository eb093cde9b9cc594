-- The domain that was built, and the count of one that is too large.
use Rattle.std.proofs.Common.{subst, Ok, Err, Option, Some, List, ℤ}
use Rattle.dom_core.specs.declared.domain.DomainError.{DomainError}
use Rattle.dom_definers.specs.Domains.{GivesDomain, IsDomainOf}
use Rattle.dom_domains.proofs.FreeLaws.{free_domain, free_large}
use Rattle.dom_domains.proofs.free.free_domain.Goals as goal

pub returns-in-Ok-Some : goal.returns-in-Ok-Some
returns-in-Ok-Some c =
    free_domain c.args.variable.now c.args.var c.in-Ok-Some.domain
    (subst (λ (r : Option (List ℤ)). GivesDomain (IsDomainOf c.args.variable.now) (Ok r)) c.in-Ok-Some.field-0-is c.in-Ok-Some.ensures)

pub returns-in-Err-TooLarge : goal.returns-in-Err-TooLarge
returns-in-Err-TooLarge c =
    free_large c.args.variable.now c.args.var c.in-Err-TooLarge.count
    (subst (λ (e : DomainError). IsDomainOf c.args.variable.now (Some (Err e))) c.in-Err-TooLarge.field-0-is c.in-Err-TooLarge.ensures)
