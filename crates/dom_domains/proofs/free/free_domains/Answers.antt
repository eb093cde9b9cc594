-- One variable more, the first with a fault, and the end.
use Rattle.std.proofs.Common.{[]}
use Rattle.std.proofs.lemmas.Result.{err_from_is_err_and}
use Rattle.dom_definers.specs.Definers.{definer_at}
use Rattle.dom_domains.specs.Allowed.{values_of}
use Rattle.dom_domains.specs.FreeDomains.{with_free}
use Rattle.dom_domains.proofs.PassLaws.{all_domains, fault_found, more_domains, next_domain, next_faultless, next_small}
use Rattle.dom_domains.proofs.free.free_domains.Goals as goal

pub returns-in_err-add_domain : goal.returns-in_err-add_domain
returns-in_err-add_domain c =
    let p = err_from_is_err_and c.from_residual.result c.from_residual.ensures.1 in
    rw (p.1, p.2)
    (fault_found c.args.variables.now c.args.definers.now c.loop-number.number c.index-variables-number.result c.in_err-add_domain.field-0.0 c.loop-number-test.true c.index-variables-number.is
    c.loop-number.invariant.faultless c.in_err-add_domain.ensures.fault)

pub loop-number-preserved : goal.loop-number-preserved
loop-number-preserved c =
    let v = c.index-variables-number.result in
    let n = c.loop-number.number in
    record {
      left = next_domain c.args.variables.now c.args.definers.now n v c.loop-number.domains.items c.add_domain.new.domains.items c.loop-number-test.true c.requires.whole c.index-variables-number.is
          c.in_ok-add_domain.ensures.added c.loop-number.invariant.left;
      are_domains = more_domains c.loop-number.domains.items (with_free (definer_at c.args.definers.now n) (values_of v) []) c.add_domain.new.domains.items c.in_ok-add_domain.ensures.added
          c.loop-number.invariant.are_domains c.in_ok-add_domain.ensures.domain;
      small = next_small c.args.variables.now n v c.loop-number-test.true c.loop-number.invariant.small;
      faultless = next_faultless c.args.variables.now c.args.definers.now n v c.loop-number-test.true c.index-variables-number.is c.in_ok-add_domain.ensures.none c.loop-number.invariant.faultless;
    }

pub returns : goal.returns
returns c =
    all_domains c.args.variables.now c.args.definers.now c.loop-number.number c.loop-number.domains.items c.loop-number-test.false c.loop-number.invariant.left c.loop-number.invariant.are_domains
    c.loop-number.invariant.faultless
