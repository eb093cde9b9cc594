use Rattle.std.proofs.Common.{◌≡◌, ◌∙◌, sym, ap, ◌+◌, ◌||◌, Bool, not, List, take, drop}
use Rattle.std.proofs.lemmas.List.{take_rest}
use Rattle.dom_core.specs.declared.arg.Arg.{Arg}
use Rattle.kind_sum.specs.Place.{is_alone, others_at}
use Rattle.kind_law.specs.Argument.{is_listed}
use Rattle.kind_sum.specs.Sum.{vars_of}
use Rattle.kind_sum.specs.declared.term.Term.{Term}
use Rattle.kind_sum.proofs.VarLaws.{listed-append}
use Rattle.kind_sum.proofs.terms.is_alone.Goals as goal

pub returns-then-not-is_read : goal.returns-then-not-is_read
returns-then-not-is_read c =
    let all : is_listed c.in-Var.var (vars_of (others_at c.args.terms.now c.args.place)) ≡ is_listed c.in-Var.var (vars_of (drop (c.args.place + 1) c.args.terms.now)) =
    listed-append c.in-Var.var (take c.args.place c.args.terms.now) (drop (c.args.place + 1) c.args.terms.now)
    ∙ ap (λ (b : Bool). b || is_listed c.in-Var.var (vars_of (drop (c.args.place + 1) c.args.terms.now))) (sym c.is_read.ensures ∙ c.if-not-is_read.true) in
    ap not (c.is_read-then-not-is_read.ensures ∙ ap (λ (ts : List Term). is_listed c.in-Var.var (vars_of ts)) (take_rest c.args.terms.now (c.args.place + 1)) ∙ sym all) ∙ sym (ap (λ (x : Arg). is_alone x (others_at c.args.terms.now c.args.place)) c.in-Var.is)

pub returns-else-not-is_read : goal.returns-else-not-is_read
returns-else-not-is_read c =
    let all = listed-append c.in-Var.var (take c.args.place c.args.terms.now) (drop (c.args.place + 1) c.args.terms.now)
    ∙ ap (λ (b : Bool). b || is_listed c.in-Var.var (vars_of (drop (c.args.place + 1) c.args.terms.now))) (sym c.is_read.ensures ∙ c.if-not-is_read.false) in
    ap not (c.if-not-is_read.false ∙ sym all) ∙ sym (ap (λ (x : Arg). is_alone x (others_at c.args.terms.now c.args.place)) c.in-Var.is)
