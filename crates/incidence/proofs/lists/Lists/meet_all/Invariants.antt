-- The numbers so far are met.
use Rattle.std.proofs.Common.{take}
use Rattle.std.specs.List.{Contains}
use Rattle.incidence.specs.Meeting.{Meets}
use Rattle.incidence.proofs.lists.Lists.meet_all.Given as goal

abbrev pub invariant-loop-number : goal.invariant-loop-number
invariant-loop-number l = record { met : Meets l.label (Contains (take l.number-index l.numbers)) l.fn.met l.fn.self l.met l.self }
