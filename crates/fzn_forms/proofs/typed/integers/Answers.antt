use Rattle.fzn_forms.proofs.typed.integers.Goals as goal

pub returns-in-None : goal.returns-in-None
returns-in-None c = let none = rw c.in-None.is at c.in_ok-ints_of.ensures.are in λ a h. none h.0 h.2
