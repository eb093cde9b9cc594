use Rattle.fzn_forms.proofs.typed.array.Goals as goal

pub returns-in-None : goal.returns-in-None
returns-in-None c = let none = rw c.in-None.is at c.in_ok-args_of.ensures in λ a h. none h.0 h.2
