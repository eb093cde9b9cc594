use Rattle.fzn_symbols.proofs.Texts.{unknown_told, double_told, names_told}
use Rattle.fzn_symbols.proofs.numbering.number_names.Goals as goal

pub returns-in-Some : goal.returns-in-Some
returns-in-Some c =
    unknown_told c.args.occurrences.now c.declare_all.new.names c.in_ok-double.double c.in_ok-double.ensures c.fine_of-fine.result c.fine_of-fine.ensures c.in-Some.at c.in-Some.ensures

pub returns-in-Some-double : goal.returns-in-Some-double
returns-in-Some-double c =
    double_told c.args.occurrences.now c.declare_all.new.names c.in_ok-double.double c.in_ok-double.ensures c.fine_of-fine.result c.fine_of-fine.ensures
    c.in-Some-double.place _ c.in-Some-double.is c.in_default.ensures

pub returns : goal.returns
returns c =
    names_told c.args.occurrences.now c.declare_all.new.names c.in_ok-double.double c.in_ok-double.ensures c.fine_of-fine.result c.fine_of-fine.ensures c.in-None.is c.in_default.ensures
