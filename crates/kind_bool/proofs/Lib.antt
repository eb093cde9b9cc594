mod ClauseLaws
mod XorTruths
