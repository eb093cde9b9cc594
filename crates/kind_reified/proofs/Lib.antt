mod ArguedLaws
mod KeepLaws
mod OpenLaws
mod ReplacedLaws
mod TruthNextLaws
