pub mod SolvedLaws
