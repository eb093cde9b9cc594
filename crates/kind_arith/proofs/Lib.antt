mod ArgumentLaws
mod SharedLaws
mod VisitLaws
