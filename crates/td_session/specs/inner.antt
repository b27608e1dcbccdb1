-- What contracts cite for the code's sake.
pub mod Grounding
pub mod Holding
pub mod Judging
