-- What contracts cite for the code's sake.
pub mod Answered
pub mod Inlets
pub mod Kept
pub mod Saving
pub mod Served
pub mod Unmarking
