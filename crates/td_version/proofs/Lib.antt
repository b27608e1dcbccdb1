-- What the proofs of this crate share: a file a thing.
pub mod Digits
pub mod Comparing
pub mod Cuts
pub mod Outcomes
pub mod Epoch
pub mod Judging
pub mod Plain
pub mod Rebuilds
pub mod Total
pub mod Rising
pub mod Suffixed
pub mod Bases
pub mod Turns
