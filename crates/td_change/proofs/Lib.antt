-- What the proofs of this crate share: a file a thing.
pub mod Numbers
pub mod Backs
pub mod Plans
pub mod Passing
