-- What the proofs of this crate share: a file a thing.
pub mod Finding
pub mod Numbered
pub mod Skipping
