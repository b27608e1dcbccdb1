-- What the proofs of this crate share: a file a thing.
pub mod Behind
pub mod Failures
pub mod Moved
pub mod Prefixes
pub mod Utf8
