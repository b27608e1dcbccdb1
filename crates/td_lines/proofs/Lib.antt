-- What the proofs of this crate share: a file a thing.
pub mod Cuts
pub mod Packages
pub mod Typed
pub mod Counting
pub mod Told
