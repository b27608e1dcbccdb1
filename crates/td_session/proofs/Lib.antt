-- What the proofs of this crate share: a file a thing.
pub mod KeyNames
pub mod HeaderLines
pub mod Grounds
pub mod Refusals
pub mod Endings
