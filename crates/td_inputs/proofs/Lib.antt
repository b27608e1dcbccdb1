-- What the proofs of this crate share: a file a thing.
pub mod LackingRows
pub mod StateLaws
pub mod Handing
pub mod OpeningLaws
