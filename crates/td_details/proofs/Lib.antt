-- What the proofs of this crate share: a file a thing.
pub mod Counting
pub mod NeedsBuild
pub mod Texts
pub mod Seeking
pub mod AskedOnce
pub mod ListedTexts
pub mod EndsOfTexts
