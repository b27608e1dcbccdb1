-- What the proofs of this crate share: a file a thing.
pub mod Texts
pub mod Lists
pub mod Splits
pub mod SeenRows
pub mod Items
pub mod Unaffected
pub mod Opened
pub mod OneText
pub mod Once
pub mod Counts
