-- What the proofs of this crate share: a file a thing.
pub mod NumberWrites
pub mod Places
pub mod Arrivals
pub mod AskedItems
pub mod SourceLookups
pub mod ArrivalLaws
