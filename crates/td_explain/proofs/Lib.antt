-- What the proofs of this crate share: a file a thing.
pub mod Spots
pub mod Showing
pub mod Flaws
pub mod Fronts
pub mod Unreads
pub mod Tails
pub mod LineSpots
pub mod StanzaSpots
