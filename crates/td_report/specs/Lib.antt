-- What the contracts of this crate cite: a file a thing.
pub mod Report
pub mod Transition
pub mod TransitionView
pub mod OpeningRows
pub mod Groups
pub mod Laws
pub mod inner
