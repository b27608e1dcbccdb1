-- What the proofs of this crate share: a file a thing.
pub mod Certificate
pub mod Uses
pub mod Released
pub mod Counting
pub mod Underway
pub mod Along
pub mod Depths
pub mod Passing
pub mod SameLevel
pub mod Places
pub mod Names
pub mod Finding
pub mod Graphs
pub mod MadeEdges
pub mod Standing
pub mod AskingLaws
