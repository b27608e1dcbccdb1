-- What the proofs of this crate share: a file a thing.
pub mod StepWords
pub mod StepTexts
pub mod TextParts
pub mod Simulations
