-- What the contracts of this crate cite: a file a thing.
pub mod Answers
pub mod Faults
pub mod Output
pub mod SimulationText
pub mod StepLines
pub mod StepReading
