-- What the contracts of this crate cite: a file a thing.
pub mod Levels
pub mod Graph
pub mod Levelling
pub mod BuildsOn
pub mod Named
pub mod Providers
pub mod Asking
pub mod Edges
pub mod Waves
pub mod WavesView
pub mod BuildsOnLaws
