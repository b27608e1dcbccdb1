-- What the contracts of this crate cite: a file a thing.
pub mod Places
pub mod Numbers
pub mod Supplied
pub mod Arrivals
pub mod Supply
pub mod VersionTexts
pub mod SupplyViews
pub mod Asking
pub mod SupplyLaws
