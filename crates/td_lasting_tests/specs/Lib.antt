-- What the contracts of these tests cite: a file a thing.
pub mod Places
