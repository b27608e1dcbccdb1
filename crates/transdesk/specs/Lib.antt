-- What the contracts of the program cite: a file a thing.
pub mod Unknown
