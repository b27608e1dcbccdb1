-- What contracts within this crate cite, of rows and blocks in memory: a file a thing.
pub mod ItemLines
pub mod Grouped
pub mod Blocks
pub mod LinesText
