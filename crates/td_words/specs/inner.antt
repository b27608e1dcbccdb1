-- What contracts within this crate cite.
pub mod Judged
