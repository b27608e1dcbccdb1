-- What contracts cite only for the code's sake.
pub mod Settling
pub mod Alike
pub mod MarkParts
