-- What contracts say for the code's sake: how a state file is put over rows, and each text by
-- itself.
pub mod StateOver
pub mod Reading
