-- What contracts say for the code's sake: how the packages of a command are looked up.
pub mod Places
