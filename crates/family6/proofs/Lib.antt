pub mod SameAnswer
pub mod Held
pub mod AtMost44
