pub mod Full
pub mod Task
pub mod Listed
