pub mod Literals
pub mod RootCount
pub mod Filter
