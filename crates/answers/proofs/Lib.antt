pub mod Rows
pub mod RowSteps
pub mod One
pub mod Laws
pub mod Held
pub mod Steps
pub mod Kept
pub mod InTurn
