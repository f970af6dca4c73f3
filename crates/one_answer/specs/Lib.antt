pub mod OneAnswer
pub mod First
