pub mod Block
pub mod Steps
pub mod Run
pub mod UsableLaws
pub mod RegisterLaws
