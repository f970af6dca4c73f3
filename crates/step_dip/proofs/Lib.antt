pub mod GoldenLaws
pub mod DipLaws
