pub mod Fractions
pub mod RootGap
