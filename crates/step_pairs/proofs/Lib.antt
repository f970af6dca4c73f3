pub mod LandedLaws
