pub mod Sevens
pub mod Reduced
pub mod Track
pub mod TrackDemand3
