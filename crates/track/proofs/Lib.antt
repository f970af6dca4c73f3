pub mod SevenRows
pub mod Accepted
pub mod Numbers
pub mod TrackDemand3
pub mod TrackLent
pub mod Solves
