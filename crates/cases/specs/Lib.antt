pub mod Results
pub mod Tally
