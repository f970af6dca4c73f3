pub mod Valley
