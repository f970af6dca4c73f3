pub mod Elbow
