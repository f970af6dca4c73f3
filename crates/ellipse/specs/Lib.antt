pub mod Ellipse
