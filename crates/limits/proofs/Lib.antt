pub mod Laws
pub mod Filter
pub mod Each
