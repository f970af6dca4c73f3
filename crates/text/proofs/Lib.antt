pub mod Laws
pub mod Long
pub mod Value
pub mod Known
