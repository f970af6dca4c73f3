pub mod ArrayVec
