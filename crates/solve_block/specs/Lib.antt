pub mod SolveBlock
