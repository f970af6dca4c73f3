pub mod SolutionSet2
pub mod SolutionSet4
