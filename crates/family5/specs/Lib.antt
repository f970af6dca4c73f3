pub mod ThreeParallel
