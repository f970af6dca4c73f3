pub mod LimitsBlock
