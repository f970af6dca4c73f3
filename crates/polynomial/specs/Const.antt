-- The 1e-12 of subproblems/auxiliary.rs.
use Rattle.std.specs.Prelude.{Float}
use Rattle.std.specs.Float.{binary64}
use Rattle.std.specs.Float.Ieee.{of_bits}

-- by its bits: below it a leading coefficient counts as zero, and an imaginary part too
abbrev pub epsilon : Float
epsilon = of_bits binary64 0x3d71_9799_812d_ea11
