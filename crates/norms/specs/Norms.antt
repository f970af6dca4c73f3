-- What can be told of two square roots without taking them: proofs/RootGap.antt has the laws.
use Rattle.std.specs.Prelude.{◌≡◌, true, false, Float}
use Rattle.std.specs.Float.{binary64}
use Rattle.std.specs.Float.Ieee.{of_bits, lt, le}
use Rattle.float.specs.Num.{◌⊖◌, millionth}
use Rattle.float.specs.Number.{abs}
use Rattle.float.specs.Root.{sqrt}

-- 1e-6, which subproblem1's flag and subproblem5's distance are held to
abbrev pub tolerance : Float
tolerance = millionth

-- 2^-20, which is below 1e-6, and 3 × 2^-21, which is above it
abbrev pub below_tolerance : Float
below_tolerance = of_bits binary64 0x3eb0_0000_0000_0000

abbrev pub above_tolerance : Float
above_tolerance = of_bits binary64 0x3eb8_0000_0000_0000

-- the roots come out at most 2^-20 apart
abbrev pub Near : Float → Float → Type 0
Near a b = le (abs (sqrt a ⊖ sqrt b)) below_tolerance ≡ true

-- they come out at least 3 × 2^-21 apart
abbrev pub Far : Float → Float → Type 0
Far a b = lt (abs (sqrt a ⊖ sqrt b)) above_tolerance ≡ false
