-- TAU as a whole number of units of 2 ^ -50.
use Rattle.std.specs.Prelude.{ℕ}

abbrev pub tau_digits : ℕ
tau_digits = 0x0019_21fb_5444_2d18
