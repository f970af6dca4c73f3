-- Document 01's three lines, and its NaN.
use mathlib.Core.Path.{◌≡◌, refl}
use lib.Ieee.{nan, inf, binary64, of_bits, to_bits}
use mathlib.Core.Bool.{true}
use Rattle.text.specs.Text.{text, digits, places, decimal, hex}
use Rattle.text.specs.Lists.{field, head}

pub first : head 0 0 0 0 ≡ text "block 0 refusal 0 answers 0 evals 0\n"
unfolding head field decimal digits places
first = refl

pub second : head 1 0 0 201 ≡ text "block 1 refusal 0 answers 0 evals 201\n"
unfolding head field decimal digits places
second = refl

pub third : head 2 4 0 0 ≡ text "block 2 refusal 4 answers 0 evals 0\n"
unfolding head field decimal digits places
third = refl

-- "Every NaN prints as 7ff8000000000000."
pub every_nan : hex nan ≡ text "7ff8000000000000"
unfolding hex digits to_bits
every_nan = refl

-- minus infinity, and the angle pi
pub minus_infinity : hex (inf true) ≡ text "fff0000000000000"
unfolding hex digits to_bits
minus_infinity = refl

pub half_turn : hex (of_bits binary64 0x4009_21fb_5444_2d18) ≡ text "400921fb54442d18"
unfolding hex digits to_bits of_bits
half_turn = refl

-- the largest place
pub largest : decimal 18446744073709551615 ≡ text "18446744073709551615"
unfolding decimal digits places
largest = refl
