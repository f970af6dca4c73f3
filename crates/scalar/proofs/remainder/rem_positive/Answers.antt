-- `rem_positive` meets its contract: the value is a whole number of units. Assumes nothing.
use Rattle.std.proofs.Common.{T, sym, subst, ◌∙◌}
use Rattle.scalar.proofs.Fraction.{bits_in, rem_is}
use Rattle.scalar.proofs.remainder.rem_positive.Goals as goal

pub rem_bits-requires : goal.rem_bits-requires
rem_bits-requires c = bits_in c.args.x (subst T (sym c.well_formed.0.1) tt) c.requires.0 c.requires.1

pub returns : goal.returns
returns c = c.from_units.ensures ∙ rem_is c.args.x c.rem_bits.result (subst T (sym c.well_formed.0.1) tt) c.requires.0 c.requires.1 c.rem_bits.ensures.0
