-- `rem_tau` meets its contract, by the cases of its tests. Assumes nothing.
use Rattle.std.proofs.Common.{T, sym, subst, ap, ◌∙◌}
use lib.Ieee.{neg, of_bits}
use Rattle.scalar.proofs.Own.{rem_own}
use Rattle.scalar.proofs.Fraction.{negated, neg_rem, none_below, none_above}
use Rattle.scalar.proofs.wrap.rem_tau.Goals as goal

pub returns-then-x-2 : goal.returns-then-x-2
returns-then-x-2 c = rem_own c.args.x (subst T (sym c.well_formed.0.1) tt) c.if-x.true c.if-x-2.true

pub rem_positive-requires : goal.rem_positive-requires
unfolding of_bits neg
rem_positive-requires c = negated c.args.x c.if-x.true c.if-x-2.false c.if-x-3.true

pub returns-then-x-3 : goal.returns-then-x-3
unfolding of_bits neg
returns-then-x-3 c = ap neg c.rem_positive.ensures ∙ neg_rem c.args.x c.if-x.true c.if-x-2.false c.if-x-3.true

pub returns-then-x : goal.returns-then-x
unfolding of_bits neg
returns-then-x c = none_below c.args.x c.if-x.true c.if-x-3.false

pub rem_positive-requires-then-x-4 : goal.rem_positive-requires-then-x-4
unfolding of_bits
rem_positive-requires-then-x-4 c = (c.if-x.false, c.if-x-4.true)

pub returns-else-x-4 : goal.returns-else-x-4
unfolding of_bits
returns-else-x-4 c = none_above c.args.x c.if-x.false c.if-x-4.false
