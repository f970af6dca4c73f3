-- The loop keeps `Kept`, to the end of the roots.
use mathlib.Core.Path.{sym, ap, ◌∙◌}
use native.Mathlib.Omega.{arith}
use lib.Ieee.{Float}
use Rattle.array_vec.specs.ArrayVec.{ArrayVec}
use Rattle.polynomial.proofs.Filter.{kept, passed, whole}
use Rattle.polynomial.proofs.reals.real_parts.Goals as goal
use Rattle.polynomial.proofs.reals.real_parts.Goals.{then-abs-epsilon, else-abs-epsilon}

pub loop-z-init : goal.loop-z-init
loop-z-init c = rw c.new-reals.ensures (record { fewer = omega arith; so_far = cc })

pub push-requires : goal.push-requires
push-requires c = (omega arith, omega (arith, c.loop-z.invariant.fewer, c.deref-z-items.ensures))

pub loop-z-preserved : goal.loop-z-preserved
loop-z-preserved c =
    elim c.if-abs-epsilon.branch [
      | then-abs-epsilon w ↦
          let e = ap (λ (v : ArrayVec Float). v.items) w.reals-is ∙ w.push.ensures.items in
          search kept
      | else-abs-epsilon w ↦ let e = ap (λ (v : ArrayVec Float). v.items) w.reals-is in search passed
    ]

pub returns : goal.returns
returns c =
    let e = whole _ _ _ _ c.loop-z.invariant c.loop-z-test.false in
    rw (sym c.deref-z-items.ensures.0) e
