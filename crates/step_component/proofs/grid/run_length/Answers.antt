use Rattle.std.proofs.Common.{◌≡◌, suc, ◌+◌, ◌-◌, ◌<◌, arith}
use Rattle.search_pairs.specs.Row.{points}
use Rattle.step_component.proofs.ComponentLaws.{run_goes}
use Rattle.step_component.proofs.grid.run_length.Goals as goal

pub loop-at-preserved : goal.loop-at-preserved
loop-at-preserved c =
    let l = c.args.from in
    let at = c.loop-at.at in
    let a : l + (at - l) ≡ at = omega (arith, c.loop-at.auto.at) in
    let b : at - l < suc c.args.n - l = omega (arith, c.loop-at-test.true, c.loop-at.auto.at) in
    let k : at + 1 - l ≡ at - l + 1 = omega (arith, c.loop-at.auto.at) in
    run_goes (points c.args.grid) (suc c.args.n - l) l (at - l) at c.loop-at.invariant a b c.at-p.ensures c.is_finite.ensures (at + 1 - l) k c.if-not-is_finite.false
