-- The lowest point's evaluations are few, and what is listed goes on from them.
use Rattle.std.proofs.Common.{refl, arith}
use Rattle.search_definition.specs.Found.{grid, crossing, only, before, after, component}
use Rattle.search_error.specs.Fixed.{branch_error}
use Rattle.search_refine.specs.Point.{point_of}
use Rattle.search_pairs.specs.State.{state}
use Rattle.search_pairs.proofs.States.{refined_few}
use Rattle.search_dip.proofs.Dips.{lowest_few, dip_none, dip_tangent, dip_two}
use Rattle.search_dip.proofs.dip.minimise_dip.Goals as goal

pub overflow_add-list : goal.overflow_add-list
overflow_add-list c = omega (arith, lowest_few _ _ _ _ c.lowest-v.ensures, c.requires.1)

pub put_refined-requires : goal.put_refined-requires
put_refined-requires c = (omega (arith, c.requires.0), omega (arith, lowest_few _ _ _ _ c.lowest-v.ensures, c.requires.1))

pub put_refined-requires-then-v : goal.put_refined-requires-then-v
unfolding component
put_refined-requires-then-v c =
    let w = refined_few (branch_error c.args.branch.now) (grid c.args.branch.now.i (crossing 0)) _ _ _ (c.put_refined.ensures (grid c.args.branch.now.i (crossing 0)) refl) in
    (omega (arith, w.0, c.requires.0), omega (arith, w.1, lowest_few _ _ _ _ c.lowest-v.ensures, c.requires.1))

pub returns-then-v : goal.returns-then-v
returns-then-v c =
    let a = c.args in
    λ o e.
    dip_two (branch_error a.branch.now) o (point_of a.a) (point_of a.b) (state a.list.now) c.sign_of-sign.ensures c.lowest-v.ensures
    c.if-v.true (c.put_refined.ensures (o before) (e before)) (c.put_refined-then-v.ensures (o after) (e after))

pub returns-then-is_finite : goal.returns-then-is_finite
returns-then-is_finite c =
    let a = c.args in
    λ o e.
    dip_tangent (branch_error a.branch.now) o (point_of a.a) (point_of a.b) (state a.list.now) c.sign_of-sign.ensures c.lowest-v.ensures
    c.is_finite.ensures c.if-v.false c.if-is_finite.true (c.put_pair.ensures (o only) (e only))

pub returns-else-is_finite : goal.returns-else-is_finite
returns-else-is_finite c =
    let a = c.args in
    λ o e.
    dip_none (branch_error a.branch.now) o (point_of a.a) (point_of a.b) (state a.list.now) c.sign_of-sign.ensures c.lowest-v.ensures
    c.is_finite.ensures c.if-v.false c.if-is_finite.false
