-- The refinement's evaluations are few, and its pair goes on from them.
use Rattle.std.proofs.Common.{ap, arith}
use Rattle.search_definition.proofs.Bounds.{refine_asks}
use Rattle.search_error.specs.Fixed.{branch_error}
use Rattle.search_refine.specs.Counted.{evals_of}
use Rattle.search_refine.specs.Point.{point_of}
use Rattle.search_pairs.specs.State.{state}
use Rattle.search_pairs.proofs.States.{after_refined}
use Rattle.search_pairs.proofs.lent_pairs.LentPairs.put_refined.Goals as goal

pub overflow_add-self : goal.overflow_add-self
overflow_add-self c =
    let a = c.args in
    omega (arith, refine_asks (branch_error a.branch.now) a.a.x a.b.x a.a.y a.b.y, ap evals_of c.refine_bracket-root.ensures, c.requires.1)

pub returns : goal.returns
returns c =
    let a = c.args in
    λ o e. after_refined (branch_error a.branch.now) o (point_of a.a) (point_of a.b) (state a.self.now) c.refine_bracket-root.ensures (c.put_pair.ensures o e)
