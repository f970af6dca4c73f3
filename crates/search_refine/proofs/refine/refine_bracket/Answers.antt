-- Each way out of the loop, and the way on, is a step of the definition.
use Rattle.std.proofs.Common.{◌≡◌, ◌∙◌, sym, ap, arith}
use Rattle.search_definition.specs.Found.{run}
use Rattle.search_definition.specs.Refine.{Bracket, refine_step, refine_from, refine_bracket, reached}
use Rattle.search_error.specs.Fixed.{branch_error}
use Rattle.search_refine.specs.Bracket.{bracket_of}
use Rattle.search_refine.specs.Counted.{with_count, counted}
use Rattle.search_refine.proofs.Count.{counted_total, steps_end}
use Rattle.search_refine.proofs.RefineSteps.{leaves_at_next, leaves_at_value, leaves_near, goes_narrowed}
use Rattle.search_refine.proofs.refine.refine_bracket.Goals as goal

pub loop-evals-init : goal.loop-evals-init
unfolding refine_bracket refine_from
loop-evals-init c =
    ap (λ (b : Bracket). counted 0 (run (refine_step (branch_error c.args.branch.now)) reached 60 b)) c.between-bracket.ensures
    ∙ counted_total (refine_bracket (branch_error c.args.branch.now) c.args.a.x c.args.b.x c.args.a.y c.args.b.y)

pub returns-then-not-is_finite : goal.returns-then-not-is_finite
returns-then-not-is_finite c =
    leaves_at_next (branch_error c.args.branch.now) (bracket_of c.loop-evals.bracket) c.loop-evals.evals c.loop-evals.invariant c.loop-evals-test.true c.next-x.ensures c.is_finite.ensures c.if-not-is_finite.true

pub returns-then-not-is_finite-2 : goal.returns-then-not-is_finite-2
returns-then-not-is_finite-2 c =
    leaves_at_value (branch_error c.args.branch.now) (bracket_of c.loop-evals.bracket) c.loop-evals.evals c.loop-evals.invariant c.loop-evals-test.true c.next-x.ensures c.is_finite.ensures c.error-y.ensures c.is_finite-in-loop-evals.ensures c.if-not-is_finite.false c.if-not-is_finite-2.true

pub returns-then-is_near : goal.returns-then-is_near
returns-then-is_near c =
    leaves_near (branch_error c.args.branch.now) (bracket_of c.loop-evals.bracket) c.loop-evals.evals c.loop-evals.invariant c.loop-evals-test.true c.next-x.ensures c.is_finite.ensures c.error-y.ensures c.is_finite-in-loop-evals.ensures c.if-not-is_finite.false c.if-not-is_finite-2.false (sym c.is_near.ensures ∙ c.if-is_near.true)

pub loop-evals-preserved : goal.loop-evals-preserved
loop-evals-preserved c =
    goes_narrowed (branch_error c.args.branch.now) (bracket_of c.loop-evals.bracket) c.loop-evals.evals c.loop-evals.invariant c.loop-evals-test.true c.next-x.ensures c.is_finite.ensures c.error-y.ensures c.is_finite-in-loop-evals.ensures c.if-not-is_finite.false c.if-not-is_finite-2.false (sym c.is_near.ensures ∙ c.if-is_near.false) c.narrowed-bracket.ensures

pub returns : goal.returns
returns c = let e : c.loop-evals.evals ≡ 60 = omega arith in
    ap (with_count c.loop-evals.bracket.x) (sym e)
    ∙ steps_end (refine_step (branch_error c.args.branch.now)) reached 60 (bracket_of c.loop-evals.bracket) c.loop-evals.evals c.loop-evals.evals _ c.loop-evals.invariant (omega arith)
