-- Each run is the definition's, and the counts stay low by its bounds.
use Rattle.std.proofs.Common.{◌∙◌, sym, ap, refl, arith}
use Rattle.float.specs.Number.{is_finite}
use Rattle.search_definition.specs.Found.{grid, component}
use Rattle.search_definition.specs.Dip.{Point}
use Rattle.search_error.specs.Fixed.{branch_error}
use Rattle.search.specs.State.{points, state, afterwards}
use Rattle.search_pairs.proofs.States.{after_two}
use Rattle.search.proofs.GridSteps.{run_grows, run_ends, run_last, few_runs}
use Rattle.search.proofs.grid.scan_runs.Goals as goal

pub loop-k-preserved-then-is_finite : goal.loop-k-preserved-then-is_finite
loop-k-preserved-then-is_finite c =
    let a = c.args in (
      omega (arith, c.loop-k.invariant.0),
      ap (afterwards (state c.loop-k.list)) (sym (run_grows (branch_error a.branch.now) a.branch.now.i (points a.row) a.n c.loop-k.s c.loop-k.k c.loop-k.invariant.0 (omega (arith, c.loop-k-test.true)) (sym (c.is_finite.ensures ∙ ap (λ (p : Point). is_finite p.y) c.at.ensures) ∙ c.if-is_finite.true)))
          ∙ c.loop-k.invariant.1,
    )

pub scan_samples-requires : goal.scan_samples-requires
scan_samples-requires c =
    let a = c.args in
    let few = few_runs (branch_error a.branch.now) a.branch.now.i (points a.row) a.n (state a.list.now) (state c.loop-k.list) _ c.loop-k.invariant.1 in
    omega (arith, few, c.loop-k.invariant.0, c.loop-k-test.true, c.requires)

pub loop-k-preserved : goal.loop-k-preserved
unfolding component
loop-k-preserved c =
    let a = c.args in
    let S = state c.loop-k.list in (
      omega arith,
      after_two S _ _ (c.scan_samples.ensures (grid a.branch.now.i) (λ p. refl)) refl
          ∙ sym (ap (afterwards S) (run_ends (branch_error a.branch.now) a.branch.now.i (points a.row) a.n c.loop-k.s c.loop-k.k c.loop-k.invariant.0 (omega (arith, c.loop-k-test.true)) (sym (c.is_finite.ensures ∙ ap (λ (p : Point). is_finite p.y) c.at.ensures) ∙ c.if-is_finite.false)))
          ∙ c.loop-k.invariant.1,
    )

pub scan_samples-requires-2 : goal.scan_samples-requires-2
scan_samples-requires-2 c =
    let a = c.args in
    let few = few_runs (branch_error a.branch.now) a.branch.now.i (points a.row) a.n (state a.list.now) (state c.loop-k.list) _ c.loop-k.invariant.1 in
    omega (arith, few, c.loop-k.invariant.0, c.loop-k.auto.k-end, c.requires)

pub returns : goal.returns
unfolding component
returns c =
    let a = c.args in
    c.scan_samples-2.ensures (grid a.branch.now.i) (λ p. refl)
    ∙ sym (ap (afterwards (state c.loop-k.list)) (run_last (branch_error a.branch.now) a.branch.now.i (points a.row) a.n c.loop-k.s c.loop-k.k (omega (arith, c.loop-k.auto.k-end, c.loop-k-test.false))))
    ∙ c.loop-k.invariant.1
