-- Each component goes on from those before it.
use Rattle.std.proofs.Common.{refl, arith}
use Rattle.search_error.specs.Fixed.{error_at}
use Rattle.search.specs.State.{column, state}
use Rattle.search.proofs.GridSteps.{component_next, components_end, few_more}
use Rattle.search.proofs.grid.search_components.Goals as goal

pub loop-i-init : goal.loop-i-init
loop-i-init c = (omega arith, omega arith, refl)

pub search_component-requires : goal.search_component-requires
search_component-requires c = omega (arith, c.loop-i.invariant.0, c.loop-i.invariant.1, c.requires, c.loop-i-test.true)

pub loop-i-preserved : goal.loop-i-preserved
loop-i-preserved c =
    let a = c.args in
    let err = error_at a.fixed.now in
    let i = c.loop-i.i in
    let few = few_more (err i) i (column a.samples.now i) a.n (state c.loop-i.list) _ c.search_component.ensures in (
      omega (arith, few.0, c.loop-i.invariant.0, c.requires),
      omega (arith, few.1, c.loop-i.invariant.1, c.requires),
      component_next err a.n (column a.samples.now) i (state c.loop-i.list) c.loop-i-test.true c.loop-i.invariant.2 c.search_component.ensures,
    )

pub returns : goal.returns
returns c = components_end (error_at c.args.fixed.now) c.args.n (column c.args.samples.now) c.loop-i.i (state c.loop-i.list) c.loop-i-test.false c.loop-i.invariant.2
