-- Up to 400 the definition's search, and beyond it nothing.
use Rattle.std.proofs.Common.{◌∙◌, sym, ap}
use Rattle.search_definition.specs.Search.{search_1d_bracketed}
use Rattle.search_error.specs.Fixed.{error_at}
use Rattle.search.specs.State.{State, emptied, state, afterwards}
use Rattle.search.specs.Searched.{search_within}
use Rattle.search_pairs.proofs.States.{after_nothing}
use Rattle.search.proofs.Listed.{searched, within, beyond}
use Rattle.search.proofs.grid.search_1d_bracketed.Goals as goal

pub returns-then-n-le400 : goal.returns-then-n-le400
returns-then-n-le400 c =
    let a = c.args in
    let err = error_at a.fixed.now in
    searched (search_within err a.n) a.list.now
    (c.search_grid.ensures ∙ ap (λ (z : State). afterwards (emptied z) (search_1d_bracketed err a.n)) c.clear.ensures ∙ ap (afterwards (emptied (state a.list.now))) (within err a.n c.if-n-le400.true))

pub returns-else-n-le400 : goal.returns-else-n-le400
returns-else-n-le400 c =
    let a = c.args in
    let err = error_at a.fixed.now in
    let s = emptied (state a.list.now) in
    searched (search_within err a.n) a.list.now (c.clear.ensures ∙ sym (after_nothing s) ∙ ap (afterwards s) (beyond err a.n c.if-n-le400.false))
