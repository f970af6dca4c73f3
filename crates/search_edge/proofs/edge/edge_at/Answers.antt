-- The edge between two samples of which one is finite is the definition's.
use Rattle.std.proofs.Common.{◌∙◌, ap, ap₂, refl}
use Rattle.float.specs.Number.{is_finite}
use Rattle.search_definition.specs.Found.{edge, component}
use Rattle.search_definition.specs.Dip.{Point}
use Rattle.search_definition.specs.Search.{if_first_inside}
use Rattle.search_error.specs.Fixed.{branch_error}
use Rattle.search_pairs.specs.Row.{points}
use Rattle.search_pairs.specs.State.{state}
use Rattle.search_edge.proofs.EdgeSteps.{edge_none, edge_found}
use Rattle.search_edge.proofs.edge.edge_at.Goals as goal

pub returns-then-is_finite : goal.returns-then-is_finite
returns-then-is_finite c =
    let a = c.args in
    edge_none (branch_error a.branch.now) a.branch.now.i (points a.row) a.k (state a.list.now) (c.is_finite.ensures ∙ ap (λ (p : Point). is_finite p.y) c.at-p.ensures) (c.is_finite-2.ensures ∙ ap (λ (p : Point). is_finite p.y) c.at-q.ensures) c.if-is_finite.true

pub returns : goal.returns
unfolding component
returns c =
    let a = c.args in
    edge_found (branch_error a.branch.now) a.branch.now.i (points a.row) a.k (state a.list.now) (c.is_finite.ensures ∙ ap (λ (p : Point). is_finite p.y) c.at-p.ensures) (c.is_finite-2.ensures ∙ ap (λ (p : Point). is_finite p.y) c.at-q.ensures) c.if-is_finite.false
    (c.beside.ensures ∙ ap₂ (λ (p q : Point). if_first_inside (is_finite p.y) p q) c.at-p.ensures c.at-q.ensures) (c.scan_edge.ensures (edge a.branch.now.i a.k) (λ p. refl))
