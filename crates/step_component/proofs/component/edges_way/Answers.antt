use Rattle.std.proofs.Common.{◌∙◌, ap}
use Rattle.step_pairs.specs.Landed.{landed}
use Rattle.search_definition.specs.Found.{edge}
use Rattle.search_pairs.specs.Row.{points}
use Rattle.step_component.proofs.ComponentLaws.{edges_pass, edges_stop, edges_end}
use Rattle.step_component.proofs.component.edges_way.Goals as goal

pub returns-then-not-alike : goal.returns-then-not-alike
returns-then-not-alike c =
    let P = points c.args.grid in
    let k = c.loop-k.k in
    λ i r room h.
    edges_stop i P c.args.n k c.loop-k-test.true c.alike.ensures room h _ c.if-not-alike.true (c.gap_at.ensures i c.args.n) (c.edge_way.ensures (edge i k) r room h)
    ∙ c.loop-k.invariant i room h

pub loop-k-preserved : goal.loop-k-preserved
loop-k-preserved c =
    λ i room h.
    ap (landed room h) (edges_pass i (points c.args.grid) c.args.n c.loop-k.k c.loop-k-test.true c.alike.ensures c.if-not-alike.false) ∙ c.loop-k.invariant i room h

pub returns : goal.returns
returns c =
    λ i r room h. edges_end i (points c.args.grid) c.args.n c.loop-k.k room h c.loop-k-test.false ∙ c.loop-k.invariant i room h
