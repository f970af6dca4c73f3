-- The row that is scanned is the definition's, reversed where its end is on the right.
use Rattle.std.proofs.Common.{◌≡◌, ◌∙◌, sym, ap, map, length}
use Rattle.array_vec.specs.ArrayVec.{ArrayVec}
use Rattle.search_error.specs.Fixed.{branch_error}
use Rattle.search_refine.specs.Point.{point_of}
use Rattle.search_refine.specs.declared.Point as DeclaredPoint
use Rattle.search_pairs.specs.State.{state}
use Rattle.search_edge.specs.State.{gap}
use Rattle.search_edge.proofs.EdgeSteps.{edge_straight, edge_reversed, map-reverse}
use Rattle.search_edge.proofs.edge.scan_edge.Goals as goal
use Rattle.search_edge.proofs.edge.scan_edge.Goals.{then-g-e, else-g-e}

pub returns : goal.returns
returns c =
    let a = c.args in
    let f = branch_error a.branch.now in
    let s = state a.list.now in
    let l = c.as_slice.result.now in
    let long : c.len.result ≡ length l = c.len.ensures.value ∙ sym (ap length c.as_slice.ensures.value) in
    λ o e.
    elim c.if-g-e.branch [
      | then-g-e w ↦ edge_reversed f o (gap a.g) s l c.len.result c.bisect-e.ensures c.edge_row-row.ensures long (c.scan_samples.ensures o e) w.if-g-e.true
          (ap (map point_of) (c.as_slice.ensures.value ∙ ap (λ (v : ArrayVec DeclaredPoint.Point). v.items) w.row-is ∙ w.reverse.ensures.items) ∙ map-reverse point_of c.edge_row-row.result.items)
      | else-g-e w ↦ edge_straight f o (gap a.g) s l c.len.result c.bisect-e.ensures c.edge_row-row.ensures long (c.scan_samples.ensures o e) w.if-g-e.false
          (ap (map point_of) (c.as_slice.ensures.value ∙ ap (λ (v : ArrayVec DeclaredPoint.Point). v.items) w.row-is))
    ]
