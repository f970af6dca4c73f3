-- Each sample is the definition's.
use Rattle.std.proofs.Common.{◌≡◌, ◌∙◌, ap, List, [], ◌∷◌, ◌++◌, map, length, arith}
use mathlib.Core.List.{map-append}
use Rattle.search_definition.specs.Dip.{Point}
use Rattle.search_error.specs.Fixed.{branch_error}
use Rattle.search_refine.specs.Counted.{with_count}
use Rattle.search_refine.specs.Point.{point_of}
use Rattle.search_refine.specs.declared.Point as DeclaredPoint
use Rattle.search_edge.proofs.EdgeSteps.{row_starts, row_goes, row_done}
use Rattle.search_edge.proofs.edge.edge_row.Goals as goal

pub loop-j-init : goal.loop-j-init
loop-j-init c =
    let e : c.push.new.self.items ≡ c.args.e ∷ [] = c.push.ensures.items ∙ ap (λ (l : List DeclaredPoint.Point). l ++ (c.args.e ∷ [])) c.new-row.ensures in
    (omega (arith, ap length e), row_starts (branch_error c.args.branch.now) (point_of c.args.e) (point_of c.args.p) (ap (map point_of) e))

pub loop-j-preserved : goal.loop-j-preserved
loop-j-preserved c = (
  omega (arith, c.keep_finite.ensures.len, c.loop-j.invariant.0),
  row_goes (branch_error c.args.branch.now) (point_of c.args.e) (point_of c.args.p) (map point_of c.loop-j.row.items) c.loop-j.j _ (omega arith) (omega arith) c.loop-j.invariant.1 c.sub_angle-x.ensures c.error-y.ensures c.keep_finite.ensures.kept,
)

pub returns : goal.returns
returns c =
    ap (λ (l : List Point). with_count l 7) (ap (map point_of) c.push-2.ensures.items ∙ map-append point_of c.loop-j.row.items (c.args.p ∷ []))
    ∙ row_done (branch_error c.args.branch.now) (point_of c.args.e) (point_of c.args.p) (map point_of c.loop-j.row.items) c.loop-j.j _ (omega arith) c.loop-j.invariant.1
