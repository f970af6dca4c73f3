use Rattle.std.proofs.Common.{◌≡◌, refl, List, [], ◌∷◌, ◌++◌}
use Rattle.step_refine.specs.Point.{Point}
use Rattle.step_edge.proofs.EdgeLaws.{closes, closes_straight, closes_reversed}
use Rattle.step_edge.proofs.row.close_row.Goals as goal

put_together : (e p : Point) (r : List Point) {l1 l2 l3 l4 s : List Point}
    → l1 ≡ []
    → l2 ≡ l1 ++ (e ∷ [])
    → s ≡ r
    → l3 ≡ l2 ++ s
    → l4 ≡ l3 ++ (p ∷ [])
    → l4 ≡ e ∷ (r ++ (p ∷ []))
put_together e p r e1 e2 es e3 e4 = rw (e4, e3, es, e2, e1) refl

pub returns-then-p-e-clause-closed : goal.returns-then-p-e-clause-closed
returns-then-p-e-clause-closed g c =
    let a = c.args in
    let r = a.row.now.items in
    let m = put_together a.e a.p r c.new-all.ensures c.push.ensures.items c.as_slice.ensures.value c.extend_from_slice.ensures.items c.push-2.ensures.items in
    closes_reversed a.e a.p r c.push-2.new.self.items c.if-p-e.true (closes a.e a.p r m) c.reverse.ensures.items

pub returns-else-p-e-clause-closed : goal.returns-else-p-e-clause-closed
returns-else-p-e-clause-closed g c =
    let a = c.args in
    let r = a.row.now.items in
    let m = put_together a.e a.p r c.new-all.ensures c.push.ensures.items c.as_slice.ensures.value c.extend_from_slice.ensures.items c.push-2.ensures.items in
    closes_straight a.e a.p r c.push-2.new.self.items c.if-p-e.false (closes a.e a.p r m)
