-- The code's structs and enums of an edge as the machine's.
use Rattle.std.specs.Prelude.{List, map, ◌-◌, length}
pub use Rattle.search_edge.specs.State.{gap}
use Rattle.search_steps.specs.ScanSteps.{last_pair}
use Rattle.search_steps.specs.EdgeSteps as Steps
use Rattle.step_refine.specs.State.{point_of}
use Rattle.step_refine.specs.Point as DeclaredPoint
use Rattle.step_scan.specs.State.{scan_of}
use Rattle.step_edge.specs.declared.edge.Edge as DeclaredEdge
use Rattle.step_edge.specs.declared.edge.Edge.TheVariants.{Halving, Taking, InRow}

-- with the row r: the samples kept behind the branch's end, or all of the row that is scanned
abbrev pub edge_of : List DeclaredPoint.Point → DeclaredEdge.Edge → Steps.Edge
edge_of r (Halving k g) = Steps.halving k (gap g)
edge_of r (Taking e j) = Steps.taking (point_of e) (7 - j) j (map point_of r)
edge_of r (InRow z) = Steps.in_row (map point_of r) (scan_of (last_pair 0 (length r)) z)
