-- The code's rows of samples in the definition's words.
use Rattle.std.specs.Prelude.{List, [], ℕ, length, get_or, Float}
use Rattle.std.specs.Float.{nan}
use Rattle.search_definition.specs.Dip.{Point}
use Rattle.search_refine.specs.Point.{point_of}
use Rattle.search_refine.specs.declared.Point as DeclaredPoint
use Rattle.search_pairs.specs.declared.row.Sample as DeclaredSample
use Rattle.search_pairs.specs.declared.row.Row as DeclaredRow
use Rattle.search_pairs.specs.declared.row.Row.TheVariants.{Grid, Edge}

abbrev pub point : Float → Float → Point
point x y = record { x = x; y = y }

-- what stands beyond the end of a row
abbrev pub nowhere : Point
nowhere = record { x = nan; y = nan }

-- component i of a sample
abbrev pub sampled : ℕ → DeclaredSample.Sample → Point
sampled i s = record { x = s.x; y = get_or s.y i nan }

-- component i over the grid's samples
abbrev pub column : List DeclaredSample.Sample → ℕ → ℕ → Point
column l i k = sampled i (get_or l k (record { x = nan; y = [] }))

-- a list of points
abbrev pub points_of : List DeclaredPoint.Point → ℕ → Point
points_of l k = point_of (get_or l k (record { x = nan; y = nan }))

abbrev pub points : DeclaredRow.Row → ℕ → Point
points (Grid c) = column c.samples.now c.i
points (Edge p) = points_of p.now

abbrev pub len_of : DeclaredRow.Row → ℕ
len_of (Grid c) = length c.samples.now
len_of (Edge p) = length p.now
