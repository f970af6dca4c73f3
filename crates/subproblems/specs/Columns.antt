-- What several subproblems of subproblems/mod.rs are made of.
use Rattle.std.specs.Prelude.{Float}
use Rattle.linear.specs.Vector.{dot, cross, negᵛ, scaleᵛ}
use Rattle.linear.specs.declared.vector.Vector3.{Vector3}
use Rattle.subproblems.specs.declared.Columns.{Columns}

-- Matrix3x2::from_columns(&[kxp, -k.cross(&kxp)]), with kxp = k.cross(p)
abbrev pub columns : Vector3 → Vector3 → Columns
columns k p = let kxp = cross k p in record { first = kxp; second = negᵛ (cross k kxp) }

-- (h.transpose() * k * k.transpose() * p)[0], from the left: the number h·k, then the row (h·k) k, then its dot with p
abbrev pub along : Vector3 → Vector3 → Vector3 → Float
along h k p = dot (scaleᵛ k (dot h k)) p
