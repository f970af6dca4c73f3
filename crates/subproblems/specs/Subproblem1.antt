-- subproblem1 of subproblems/mod.rs: "Solves for `theta` where `rot(k, theta) * p1 = p2` if possible. If not, minimizes `|| rot(k, theta) * p1 - p2 ||`.
-- Also returns a boolean of whether or not `theta` is a least-squares solution." The angle and the flag are apart, and the flag's 1e-6 is a parameter.
use Rattle.std.specs.Prelude.{Bool, ◌||◌, Float}
use Rattle.std.specs.Float.Ieee.{lt}
use Rattle.float.specs.Num.{◌⊖◌, millionth}
use Rattle.float.specs.Number.{abs}
use Rattle.float.specs.Arctangent.{atan2}
use Rattle.linear.specs.Vector.{dot, norm}
use Rattle.linear.specs.declared.vector.Vector3.{Vector3}
use Rattle.subproblems.specs.Columns.{columns}
use Rattle.subproblems.specs.declared.Solved1.{Solved1}

-- the flag's 1e-6
abbrev pub tolerance : Float
tolerance = millionth

-- theta: x = a.transpose() * p2, x[0].atan2(x[1])
unfoldable pub subproblem1_theta : Vector3 → Vector3 → Vector3 → Float
subproblem1_theta p1 p2 k =
    let a = columns k p1 in
    let x0 = dot a.first p2 in
    let x1 = dot a.second p2 in
    atan2 x0 x1

-- is_ls: (p1.norm() - p2.norm()).abs() > tolerance || (k.dot(p1) - k.dot(p2)).abs() > tolerance
unfoldable pub subproblem1_is_ls : Vector3 → Vector3 → Vector3 → Float → Bool
subproblem1_is_ls p1 p2 k tolerance =
    lt tolerance (abs (norm p1 ⊖ norm p2)) || lt tolerance (abs (dot k p1 ⊖ dot k p2))

unfoldable pub subproblem1_within : Vector3 → Vector3 → Vector3 → Float → Solved1 Float
unfolding subproblem1_theta subproblem1_is_ls
subproblem1_within p1 p2 k tolerance =
    record { theta = subproblem1_theta p1 p2 k; is_ls = subproblem1_is_ls p1 p2 k tolerance }

unfoldable pub subproblem1 : Vector3 → Vector3 → Vector3 → Solved1 Float
unfolding subproblem1_within
subproblem1 p1 p2 k = subproblem1_within p1 p2 k tolerance
