-- subproblem3 of subproblems/mod.rs: "Solves for `theta` where `|| rot(k, theta) * p1 - p2 || = d` if possibble. If not, minimizes `| || rot(k, theta)*p1 - p2 || - d |`.
-- Also returns a boolean of whether or not `theta` is a least-squares solution."
-- "subproblem3 gives One, flagged, exactly if x_ls.norm_squared() > 1; NaN gives Two, unflagged." (document 01)
use Rattle.std.specs.Prelude.{true, false, cond, Float}
use Rattle.std.specs.Float.Ieee.{lt, neg}
use Rattle.float.specs.Num.{◌⊕◌, ◌⊖◌, ◌⊗◌, ◌⊘◌, one, two}
use Rattle.float.specs.Arctangent.{atan2}
use Rattle.float.specs.Root.{sqrt}
use Rattle.linear.specs.Vector.{dot, norm_squared, ◌-ᵛ◌, scaleᵛ, overᵛ}
use Rattle.linear.specs.Matrix.{apply, outer}
use Rattle.linear.specs.declared.vector.Vector3.{Vector3}
use Rattle.solutionset.specs.declared.set2.SolutionSet2.TheVariants.{One}
use Rattle.subproblems.specs.Columns.{columns}
use Rattle.subproblems.specs.Subproblem4.{either_side}
use Rattle.subproblems.specs.declared.Solved2.{Solved2}

-- b: d * d - (p2 - k * k.transpose() * p1).norm_squared() - kxp.norm_squared()
unfoldable pub subproblem3_b : Vector3 → Vector3 → Vector3 → Vector3 → Float → Float
subproblem3_b p1 p2 k kxp d = d ⊗ d ⊖ norm_squared (p2 -ᵛ apply (outer k k) p1) ⊖ norm_squared kxp

unfoldable pub subproblem3 : Vector3 → Vector3 → Vector3 → Float → Solved2 Float
unfolding subproblem3_b
subproblem3 p1 p2 k d =
    let a_1 = columns k p1 in
    -- a = -2.0 * p2.transpose() * a_1, from the left
    let a0 = dot (scaleᵛ p2 (neg two)) a_1.first in
    let a1 = dot (scaleᵛ p2 (neg two)) a_1.second in
    let norm-a-sq = a0 ⊗ a0 ⊕ a1 ⊗ a1 in
    let norm-a = sqrt norm-a-sq in
    let b = subproblem3_b p1 p2 k a_1.first d in
    -- x_ls = a_1.transpose() * (-2.0 * p2 * b / norm_a_sq)
    let x0 = dot a_1.first (overᵛ (scaleᵛ (scaleᵛ p2 (neg two)) b) norm-a-sq) in
    let x1 = dot a_1.second (overᵛ (scaleᵛ (scaleᵛ p2 (neg two)) b) norm-a-sq) in
    cond (lt one (x0 ⊗ x0 ⊕ x1 ⊗ x1)) (record { set = One (atan2 x0 x1); is_ls = true })
    (record {
      set = either_side x0 x1 (sqrt (one ⊖ b ⊗ b ⊘ norm-a-sq)) (a1 ⊘ norm-a) (neg a0 ⊘ norm-a);
      is_ls = false;
    })
