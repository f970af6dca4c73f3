-- subproblem4 of subproblems/mod.rs: "Solves for `theta` where `h' * rot(k, theta) * p = d` if possible. If not minimizes `| h' * rot(k, theta) * p - d |`.
-- Also returns a boolean of whether or not `theta` is a least-squares solution."
-- "subproblem4 gives Two exactly if norm_a_2 > b × b; equality or NaN gives One, flagged." (document 01)
use Rattle.std.specs.Prelude.{true, false, cond, Float}
use Rattle.std.specs.Float.Ieee.{lt, neg}
use Rattle.float.specs.Num.{◌⊕◌, ◌⊖◌, ◌⊗◌}
use Rattle.float.specs.Arctangent.{atan2}
use Rattle.float.specs.Root.{sqrt}
use Rattle.linear.specs.Vector.{dot}
use Rattle.linear.specs.declared.vector.Vector3.{Vector3}
use Rattle.solutionset.specs.declared.set2.SolutionSet2.{SolutionSet2}
use Rattle.solutionset.specs.declared.set2.SolutionSet2.TheVariants.{One, Two}
use Rattle.subproblems.specs.Columns.{columns, along}
use Rattle.subproblems.specs.declared.Solved2.{Solved2}

-- sc_1 = x_ls + xi * a_perp, sc_2 = x_ls - xi * a_perp: Two(sc_1[0].atan2(sc_1[1]), sc_2[0].atan2(sc_2[1]))
unfoldable pub either_side : Float → Float → Float → Float → Float → SolutionSet2 Float
either_side x0 x1 xi perp0 perp1 =
    Two (atan2 (x0 ⊕ xi ⊗ perp0) (x1 ⊕ xi ⊗ perp1)) (atan2 (x0 ⊖ xi ⊗ perp0) (x1 ⊖ xi ⊗ perp1))

unfoldable pub subproblem4 : Vector3 → Vector3 → Vector3 → Float → Solved2 Float
unfolding either_side
subproblem4 h p k d =
    let a_1 = columns k p in
    -- a = h.transpose() * a_1
    let a0 = dot h a_1.first in
    let a1 = dot h a_1.second in
    let b = d ⊖ along h k p in
    let norm-a-2 = a0 ⊗ a0 ⊕ a1 ⊗ a1 in
    -- x_ls = a_1.transpose() * h * b
    let x0 = dot a_1.first h ⊗ b in
    let x1 = dot a_1.second h ⊗ b in
    cond (lt (b ⊗ b) norm-a-2)
    (record { set = either_side x0 x1 (sqrt (norm-a-2 ⊖ b ⊗ b)) a1 (neg a0); is_ls = false })
    (record { set = One (atan2 x0 x1); is_ls = true })
