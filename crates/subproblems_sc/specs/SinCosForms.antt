-- The _sc forms of subproblems/mod.rs: "A unit (sin, cos) pair standing for an angle, so inner loops avoid atan2 and sin_cos."
use Rattle.std.specs.Prelude.{true, false, cond, Float}
use Rattle.std.specs.Float.Ieee.{lt, neg}
use Rattle.float.specs.Num.{◌⊕◌, ◌⊖◌, ◌⊗◌, ◌⊘◌, nought, one, two}
use Rattle.float.specs.Root.{sqrt}
use Rattle.float.specs.declared.sine.SinCos.{SinCos}
use Rattle.linear.specs.Vector.{dot, cross, norm_squared, ◌-ᵛ◌, scaleᵛ}
use Rattle.linear.specs.declared.vector.Vector3.{Vector3}
use Rattle.solutionset.specs.declared.set2.SolutionSet2.TheVariants.{One, Two}
use Rattle.subproblems.specs.Columns.{columns}
use Rattle.subproblems.specs.Subproblem1.{subproblem1_is_ls, tolerance}
use Rattle.subproblems.specs.declared.Solved1.{Solved1}
use Rattle.subproblems.specs.declared.Solved2.{Solved2}

abbrev pub sc : Float → Float → SinCos
sc s c = record { sin = s; cos = c }

-- n = (x0 * x0 + x1 * x1).sqrt(); if n > 0.0 { (x0 / n, x1 / n) } else { (0.0, 1.0) }
unfoldable pub unit : Float → Float → SinCos
unit x0 x1 = let n = sqrt (x0 ⊗ x0 ⊕ x1 ⊗ x1) in cond (lt nought n) (sc (x0 ⊘ n) (x1 ⊘ n)) (sc nought one)

-- "Subproblem 1 returning the (sin, cos) of `theta` instead of the angle."
unfoldable pub subproblem1_sc : Vector3 → Vector3 → Vector3 → Solved1 SinCos
unfolding unit subproblem1_is_ls
subproblem1_sc p1 p2 k =
    let kxp = cross k p1 in
    let x0 = dot kxp p2 in
    -- -k.cross(&kxp).dot(p2): minus the dot
    let x1 = neg (dot (cross k kxp) p2) in
    record { theta = unit x0 x1; is_ls = subproblem1_is_ls p1 p2 k tolerance }

-- "Subproblem 3 returning (sin, cos) pairs; the two roots are already unit length."
unfoldable pub subproblem3_sc : Vector3 → Vector3 → Vector3 → Float → Solved2 SinCos
subproblem3_sc p1 p2 k d =
    let kxp = (columns k p1).first in
    let kxkxp = (columns k p1).second in
    let a0 = neg two ⊗ dot p2 kxp in
    let a1 = neg two ⊗ dot p2 kxkxp in
    let norm-a-sq = a0 ⊗ a0 ⊕ a1 ⊗ a1 in
    let b = d ⊗ d ⊖ norm_squared (p2 -ᵛ scaleᵛ k (dot k p1)) ⊖ norm_squared kxp in
    let f = b ⊘ norm-a-sq in
    let x0 = a0 ⊗ f in
    let x1 = a1 ⊗ f in
    let n = sqrt (x0 ⊗ x0 ⊕ x1 ⊗ x1) in
    let xi = sqrt (one ⊖ b ⊗ b ⊘ norm-a-sq) in
    let norm-a = sqrt norm-a-sq in
    let perp0 = a1 ⊘ norm-a in
    let perp1 = neg a0 ⊘ norm-a in
    cond (lt one (x0 ⊗ x0 ⊕ x1 ⊗ x1)) (record { set = One (sc (x0 ⊘ n) (x1 ⊘ n)); is_ls = true })
    (record {
      set = Two (sc (x0 ⊕ xi ⊗ perp0) (x1 ⊕ xi ⊗ perp1)) (sc (x0 ⊖ xi ⊗ perp0) (x1 ⊖ xi ⊗ perp1));
      is_ls = false;
    })

-- "Subproblem 4 returning (sin, cos) pairs, normalised by |a|^2 which is their common norm."
unfoldable pub subproblem4_sc : Vector3 → Vector3 → Vector3 → Float → Solved2 SinCos
unfolding unit
subproblem4_sc h p k d =
    let kxp = (columns k p).first in
    let kxkxp = (columns k p).second in
    let a0 = dot h kxp in
    let a1 = dot h kxkxp in
    let b = d ⊖ dot h k ⊗ dot k p in
    let norm-a-2 = a0 ⊗ a0 ⊕ a1 ⊗ a1 in
    let x0 = a0 ⊗ b in
    let x1 = a1 ⊗ b in
    let xi = sqrt (norm-a-2 ⊖ b ⊗ b) in
    cond (lt (b ⊗ b) norm-a-2)
    (record {
      set =
          Two (sc ((x0 ⊕ xi ⊗ a1) ⊘ norm-a-2) ((x1 ⊕ xi ⊗ neg a0) ⊘ norm-a-2))
          (sc ((x0 ⊖ xi ⊗ a1) ⊘ norm-a-2) ((x1 ⊖ xi ⊗ neg a0) ⊘ norm-a-2));
      is_ls = false;
    })
    (record { set = One (unit x0 x1); is_ls = true })
