-- The pose, and forward_kinematics of inverse_kinematics/auxiliary.rs.
use Rattle.std.specs.Prelude.{ℕ, ◌+◌, List, Float, [], ◌∷◌, get_or}
use Rattle.std.specs.Float.{nan}
use Rattle.linear.specs.Matrix.{Matrix, row, part, array3, product, apply, identity, rot}
use Rattle.linear.specs.Vector.{◌+ᵛ◌}
use Rattle.linear.specs.declared.vector.Vector3.{Vector3}
use Rattle.kinematics.specs.Kinematics.{vector_at}
use Rattle.kinematics.specs.declared.Kinematics.{Kinematics}
use Rattle.kinematics.specs.declared.Pose.{Pose}

-- the three numbers from i on, as a row
abbrev pub row_at : List Float → ℕ → List Float
row_at l i = array3 (get_or l i nan) (get_or l (i + 1) nan) (get_or l (i + 2) nan)

-- "A pose is the rotation by rows, then the place": of 12 numbers
abbrev pub pose_rotation : List Float → Matrix
pose_rotation l = array3 (row_at l 0) (row_at l 3) (row_at l 6)

abbrev pub pose_place : List Float → Vector3
pose_place l = vector_at l 9

-- the rotation r and the place p as one value, and the rotation of such a value
abbrev pub pose : Matrix → Vector3 → Pose
pose r p = record { rotation = r; place = p }

abbrev pub rotation : Pose → Matrix
rotation s = s.rotation

-- the 12 numbers of a pose: "A pose is the rotation by rows, then the place"
abbrev pub pose_numbers : Pose → List Float
pose_numbers s =
    part (row s.rotation 0) 0 ∷ part (row s.rotation 0) 1 ∷ part (row s.rotation 0) 2
    ∷ part (row s.rotation 1) 0 ∷ part (row s.rotation 1) 1 ∷ part (row s.rotation 1) 2
    ∷ part (row s.rotation 2) 0 ∷ part (row s.rotation 2) 1 ∷ part (row s.rotation 2) 2
    ∷ s.place.x ∷ s.place.y ∷ s.place.z ∷ []

-- one turn of the loop: "r *= rot(&self.h.column(i).into(), t); p += r * self.p.column(i + 1);"
unfoldable pub joint : Pose → Vector3 → Float → Vector3 → Pose
joint s h t offset = let r = product (rotation s) (rot h t) in pose r (s.place +ᵛ apply r offset)

-- from the identity and p0, joint after joint
unfoldable pub forward_kinematics : Kinematics → List Float → Pose
unfolding joint
forward_kinematics kin theta =
    let from = pose identity kin.p0 in
    let at1 = joint from kin.h1 (part theta 0) kin.p1 in
    let at2 = joint at1 kin.h2 (part theta 1) kin.p2 in
    let at3 = joint at2 kin.h3 (part theta 2) kin.p3 in
    let at4 = joint at3 kin.h4 (part theta 3) kin.p4 in
    let at5 = joint at4 kin.h5 (part theta 4) kin.p5 in
    joint at5 kin.h6 (part theta 5) kin.p6
