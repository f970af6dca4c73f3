-- p_16 of families 3 to 6. (Families 1 and 2 subtract in another order.)
use Rattle.linear.specs.Matrix.{Matrix, apply}
use Rattle.linear.specs.Vector.{◌-ᵛ◌}
use Rattle.linear.specs.declared.vector.Vector3.{Vector3}
use Rattle.kinematics.specs.declared.Kinematics.{Kinematics}

-- p_0t - kin.p.column(0) - r_06 * kin.p.column(6)
unfoldable pub p_16 : Matrix → Vector3 → Kinematics → Vector3
p_16 r_06 p_0t kin = p_0t -ᵛ kin.p0 -ᵛ apply r_06 kin.p6
