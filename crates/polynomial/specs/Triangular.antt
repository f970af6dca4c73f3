-- subproblems/auxiliary.rs: solve_lower_triangular_system_2x2.
use Rattle.scalar.specs.Num.{◌⊖◌, ◌⊗◌, ◌⊘◌}
use Rattle.polynomial.specs.declared.Matrix2.{Matrix2}
use Rattle.polynomial.specs.declared.Vector2.{Vector2}

-- l times the result is b-v, for an l whose entry above the diagonal is zero. That entry is not read.
unfoldable pub solve_lower_triangular_system_2x2 : Matrix2 → Vector2 → Vector2
solve_lower_triangular_system_2x2 l b-v =
    let a = l.m00 in
    let b = l.m10 in
    let c = l.m11 in
    let p = b-v.x in
    let q = b-v.y in
    let x = p ⊘ a in
    record { x = x; y = (q ⊖ x ⊗ b) ⊘ c }
