-- The columns of kin_new one by one, as the code computes them. proofs/Closed.antt shows that the Rust's loops leave these.
use Rattle.std.specs.Prelude.{ℕ, ◌+◌, cond, List, ltb, eqb, Float}
use Rattle.linear.specs.Matrix.{Matrix, apply}
use Rattle.linear.specs.Vector.{◌+ᵛ◌}
use Rattle.linear.specs.declared.vector.Vector3.{Vector3}
use Rattle.partial.specs.Partial.{h, p}

module _ (arm : List Float) (n : ℕ) (r-n : Matrix) where
  unfoldable pub axis : ℕ → Vector3
  axis i = cond (ltb i n) (h arm i) (apply r-n (h arm (i + 1)))

  unfoldable pub offset : ℕ → Vector3
  offset i = cond (ltb i n) (p arm i) (cond (eqb i n) (p arm i +ᵛ apply r-n (p arm (i + 1))) (apply r-n (p arm (i + 1))))
