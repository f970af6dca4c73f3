-- forward_kinematics_partial of inverse_kinematics/auxiliary.rs (lines 50 to 80): an arm of seven axes with joint n locked at the angle q_n, counted from 0.
-- Document 02, request 2: "45 numbers (seven axes, eight offsets)".
use Rattle.std.specs.Prelude.{ℕ, zero, suc, ◌+◌, ◌-◌, ◌*◌, cond, List, ltb, eqb, Float, get_or, set, replicate}
use Rattle.float.specs.Num.{nought}
use Rattle.linear.specs.Matrix.{Matrix, product, apply, rot}
use Rattle.linear.specs.Vector.{◌+ᵛ◌}
use Rattle.linear.specs.declared.vector.Vector3.{Vector3}
use Rattle.kinematics.specs.Kinematics.{vector_at}
use Rattle.kinematics.specs.declared.Kinematics.{Kinematics}
use Rattle.partial.specs.declared.Partial.{Partial}

-- self.h.column(i) and self.p.column(i)
abbrev pub h : List Float → ℕ → Vector3
h arm i = vector_at arm (3 * i)

abbrev pub p : List Float → ℕ → Vector3
p arm i = vector_at arm (21 + 3 * i)

-- "Kinematics::new()": columns of zeros
abbrev origin : Vector3
origin = record { x = nought; y = nought; z = nought }

-- a turn of a loop over i, which sets columns of kin_new; the turns from 0 to m - 1
unfoldable pub turns : (ℕ → List Vector3 → List Vector3) → ℕ → List Vector3 → List Vector3
turns turn zero new = new
turns turn (suc m) new = turn m (turns turn m new)

module _ (arm : List Float) (n : ℕ) (r-n : Matrix) where
  -- `set` sets a column where there is one. Document 02: "For joint 6 the Rust panics, writing past its last columns; the port drops those writes"
  -- "if i > n { kin_new.h.set_column(i - 1, &(r_n * self.h.column(i))); } else { kin_new.h.set_column(i, &self.h.column(i)); }"
  unfoldable pub h_turn : ℕ → List Vector3 → List Vector3
  h_turn i new = cond (ltb n i) (set new (i - 1) (apply r-n (h arm i))) (set new i (h arm i))

  -- "if i == n { kin_new.p.set_column(i, &(self.p.column(i) + r_n * self.p.column(i + 1))); } else if i > n + 1 { kin_new.p.set_column(i - 1, &(r_n *
  -- self.p.column(i))); } else { kin_new.p.set_column(i, &self.p.column(i)); }"
  unfoldable pub p_turn : ℕ → List Vector3 → List Vector3
  p_turn i new =
      cond (eqb i n)
      (set new i (p arm i +ᵛ apply r-n (p arm (i + 1))))
      (cond (ltb (n + 1) i) (set new (i - 1) (apply r-n (p arm i))) (set new i (p arm i)))

  -- the six axes and the seven offsets of kin_new: "for i in 0..self.h.ncols()", "for i in 0..self.p.ncols()"
  unfoldable pub new_h : List Vector3
  new_h = turns h_turn 7 (replicate 6 origin)

  unfoldable pub new_p : List Vector3
  new_p = turns p_turn 8 (replicate 7 origin)

  unfoldable pub kin_new : Kinematics
  kin_new =
      record {
        h1 = get_or new_h 0 origin;
        h2 = get_or new_h 1 origin;
        h3 = get_or new_h 2 origin;
        h4 = get_or new_h 3 origin;
        h5 = get_or new_h 4 origin;
        h6 = get_or new_h 5 origin;
        p0 = get_or new_p 0 origin;
        p1 = get_or new_p 1 origin;
        p2 = get_or new_p 2 origin;
        p3 = get_or new_p 3 origin;
        p4 = get_or new_p 4 origin;
        p5 = get_or new_p 5 origin;
        p6 = get_or new_p 6 origin;
      }

-- "let r_n = rot(&self.h.column(n).into(), q_n);"
unfoldable pub locked_rotation : List Float → Float → ℕ → Matrix
locked_rotation arm q-n n = rot (h arm n) q-n

-- "(kin_new, r_n * r_6t)"
unfoldable pub forward_kinematics_partial : List Float → Float → ℕ → Matrix → Partial
forward_kinematics_partial arm q-n n r-6t =
    let r-n = locked_rotation arm q-n n in
    record { kin = kin_new arm n r-n; rotation = product r-n r-6t }
