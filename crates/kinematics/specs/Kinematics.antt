-- The arm. Document 01: "An arm is the six axes h, then the seven offsets p, three numbers each."
use Rattle.std.specs.Prelude.{ℕ, ◌+◌, List, Float, get_or}
use Rattle.std.specs.Float.{nan}
use Rattle.linear.specs.declared.vector.Vector3.{Vector3}
use Rattle.kinematics.specs.declared.Kinematics.{Kinematics}

-- the three numbers from i on
abbrev pub vector_at : List Float → ℕ → Vector3
vector_at l i = record { x = get_or l i nan; y = get_or l (i + 1) nan; z = get_or l (i + 2) nan }

unfoldable pub from_numbers : List Float → Kinematics
from_numbers l =
    record {
      h1 = vector_at l 0;
      h2 = vector_at l 3;
      h3 = vector_at l 6;
      h4 = vector_at l 9;
      h5 = vector_at l 12;
      h6 = vector_at l 15;
      p0 = vector_at l 18;
      p1 = vector_at l 21;
      p2 = vector_at l 24;
      p3 = vector_at l 27;
      p4 = vector_at l 30;
      p5 = vector_at l 33;
      p6 = vector_at l 36;
    }
