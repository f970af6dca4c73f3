-- What there is to solve once nothing is refused, and its full list.
use Rattle.std.specs.Prelude.{ℕ, List, Float}
use Rattle.kinematics.specs.Kinematics.{from_numbers}
use Rattle.kinematics.specs.Pose.{pose_rotation, pose_place}
use Rattle.refusals.specs.Family.{family_number}
use Rattle.refusals.specs.declared.family.Family.{Family}
use Rattle.full_list.specs.Full.{Full, by_family, tolerance}
use Rattle.full_list.specs.declared.task.Task.{Task}

abbrev pub task_of : Family → ℕ → List Float → List Float → Task
task_of family n arm pose =
    record { family = family; n = n; kin = from_numbers arm; r_06 = pose_rotation pose; p_0t = pose_place pose }

-- `of_numbers` of the family, the arm and the pose that it is
abbrev pub of_task : Task → Full
of_task t = by_family (family_number t.family) t.n t.r_06 t.p_0t t.kin tolerance

-- the same in family 6
abbrev pub for_search : Task → Full
for_search t = by_family 6 t.n t.r_06 t.p_0t t.kin tolerance
