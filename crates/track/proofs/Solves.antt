-- What a track call gives where it refuses, and where it solves.
use Prim.Native.Nat.{ℕ}
use mathlib.Core.Path.{◌≡◌, refl, sym}
use mathlib.Core.Bool.{Bool, true, false, cond, ◌&&◌}
use mathlib.Core.List.{List, []}
use borrow.Author.Tests.{eq-eqb, ne_eqb}
use lib.Ieee.{Float}
use lib.ListN.{length}
use Rattle.std.proofs.Common.{Ok}
use Rattle.answers.specs.Rows.{Form, room_of, written_of, flagged_of}
use Rattle.refusals.specs.Family.{family_of}
use Rattle.refusals.specs.Judge.{all_finite}
use Rattle.refusals.specs.declared.family.Family.{Family}
use Rattle.full_list.specs.Full.{no_search}
use Rattle.full_list.specs.Task.{task_of, of_task}
use Rattle.full_list.specs.Listed.{listed, evaluated, ListOf}
use Rattle.full_list.specs.declared.task.Task.{Task}
use Rattle.full_list.specs.declared.list.FullList.{FullList}
use Rattle.solve.specs.InNumbers.{refuses, gives}
use Rattle.solve.proofs.Accepted.{named}
use Rattle.track.specs.Sevens.{sevens}
use Rattle.track.specs.Reduced.{reduced_arm, handed_on}
use Rattle.track.specs.Track.{track_judge, track_refused, track_full, track_answers, solve_track, solve_left}
use Rattle.track.proofs.SevenRows.{none_written}

-- what is written of the arm that is left
module _ (t : Task) {list : FullList} (l : ListOf t list) where
  pub left-result : (room : ℕ) → gives (length (listed list)) (evaluated list) room ≡ solve_left t room
  unfolding solve_left
  left-result room = rw (l.all, l.counted) refl

  pub left-angles : (form : Form) (a : List Float) (f : List ℕ) → written_of form (listed list) a f ≡ written_of form (of_task t).answers a f
  left-angles form a f = rw l.all refl

  pub left-flags : (form : Form) (a : List Float) (f : List ℕ) → flagged_of form (listed list) a f ≡ flagged_of form (of_task t).answers a f
  left-flags form a f = rw l.all refl

module _ (family n : ℕ) (arm : List Float) (joint : ℕ) (angle : Float) (pose : List Float) where
  -- a refusal, whatever joint: no list is long enough to be written to
  module _ (angles : List Float) (flags : List ℕ) {r : ℕ} (e : r ≡ track_refused family n arm joint angle pose) (h : r ≡ 0 → ⊥) where
    solves-nothing : track_full family n arm joint angle pose ≡ no_search []
    unfolding track_full
    solves-nothing = let t = ne_eqb r 0 h in cc

    refused-is : solve_track family n arm joint angle pose (room_of (sevens joint angle) angles flags) ≡ refuses r
    unfolding solve_track
    refused-is = rw (track_answers, solves-nothing, ← e, ne_eqb r 0 h)

    pub result-refused : refuses r ≡ solve_track family n arm joint angle pose (room_of (sevens joint angle) angles flags)
    result-refused = sym refused-is

    pub angles-refused : angles ≡ written_of (sevens joint angle) (track_answers family n arm joint angle pose) angles flags
    angles-refused = rw (track_answers, solves-nothing) (none_written joint angle angles flags).all_angles

    pub flags-refused : flags ≡ flagged_of (sevens joint angle) (track_answers family n arm joint angle pose) angles flags
    flags-refused = rw (track_answers, solves-nothing) (none_written joint angle angles flags).all_flags

  -- first the numbers that are lent, then those of the arm that is left
  pub by_judge : {first : ℕ} → first ≡ track_judge family n arm joint angle pose → (first ≡ 0 → ⊥) → first ≡ track_refused family n arm joint angle pose
  unfolding track_refused
  by_judge {first} e h = let t = ne_eqb first 0 h in cc

  module _ (e : 0 ≡ track_judge family n arm joint angle pose) {left to : List Float} (e-l : left ≡ reduced_arm arm joint angle) (e-t : to ≡ handed_on arm joint angle pose) where
    after-judge : cond (all_finite left && all_finite to) 0 8 ≡ track_refused family n arm joint angle pose
    unfolding track_refused
    after-judge = let u = eq-eqb (track_judge family n arm joint angle pose) 0 (sym e) in rw (e-l, e-t, u) refl

    module _ {a : Bool} (e-a : a ≡ all_finite left) where
      pub left-overflows : a ≡ false → 8 ≡ track_refused family n arm joint angle pose
      left-overflows o = let h : cond (a && all_finite to) 0 8 ≡ track_refused family n arm joint angle pose = rw e-a after-judge in rw o at h

      module _ {b : Bool} (o : a ≡ true) (e-b : b ≡ all_finite to) where
        both : cond (a && b) 0 8 ≡ track_refused family n arm joint angle pose
        both = rw (e-a, e-b) after-judge

        pub to-overflows : b ≡ false → 8 ≡ track_refused family n arm joint angle pose
        to-overflows o' = rw (o, o') at both

        pub unrefused : b ≡ true → 0 ≡ track_refused family n arm joint angle pose
        unrefused o' = rw (o, o') at both

    -- what is solved
    pub task_is : {t : Task} {known : Family} → 0 ≡ track_refused family n arm joint angle pose → Ok known ≡ family_of family → t ≡ task_of known n left to → of_task t ≡ track_full family n arm joint angle pose
    unfolding track_full
    task_is {known = known} z h e-s = rw (e-s, named family known (sym h), ← z, e-l, e-t) refl

  module _ (t : Task) (z : 0 ≡ track_refused family n arm joint angle pose) (e : of_task t ≡ track_full family n arm joint angle pose) where
    pub result-solved : (room : ℕ) → solve_left t room ≡ solve_track family n arm joint angle pose room
    unfolding solve_left solve_track
    result-solved room = let u = eq-eqb (track_refused family n arm joint angle pose) 0 (sym z) in rw (e, u) refl
