-- What a track call leaves of the lent memory, and when it gives 9. What a call gives and leaves is `solve-track`, `written_of` and `flagged-of` by its contract; here is what those
-- are. Document 02: "10 and every later number report zeros and write nothing"; "9 counts sevens". Assumes nothing.
use Prim.Native.Nat.{ℕ, ◌<◌, ◌≤◌}
use mathlib.Core.Path.{◌≡◌, sym}
use mathlib.Core.List.{List, []}
use borrow.Author.Tests.{eq-eqb, ne_eqb, le-leb, lt-leb}
use lib.Ieee.{Float}
use lib.ListN.{length}
use Rattle.answers.specs.Rows.{room_of, written_of, flagged_of}
use Rattle.full_list.specs.Full.{no_search}
use Rattle.solve.specs.InNumbers.{Solved}
use Rattle.track.specs.Sevens.{sevens}
use Rattle.track.specs.Track.{track_refused, track_full, track_answers, solve_track}
use Rattle.track.proofs.SevenRows.{none_written}

abbrev solved : ℕ → ℕ → ℕ → Solved
solved refusal answers evals = record { refusal = refusal; answers = answers; evals = evals }

pub record TrackLent (family n : ℕ) (arm : List Float) (joint : ℕ) (angle : Float) (pose angles : List Float) (flags : List ℕ) : Type 0 where
  -- refusals 4 to 8 and 11 report zeros and leave both lists as they came
  pub zeros : (track_refused family n arm joint angle pose ≡ 0 → ⊥) → solve_track family n arm joint angle pose (room_of (sevens joint angle) angles flags) ≡ solved (track_refused family n arm joint angle pose) 0 0
  pub refused_angles : (track_refused family n arm joint angle pose ≡ 0 → ⊥) → written_of (sevens joint angle) (track_answers family n arm joint angle pose) angles flags ≡ angles
  pub refused_flags : (track_refused family n arm joint angle pose ≡ 0 → ⊥) → flagged_of (sevens joint angle) (track_answers family n arm joint angle pose) angles flags ≡ flags
  -- 9 is given exactly if the list does not fit, with its true length and evaluations
  pub too_many : track_refused family n arm joint angle pose ≡ 0 → room_of (sevens joint angle) angles flags < length (track_answers family n arm joint angle pose)
      → solve_track family n arm joint angle pose (room_of (sevens joint angle) angles flags) ≡ solved 9 (length (track_answers family n arm joint angle pose)) (track_full family n arm joint angle pose).evals
  pub few_enough : track_refused family n arm joint angle pose ≡ 0 → length (track_answers family n arm joint angle pose) ≤ room_of (sevens joint angle) angles flags
      → solve_track family n arm joint angle pose (room_of (sevens joint angle) angles flags) ≡ solved 0 (length (track_answers family n arm joint angle pose)) (track_full family n arm joint angle pose).evals

module _ (family n : ℕ) (arm : List Float) (joint : ℕ) (angle : Float) (pose angles : List Float) (flags : List ℕ) where
  none : (track_refused family n arm joint angle pose ≡ 0 → ⊥) → track_full family n arm joint angle pose ≡ no_search []
  unfolding track_full
  none h = rw (ne_eqb (track_refused family n arm joint angle pose) 0 h)

  by_refusal : (track_refused family n arm joint angle pose ≡ 0 → ⊥) → solve_track family n arm joint angle pose (room_of (sevens joint angle) angles flags) ≡ solved (track_refused family n arm joint angle pose) 0 0
  unfolding solve_track
  by_refusal h = rw (track_answers, none h, ne_eqb (track_refused family n arm joint angle pose) 0 h)

  over : track_refused family n arm joint angle pose ≡ 0 → room_of (sevens joint angle) angles flags < length (track_answers family n arm joint angle pose)
      → solve_track family n arm joint angle pose (room_of (sevens joint angle) angles flags) ≡ solved 9 (length (track_answers family n arm joint angle pose)) (track_full family n arm joint angle pose).evals
  unfolding solve_track
  over z h = rw (eq-eqb (track_refused family n arm joint angle pose) 0 z, lt-leb (length (track_answers family n arm joint angle pose)) (room_of (sevens joint angle) angles flags) h)

  within : track_refused family n arm joint angle pose ≡ 0 → length (track_answers family n arm joint angle pose) ≤ room_of (sevens joint angle) angles flags
      → solve_track family n arm joint angle pose (room_of (sevens joint angle) angles flags) ≡ solved 0 (length (track_answers family n arm joint angle pose)) (track_full family n arm joint angle pose).evals
  unfolding solve_track
  within z h = rw (eq-eqb (track_refused family n arm joint angle pose) 0 z, le-leb (length (track_answers family n arm joint angle pose)) (room_of (sevens joint angle) angles flags) h)

  pub track_lent : TrackLent family n arm joint angle pose angles flags
  track_lent =
      record {
        zeros = by_refusal;
        refused_angles = λ h. rw (track_answers, none h) (sym (none_written joint angle angles flags).all_angles);
        refused_flags = λ h. rw (track_answers, none h) (sym (none_written joint angle angles flags).all_flags);
        too_many = over;
        few_enough = within;
      }
