-- The track call meets demand 3, whatever it is lent, where it is not refused before it solves. Assumes nothing.
use Prim.Native.Nat.{ℕ}
use mathlib.Core.Path.{◌≡◌, refl, sym, ◌∙◌, ap}
use mathlib.Core.List.{List, []}
use native.Mathlib.Omega.{arith}
use borrow.Author.Tests.{leb-true}
use lib.Dec.{leb}
use lib.Ieee.{Float}
use lib.ListN.{length}
use Rattle.refusals.specs.Judge.{all_finite}
use Rattle.limits.specs.Limits.{refusal_10}
use Rattle.limits.proofs.Filter.{unlimited}
use Rattle.full_list.specs.Full.{Full}
use Rattle.solve.specs.Solve.{full, solve}
use Rattle.solve.specs.Demand3.{of_pairs, Finite, SolveDemand3}
use Rattle.solve.proofs.Demand3.{demand, unrefused}
use Rattle.track.specs.Reduced.{reduced_arm, handed_on}
use Rattle.track.specs.Track.{track_refused, track_full, track_answers, solve_track}
use Rattle.track.specs.TrackDemand3.{TrackDemand3}
use Rattle.track.proofs.Accepted.{both_true, track_accepted, unrefused_track}
use Rattle.track.proofs.Numbers.{reduced_long, handed_long}

no_limits : refusal_10 [] ≡ 0
unfolding refusal_10
no_limits = refl

module _ (n : ℕ) (arm : List Float) (joint : ℕ) (angle : Float) (pose : List Float) (e : 0 ≡ track_refused 6 n arm joint angle pose) where
  abbrev left : List Float
  left = reduced_arm arm joint angle

  abbrev to : List Float
  to = handed_on arm joint angle pose

  finite : Finite n left to
  finite =
      let u = unrefused_track 6 n arm joint angle pose e in
      let a = track_accepted 6 n arm joint angle pose u.0 in
      let s = both_true (leb 1 n) (leb n 400) a.samples in
      let f = both_true (all_finite left) (all_finite to) u.1 in
      record {
        arm_long = reduced_long arm joint angle;
        pose_long = handed_long arm joint angle pose;
        arm_finite = f.0;
        pose_finite = f.1;
        some = leb-true 1 n s.0;
        most = leb-true n 400 s.1;
      }

  solves : track_full 6 n arm joint angle pose ≡ full 6 n left to []
  unfolding track_full
  solves = rw (← e) (sym (unrefused n left to finite [] no_limits))

  module _ (room : ℕ) where
    d : SolveDemand3 n left to [] room
    d = demand n left to finite [] no_limits room

    same_evals : (solve_track 6 n arm joint angle pose room).evals ≡ (solve 6 n left to [] room).evals
    unfolding solve_track solve
    same_evals = ap (λ (x : Full). x.evals) solves

    same_list : track_answers 6 n arm joint angle pose ≡ of_pairs n left to
    same_list = ap (λ (x : Full). x.answers) solves ∙ sym (unlimited (full 6 n left to []).answers) ∙ d.list ∙ unlimited (of_pairs n left to)

    count : (solve_track 6 n arm joint angle pose room).answers ≡ length (of_pairs n left to)
    unfolding solve_track
    count = ap length same_list

    pub track_demand : TrackDemand3 n arm joint angle pose room
    track_demand =
        let few-evals = d.bounded in
        let few-pairs = d.listed.listed in
        record {
          evaluations = same_evals ∙ d.evaluations;
          bounded = rw same_evals few-evals;
          list = same_list;
          counted = count ∙ d.one_each;
          few = omega (arith, count, d.one_each);
          listed = d.listed;
        }
