-- For each q5 the answer of `wrist_q5`.
use Rattle.families_shared.proofs.Gathered.{Gathered}
use Rattle.families_wrist.specs.Wrist.{wrist_q5}
use Rattle.families_wrist.proofs.wrist.Given as goal

abbrev pub invariant-loop-q5 : goal.invariant-loop-q5
invariant-loop-q5 l =
    Gathered (wrist_q5 l.arm.kin l.arm.tolerance l.fn.r_36 l.q1 l.q2 l.q3 l.is_ls) l.q5-items 1 l.q5-index l.all.items
