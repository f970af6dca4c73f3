-- Rows of seven numbers.
use Prim.Native.Nat.{ℕ, zero, suc, ◌≤◌}
use mathlib.Core.Path.{◌≡◌, refl, ap}
use mathlib.Core.List.{List, [], ◌∷◌, flat_map}
use native.Mathlib.Omega.{arith}
use lib.Ieee.{Float}
use lib.ListN.{length}
use lib.Seq.{take-nil}
use Rattle.answers.specs.Rows.{room_of, fitting_of, written_of, flagged_of, WroteOf}
use Rattle.answers.specs.declared.Answer.{Answer}
use Rattle.answers.proofs.Rows.{Good}
use Rattle.track.specs.Sevens.{seven, parts, sevens}

-- for each joint
pub by_joint : (P : ℕ → Type 0) → P 0 → P 1 → P 2 → P 3 → P 4 → P 5 → P 6 → (n : ℕ) → n ≤ 6 → P n
by_joint P p0 p1 p2 p3 p4 p5 p6 zero h = p0
by_joint P p0 p1 p2 p3 p4 p5 p6 (suc zero) h = p1
by_joint P p0 p1 p2 p3 p4 p5 p6 (suc (suc zero)) h = p2
by_joint P p0 p1 p2 p3 p4 p5 p6 (suc (suc (suc zero))) h = p3
by_joint P p0 p1 p2 p3 p4 p5 p6 (suc (suc (suc (suc zero)))) h = p4
by_joint P p0 p1 p2 p3 p4 p5 p6 (suc (suc (suc (suc (suc zero))))) h = p5
by_joint P p0 p1 p2 p3 p4 p5 p6 (suc (suc (suc (suc (suc (suc zero)))))) h = p6
by_joint P p0 p1 p2 p3 p4 p5 p6 (suc (suc (suc (suc (suc (suc (suc n))))))) h = absurd (omega arith)

pub seven_long : (joint : ℕ) (angle : Float) (q : Answer) → joint ≤ 6 → length (seven joint angle q) ≡ 7
unfolding seven
seven_long joint angle q h = by_joint (λ j. length (seven j angle q) ≡ 7) refl refl refl refl refl refl refl joint h

pub seven_good : (joint : ℕ) (angle : Float) → joint ≤ 6 → Good (sevens joint angle)
seven_good joint angle h = record { width = omega arith; long = λ q. seven_long joint angle q h }

-- no answers leave the lists as they are, whatever the joint
pub none_written : (joint : ℕ) (angle : Float) (a : List Float) (f : List ℕ) → WroteOf (sevens joint angle) [] a f a f 0
unfolding written_of flagged_of fitting_of flat_map
none_written joint angle a f = let e = take-nil {A = Answer} (room_of (sevens joint angle) a f) in record { all_angles = rw e; all_flags = rw e; all_counted = refl }

pub seven_parts : (joint : ℕ) (angle : Float) (q : Answer) → joint ≤ 6 → parts (seven joint angle q) ≡ seven joint angle q
unfolding seven
seven_parts joint angle q h = by_joint (λ j. parts (seven j angle q) ≡ seven j angle q) refl refl refl refl refl refl refl joint h

-- an answer by itself
abbrev pub one : Answer → List Answer
one q = q ∷ []

pub one_few : (q : Answer) → length (one q) ≤ 1
one_few q = omega arith

pub ones : (l : List Answer) → flat_map one l ≡ l
unfolding flat_map
ones [] = refl
ones (q ∷ l) = ap (λ (t : List Answer). q ∷ t) (ones l)
