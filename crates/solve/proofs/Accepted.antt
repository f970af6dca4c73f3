-- What holds of the input where none of refusals 4 to 8 applies.
use Prim.Native.Nat.{ℕ, ◌≤◌}
use mathlib.Core.Path.{◌≡◌, refl, sym, ◌∙◌}
use mathlib.Core.Bool.{Bool, true, false, cond, ◌&&◌}
use mathlib.Core.List.{List}
use native.Mathlib.Omega.{arith}
use borrow.Author.Tests.{leb-true, eqb-true, eqb-false, eq-eqb, ne_eqb}
use lib.Dec.{leb, eqb}
use lib.Ieee.{Float}
use lib.ListN.{length}
use Rattle.std.proofs.Common.{Ok, Err}
use Rattle.std.proofs.lemmas.Grind.{common_steps}
use Rattle.refusals.specs.Family.{family_number, family_of}
use Rattle.refusals.specs.declared.family.Family.{Family}
use Rattle.refusals.specs.Judge.{known, samples_fit, all_finite, judge_shape, judge_numbers, judge}
use Rattle.refusals.proofs.Judged.{judge_refused, judge_accepted}
use Rattle.limits.specs.Limits.{refusal_10}
use Rattle.full_list.specs.Full.{of_numbers}
use Rattle.full_list.specs.Task.{task_of, of_task}
use Rattle.full_list.specs.declared.task.Task.{Task}
use Rattle.refusals.specs.declared.refusal.Refusal.{Refusal}
use Rattle.solve.specs.Solve.{refused, full}

pub record Accepted (family n : ℕ) (arm pose : List Float) : Type 0 where
  pub family_low : 1 ≤ family
  pub family_high : family ≤ 6
  pub arm_long : length arm ≡ 39
  pub pose_long : length pose ≡ 12
  pub samples : samples_fit family n ≡ true
  pub arm_finite : all_finite arm ≡ true
  pub pose_finite : all_finite pose ≡ true

both_true : (a b : Bool) → a && b ≡ true → (a ≡ true) × (b ≡ true)
both_true true true e = (refl, refl)
both_true true false e = (refl, e)
both_true false b e = (e, cc)

five : (k a p s f : Bool)
    → ◌≡◌ {A = ℕ} 0 (cond k (cond a (cond p (cond s (cond f 0 8) 7) 6) 5) 4)
    → (k ≡ true) × (a ≡ true) × (p ≡ true) × (s ≡ true) × (f ≡ true)
five true true true true true e = (refl, refl, refl, refl, refl)
five true true true true false e = let z : ◌≡◌ {A = ℕ} 0 8 = e in absurd (omega arith)
five true true true false f e = let z : ◌≡◌ {A = ℕ} 0 7 = e in absurd (omega arith)
five true true false s f e = let z : ◌≡◌ {A = ℕ} 0 6 = e in absurd (omega arith)
five true false p s f e = let z : ◌≡◌ {A = ℕ} 0 5 = e in absurd (omega arith)
five false a p s f e = let z : ◌≡◌ {A = ℕ} 0 4 = e in absurd (omega arith)

pub accepted : (family n : ℕ) (arm pose : List Float) → 0 ≡ judge family n arm pose → Accepted family n arm pose
unfolding judge
accepted family n arm pose e =
    let t = five (known family) (eqb (length arm) 39) (eqb (length pose) 12) (samples_fit family n) (all_finite arm && all_finite pose) e in
    let k = both_true (leb 1 family) (leb family 6) t.0 in
    let f = both_true (all_finite arm) (all_finite pose) t.4 in
    record {
      family_low = leb-true 1 family k.0;
      family_high = leb-true family 6 k.1;
      arm_long = eqb-true (length arm) 39 t.1;
      pose_long = eqb-true (length pose) 12 t.2;
      samples = t.3;
      arm_finite = f.0;
      pose_finite = f.1;
    }

-- the limits of a call that does not refuse, and its numbers
both_zero : (t : Bool) (x y : ℕ) → eqb x 0 ≡ t → ◌≡◌ {A = ℕ} 0 (cond t y x) → (x ≡ 0) × (0 ≡ y)
both_zero true x y e z = (eqb-true x 0 e, z)
both_zero false x y e z = absurd (eqb-false x 0 e (sym z))

module _ (family n : ℕ) (arm pose limits : List Float) (e : 0 ≡ refused family n arm pose limits) where
  both_accepted : (refusal_10 limits ≡ 0) × (0 ≡ judge family n arm pose)
  unfolding refused
  both_accepted = both_zero (eqb (refusal_10 limits) 0) (refusal_10 limits) (judge family n arm pose) refl e

  pub accepted_numbers : 0 ≡ judge family n arm pose
  accepted_numbers = both_accepted.1

-- the family of a number
pub named : (number : ℕ) (family : Family) → family_of number ≡ Ok family → family_number family ≡ number
named number family e = grind (arith, common_steps)

-- and no number of one is refused
pub unnamed : (number : ℕ) (e : Refusal) → Err e ≡ family_of number → 1 ≤ number → number ≤ 6 → ⊥
unnamed number e h low high = grind (arith, common_steps)

-- 4 to 8 where none of 4 to 6 applies
pub judged_numbers : (family n : ℕ) (arm pose : List Float) {r : ℕ} → 0 ≡ judge_shape family arm 39 pose → r ≡ judge_numbers family n arm pose → r ≡ judge family n arm pose
judged_numbers family n arm pose e h = h ∙ judge_accepted family n arm pose (sym e)

-- 10 first, then 4 to 8
module _ (family n : ℕ) (arm pose limits : List Float) where
  pub by_limits : {ten : ℕ} → ten ≡ refusal_10 limits → (ten ≡ 0 → ⊥) → ten ≡ refused family n arm pose limits
  unfolding refused
  by_limits {ten} e h = let t = ne_eqb ten 0 h in cc

  pub by_judge : {r : ℕ} → ◌≡◌ {A = ℕ} 0 (refusal_10 limits) → r ≡ judge family n arm pose → r ≡ refused family n arm pose limits
  unfolding refused
  by_judge z e = let t = eq-eqb (refusal_10 limits) 0 (sym z) in cc

  pub by_shape : {r : ℕ} → ◌≡◌ {A = ℕ} 0 (refusal_10 limits) → r ≡ judge_shape family arm 39 pose → (r ≡ 0 → ⊥) → r ≡ refused family n arm pose limits
  by_shape z e h = by_judge z (e ∙ judge_refused family n arm pose (λ y. h (e ∙ y)))

  -- what a call solves that is not refused
  pub solves : 0 ≡ refused family n arm pose limits → full family n arm pose limits ≡ of_numbers family n arm pose
  unfolding full
  solves z = let t = eq-eqb (refused family n arm pose limits) 0 (sym z) in cc

  pub task_is : {t : Task} {known : Family} {a p : List Float} → 0 ≡ refused family n arm pose limits → Ok known ≡ family_of family → a ≡ arm → p ≡ pose → t ≡ task_of known n a p → of_task t ≡ full family n arm pose limits
  task_is {known = known} z h e-a e-p e = rw (e, e-a, e-p, named family known (sym h)) (sym (solves z))

  -- the number of a family that is judged has one
  pub no_unnamed : {r : ℕ} {e : Refusal} → 0 ≡ judge_shape family arm 39 pose → 0 ≡ judge_numbers family n arm pose → Err e ≡ family_of family → r ≡ refused family n arm pose limits
  no_unnamed {e = e} s m h = let fit = accepted family n arm pose (judged_numbers family n arm pose s m) in absurd (unnamed family e h fit.family_low fit.family_high)
