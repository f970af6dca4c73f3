-- The locked angle at its joint, for each of the seven.
use Prim.Native.Nat.{ℕ, ◌≤◌}
use mathlib.Core.Path.{◌≡◌}
use mathlib.Core.List.{[], ◌∷◌}
use native.Mathlib.Omega.{arith}
use lib.Ieee.{Float}
use Rattle.answers.specs.declared.Answer.{Answer}
use Rattle.track.specs.Sevens.{seven}
use Rattle.track.proofs.sevens.seven.Goals as goal

module _ (q : Answer) (joint : ℕ) (angle : Float) where
  first : joint ≡ 0 → angle ∷ q.q1 ∷ q.q2 ∷ q.q3 ∷ q.q4 ∷ q.q5 ∷ q.q6 ∷ [] ≡ seven joint angle q
  unfolding seven
  first e = rw e

  second : joint ≡ 1 → q.q1 ∷ angle ∷ q.q2 ∷ q.q3 ∷ q.q4 ∷ q.q5 ∷ q.q6 ∷ [] ≡ seven joint angle q
  unfolding seven
  second e = rw e

  third : joint ≡ 2 → q.q1 ∷ q.q2 ∷ angle ∷ q.q3 ∷ q.q4 ∷ q.q5 ∷ q.q6 ∷ [] ≡ seven joint angle q
  unfolding seven
  third e = rw e

  fourth : joint ≡ 3 → q.q1 ∷ q.q2 ∷ q.q3 ∷ angle ∷ q.q4 ∷ q.q5 ∷ q.q6 ∷ [] ≡ seven joint angle q
  unfolding seven
  fourth e = rw e

  fifth : joint ≡ 4 → q.q1 ∷ q.q2 ∷ q.q3 ∷ q.q4 ∷ angle ∷ q.q5 ∷ q.q6 ∷ [] ≡ seven joint angle q
  unfolding seven
  fifth e = rw e

  sixth : joint ≡ 5 → q.q1 ∷ q.q2 ∷ q.q3 ∷ q.q4 ∷ q.q5 ∷ angle ∷ q.q6 ∷ [] ≡ seven joint angle q
  unfolding seven
  sixth e = rw e

  seventh : joint ≤ 6 → (joint ≡ 0 → ⊥) → (joint ≡ 1 → ⊥) → (joint ≡ 2 → ⊥) → (joint ≡ 3 → ⊥) → (joint ≡ 4 → ⊥) → (joint ≡ 5 → ⊥) → q.q1 ∷ q.q2 ∷ q.q3 ∷ q.q4 ∷ q.q5 ∷ q.q6 ∷ angle ∷ [] ≡ seven joint angle q
  unfolding seven
  seventh h h0 h1 h2 h3 h4 h5 = let e : joint ≡ 6 = omega arith in rw e

pub returns-in-0 : goal.returns-in-0
returns-in-0 c = search first

pub returns-in-1 : goal.returns-in-1
returns-in-1 c = search second

pub returns-in-2 : goal.returns-in-2
returns-in-2 c = search third

pub returns-in-3 : goal.returns-in-3
returns-in-3 c = search fourth

pub returns-in-4 : goal.returns-in-4
returns-in-4 c = search fifth

pub returns-in-5 : goal.returns-in-5
returns-in-5 c = search sixth

pub returns-in_default : goal.returns-in_default
returns-in_default c = search seventh
