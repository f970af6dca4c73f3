-- Written where it is inside.
use Prim.Native.Nat.{ℕ}
use mathlib.Core.Path.{◌≡◌}
use mathlib.Core.Bool.{Bool, true, false}
use mathlib.Core.List.{List, [], ◌∷◌}
use lib.Ieee.{Float}
use Rattle.answers.specs.Written.{Wrote}
use Rattle.answers.specs.declared.Answer.{Answer}
use Rattle.answers.proofs.Laws.{by_name, nothing}
use Rattle.limits.specs.Limits.{inside, allowed}
use Rattle.limits.proofs.Filter.{one_stays, one_leaves}
use Rattle.limits.proofs.Limits.put.Goals as goal

module _ (limits : List Float) (q : Answer) (a : List Float) (f : List ℕ) {t : Bool} (e : t ≡ inside limits q) where
  stays : {a' : List Float} {f' : List ℕ} {r : ℕ} → t ≡ true → Wrote (q ∷ []) a f a' f' r → Wrote (allowed limits (q ∷ [])) a f a' f' r
  stays y w = by_name (one_stays limits q (cc)) w

  leaves : t ≡ false → Wrote (allowed limits (q ∷ [])) a f a f 0
  leaves n = by_name (one_leaves limits q (cc)) (nothing a f)

pub returns-then-inside : goal.returns-then-inside
returns-then-inside c = search stays

pub returns-else-inside : goal.returns-else-inside
returns-else-inside c = search leaves
