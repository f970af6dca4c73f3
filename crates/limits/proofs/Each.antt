-- A loop over a list of answers that puts each one that is inside.
use Prim.Native.Nat.{ℕ, min, ◌+◌, ◌*◌, ◌-◌, ◌≤◌, ◌<◌}
use mathlib.Core.Path.{◌≡◌}
use mathlib.Core.List.{List, [], ◌∷◌}
use native.Mathlib.Omega.{arith}
use borrow.Rule.Slice.PartMut.{put_mid, mid_of}
use lib.Ieee.{Float}
use lib.ListN.{length, get_or}
use Rattle.answers.specs.Written.{Wrote}
use Rattle.answers.specs.declared.Answer.{Answer}
use Rattle.answers.proofs.Laws.{by_name}
use Rattle.answers.proofs.Steps.{Steps, start_long, again, end}
use Rattle.limits.specs.Limits.{allowed}
use Rattle.limits.proofs.Filter.{each_allowed, one_few}

-- the answer, where it is inside
abbrev pub one : List Float → Answer → List Answer
one limits q = allowed limits (q ∷ [])

-- those of the first k of n answers that are inside are written, and counted
abbrev pub Written : List Float → List Answer → ℕ → List Float → List ℕ → List Float → List ℕ → ℕ → ℕ → Type 0
Written limits all n a₀ f₀ a f count k = Steps (one limits) all n 1 a₀ f₀ a f count k

module _ (limits : List Float) (all : List Answer) (n : ℕ) where
  pub begun : (a : List Float) (f : List ℕ) → n ≡ length all → n ≤ 17600 → Written limits all n a f a f 0 0
  begun a f e h = start_long (one limits) all n 1 a f e h

  pub step : (d : Answer) {a₀ a a' : List Float} {f₀ f f' : List ℕ} {count k at on r : ℕ} {q : Answer}
      → Written limits all n a₀ f₀ a f count k
      → k < n
      → q ≡ get_or all k d
      → at ≡ min (6 * count) (length a)
      → on ≡ min count (length f)
      → Wrote (one limits q) (mid_of at (length a - at) a) (mid_of on (length f - on) f) a' f' r
      → Written limits all n a₀ f₀ (put_mid at (length a - at) a a') (put_mid on (length f - on) f f') (count + r) (k + 1)
  step d t h e e1 e2 w = again (one limits) all d n 1 (one_few limits) t h e e1 e2 w

  pub all_written : {a₀ a : List Float} {f₀ f : List ℕ} {count k : ℕ} → n ≤ k → Written limits all n a₀ f₀ a f count k → Wrote (allowed limits all) a₀ f₀ a f count
  all_written h t = by_name (each_allowed limits all) (end (one limits) all n 1 h t)

  -- the count stays small
  pub small : {a₀ a b₀ b : List Float} {f₀ f g₀ g' : List ℕ} {count k r : ℕ} (q : Answer)
      → Written limits all n a₀ f₀ a f count k
      → Wrote (one limits q) b₀ g₀ b g' r
      → count + r ≤ 17601
  small q t w = omega (arith, t.bound, t.within, t.few, w.all_counted, one_few limits q)
