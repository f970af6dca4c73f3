-- The laws of RowSteps.antt for answers of six numbers, and how many answers a loop writes.
use Prim.Native.Nat.{ℕ, min, ◌+◌, ◌*◌, ◌-◌, ◌<◌, ◌≤◌}
use mathlib.Core.Path.{◌≡◌}
use mathlib.Core.List.{List, [], ◌∷◌, flat_map}
use native.Mathlib.Nat.{le_trans, mul-le-mul_left}
use native.Mathlib.Omega.{arith}
use borrow.Rule.Slice.PartMut.{put_mid, mid_of}
use lib.Ieee.{Float}
use lib.ListN.{length, get_or, length-append}
use Rattle.answers.specs.Written.{sixes, Wrote}
use Rattle.answers.specs.declared.Answer.{Answer}
use Rattle.answers.proofs.Laws.{six_good}
use Rattle.answers.proofs.RowSteps as Rows
use Rattle.answers.proofs.RowSteps.{StepsOf}

abbrev pub Steps : {P : Type 0} → (P → List Answer) → List P → ℕ → ℕ → List Float → List ℕ → List Float → List ℕ → ℕ → ℕ → Type 0
Steps g l n each a₀ f₀ a f k i = StepsOf sixes g l n each a₀ f₀ a f k i

module _ {P : Type 0} (g : P → List Answer) (l : List P) where
  pub start_long : (n each : ℕ) (a : List Float) (f : List ℕ) → n ≡ length l → n ≤ 17600 → Steps g l n each a f a f 0 0
  start_long = Rows.start_long sixes six_good g l

  pub start : (n each : ℕ) (a : List Float) (f : List ℕ) → n ≡ length l → n ≤ 4 → Steps g l n each a f a f 0 0
  start = Rows.start sixes six_good g l

  pub again : (d : P) (n each : ℕ) {a₀ a a' : List Float} {f₀ f f' : List ℕ} {k i at on r : ℕ} {p : P}
      → ((x : P) → length (g x) ≤ each)
      → Steps g l n each a₀ f₀ a f k i
      → i < n
      → p ≡ get_or l i d
      → at ≡ min (6 * k) (length a)
      → on ≡ min k (length f)
      → Wrote (g p) (mid_of at (length a - at) a) (mid_of on (length f - on) f) a' f' r
      → Steps g l n each a₀ f₀ (put_mid at (length a - at) a a') (put_mid on (length f - on) f f') (k + r) (i + 1)
  again d n each small t h e e-at e-on w = Rows.again sixes six_good g l d n each small t h e e-at e-on w

  pub small_sum : (n each : ℕ) {a₀ a b₀ b : List Float} {f₀ f g₀ g' : List ℕ} {k i r : ℕ} {p : P}
      → ((x : P) → length (g x) ≤ each)
      → Steps g l n each a₀ f₀ a f k i
      → Wrote (g p) b₀ g₀ b g' r
      → (k + r ≤ each * i + each) × (i ≤ 17600)
  small_sum n each {p = p} small t w = Rows.small_sum sixes six_good g l n each {p = p} small t w

  pub end : (n each : ℕ) {a₀ a : List Float} {f₀ f : List ℕ} {k i : ℕ} → n ≤ i → Steps g l n each a₀ f₀ a f k i → Wrote (flat_map g l) a₀ f₀ a f k
  end n each h t = Rows.end sixes six_good g l n each h t

  pub angles_kept : (n each : ℕ) (a₀ a : List Float) (f₀ f : List ℕ) (k i : ℕ) → Steps g l n each a₀ f₀ a f k i → length a ≡ length a₀
  angles_kept = Rows.angles_kept sixes six_good g l

  pub flags_kept : (n each : ℕ) (a₀ a : List Float) (f₀ f : List ℕ) (k i : ℕ) → Steps g l n each a₀ f₀ a f k i → length f ≡ length f₀
  flags_kept = Rows.flags_kept sixes six_good g l

-- the number of answers
each_few : {P : Type 0} (g : P → List Answer) (each : ℕ) (l : List P) → ((x : P) → length (g x) ≤ each) → length (flat_map g l) ≤ each * length l
unfolding flat_map
each_few g each [] small = omega arith
each_few g each (x ∷ l) small = rw length-append (omega (arith, small x, each_few g each l small))

pub at_most : {P : Type 0} (g : P → List Answer) (each m : ℕ) (l : List P) → ((x : P) → length (g x) ≤ each) → length l ≤ m → length (flat_map g l) ≤ each * m
at_most g each m l small h = le_trans (each_few g each l small) (mul-le-mul_left each h)
