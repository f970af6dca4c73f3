-- A loop that writes the answers of each p of a list, one after the other: the rest of both lists is lent to the function that writes those of one. For rows of any width.
use Prim.Native.Nat.{ℕ, zero, suc, min, ◌+◌, ◌*◌, ◌-◌, ◌<◌, ◌≤◌}
use mathlib.Core.Path.{◌≡◌, ◌∙◌, ap}
use mathlib.Core.List.{List, [], ◌∷◌, ◌++◌, flat_map, append-nil}
use native.Mathlib.Nat.{zero-min, suc-min-suc}
use native.Mathlib.Numerals.{add-one}
use native.Mathlib.Omega.{arith}
use borrow.Rule.Slice.PartMut.{put_mid, mid_of}
use lib.Ieee.{Float}
use lib.ListN.{length, take, drop, get_or, length-drop, drop_of_length-le}
use lib.Seq.{take_all, take-suc, take-nil, drop-nil}
use Rattle.answers.specs.Rows.{Form, WroteOf}
use Rattle.answers.specs.declared.Answer.{Answer}
use Rattle.answers.proofs.Rows.{Good, flat_map_append, written_long, flagged_long, next, nothing}

-- the k answers of the first i of the n members of l are written, where each member has at most so many (17,600 is 44 × 400, the most that there are in family 6)
pub record StepsOf (form : Form) {P : Type 0} (g : P → List Answer) (l : List P) (n each : ℕ) (a₀ : List Float) (f₀ : List ℕ) (a : List Float) (f : List ℕ) (k i : ℕ) : Type 0 where
  pub within : i ≤ n
  pub all : n ≡ length l
  pub few : n ≤ 17600
  pub bound : k ≤ each * i
  pub wrote : WroteOf form (flat_map g (take i l)) a₀ f₀ a f k

-- the rest of a list from n on, or from its end where that comes first
drop_min : {A : Type 0} (n : ℕ) (l : List A) → drop (min n (length l)) l ≡ drop n l
drop_min n [] = rw (drop-nil (min n 0), drop-nil n)
drop_min zero (x ∷ l) = rw zero-min
drop_min (suc n) (x ∷ l) = rw suc-min-suc (drop_min n l)

take_min : {A : Type 0} (n : ℕ) (l : List A) → take (min n (length l)) l ≡ take n l
take_min n [] = rw (take-nil (min n 0), take-nil n)
take_min zero (x ∷ l) = rw zero-min
take_min (suc n) (x ∷ l) = rw (suc-min-suc, take_min n l)

-- as it is lent
pub lent : {A : Type 0} (n : ℕ) (l : List A) {at : ℕ} → at ≡ min n (length l) → mid_of at (length l - at) l ≡ drop n l
lent n l {at} e =
    let whole : length (drop at l) ≤ length l - at = rw length-drop (omega arith) in
    take_all (length l - at) (drop at l) whole ∙ rw e (drop_min n l)

-- as it comes back
pub back : {A : Type 0} (n : ℕ) (l l' : List A) {at : ℕ} → at ≡ min n (length l) → put_mid at (length l - at) l l' ≡ take n l ++ l'
back n l l' {at} e =
    let whole : length (drop at l) ≤ length l - at = rw length-drop (omega arith) in
    rw (drop_of_length-le (drop at l) whole, append-nil l', e) (ap (λ (t : List _). t ++ l') (take_min n l))

module _ (form : Form) (good : Good form) {P : Type 0} (g : P → List Answer) (l : List P) where
  one_more : (d : P) (i : ℕ) → i < length l → flat_map g (take (i + 1) l) ≡ flat_map g (take i l) ++ g (get_or l i d)
  unfolding flat_map
  one_more d i h = rw (add-one i, take-suc l i d h, flat_map_append, append-nil)

  pub start_long : (n each : ℕ) (a : List Float) (f : List ℕ) → n ≡ length l → n ≤ 17600 → StepsOf form g l n each a f a f 0 0
  unfolding flat_map
  start_long n each a f e h = record { within = omega arith; all = e; few = h; bound = omega arith; wrote = nothing form good a f }

  -- over the answers of one subproblem
  pub start : (n each : ℕ) (a : List Float) (f : List ℕ) → n ≡ length l → n ≤ 4 → StepsOf form g l n each a f a f 0 0
  start n each a f e h = start_long n each a f e (omega arith)

  -- a step: p is the member with the number i, the rest of the lists begins at `at` and `on`, and came back as a' and f'
  pub again : (d : P) (n each : ℕ) {a₀ a a' : List Float} {f₀ f f' : List ℕ} {k i at on r : ℕ} {p : P}
      → ((x : P) → length (g x) ≤ each)
      → StepsOf form g l n each a₀ f₀ a f k i
      → i < n
      → p ≡ get_or l i d
      → at ≡ min (form.wide * k) (length a)
      → on ≡ min k (length f)
      → WroteOf form (g p) (mid_of at (length a - at) a) (mid_of on (length f - on) f) a' f' r
      → StepsOf form g l n each a₀ f₀ (put_mid at (length a - at) a a') (put_mid on (length f - on) f f') (k + r) (i + 1)
  again d n each {a₀} {a} {a'} {f₀} {f} {f'} {k} {i} {r = r} {p = p} small t h e e-at e-on w =
      let w' : WroteOf form (g p) (drop (form.wide * k) a) (drop k f) a' f' r = rw (lent (form.wide * k) a e-at, lent k f e-on) at w in
      let more : WroteOf form (flat_map g (take i l) ++ g p) a₀ f₀ (take (form.wide * k) a ++ a') (take k f ++ f') (k + r) = next form good t.wrote w' in
      let all : flat_map g (take (i + 1) l) ≡ flat_map g (take i l) ++ g p = rw e (one_more d i (omega (arith, t.all))) in
      record {
        within = omega arith;
        all = t.all;
        few = t.few;
        bound = omega (arith, small p, w.all_counted, t.bound);
        wrote = rw (all, back (form.wide * k) a a' e-at, back k f f' e-on) more;
      }

  -- the number of answers stays small
  pub small_sum : (n each : ℕ) {a₀ a b₀ b : List Float} {f₀ f g₀ g' : List ℕ} {k i r : ℕ} {p : P}
      → ((x : P) → length (g x) ≤ each)
      → StepsOf form g l n each a₀ f₀ a f k i
      → WroteOf form (g p) b₀ g₀ b g' r
      → (k + r ≤ each * i + each) × (i ≤ 17600)
  small_sum n each {p = p} small t w = (omega (arith, small p, w.all_counted, t.bound), omega (arith, t.within, t.few))

  pub end : (n each : ℕ) {a₀ a : List Float} {f₀ f : List ℕ} {k i : ℕ} → n ≤ i → StepsOf form g l n each a₀ f₀ a f k i → WroteOf form (flat_map g l) a₀ f₀ a f k
  end n each {i = i} h t = rw (take_all i l (omega (arith, t.all))) at t.wrote

  pub angles_kept : (n each : ℕ) (a₀ a : List Float) (f₀ f : List ℕ) (k i : ℕ) → StepsOf form g l n each a₀ f₀ a f k i → length a ≡ length a₀
  angles_kept n each a₀ a f₀ f k i t = ap length t.wrote.all_angles ∙ written_long form good _ a₀ f₀

  pub flags_kept : (n each : ℕ) (a₀ a : List Float) (f₀ f : List ℕ) (k i : ℕ) → StepsOf form g l n each a₀ f₀ a f k i → length f ≡ length f₀
  flags_kept n each a₀ a f₀ f k i t = ap length t.wrote.all_flags ∙ flagged_long form good _ a₀ f₀
