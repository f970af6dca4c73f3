-- The loops that sort a list in place, and what they make of it.
use Prim.Native.Nat.{ℕ, zero, suc, ◌-◌}
use native.Mathlib.Omega.{arith}
use mathlib.Core.Path.{◌≡◌, refl, ap, ◌∙◌}
use mathlib.Core.Bool.{Bool, false, cond, ◌||◌}
use mathlib.Core.List.{List, [], ◌∷◌, map}
use lib.ListN.{length, get_or, set, length-map}
use Rattle.triple_sort.specs.Port.{in_order}
use Rattle.triple_sort.specs.Sort.{carry, pass, carry_exchanges, exchanges, by_passes, sort}
use Rattle.scalar.proofs.Order.{by_test}

module _ {A : Type 0} (above : A → A → Bool) (outside : A) where
  -- the members at i and after it, exchanged if the earlier is above the later
  unfoldable pub exchange_at : ℕ → List A → List A
  exchange_at i t =
      let a = get_or t i outside in
      let b = get_or t (suc i) outside in
      cond (above a b) (set (set t i b) (suc i) a) t

  -- so at k places from i on
  unfoldable pub pass_from : ℕ → ℕ → List A → List A
  pass_from zero i t = t
  pass_from (suc k) i t = pass_from k (suc i) (exchange_at i t)

  exchange_after : (i : ℕ) (x : A) (t : List A) → exchange_at (suc i) (x ∷ t) ≡ x ∷ exchange_at i t
  unfolding exchange_at
  exchange_after i x t = by_test (above (get_or t i outside) (get_or t (suc i) outside)) (λ e. simp e) (λ e. simp e)

  pass_after : (k i : ℕ) (x : A) (t : List A) → pass_from k (suc i) (x ∷ t) ≡ x ∷ pass_from k i t
  unfolding pass_from
  pass_after zero i x t = refl
  pass_after (suc k) i x t = rw (exchange_after i x t) (pass_after k (suc i) x (exchange_at i t))

  pass_carries : (k : ℕ) (a : A) (l : List A) → k ≡ length l → pass_from k 0 (a ∷ l) ≡ carry above a l
  unfolding pass_from carry exchange_at
  pass_carries zero a [] h = refl
  pass_carries (suc k) a [] h = absurd (omega arith)
  pass_carries zero a (b ∷ l) h = absurd (omega arith)
  pass_carries (suc k) a (b ∷ l) h =
      by_test (above a b)
      (λ e. let i = pass_carries k a l (omega arith) in let j = pass_after k 0 b (a ∷ l) in simp e (j ∙ ap (λ (m : List A). b ∷ m) i))
      (λ e. let i = pass_carries k b l (omega arith) in let j = pass_after k 0 a (b ∷ l) in simp e (j ∙ ap (λ (m : List A). a ∷ m) i))

  pub pass_is : (t : List A) → pass_from (length t - 1) 0 t ≡ pass above t
  unfolding pass pass_from
  pass_is [] = refl
  pass_is (a ∷ t) = let e : suc (length t) - 1 ≡ length t = omega arith in rw e (pass_carries (length t) a t refl)

-- ---- whether a pass exchanges any
module _ {A : Type 0} (above : A → A → Bool) (outside : A) where
  abbrev pub above_at : ℕ → List A → Bool
  above_at i t = above (get_or t i outside) (get_or t (suc i) outside)

  -- whether so at k places from i on exchanges any
  unfoldable pub any_from : ℕ → ℕ → List A → Bool
  any_from zero i t = false
  any_from (suc k) i t = above_at i t || any_from k (suc i) (exchange_at above outside i t)

  any_after : (k i : ℕ) (x : A) (t : List A) → any_from k (suc i) (x ∷ t) ≡ any_from k i t
  unfolding any_from
  any_after zero i x t = refl
  any_after (suc k) i x t = rw (exchange_after above outside i x t) (ap (λ b. above_at i t || b) (any_after k (suc i) x (exchange_at above outside i t)))

  any_carries : (k : ℕ) (a : A) (l : List A) → k ≡ length l → any_from k 0 (a ∷ l) ≡ carry_exchanges above a l
  unfolding any_from carry_exchanges exchange_at
  any_carries zero a [] h = refl
  any_carries (suc k) a [] h = absurd (omega arith)
  any_carries zero a (b ∷ l) h = absurd (omega arith)
  any_carries (suc k) a (b ∷ l) h =
      by_test (above a b)
      (λ e. simp e)
      (λ e. let i = any_carries k b l (omega arith) in let j = any_after k 0 a (b ∷ l) in simp e (j ∙ i))

  pub any_is : (t : List A) → any_from (length t - 1) 0 t ≡ exchanges above t
  unfolding exchanges any_from
  any_is [] = refl
  any_is (a ∷ t) = let e : suc (length t) - 1 ≡ length t = omega arith in rw e (any_carries (length t) a t refl)

-- ---- lengths
module _ {A : Type 0} (above : A → A → Bool) where
  length_carry : (a : A) (l : List A) → length (carry above a l) ≡ suc (length l)
  unfolding carry
  length_carry a [] = refl
  length_carry a (b ∷ l) = ap suc (length_carry (cond (above a b) a b) l)

  pub length_pass : (l : List A) → length (pass above l) ≡ length l
  unfolding pass
  length_pass [] = refl
  length_pass (a ∷ l) = length_carry a l

  length_by_passes : (k : ℕ) (l : List A) → length ((by_passes above k l).result) ≡ length l
  unfolding by_passes
  length_by_passes zero l = refl
  length_by_passes (suc k) l =
      by_test (exchanges above l) (λ e. rw e (length_by_passes k (pass above l) ∙ length_pass l)) (λ e. rw e (length_pass l))

  pub length_sort : (l : List A) → length (in_order above l) ≡ length l
  unfolding sort
  length_sort l = length_by_passes (length l - 1) l

-- ---- a sort by what f keeps of a comparison
module _ {A B : Type 0} (f : B → A) (above : A → A → Bool) (under : B → B → Bool) (same : (a b : B) → above (f a) (f b) ≡ under a b) where
  carry_map : (a : B) (l : List B) → carry above (f a) (map f l) ≡ map f (carry under a l)
  unfolding carry
  carry_map a [] = refl
  carry_map a (b ∷ l) =
      by_test (under a b) (λ e. let s = same a b in let i = carry_map a l in cc)
      (λ e. let s = same a b in let i = carry_map b l in cc)

  pass_map : (l : List B) → pass above (map f l) ≡ map f (pass under l)
  unfolding pass
  pass_map [] = refl
  pass_map (a ∷ l) = carry_map a l

  carry_exchanges_map : (a : B) (l : List B) → carry_exchanges above (f a) (map f l) ≡ carry_exchanges under a l
  unfolding carry_exchanges
  carry_exchanges_map a [] = refl
  carry_exchanges_map a (b ∷ l) =
      by_test (under a b) (λ e. let s = same a b in simp (s, e))
      (λ e. let s = same a b in let i = carry_exchanges_map b l in simp (s, e, i))

  exchanges_map : (l : List B) → exchanges above (map f l) ≡ exchanges under l
  unfolding exchanges
  exchanges_map [] = refl
  exchanges_map (a ∷ l) = carry_exchanges_map a l

  passes_map : (k : ℕ) (l : List B) → (by_passes above k (map f l)).result ≡ map f (by_passes under k l).result
  unfolding by_passes
  passes_map zero l = refl
  passes_map (suc k) l =
      let p = pass_map l in
      let x = exchanges_map l in
      by_test (exchanges under l) (λ e. let i = passes_map k (pass under l) in rw (x, p, e) i) (λ e. rw (x, p, e) refl)

  pub sort_map : (l : List B) → in_order above (map f l) ≡ map f (in_order under l)
  unfolding sort
  sort_map l = let e = length-map l f in rw (in_order, e) (passes_map (length l - 1) l)
