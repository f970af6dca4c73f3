-- Ending after the first pass that exchanges none changes nothing in the result: such a pass leaves the list as it is, and so would each pass after it.
use Prim.Native.Nat.{ℕ, zero, suc, ◌-◌, ◌≤◌}
use native.Mathlib.Omega.{arith}
use mathlib.Core.Path.{◌≡◌, refl, sym}
use mathlib.Core.Bool.{Bool, true, false, true≢false}
use mathlib.Core.List.{List, [], ◌∷◌}
use lib.ListN.{length}
use Rattle.triple_sort.specs.Sort.{carry, pass, carry_exchanges, exchanges, by_passes, sort}
use Rattle.triple_sort.specs.Sorted.{Every, Sorted, all_passes, SortSooner}
use Rattle.scalar.proofs.Order.{by_test}

module _ {A : Type 0} (above : A → A → Bool) where
  quiet_carry : (a : A) (l : List A) → carry_exchanges above a l ≡ false → carry above a l ≡ a ∷ l
  unfolding carry carry_exchanges
  quiet_carry a [] q = refl
  quiet_carry a (b ∷ l) q =
      by_test (above a b) (λ t. let z : true ≡ false = simp t at q in absurd (true≢false z))
      (λ t. let i = quiet_carry b l (simp t at q) in cc)

  quiet_pass : (l : List A) → exchanges above l ≡ false → pass above l ≡ l
  unfolding pass exchanges
  quiet_pass [] q = refl
  quiet_pass (a ∷ l) q = quiet_carry a l q

  stays : (k : ℕ) (l : List A) → pass above l ≡ l → all_passes above k l ≡ l
  unfolding all_passes
  stays zero l e = refl
  stays (suc k) l e = rw e (stays k l e)

  pub same_result : (k : ℕ) (l : List A) → (by_passes above k l).result ≡ all_passes above k l
  unfolding by_passes all_passes
  same_result zero l = refl
  same_result (suc k) l =
      by_test (exchanges above l) (λ t. let i = same_result k (pass above l) in rw t i)
      (λ t. let q = quiet_pass l t in let s = stays k l q in rw (t, q) (sym s))

  fewer : (k : ℕ) (l : List A) → (by_passes above k l).passes ≤ k
  unfolding by_passes
  fewer zero l = omega arith
  fewer (suc k) l =
      by_test (exchanges above l) (λ t. let i = fewer k (pass above l) in rw t (omega (arith, i)))
      (λ t. rw t (omega arith))

  quiet_sorted : (a : A) (l : List A) → Every (λ y. above a y ≡ false) l → Sorted above l → carry_exchanges above a l ≡ false
  unfolding carry_exchanges
  quiet_sorted a [] h s = refl
  quiet_sorted a (b ∷ l) h s = let e = h.0 in let i = quiet_sorted b l s.0 s.1 in simp e i

  one : (l : List A) → 2 ≤ length l → Sorted above l → (by_passes above (length l - 1) l).passes ≡ 1
  unfolding by_passes exchanges
  one [] h s = absurd (omega arith)
  one (a ∷ []) h s = absurd (omega arith)
  one (a ∷ b ∷ l) h s =
      let e : length (a ∷ b ∷ l) - 1 ≡ suc (length l) = omega arith in
      let q = quiet_sorted a (b ∷ l) s.0 s.1 in
      rw (e, q) refl

pub sort_sooner : SortSooner
unfolding sort by_passes
sort_sooner A above l =
    record {
      as_before = same_result above (length l - 1) l;
      within = fewer above (length l - 1) l;
      no_pass = (λ h. let e : length l - 1 ≡ 0 = omega arith in rw e refl);
      one_pass = one above l;
    }
