-- The theorem of specs/Sorted.antt: passes over neighbours sort, permute, and keep the order of equals.
-- After a pass the highest member stands last; it and what follows it are not moved again.
use Prim.Native.Nat.{ℕ, zero, suc, ◌-◌, ◌≤◌}
use native.Mathlib.Omega.{arith}
use mathlib.Core.Path.{◌≡◌, refl, sym, ap, subst, ◌∙◌}
use mathlib.Core.Bool.{Bool, true, false, cond, true≢false}
use mathlib.Core.List.{List, [], ◌∷◌, ◌++◌, append-nil}
use lib.ListN.{length}
use Rattle.solutionset.specs.declared.Triple.{Triple}
use Rattle.triple_sort.specs.Sort.{triple_above, ordered_above, carry, pass, sort}
use Rattle.triple_sort.specs.Sorted.{all_passes, Orders, Every, Sorted, Permuted, none, after, exchange, then, those, level, SortSorts, FirstSortSorts, SecondSortSorts}
use Rattle.triple_sort.specs.declared.Ordered.{Ordered}
use Rattle.scalar.proofs.Order.{by_test}
use Rattle.triple_sort.proofs.Sooner.{same_result}
use Rattle.triple_sort.proofs.NumberOrder.{triple_orders, ordered_orders}

module _ {A : Type 0} where
  every_and : (p q : A → Type 0) (l : List A) → Every p l → Every q l → Every (λ x. p x × q x) l
  every_and p q [] h g = tt
  every_and p q (a ∷ l) h g = ((h.0, g.0), every_and p q l h.1 g.1)

  permuted_refl : (l : List A) → Permuted l l
  permuted_refl [] = none
  permuted_refl (a ∷ l) = after a (permuted_refl l)

-- ---- a permutation that keeps the order of equals
module _ {A : Type 0} (above : A → A → Bool) where
  permuted_carry : (a : A) (l : List A) → Permuted (a ∷ l) (carry above a l)
  unfolding carry
  permuted_carry a [] = after a none
  permuted_carry a (b ∷ l) =
      by_test (above a b) (λ t. rw t (then (exchange a b l) (after b (permuted_carry a l))))
      (λ t. rw t (after a (permuted_carry b l)))

  permuted_pass : (l : List A) → Permuted l (pass above l)
  unfolding pass
  permuted_pass [] = none
  permuted_pass (a ∷ l) = permuted_carry a l

  permuted_passes : (k : ℕ) (l : List A) → Permuted l (all_passes above k l)
  unfolding all_passes
  permuted_passes zero l = permuted_refl l
  permuted_passes (suc k) l = then (permuted_pass l) (permuted_passes k (pass above l))

  -- of two that are exchanged, a test that only equals pass is passed by one at most
  module _ (p : A → Bool) (apart : (a b : A) → above a b ≡ true → p a ≡ true → p b ≡ false) where
    those_carry : (a : A) (l : List A) → those p (carry above a l) ≡ those p (a ∷ l)
    unfolding carry
    those_carry a [] = refl
    those_carry a (b ∷ l) =
        by_test (above a b)
        (λ t. let i = those_carry a l in by_test (p a) (λ s. let n = apart a b t s in cc) (λ s. cc))
        (λ t. let i = those_carry b l in cc)

    those_pass : (l : List A) → those p (pass above l) ≡ those p l
    unfolding pass
    those_pass [] = refl
    those_pass (a ∷ l) = those_carry a l

    those_passes : (k : ℕ) (l : List A) → those p (all_passes above k l) ≡ those p l
    unfolding all_passes
    those_passes zero l = refl
    those_passes (suc k) l = those_passes k (pass above l) ∙ those_pass l

-- ---- in order
module _ {A : Type 0} (above : A → A → Bool) (orders : Orders above) where
  itself : (a : A) → above a a ≡ false
  itself a = by_test (above a a) (λ t. orders.one_way a a t) (λ t. t)

  -- what a pass has carried to the end, and what stands before it
  abbrev top : A → List A → A
  top a [] = a
  top a (b ∷ l) = top (cond (above a b) a b) l

  abbrev rest : A → List A → List A
  rest a [] = []
  rest a (b ∷ l) = cond (above a b) b a ∷ rest (cond (above a b) a b) l

  length_rest : (a : A) (l : List A) → length (rest a l) ≡ length l
  length_rest a [] = refl
  length_rest a (b ∷ l) = ap suc (length_rest (cond (above a b) a b) l)

  carry_split : (a : A) (l back : List A) → carry above a l ++ back ≡ rest a l ++ top a l ∷ back
  unfolding carry
  carry_split a [] back = refl
  carry_split a (b ∷ l) back = ap (λ (m : List A). cond (above a b) b a ∷ m) (carry_split (cond (above a b) a b) l back)

  -- p of a and of every member of l goes over to the two
  every_split : (p : A → Type 0) (a : A) (l : List A) → p a → Every p l → p (top a l) × Every p (rest a l)
  every_split p a [] h e = (h, tt)
  every_split p a (b ∷ l) h e =
      by_test (above a b) (λ t. let r = every_split p a l h e.1 in rw t (r.0, (e.0, r.1)))
      (λ t. let r = every_split p b l e.0 e.1 in rw t (r.0, (h, r.1)))

  to_top : (a : A) (l : List A) → above a (top a l) ≡ false
  to_top a [] = itself a
  to_top a (b ∷ l) =
      by_test (above a b) (λ t. rw t (to_top a l)) (λ t. rw t (orders.through a b (top b l) t (to_top b l)))

  rest_to_top : (a : A) (l : List A) → Every (λ x. above x (top a l) ≡ false) (rest a l)
  rest_to_top a [] = tt
  rest_to_top a (b ∷ l) =
      by_test (above a b)
      (λ t. subst (λ (u : Bool). Every (λ x. above x (top (cond u a b) l) ≡ false) (cond u b a ∷ rest (cond u a b) l)) (sym t) (orders.through b a (top a l) (orders.one_way a b t) (to_top a l), rest_to_top a l))
      (λ t. subst (λ (u : Bool). Every (λ x. above x (top (cond u a b) l) ≡ false) (cond u b a ∷ rest (cond u a b) l)) (sym t) (orders.through a b (top b l) t (to_top b l), rest_to_top b l))

  -- a list in order stays as it is
  carry_sorted : (a : A) (l : List A) → Every (λ y. above a y ≡ false) l → Sorted above l → carry above a l ≡ a ∷ l
  unfolding carry
  carry_sorted a [] h s = refl
  carry_sorted a (b ∷ l) h s = let e = h.0 in let i = carry_sorted b l s.0 s.1 in cc

  pass_sorted : (l : List A) → Sorted above l → pass above l ≡ l
  unfolding pass
  pass_sorted [] s = refl
  pass_sorted (a ∷ l) s = carry_sorted a l s.0 s.1

  module _ (back : List A) (s : Sorted above back) where
    abbrev Under : A → Type 0
    Under x = Every (λ y. above x y ≡ false) back

    carry_front : (a : A) (front : List A) → Under a → Every Under front → carry above a (front ++ back) ≡ carry above a front ++ back
    unfolding carry
    carry_front a [] h e = carry_sorted a back h s
    carry_front a (b ∷ front) h e =
        by_test (above a b) (λ t. let i = carry_front a front h e.1 in cc)
        (λ t. let i = carry_front b front e.0 e.1 in cc)

  sorted_passes : (k : ℕ) (front back : List A)
      → length front ≤ suc k
      → Sorted above back
      → Every (λ x. Every (λ y. above x y ≡ false) back) front
      → Sorted above (all_passes above k (front ++ back))
  unfolding all_passes pass
  sorted_passes zero [] back n s u = s
  sorted_passes zero (a ∷ []) back n s u = (u.0, s)
  sorted_passes zero (a ∷ b ∷ front) back n s u = absurd (omega arith)
  sorted_passes (suc k) [] back n s u = rw (pass_sorted back s) (sorted_passes k [] back (omega arith) s tt)
  sorted_passes (suc k) (a ∷ front) back n s u =
      let r = every_split (λ x. Every (λ y. above x y ≡ false) back) a front u.0 u.1 in
      rw (carry_front back s a front u.0 u.1, carry_split a front back)
      (sorted_passes k (rest a front) (top a front ∷ back)
      (omega (arith, length_rest a front))
      (r.0, s)
      (every_and (λ x. above x (top a front) ≡ false) (λ x. Every (λ y. above x y ≡ false) back) (rest a front) (rest_to_top a front) r.1))

  -- those that are equal to one are equal to each other
  apart : (x a b : A) → above a b ≡ true → level above x a ≡ true → level above x b ≡ false
  apart x a b t e =
      by_test (above x a) (λ n. let z : true ≡ false = cc in absurd (true≢false z))
      (λ n.
      by_test (above a x) (λ m. let z : true ≡ false = cc in absurd (true≢false z))
      (λ m.
      by_test (above x b) (λ i. cc)
      (λ i. let z : true ≡ false = sym t ∙ orders.through a x b m i in absurd (true≢false z))))

pub sort_sorts : SortSorts
unfolding sort
sort_sorts A above orders l =
    let k = length l - 1 in
    let e = same_result above k l in
    record {
      sorted = rw e (rw append-nil at (sorted_passes above orders k l [] (omega arith) tt (under l)));
      permuted = rw e (permuted_passes above k l);
      stable = (λ a. rw e (those_passes above (level above a) (apart above orders a) k l));
    }
  where
    under : (m : List A) → Every (λ x. Unit {0}) m
    under [] = tt
    under (a ∷ m) = (tt, under m)

pub first_sort_sorts : FirstSortSorts
first_sort_sorts l = sort_sorts Triple triple_above triple_orders l

pub second_sort_sorts : SecondSortSorts
second_sort_sorts l = sort_sorts Ordered ordered_above ordered_orders l
