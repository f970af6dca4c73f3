-- The definition's comparisons are std's order of keys, number by number, with a NaN last; and such an order orders.
use mathlib.Core.Path.{◌≡◌, refl, sym, ap, ◌∙◌}
use mathlib.Core.Bool.{Bool, true, false, cond, true≢false}
use lib.Ieee.{Float, lt, is_nan}
use Rattle.std.specs.Prelude.{Some}
use Rattle.std.specs.Cmp.{IsTotalOrder}
use Rattle.std.proofs.Common.{Ordering, Less, Equal, Greater}
use Rattle.std.specs.Ordering.{nan_last_cmp, is_gt, is_lt, is_some_and, ordering_reverse, ordering_then, partial_ordering_then, then_cmp, on}
use Rattle.std.proofs.lemmas.Cmp.{upto, on_total, then_total}
use Rattle.std.proofs.lemmas.Float.{nan_last}
use Rattle.scalar.proofs.Order.{by_test, lt_one_way, lt_nan}
use Rattle.triple_sort.specs.Sort.{number_above, then_by, triple_above, ordered_above}
use Rattle.triple_sort.specs.Sorted.{Orders}
use Rattle.solutionset.specs.declared.Triple.{Triple}
use Rattle.triple_sort.specs.declared.Ordered.{Ordered}

above_is : (a b : Float) → number_above a b ≡ is_gt (nan_last_cmp a b)
unfolding number_above
above_is a b =
    by_test (is_nan a) (λ n. by_test (is_nan b) (λ m. cc) (λ m. cc))
    (λ n.
    by_test (is_nan b) (λ m. let l = lt_nan b a m in cc)
    (λ m.
    by_test (lt a b) (λ l. let w = lt_one_way a b l in cc) (λ l. by_test (lt b a) (λ k. cc) (λ k. cc))))

reversed : (o : Ordering) → is_gt (ordering_reverse o) ≡ is_lt o
reversed Less = refl
reversed Equal = refl
reversed Greater = refl

below_is : (a b : Float) → number_above b a ≡ is_lt (nan_last_cmp a b)
below_is a b = above_is b a ∙ ap is_gt (nan_last.antisymm b a) ∙ reversed (nan_last_cmp a b)

taken : (o p : Ordering) {above below rest : Bool}
    → above ≡ is_gt o
    → below ≡ is_lt o
    → rest ≡ is_gt p
    → cond above true (cond below false rest) ≡ is_gt (ordering_then o p)
taken Less p e f g = rw (e, f)
taken Equal p e f g = rw (e, f) g
taken Greater p e f g = rw e

abbrev triple_cmp : Triple → Triple → Ordering
triple_cmp = then_cmp (on (λ a. a.first) nan_last_cmp) (then_cmp (on (λ a. a.second) nan_last_cmp) (on (λ a. a.third) nan_last_cmp))

abbrev ordered_cmp : Ordered → Ordered → Ordering
ordered_cmp = then_cmp (on (λ a. a.ordering) nan_last_cmp) (on (λ a. a.solution) triple_cmp)

triple_is : (a b : Triple) → triple_above a b ≡ is_gt (triple_cmp a b)
unfolding triple_above
triple_is a b =
    taken _ _ (above_is a.first b.first) (below_is a.first b.first)
    (taken _ _ (above_is a.second b.second) (below_is a.second b.second) (above_is a.third b.third))

ordered_is : (a b : Ordered) → ordered_above a b ≡ is_gt (ordered_cmp a b)
unfolding ordered_above
ordered_is a b =
    taken _ _ (above_is a.ordering b.ordering) (below_is a.ordering b.ordering) (triple_is a.solution b.solution)

module _ {A : Type 0} {above : A → A → Bool} {R : A → A → Ordering} (same : (a b : A) → above a b ≡ is_gt (R a b)) (total : IsTotalOrder R) where
  other_way : (o : Ordering) → is_gt o ≡ true → is_gt (ordering_reverse o) ≡ false
  other_way Less h = absurd (true≢false (sym h))
  other_way Equal h = absurd (true≢false (sym h))
  other_way Greater h = refl

  of_total : Orders above
  of_total =
      record {
        one_way = (λ a b h. same b a ∙ ap is_gt (total.antisymm b a) ∙ other_way (R a b) (sym (same a b) ∙ h));
        through = (λ a b c h g. same a c ∙ upto total a b c (sym (same a b) ∙ h) (sym (same b c) ∙ g));
      }

abbrev triple_total : IsTotalOrder triple_cmp
triple_total =
    then_total (on_total (λ a. a.first) nan_last)
    (then_total (on_total (λ a. a.second) nan_last) (on_total (λ a. a.third) nan_last))

pub triple_orders : Orders triple_above
triple_orders = of_total triple_is triple_total

pub ordered_orders : Orders ordered_above
ordered_orders = of_total ordered_is (then_total (on_total (λ a. a.ordering) nan_last) (on_total (λ a. a.solution) triple_total))

-- the order of a tuple groups from the left
regrouped : (o p q r : Ordering)
    → is_some_and is_gt (partial_ordering_then (partial_ordering_then (partial_ordering_then (Some o) (Some p)) (Some q)) (Some r))
    ≡ is_gt (ordering_then o (ordering_then p (ordering_then q r)))
regrouped Less p q r = refl
regrouped Greater p q r = refl
regrouped Equal Less q r = refl
regrouped Equal Greater q r = refl
regrouped Equal Equal Less r = refl
regrouped Equal Equal Greater r = refl
regrouped Equal Equal Equal r = refl

pub key_above : (a b : Ordered)
    → is_some_and is_gt
    (partial_ordering_then
    (partial_ordering_then
    (partial_ordering_then (Some (nan_last_cmp a.ordering b.ordering)) (Some (nan_last_cmp a.solution.first b.solution.first)))
    (Some (nan_last_cmp a.solution.second b.solution.second)))
    (Some (nan_last_cmp a.solution.third b.solution.third)))
    ≡ ordered_above a b
key_above a b = regrouped _ _ _ _ ∙ sym (ordered_is a b)

-- to go by the same two numbers twice is to go by them once
pub then_by_twice : (a b : Float) (rest : Bool) → then_by a b (then_by a b rest) ≡ then_by a b rest
then_by_twice a b rest =
    by_test (number_above a b) (λ e. rw e refl)
    (λ e. by_test (number_above b a) (λ g. rw (e, g) refl) (λ g. rw (e, g) refl))
