-- The pairs pass the test one by one, in whichever order they are looked at.
use Rattle.std.proofs.Common.{◌≡◌, ℕ, zero, suc, ◌+◌, ◌-◌, ◌≤◌, Bool, true, false, ◌&&◌, List, [], ◌∷◌, ◌++◌, Float, map, get_or, refl, sym, ap, ◌∙◌, arith, rules, tests}
use Rattle.std.specs.Float.{nan}
use Rattle.std.specs.List.{list_all, range_with_len}
use Rattle.std.proofs.lemmas.List.Folds.{list_all-append, list_all-map}
use Rattle.std.proofs.lemmas.List.FromFn.{map-range_with_len_more}
use Rattle.std.proofs.lemmas.Iterator.{YieldsList-from_range}
use Rattle.std.proofs.lemmas.Iterator.Search.{all_from_yields_List}
use Rattle.card.specs.Usable.{answered, usable}
use Rattle.card.proofs.pairs.usable.Goals as goal

swap : (a b : Bool) → (a && (b && true)) ≡ (b && a)
swap true true = refl
swap true false = refl
swap false true = refl
swap false false = refl

abbrev one : List Float → List Float → List Float → List ℕ → ℕ → Bool
one arm pose qs cs k = answered arm pose (get_or qs k nan) (get_or cs k 0)

module _ (arm pose qs : List Float) (cs : List ℕ) where
  abbrev tests_of : ℕ → List Bool
  tests_of k = map (one arm pose qs cs) (range_with_len 0 k)

  all_tests : (k : ℕ) → list_all (λ (b : Bool). b) (tests_of k) ≡ usable arm pose qs cs k
  unfolding usable
  all_tests zero = refl
  all_tests (suc k) =
      let here = one arm pose qs cs k in
      let next : suc k ≡ k + 1 = omega arith in
      let more : tests_of (k + 1) ≡ tests_of k ++ here ∷ [] = map-range_with_len_more (one arm pose qs cs) 0 k k (omega arith) in
      ap (λ (m : ℕ). list_all (λ (b : Bool). b) (tests_of m)) next ∙ ap (list_all (λ (b : Bool). b)) more ∙ list_all-append (λ (b : Bool). b) (tests_of k) (here ∷ [])
      ∙ ap (λ (t : Bool). t && (here && true)) (all_tests k) ∙ swap (usable arm pose qs cs k) here

  all_pairs : (k : ℕ) → list_all (one arm pose qs cs) (range_with_len 0 k) ≡ usable arm pose qs cs k
  all_pairs k = sym (list_all-map (λ (b : Bool). b) (one arm pose qs cs) (range_with_len 0 k)) ∙ all_tests k

pub returns : goal.returns
returns c =
    let arm = c.args.arm.now in
    let pose = c.args.pose.now in
    let qs = c.args.qs.now in
    let cs = c.args.cs.now in
    let n = c.args.pairs in
    all_from_yields_List (one arm pose qs cs) _ _ c.all.result c.all.ensures.ran (YieldsList-from_range 0 n n refl (omega arith)) (λ x r q k. search (rules, tests)) ∙ all_pairs arm pose qs cs n
