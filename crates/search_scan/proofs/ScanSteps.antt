-- The steps of scan_samples, by what the code's tests and calls gave. Assumes nothing.
use mathlib.Core.Path.{◌≡◌, refl, sym, ◌∙◌, ap, ap₂}
use mathlib.Core.Bool.{Bool, true, false}
use mathlib.Core.List.{◌++◌}
use Prim.Native.Nat.{ℕ, zero, suc, ◌+◌, ◌-◌, ◌*◌, ◌≤◌, ◌<◌}
use native.Mathlib.Omega.{arith}
use native.Mathlib.Numerals.{add-one}
use lib.ListN.{length, length-append}
use lib.Ieee.{Float}
use Rattle.search_definition.specs.Found.{Part, Place, crossing, inner, last, first, Origin, Out, ◌then◌}
use Rattle.search_definition.specs.Dip.{Point, refined, minimise_dip}
use Rattle.search_definition.specs.Scan.{crosses, dips, falls_to, falls_back, if_dip, inner_dip, if_crosses, item, items, last_dip, first_dip, scan_samples}
use Rattle.search_definition.proofs.Bounds.{scan_slots}
use Rattle.search_pairs.specs.State.{State, afterwards}
use Rattle.search_pairs.proofs.States.{after_nothing, after_two}

-- ---- one place of a row, whose samples were read as p, q and u: s is the state before, t the state after
module _ (f : Float → Float) (o : Place → Origin) (P : ℕ → Point) (l : ℕ) (s : State) {t : State} {p q : Point} (ep : p ≡ P l) (eq : q ≡ P (l + 1)) where
  pub item_crossing : (c : ℕ) {r : Bool} → r ≡ crosses p q → r ≡ true → t ≡ afterwards s (refined f (o (crossing l)) p q) → t ≡ afterwards s (item f o P c l)
  unfolding item if_crosses
  item_crossing c e x d =
      let z : crosses (P l) (P (l + 1)) ≡ true = sym (e ∙ ap₂ crosses ep eq) ∙ x in
      let y : crosses (P l) (P (suc l)) ≡ true = rw (add-one l) at z in
      let w = d ∙ ap₂ (λ (x y : Point). afterwards s (refined f (o (crossing l)) x y)) ep eq in
      (rw (add-one l) at w) ∙ sym (ap (λ (b : Bool). afterwards s (if_crosses f o P b c l)) y)

  pub item_inner : (c : ℕ) {r : Bool} → r ≡ crosses p q → r ≡ false → t ≡ afterwards s (inner_dip f o P c l) → t ≡ afterwards s (item f o P c l)
  unfolding item if_crosses
  item_inner c e x d =
      let z : crosses (P l) (P (l + 1)) ≡ false = sym (e ∙ ap₂ crosses ep eq) ∙ x in
      let y : crosses (P l) (P (suc l)) ≡ false = rw (add-one l) at z in
      d ∙ sym (ap (λ (b : Bool). afterwards s (if_crosses f o P b c l)) y)

  pub inner_is : (c : ℕ) {k : ℕ} {r : Bool} {u : Point} → u ≡ P (l + 2) → c ≡ suc k → r ≡ dips p q u → t ≡ afterwards s (if_dip f r (λ (h : Part). o (inner (suc l) h)) p u) → t ≡ afterwards s (inner_dip f o P c l)
  unfolding inner_dip
  inner_is c {k} {r} {u} eu n e d =
      let two : l + 2 ≡ suc (suc l) = omega arith in
      let test : r ≡ dips (P l) (P (l + 1)) (P (l + 2)) = e ∙ ap₂ (λ (x y : Point). dips x y u) ep eq ∙ ap (dips (P l) (P (l + 1))) eu in
      let w =
      d
      ∙ ap₂ (λ (x y : Point). afterwards s (if_dip f r (λ (h : Part). o (inner (suc l) h)) x y)) ep eu
      ∙ ap (λ (b : Bool). afterwards s (if_dip f b (λ (h : Part). o (inner (suc l) h)) (P l) (P (l + 2)))) test in
      (rw (add-one l, two) at w) ∙ sym (ap (λ (n : ℕ). afterwards s (inner_dip f o P n l)) n)

  pub last_is : {r : Bool} → r ≡ falls_to p q → t ≡ afterwards s (if_dip f r (λ (h : Part). o (last l h)) p q) → t ≡ afterwards s (last_dip f o P l)
  unfolding last_dip
  last_is {r} e d =
      let w =
      d
      ∙ ap₂ (λ (x y : Point). afterwards s (if_dip f r (λ (h : Part). o (last l h)) x y)) ep eq
      ∙ ap (λ (b : Bool). afterwards s (if_dip f b (λ (h : Part). o (last l h)) (P l) (P (l + 1)))) (e ∙ ap₂ falls_to ep eq) in
      rw (add-one l) at w

  pub first_is : {r : Bool} → r ≡ falls_back p q → t ≡ afterwards s (if_dip f r (λ (h : Part). o (first l h)) p q) → t ≡ afterwards s (first_dip f o P l)
  unfolding first_dip
  first_is {r} e d =
      let w =
      d
      ∙ ap₂ (λ (x y : Point). afterwards s (if_dip f r (λ (h : Part). o (first l h)) x y)) ep eq
      ∙ ap (λ (b : Bool). afterwards s (if_dip f b (λ (h : Part). o (first l h)) (P l) (P (l + 1)))) (e ∙ ap₂ falls_back ep eq) in
      rw (add-one l) at w

pub inner_none : (f : Float → Float) (o : Place → Origin) (P : ℕ → Point) (l : ℕ) (s : State) (c : ℕ) → c ≡ 0 → s ≡ afterwards s (inner_dip f o P c l)
unfolding inner_dip
inner_none f o P l s c e = sym (ap (λ (n : ℕ). afterwards s (inner_dip f o P n l)) e ∙ after_nothing s)

pub dip_held : (f : Float → Float) (o : Part → Origin) (p q : Point) (s : State) {t : State} (b : Bool) → b ≡ true → t ≡ afterwards s (minimise_dip f o p q) → t ≡ afterwards s (if_dip f b o p q)
unfolding if_dip
dip_held f o p q s b e d = d ∙ sym (ap (λ (z : Bool). afterwards s (if_dip f z o p q)) e)

pub dip_not_held : (f : Float → Float) (o : Part → Origin) (p q : Point) (s : State) (b : Bool) → b ≡ false → s ≡ afterwards s (if_dip f b o p q)
unfolding if_dip
dip_not_held f o p q s b e = sym (ap (λ (z : Bool). afterwards s (if_dip f z o p q)) e ∙ after_nothing s)

-- ---- the loop over a row that ends before e: what is left from l on
module _ (f : Float → Float) (o : Place → Origin) (P : ℕ → Point) (e : ℕ) where
  abbrev pub items_from : ℕ → Out
  items_from l = items f o P (e - (l + 1)) l

  pub item_then : (l : ℕ) (s : State) {t u : State} → l + 1 < e → afterwards s (items_from l) ≡ u → t ≡ afterwards s (item f o P (e - (l + 2)) l) → afterwards t (items_from (l + 1)) ≡ u
  unfolding items
  item_then l s {t} h inv w =
      let left : e - (l + 1) ≡ suc (e - (l + 2)) = omega arith in
      let next : e - (l + 1 + 1) ≡ e - (l + 2) = omega arith in
      ap (λ (n : ℕ). afterwards t (items f o P n (l + 1))) next
      ∙ ap (λ (n : ℕ). afterwards t (items f o P (e - (l + 2)) n)) (add-one l)
      ∙ after_two s (item f o P (e - (l + 2)) l) (items f o P (e - (l + 2)) (suc l)) w refl
      ∙ sym (ap (λ (n : ℕ). afterwards s (items f o P n l)) left)
      ∙ inv

  pub no_more : (l : ℕ) (s : State) {u : State} → e ≤ l + 1 → afterwards s (items_from l) ≡ u → s ≡ u
  unfolding items
  no_more l s h inv =
      let none : e - (l + 1) ≡ 0 = omega arith in
      sym (after_nothing s) ∙ ap (λ (n : ℕ). afterwards s (items f o P n l)) (sym none) ∙ inv

-- ---- the whole row
module _ (f : Float → Float) (o : Place → Origin) (P : ℕ → Point) (s : ℕ) where
  pub scan_short : (m : ℕ) (S : State) → m < 2 → S ≡ afterwards S (scan_samples f o P s m)
  unfolding scan_samples
  scan_short zero S h = sym (after_nothing S)
  scan_short (suc zero) S h = sym (after_nothing S)
  scan_short (suc (suc c)) S h = absurd (clash c h)
    where
      clash : (c : ℕ) → suc (suc c) < 2 → ⊥
      clash c h = omega arith

  -- T is the state after the items, U after the last dip, W after the first
  module _ (m : ℕ) (h : 2 ≤ m) where
    one_less : m - 1 ≡ suc (m - 2)
    one_less = omega arith

    last_at : s + m - 2 ≡ s + (m - 2)
    last_at = omega arith

    pub scan_whole : (S T : State) {U W : State} → T ≡ afterwards S (items f o P (m - 1) s) → U ≡ afterwards T (last_dip f o P (s + m - 2)) → W ≡ afterwards U (first_dip f o P s) → W ≡ afterwards S (scan_samples f o P s m)
    unfolding scan_samples
    scan_whole S T {U} {W} a b d =
        let n : m ≡ suc (suc (m - 2)) = omega arith in
        let a' : T ≡ afterwards S (items f o P (suc (m - 2)) s) = rw one_less at a in
        let b' : U ≡ afterwards T (last_dip f o P (s + (m - 2))) = rw last_at at b in
        after_two S (items f o P (suc (m - 2)) s) (last_dip f o P (s + (m - 2)) then first_dip f o P s) a' (after_two T _ _ b' d)
        ∙ sym (ap (λ (k : ℕ). afterwards S (scan_samples f o P s k)) n)

    -- the place and the count stay small, by the bounds of the definition
    few : (length ((items f o P (suc (m - 2)) s).found ++ (last_dip f o P (s + (m - 2))).found) ≤ m + 2) × (length ((items f o P (suc (m - 2)) s).asked ++ (last_dip f o P (s + (m - 2))).asked) ≤ 69 * (m + 2))
    unfolding scan_samples
    few =
        let a = items f o P (suc (m - 2)) s in
        let b = last_dip f o P (s + (m - 2)) in
        let c = first_dip f o P s in
        let w = scan_slots f o P s (m - 2) in (
          omega (arith, h, w.pairs, length-append a.found (b.found ++ c.found), length-append b.found c.found, length-append a.found b.found),
          omega (arith, h, w.cost, length-append a.asked (b.asked ++ c.asked), length-append b.asked c.asked, length-append a.asked b.asked),
        )

    pub few_now : (S T : State) (rest : Out) → afterwards T rest ≡ afterwards S (items f o P (m - 1) s) → (T.pairs ≤ S.pairs + (m + 2)) × (T.evals ≤ S.evals + 69 * (m + 2))
    unfolding afterwards
    few_now S T rest inv =
        let a = items f o P (suc (m - 2)) s in
        let b = last_dip f o P (s + (m - 2)) in
        let e : afterwards T rest ≡ afterwards S (items f o P (suc (m - 2)) s) = rw one_less at inv in
        (omega (arith, ap (λ (z : State). z.pairs) e, few.0, length-append a.found b.found), omega (arith, ap (λ (z : State). z.evals) e, few.1, length-append a.asked b.asked))

    pub few_then : (S T U : State) → T ≡ afterwards S (items f o P (m - 1) s) → U ≡ afterwards T (last_dip f o P (s + m - 2)) → (U.pairs ≤ S.pairs + (m + 2)) × (U.evals ≤ S.evals + 69 * (m + 2))
    unfolding afterwards
    few_then S T U a b =
        let p = items f o P (suc (m - 2)) s in
        let q = last_dip f o P (s + (m - 2)) in
        let d : T ≡ afterwards S p = rw one_less at a in
        let e : U ≡ afterwards T q = rw last_at at b in (
          omega (arith, ap (λ (z : State). z.pairs) d, ap (λ (z : State). z.pairs) e, few.0, length-append p.found q.found),
          omega (arith, ap (λ (z : State). z.evals) d, ap (λ (z : State). z.evals) e, few.1, length-append p.asked q.asked),
        )
