-- The ways out of the steps of scan_samples, by what the code's tests and calls gave. Assumes nothing.
use Rattle.std.proofs.Common.{◌≡◌, refl, sym, ◌∙◌, ap, ap₂, subst, Bool, true, false, List, [], ℕ, zero, suc, ◌+◌, ◌-◌, ◌<◌, ◌≤◌, add-one, arith, Float}
use Rattle.std.specs.Prelude.{Option, Some, None}
use Rattle.search_definition.specs.Found.{Place, crossing, Origin}
use Rattle.search_definition.specs.Dip.{Point}
use Rattle.search_definition.specs.Scan.{crosses, dips, falls_to, falls_back}
use Rattle.search_steps.specs.Way.{Way, over, chain}
use Rattle.search_steps.specs.RefineSteps.{refine_start}
use Rattle.search_steps.specs.DipSteps.{opening, dip_way}
use Rattle.search_steps.specs.ScanSteps.{Scan, at_crossing, at_inner, at_last, at_first, of_inner, if_first, first_way, if_last, last_way, if_inner, inner_way, if_crosses_way, items_way, scan_angle, scan_next, scan_way, last_pair}
use Rattle.step_pairs.specs.declared.Found.{Found}
use Rattle.step_pairs.specs.Landed.{putting, Landed, landing, landed, came}
use Rattle.step_pairs.proofs.LandedLaws.{Joined, joined, joined_nothing}
use Rattle.step_scan.specs.State.{scan_of, item_way}
use Rattle.step_scan.specs.declared.scan.Scan as DeclaredScan

-- ---- one item
module _ (room : ℕ) (o : Place → Origin) (h : List Found) (P : ℕ → Point) (s t c l : ℕ) {p q : Point} (ep : p ≡ P l) (eq : q ≡ P (l + 1)) where
  abbrev at_item : Way Scan
  at_item = item_way o P s t c l (over [])

  next_is : q ≡ P (suc l)
  next_is = eq ∙ ap P (add-one l)

  decided : {r : Bool} (b : Bool) → r ≡ crosses p q → r ≡ b → landed room h (if_crosses_way o P s t b c l (over [])) ≡ landed room h at_item
  decided b e d =
      sym (ap (λ (z : Bool). landed room h (if_crosses_way o P s t z c l (over []))) (ap₂ crosses (sym ep) (sym next_is) ∙ sym e ∙ d))

  pub item_crosses : {r : Bool} {k : Landed Scan} → r ≡ crosses p q → r ≡ true → k ≡ landed room h (chain (at_crossing c l) (refine_start (o (crossing l)) p q) (over [])) → k ≡ landed room h at_item
  unfolding if_crosses_way
  item_crosses e d a =
      a
      ∙ ap (λ (z : Way _). landed room h (chain (at_crossing c l) z (over []))) (ap₂ (refine_start (o (crossing l))) ep next_is)
      ∙ decided true e d

  pub item_ends : {r : Bool} → r ≡ crosses p q → r ≡ false → c ≡ 0 → landing h None ≡ landed room h at_item
  unfolding if_crosses_way inner_way landed putting
  item_ends e d z = sym (ap (λ (k : ℕ). landed room h (inner_way o P s t k l (over []))) z) ∙ decided false e d

  dipped : {r u : Bool} {m : Point} (b : Bool) → r ≡ crosses p q → r ≡ false → 0 < c → m ≡ P (l + 2) → u ≡ dips p q m → u ≡ b → landed room h (if_inner o P s t b c l (over [])) ≡ landed room h at_item
  unfolding if_crosses_way inner_way
  dipped {r} {u} {m} b e d z em g i =
      let k : c ≡ suc (c - 1) = omega arith in
      let two : l + 2 ≡ suc (suc l) = omega arith in
      let v : dips (P l) (P (suc l)) (P (suc (suc l))) ≡ b =
      ap (dips (P l) (P (suc l))) (sym (em ∙ ap P two)) ∙ ap₂ (λ (x y : Point). dips x y m) (sym ep) (sym next_is) ∙ sym g ∙ i
      in
      ap (λ (x : ℕ). landed room h (if_inner o P s t b x l (over []))) k
      ∙ sym (ap (λ (x : Bool). landed room h (if_inner o P s t x (suc (c - 1)) l (over []))) v)
      ∙ sym (ap (λ (x : ℕ). landed room h (inner_way o P s t x l (over []))) k)
      ∙ decided false e d

  pub item_dips : {r u : Bool} {m : Point} → r ≡ crosses p q → r ≡ false → 0 < c → m ≡ P (l + 2) → u ≡ dips p q m → u ≡ true → landing h (Some (at_inner c l opening)) ≡ landed room h at_item
  unfolding if_inner chain dip_way landed putting
  item_dips e d z em g i = dipped true e d z em g i

  pub item_none : {r u : Bool} {m : Point} → r ≡ crosses p q → r ≡ false → 0 < c → m ≡ P (l + 2) → u ≡ dips p q m → u ≡ false → landing h None ≡ landed room h at_item
  unfolding if_inner landed putting
  item_none e d z em g i = dipped false e d z em g i

-- ---- the row's ends
module _ (room : ℕ) (o : Place → Origin) (h : List Found) (P : ℕ → Point) (s t : ℕ) where
  module _ {p q : Point} {r : Bool} (ep : p ≡ P s) (eq : q ≡ P (s + 1)) (e : r ≡ falls_back p q) where
    first_is : (b : Bool) → r ≡ b → landed room h (if_first o P s t b) ≡ landed room h (first_way o P s t)
    unfolding first_way
    first_is b d =
        sym (ap (λ (z : Bool). landed room h (if_first o P s t z)) (ap₂ falls_back (sym ep) (sym (eq ∙ ap P (add-one s))) ∙ sym e ∙ d))

    pub first_dips : r ≡ true → landing h (Some (at_first opening)) ≡ landed room h (first_way o P s t)
    unfolding if_first chain dip_way landed putting
    first_dips d = first_is true d

    pub first_none : r ≡ false → landing h None ≡ landed room h (first_way o P s t)
    unfolding if_first landed putting
    first_none d = first_is false d

  module _ {u : ℕ} (et : u ≡ t) {p q : Point} {r : Bool} (ep : p ≡ P u) (eq : q ≡ P (u + 1)) (e : r ≡ falls_to p q) where
    last_is : (b : Bool) → r ≡ b → landed room h (if_last o P s t b) ≡ landed room h (last_way o P s t)
    unfolding last_way
    last_is b d =
        sym (ap (λ (z : Bool). landed room h (if_last o P s t z)) (ap₂ falls_to (sym (ep ∙ ap P et)) (sym (eq ∙ ap P (add-one u ∙ ap suc et))) ∙ sym e ∙ d))

    pub last_dips : r ≡ true → landing h (Some (at_last opening)) ≡ landed room h (last_way o P s t)
    unfolding if_last chain dip_way landed putting
    last_dips d = last_is true d

    pub last_none : {k : Landed Scan} → r ≡ false → k ≡ landed room h (first_way o P s t) → k ≡ landed room h (last_way o P s t)
    unfolding if_last
    last_none d a = a ∙ last_is false d

-- ---- the walk along the row
module _ (room : ℕ) (o : Place → Origin) (h : List Found) (P : ℕ → Point) (s t : ℕ) (w : Way Scan) where
  -- one item, and then the others
  pub item_then : (c l : ℕ) → Joined room h (item_way o P s t c l (over [])) w (item_way o P s t c l w)
  unfolding if_crosses_way inner_way if_inner
  item_then c l = cross (crosses (P l) (P (suc l)))
    where
      dip : (b : Bool) (c : ℕ) → Joined room h (if_inner o P s t b c l (over [])) w (if_inner o P s t b c l w)
      dip true c = joined room (at_inner c l) h (dip_way (of_inner o l) (P l) (P (suc (suc l)))) w
      dip false c = joined_nothing room h w

      inside : (c : ℕ) → Joined room h (inner_way o P s t c l (over [])) w (inner_way o P s t c l w)
      inside zero = joined_nothing room h w
      inside (suc c) = dip (dips (P l) (P (suc l)) (P (suc (suc l)))) (suc c)

      cross : (b : Bool) → Joined room h (if_crosses_way o P s t b c l (over [])) w (if_crosses_way o P s t b c l w)
      cross true = joined room (at_crossing c l) h (refine_start (o (crossing l)) (P l) (P (suc l))) w
      cross false = inside c

module _ (room : ℕ) (o : Place → Origin) (h : List Found) (P : ℕ → Point) (s t : ℕ) where
  -- from the place l + 1 on: an item, and those behind it
  pub items_next : (l : ℕ) → l < t → landed room h (item_way o P s t (t - (l + 1)) (l + 1) (items_way o P s t (t - (l + 1)) (suc (l + 1)))) ≡ landed room h (items_way o P s t (t - l) (suc l))
  unfolding items_way
  items_next l b =
      let m : t - l ≡ suc (t - (l + 1)) = omega arith in
      ap (λ (z : ℕ). landed room h (item_way o P s t (t - (l + 1)) z (items_way o P s t (t - (l + 1)) (suc z)))) (add-one l) ∙ sym (ap (λ (z : ℕ). landed room h (items_way o P s t z (suc l))) m)

  pub items_end : (l : ℕ) → t ≤ l → landed room h (last_way o P s t) ≡ landed room h (items_way o P s t (t - l) (suc l))
  unfolding items_way
  items_end l b =
      let m : 0 ≡ t - l = omega arith in
      ap (λ (z : ℕ). landed room h (items_way o P s t z (suc l))) m

-- ---- a whole run
module _ (room : ℕ) (o : Place → Origin) (h : List Found) (P : ℕ → Point) (s m : ℕ) where
  pub short_row : m < 2 → landing h None ≡ landed room h (scan_way o P s m)
  unfolding scan_way landed putting
  short_row l = go m l
    where
      go : (k : ℕ) → k < 2 → landing h None ≡ landed room h (scan_way o P s k)
      go zero l = refl
      go (suc zero) l = refl
      go (suc (suc k)) l = absurd (omega arith)

  pub long_row : let t = last_pair s m in 2 ≤ m → landed room h (item_way o P s t (t - s) s (items_way o P s t (t - s) (suc s))) ≡ landed room h (scan_way o P s m)
  unfolding scan_way items_way last_pair
  long_row l = go m l
    where
      go : (k : ℕ) → let t = last_pair s k in 2 ≤ k → landed room h (item_way o P s t (t - s) s (items_way o P s t (t - s) (suc s))) ≡ landed room h (scan_way o P s k)
      go zero l = absurd (omega arith)
      go (suc zero) l = absurd (omega arith)
      go (suc (suc k)) l =
          let e : s + k - s ≡ k = omega arith in
          ap (λ (c : ℕ). landed room h (item_way o P s (s + k) c s (items_way o P s (s + k) c (suc s)))) e

-- ---- a step, by the state that it starts from
module _ (o : Place → Origin) (P : ℕ → Point) (s t : ℕ) (z v : DeclaredScan.Scan) (e : z ≡ v) where
  pub angle_from : {a : Float} → a ≡ scan_angle o P s t (scan_of t v) → a ≡ scan_angle o P s t (scan_of t z)
  angle_from a = a ∙ sym (ap (λ (c : DeclaredScan.Scan). scan_angle o P s t (scan_of t c)) e)

  pub step_from : (room : ℕ) (h : List Found) (y : Float) {k : Landed Scan} → k ≡ landed room h (scan_next o P s t (scan_of t v) y) → k ≡ landed room h (scan_next o P s t (scan_of t z) y)
  step_from room h y a = a ∙ sym (ap (λ (c : DeclaredScan.Scan). landed room h (scan_next o P s t (scan_of t c) y)) e)

-- the two ends of a dip, as the code read them
pub between : {A : Type 0} (P : ℕ → Point) (f : Point → Point → A) {p q : Point} (u l m k : ℕ) → u ≡ l → u + m ≡ k → p ≡ P u → q ≡ P (u + m) → f p q ≡ f (P l) (P k)
between P f u l m k e d ep eq = ap₂ f (ep ∙ ap P e) (eq ∙ ap P d)

-- the same in the words of the run, whose last sample but one the code has in u
pub item_of_run : (room : ℕ) (o : Place → Origin) (h k : List Found) (P : ℕ → Point) (s l t u : ℕ) (r : Option DeclaredScan.Scan) → u ≡ t → came (scan_of u) k r ≡ landed room h (item_way o P s u (u - l) l (over [])) → came (scan_of t) k r ≡ landed room h (item_way o P s t (t - l) l (over []))
item_of_run room o h k P s l t u r e a =
    subst (λ (z : ℕ). came (scan_of z) k r ≡ landed room h (item_way o P s z (z - l) l (over []))) e a
