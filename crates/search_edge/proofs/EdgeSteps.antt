-- The steps at the end of a branch: bisection, and the row of samples towards it. Assumes nothing.
use Rattle.std.proofs.Common.{◌≡◌, ℕ, suc, ◌+◌, ◌-◌, ◌<◌, ◌≤◌, Bool, true, false, List, [], ◌∷◌, ◌++◌, map, reverse, length, sym, refl, ap, ◌∙◌, ap₂, append_assoc, append-nil, add-one, arith}
use mathlib.Core.Bool.{beq}
use mathlib.Core.List.{reverse-append, map-append}
use lib.ListN.{get_or-map, length-map}
use lib.Ieee.{Float, nan, lt}
use Rattle.float.specs.Num.{◌⊕◌, ◌⊖◌, ◌⊗◌}
use Rattle.float.specs.Number.{is_finite}
use Rattle.search_definition.specs.Found.{Place, Origin, edge, asks, ◌then◌, Asked}
use Rattle.search_definition.specs.Dip.{Point}
use Rattle.search_definition.specs.Scan.{scan_samples}
use Rattle.search_definition.specs.Search.{Gap, mid, keep, reversed_if, share, halved, bisect, subsample, subsamples, edge_points, edge_row, row_at, if_first_inside, scan_row, edge_from, if_alike, edge_at}
use Rattle.search_refine.specs.Counted.{Counted, with_count, total, counted}
use Rattle.search_refine.specs.Point.{point_of}
use Rattle.search_refine.specs.declared.Point as DeclaredPoint
use Rattle.search_pairs.specs.Row.{point, points_of}
use Rattle.search_pairs.specs.State.{State, afterwards}
use Rattle.search_refine.proofs.Count.{counted_asking, counted_total}
use Rattle.search_pairs.proofs.States.{after_both, after_nothing, spend, after_asks}

-- ---- bisection: k of 16 are made, of one evaluation each
pub bisect_step : (f : Float → Float) (k : ℕ) (g : Gap) {h : Gap} (u : Counted Gap) → k < 16 → counted k (bisect f (16 - k) g) ≡ u → h ≡ halved f g → counted (k + 1) (bisect f (16 - (k + 1)) h) ≡ u
unfolding bisect
bisect_step f k g u l inv e =
    let s : 16 - k ≡ suc (16 - (k + 1)) = omega arith in
    ap (λ (z : Gap). counted (k + 1) (bisect f (16 - (k + 1)) z)) e
    ∙ sym (counted_asking k (mid g ∷ []) (bisect f (16 - (k + 1)) (halved f g)))
    ∙ sym (ap (λ (z : ℕ). counted k (bisect f z g)) s)
    ∙ inv

pub bisect_end : (f : Float → Float) (k : ℕ) (g : Gap) (u : Counted Gap) → k ≡ 16 → counted k (bisect f (16 - k) g) ≡ u → with_count g 16 ≡ u
unfolding bisect
bisect_end f k g u e inv = sym (ap (λ (z : ℕ). counted z (bisect f (16 - z) g)) e) ∙ inv

-- ---- a row of points
module _ (l : List DeclaredPoint.Point) (p : DeclaredPoint.Point) {r : Bool} (e : r ≡ is_finite p.y) where
  pub kept : {m : List DeclaredPoint.Point} → r ≡ true → m ≡ l ++ (p ∷ []) → map point_of m ≡ map point_of l ++ keep (is_finite p.y) (point_of p) []
  unfolding keep
  kept t d = ap (map point_of) d ∙ map-append point_of l (p ∷ []) ∙ ap (λ (b : Bool). map point_of l ++ keep b (point_of p) []) (sym t ∙ e)

  pub passed_over : r ≡ false → map point_of l ≡ map point_of l ++ keep (is_finite p.y) (point_of p) []
  unfolding keep
  passed_over t = sym (append-nil (map point_of l)) ∙ ap (λ (b : Bool). map point_of l ++ keep b (point_of p) []) (sym t ∙ e)

-- ---- the samples towards the end: A is the row so far, and number j is the next
module _ (f : Float → Float) (e p : Point) where
  abbrev pub still : List Point → ℕ → Asked (List Point)
  still A j =
      let r = subsamples f e.x p.x (8 - j) j in
      record { value = A ++ (r.value ++ (p ∷ [])); asked = r.asked }

  pub row_starts : {A : List Point} → A ≡ (e ∷ []) → counted 0 (still A 1) ≡ total (edge_points f e p)
  unfolding edge_points
  row_starts a = ap (λ (l : List Point). counted 0 (still l 1)) a ∙ counted_total (edge_points f e p)

  keep_append : (b : Bool) (q : Point) (l m : List Point) → keep b q l ++ m ≡ keep b q [] ++ (l ++ m)
  unfolding keep
  keep_append true q l m = refl
  keep_append false q l m = refl

  pub row_next : (A : List Point) (j n : ℕ) (u : Counted (List Point)) {B : List Point} {x y : Float} → j < 8 → counted n (still A j) ≡ u → x ≡ e.x ⊕ (p.x ⊖ e.x) ⊗ share j → y ≡ f x → B ≡ A ++ keep (is_finite y) (point x y) [] → counted (n + 1) (still B (j + 1)) ≡ u
  unfolding subsamples subsample
  row_next A j n u {B} {x} {y} h inv ex ey eb =
      let q = subsample f e.x p.x j in
      let r = subsamples f e.x p.x (8 - (j + 1)) (suc j) in
      let k : 8 - j ≡ suc (8 - (j + 1)) = omega arith in
      let same : point x y ≡ q = ap (point x) ey ∙ ap (λ (z : Float). point z (f z)) ex in
      let b : B ≡ A ++ keep (is_finite q.y) q [] = eb ∙ ap (λ (z : Point). A ++ keep (is_finite z.y) z []) same in
      let v : B ++ (r.value ++ (p ∷ [])) ≡ A ++ (keep (is_finite q.y) q r.value ++ (p ∷ [])) =
      ap (λ (l : List Point). l ++ (r.value ++ (p ∷ []))) b
      ∙ append_assoc A (keep (is_finite q.y) q []) (r.value ++ (p ∷ []))
      ∙ sym (ap (λ (l : List Point). A ++ l) (keep_append (is_finite q.y) q r.value (p ∷ []))) in
      let c : n + 1 + length r.asked ≡ n + suc (length r.asked) = omega arith in
      ap (λ (z : ℕ). counted (n + 1) (record { value = B ++ ((subsamples f e.x p.x (8 - (j + 1)) z).value ++ (p ∷ [])); asked = (subsamples f e.x p.x (8 - (j + 1)) z).asked })) (add-one j)
      ∙ (λ i. record { value = v i; evals = c i })
      ∙ sym (ap (λ (z : ℕ). counted n (record { value = A ++ ((subsamples f e.x p.x z j).value ++ (p ∷ [])); asked = (subsamples f e.x p.x z j).asked })) k)
      ∙ inv

  -- number j is asked after j - 1 evaluations
  pub row_goes : (A : List Point) (j : ℕ) (u : Counted (List Point)) {B : List Point} {x y : Float} → 1 ≤ j → j < 8 → counted (j - 1) (still A j) ≡ u → x ≡ e.x ⊕ (p.x ⊖ e.x) ⊗ share j → y ≡ f x → B ≡ A ++ keep (is_finite y) (point x y) [] → counted (j + 1 - 1) (still B (j + 1)) ≡ u
  row_goes A j u {B} l h inv ex ey eb =
      let n : j + 1 - 1 ≡ j - 1 + 1 = omega arith in
      ap (λ (z : ℕ). counted z (still B (j + 1))) n ∙ row_next A j (j - 1) u h inv ex ey eb

  pub row_done : (A : List Point) (j : ℕ) (u : Counted (List Point)) → j ≡ 8 → counted (j - 1) (still A j) ≡ u → with_count (A ++ (p ∷ [])) 7 ≡ u
  unfolding subsamples
  row_done A j u h inv = sym (ap (λ (z : ℕ). counted (z - 1) (still A z)) h) ∙ inv

-- ---- a scan reads only the row's samples
pub map-reverse : {A B : Type 0} (g : A → B) (l : List A) → map g (reverse l) ≡ reverse (map g l)
map-reverse g [] = refl
map-reverse g (a ∷ l) =
    ap (map g) (reverse-append (a ∷ []) l)
    ∙ map-append g (reverse l) (a ∷ [])
    ∙ ap (λ (m : List _). m ++ (g a ∷ [])) (map-reverse g l)
    ∙ sym (reverse-append (g a ∷ []) (map g l))

-- a row that the code holds is scanned as the definition's list
pub points_are : (l : List DeclaredPoint.Point) → points_of l ≡ row_at (map point_of l)
unfolding row_at
points_are l = λ i k. sym (get_or-map point_of l k (record { x = nan; y = nan })) i

row_scanned : (f : Float → Float) (o : Place → Origin) (l : List DeclaredPoint.Point) (m : ℕ) → m ≡ length l → scan_samples f o (points_of l) 0 m ≡ scan_row f o (map point_of l)
unfolding scan_row
row_scanned f o l m e =
    ap (λ (P : ℕ → Point). scan_samples f o P 0 m) (points_are l)
    ∙ ap (scan_samples f o (row_at (map point_of l)) 0) (e ∙ sym (length-map l point_of))

-- The whole of an edge: b is the gap after the bisections, r the points of the row, l those of the row that is scanned, t the state after the scan.
module _ (f : Float → Float) (o : Place → Origin) (g : Gap) (s : State) {b : Gap} {r : List Point} {t : State} (l : List DeclaredPoint.Point) (m : ℕ) (eb : with_count b 16 ≡ total (bisect f 16 g)) (er : with_count r 7 ≡ total (edge_points f b.inside g.inside)) (em : m ≡ length l) (et : t ≡ afterwards (spend (spend s 16) 7) (scan_samples f o (points_of l) 0 m)) where
  abbrev R : Asked (List Point)
  R = edge_row f (bisect f 16 g).value.inside g.inside

  row_is : with_count (reversed_if (lt g.inside.x b.inside.x) r) 7 ≡ total R
  unfolding edge_row
  row_is =
      ap (λ (c : Counted (List Point)). with_count (reversed_if (lt g.inside.x b.inside.x) c.value) c.evals) er
      ∙ ap (λ (c : Counted Gap). total (edge_row f c.value.inside g.inside)) eb

  edge_done : map point_of l ≡ reversed_if (lt g.inside.x b.inside.x) r → t ≡ afterwards s (edge_from f o g)
  unfolding edge_from
  edge_done e =
      let B = bisect f 16 g in
      et
      ∙ ap (afterwards (spend (spend s 16) 7)) (row_scanned f o l m em ∙ ap (scan_row f o) e)
      ∙ ap (λ (c : Counted (List Point)). afterwards (spend (spend s 16) c.evals) (scan_row f o c.value)) row_is
      ∙ ap (λ (c : Counted Gap). afterwards (spend (spend s c.evals) (length R.asked)) (scan_row f o R.value)) eb
      ∙ ap (λ (z : State). afterwards z (scan_row f o R.value)) (after_asks (spend s (length B.asked)) R.asked)
      ∙ sym (after_both (spend s (length B.asked)) (asks R.asked) (scan_row f o R.value))
      ∙ ap (λ (z : State). afterwards z (asks R.asked then scan_row f o R.value)) (after_asks s B.asked)
      ∙ sym (after_both s (asks B.asked) (asks R.asked then scan_row f o R.value))

  pub edge_straight : lt g.inside.x b.inside.x ≡ false → map point_of l ≡ r → t ≡ afterwards s (edge_from f o g)
  unfolding reversed_if
  edge_straight h e = edge_done (e ∙ sym (ap (λ (z : Bool). reversed_if z r) h))

  pub edge_reversed : lt g.inside.x b.inside.x ≡ true → map point_of l ≡ reverse r → t ≡ afterwards s (edge_from f o g)
  unfolding reversed_if
  edge_reversed h e = edge_done (e ∙ sym (ap (λ (z : Bool). reversed_if z r) h))

-- ---- between two samples
module _ (f : Float → Float) (i : ℕ) (P : ℕ → Point) (k : ℕ) (s : State) {a b : Bool} (ea : a ≡ is_finite (P k).y) (eb : b ≡ is_finite (P (k + 1)).y) where
  edge_is : (z : Bool) → beq a b ≡ z → edge_at f i P k ≡ if_alike f i P z k
  unfolding edge_at
  edge_is z h =
      ap (λ (j : ℕ). if_alike f i P (beq (is_finite (P k).y) (is_finite (P j).y)) k) (sym (add-one k))
      ∙ ap₂ (λ (x y : Bool). if_alike f i P (beq x y) k) (sym ea) (sym eb)
      ∙ ap (λ (x : Bool). if_alike f i P x k) h

  pub edge_none : beq a b ≡ true → s ≡ afterwards s (edge_at f i P k)
  unfolding if_alike
  edge_none h = sym (ap (afterwards s) (edge_is true h) ∙ after_nothing s)

  pub edge_found : {g : Gap} {t : State} → beq a b ≡ false → g ≡ if_first_inside (is_finite (P k).y) (P k) (P (k + 1)) → t ≡ afterwards s (edge_from f (edge i k) g) → t ≡ afterwards s (edge_at f i P k)
  unfolding if_alike
  edge_found {g} h eg et =
      et
      ∙ ap (λ (z : Gap). afterwards s (edge_from f (edge i k) z)) (eg ∙ ap (λ (j : ℕ). if_first_inside (is_finite (P k).y) (P k) (P j)) (add-one k))
      ∙ sym (ap (afterwards s) (edge_is false h))
