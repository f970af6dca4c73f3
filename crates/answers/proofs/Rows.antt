-- Answers written one after another: what a loop that lends on the rest of both lists leaves. One law for rows of any width.
use Prim.Native.Nat.{ℕ, min, suc, ◌+◌, ◌*◌, ◌-◌, ◌/◌, ◌%◌, ◌<◌, ◌≤◌}
use mathlib.Core.Path.{◌≡◌, refl, sym}
use mathlib.Core.Bool.{Bool, true, false}
use mathlib.Core.List.{List, [], ◌∷◌, ◌++◌, map, flat_map, append_assoc}
use native.Mathlib.Nat.{le_trans, mul-le-mul_left}
use native.Mathlib.Numerals.{add-one}
use native.Mathlib.Omega.{arith}
use borrow.Author.Tests.{leb-true, leb-false}
use lib.Dec.{leb}
use lib.Ieee.{Float}
use lib.ListN.{length, take, drop, length-map, length-append, length-take, length-drop, take-append-drop}
use lib.Seq.{take-nil, take_all, take-append-le, take-append-add, take_at, drop_at, drop-drop}
use Rattle.std.proofs.Math.Nat.{mul-zero, mul-one, mul-add, mul-sub, mul_comm, mul-div-le, div-add-mod, mod-lt, zero-div, lt-mul-div-succ}
use Rattle.std.proofs.lemmas.Nat.{div-mul-add}
use Rattle.answers.specs.Answer.{byte}
use Rattle.answers.specs.Rows.{Form, room_of, fitting_of, written_of, flagged_of, WroteOf}
use Rattle.answers.specs.declared.Answer.{Answer}

-- ---- rows of w numbers, at least one
module _ {w : ℕ} (some : 1 ≤ w) where
  pub no_rows : w * 0 ≡ 0
  no_rows = mul-zero w

  pub one_wide : w * 1 ≡ w
  one_wide = mul-one w

  one_row : (n : ℕ) → w + w * n ≡ w * suc n
  one_row n = let e : w * (n + 1) ≡ w * n + w * 1 = mul-add w n 1 in rw (← add-one n) (omega (arith, e, one_wide))

  two_parts : (m n : ℕ) → w * (m + n) ≡ w * m + w * n
  two_parts m n = mul-add w m n

  pub within : (m n k : ℕ) → k ≤ min (m / w) n → w * k ≤ m
  within m n k h = let e : k ≤ m / w = omega (arith, h) in le_trans (mul-le-mul_left w e) (mul-div-le m w)

  rows_left : (m k : ℕ) → k ≤ m / w → (m - w * k) / w ≡ m / w - k
  rows_left m k h =
      let parts : w * (m / w) + m % w ≡ m = div-add-mod m w in
      let less : w * (m / w - k) ≡ w * (m / w) - w * k = mul-sub w (m / w) k in
      let some-less : w * k ≤ w * (m / w) = mul-le-mul_left w h in
      let turned : (m / w - k) * w ≡ w * (m / w - k) = mul_comm (m / w - k) w in
      let e : m - w * k ≡ (m / w - k) * w + m % w = omega (arith, parts, less, some-less, turned) in
      rw e (div-mul-add (m / w - k) w (m % w) (mod-lt m some))

  none_left : (m k : ℕ) → m / w < k → (m - w * k) / w ≡ m / w - k
  none_left m k h =
      let past : m < w * (m / w + 1) = lt-mul-div-succ m some in
      let all : w * (m / w + 1) ≤ w * k = mul-le-mul_left w (omega (arith, h)) in
      let none : m - w * k ≡ 0 = omega (arith, past, all) in
      let none' : m / w - k ≡ 0 = omega (arith, h) in
      rw (none, none') (zero-div w)

  by_rows : (m k : ℕ) (b : Bool) → leb k (m / w) ≡ b → (m - w * k) / w ≡ m / w - k
  by_rows m k true t = rows_left m k (leb-true k (m / w) t)
  by_rows m k false t = none_left m k (leb-false k (m / w) t)

  rooms_less : (m n k : ℕ) → min ((m - w * k) / w) (n - k) ≡ min (m / w) n - k
  rooms_less m n k = rw (by_rows m k (leb k (m / w)) refl) (omega arith)

-- a form whose rows are as wide as it says
pub record Good (form : Form) : Type 0 where
  pub width : 1 ≤ form.wide
  pub long : (q : Answer) → length (form.numbers q) ≡ form.wide

-- ---- lists
pub flat_map_append : {A B : Type 0} (g : A → List B) (xs ys : List A) → flat_map g (xs ++ ys) ≡ flat_map g xs ++ flat_map g ys
unfolding flat_map
flat_map_append g [] ys = refl
flat_map_append g (x ∷ xs) ys = rw (flat_map_append g xs ys, append_assoc)

map_append : {A B : Type 0} (g : A → B) (xs ys : List A) → map g (xs ++ ys) ≡ map g xs ++ map g ys
map_append g [] ys = refl
map_append g (x ∷ xs) ys = rw (map_append g xs ys)

take_past : {A : Type 0} (m : ℕ) (xs ys : List A) → length xs ≤ m → take m (xs ++ ys) ≡ xs ++ take (m - length xs) ys
take_past m xs ys h = let e : length xs + (m - length xs) ≡ m = omega arith in rw e at (take-append-add xs ys (m - length xs))

module _ (form : Form) (good : Good form) where
  pub length_rows : (qs : List Answer) → length (flat_map form.numbers qs) ≡ form.wide * length qs
  unfolding flat_map
  length_rows [] = sym (no_rows good.width)
  length_rows (q ∷ qs) = rw (length-append (form.numbers q) (flat_map form.numbers qs), good.long q, length_rows qs) (one_row good.width (length qs))

  -- ---- the room
  fitting_few : (qs : List Answer) (a : List Float) (f : List ℕ) → length (fitting_of form qs a f) ≤ room_of form a f
  unfolding fitting_of
  fitting_few qs a f = simp length-take (omega arith)

  -- no list changes its length
  pub written_long : (qs : List Answer) (a : List Float) (f : List ℕ) → length (written_of form qs a f) ≡ length a
  unfolding written_of room_of
  written_long qs a f =
      let k = length (fitting_of form qs a f) in
      let fits : form.wide * k ≤ length a = within good.width (length a) (length f) k (fitting_few qs a f) in
      simp (length-append, length_rows, length-drop) (omega arith)

  pub flagged_long : (qs : List Answer) (a : List Float) (f : List ℕ) → length (flagged_of form qs a f) ≡ length f
  unfolding flagged_of room_of
  flagged_long qs a f = simp (length-append, length-map, length-drop) (omega (arith, fitting_few qs a f))

  -- after k answers there is room for k fewer
  pub room_less : (k : ℕ) (a b : List Float) (f g : List ℕ) → length b ≡ length a → length g ≡ length f → room_of form (drop (form.wide * k) b) (drop k g) ≡ room_of form a f - k
  unfolding room_of
  room_less k a b f g e e' = simp (length-drop, e, e') (rooms_less good.width (length a) (length f) k)

  module _ (xs ys : List Answer) (a : List Float) (f : List ℕ) where
    -- where all of xs fit
    module _ (h : length xs ≤ room_of form a f) where
      first_all : fitting_of form xs a f ≡ xs
      unfolding fitting_of
      first_all = take_all (room_of form a f) xs h

      pub angles_are : written_of form xs a f ≡ flat_map form.numbers xs ++ drop (form.wide * length xs) a
      unfolding written_of
      angles_are = rw first_all

      pub flags_are : flagged_of form xs a f ≡ map byte xs ++ drop (length xs) f
      unfolding flagged_of
      flags_are = rw first_all

      angles_first : take (form.wide * length xs) (written_of form xs a f) ≡ flat_map form.numbers xs
      angles_first = rw angles_are (take_at (flat_map form.numbers xs) (drop (form.wide * length xs) a) (form.wide * length xs) (length_rows xs))

      angles_rest : drop (form.wide * length xs) (written_of form xs a f) ≡ drop (form.wide * length xs) a
      angles_rest = rw angles_are (drop_at (flat_map form.numbers xs) (drop (form.wide * length xs) a) (form.wide * length xs) (length_rows xs))

      flags_first : take (length xs) (flagged_of form xs a f) ≡ map byte xs
      flags_first = rw flags_are (take_at (map byte xs) (drop (length xs) f) (length xs) (length-map xs byte))

      flags_rest : drop (length xs) (flagged_of form xs a f) ≡ drop (length xs) f
      flags_rest = rw flags_are (drop_at (map byte xs) (drop (length xs) f) (length xs) (length-map xs byte))

      both_first : fitting_of form (xs ++ ys) a f ≡ xs ++ fitting_of form ys (drop (form.wide * length xs) a) (drop (length xs) f)
      unfolding fitting_of
      both_first = rw (room_less (length xs) a a f f refl refl) (take_past (room_of form a f) xs ys h)

      angles_fit : written_of form (xs ++ ys) a f ≡ take (form.wide * length xs) (written_of form xs a f) ++ written_of form ys (drop (form.wide * length xs) (written_of form xs a f)) (drop (length xs) (flagged_of form xs a f))
      unfolding written_of
      angles_fit =
          let zs = fitting_of form ys (drop (form.wide * length xs) a) (drop (length xs) f) in
          let e = two_parts good.width (length xs) (length zs) in
          rw (angles_first, angles_rest, flags_rest, both_first)
          (simp (flat_map_append, append_assoc, length-append, drop-drop, e))

      flags_fit : flagged_of form (xs ++ ys) a f ≡ take (length xs) (flagged_of form xs a f) ++ flagged_of form ys (drop (form.wide * length xs) (written_of form xs a f)) (drop (length xs) (flagged_of form xs a f))
      unfolding flagged_of
      flags_fit = rw (flags_first, angles_rest, flags_rest, both_first) (simp (map_append, append_assoc, length-append, drop-drop))

    -- where some do not
    module _ (h : room_of form a f < length xs) where
      only_first : fitting_of form (xs ++ ys) a f ≡ fitting_of form xs a f
      unfolding fitting_of
      only_first = take-append-le (room_of form a f) xs ys (omega arith)

      none_more : fitting_of form ys (drop (form.wide * length xs) (written_of form xs a f)) (drop (length xs) (flagged_of form xs a f)) ≡ []
      unfolding fitting_of
      none_more =
          let e : room_of form a f - length xs ≡ 0 = omega arith in
          rw (room_less (length xs) a (written_of form xs a f) f (flagged_of form xs a f) (written_long xs a f) (flagged_long xs a f), e)

      angles_full : written_of form (xs ++ ys) a f ≡ take (form.wide * length xs) (written_of form xs a f) ++ written_of form ys (drop (form.wide * length xs) (written_of form xs a f)) (drop (length xs) (flagged_of form xs a f))
      unfolding written_of flat_map
      angles_full = rw (none_more, only_first, no_rows good.width) (sym (take-append-drop (form.wide * length xs) (written_of form xs a f)))

      flags_full : flagged_of form (xs ++ ys) a f ≡ take (length xs) (flagged_of form xs a f) ++ flagged_of form ys (drop (form.wide * length xs) (written_of form xs a f)) (drop (length xs) (flagged_of form xs a f))
      unfolding flagged_of
      flags_full = rw (none_more, only_first) (sym (take-append-drop (length xs) (flagged_of form xs a f)))

    by_room : (b : Bool)
        → leb (length xs) (room_of form a f) ≡ b
        → (written_of form (xs ++ ys) a f ≡ take (form.wide * length xs) (written_of form xs a f) ++ written_of form ys (drop (form.wide * length xs) (written_of form xs a f)) (drop (length xs) (flagged_of form xs a f)))
        × (flagged_of form (xs ++ ys) a f ≡ take (length xs) (flagged_of form xs a f) ++ flagged_of form ys (drop (form.wide * length xs) (written_of form xs a f)) (drop (length xs) (flagged_of form xs a f)))
    by_room true t = let h = leb-true (length xs) (room_of form a f) t in (angles_fit h, flags_fit h)
    by_room false t = let h = leb-false (length xs) (room_of form a f) t in (angles_full h, flags_full h)

  pub next : {xs ys : List Answer} {a₀ a a' : List Float} {f₀ f f' : List ℕ} {k r : ℕ}
      → WroteOf form xs a₀ f₀ a f k
      → WroteOf form ys (drop (form.wide * k) a) (drop k f) a' f' r
      → WroteOf form (xs ++ ys) a₀ f₀ (take (form.wide * k) a ++ a') (take k f ++ f') (k + r)
  next {xs} {ys} {a₀} {f₀ = f₀} w v =
      let b = by_room xs ys a₀ f₀ (leb (length xs) (room_of form a₀ f₀)) refl in
      let both : length (xs ++ ys) ≡ length xs + length ys = length-append xs ys in
      record { all_angles = cc b.0; all_flags = cc b.1; all_counted = cc }

  -- no answers leave the lists as they are
  pub nothing : (a : List Float) (f : List ℕ) → WroteOf form [] a f a f 0
  unfolding written_of flagged_of fitting_of flat_map
  nothing a f = let e = take-nil {A = Answer} (room_of form a f) in record { all_angles = rw (e, no_rows good.width); all_flags = rw e; all_counted = refl }

  -- the same answers under another name
  pub by_name : {qs rs : List Answer} {a₀ a : List Float} {f₀ f : List ℕ} {r : ℕ} → qs ≡ rs → WroteOf form qs a₀ f₀ a f r → WroteOf form rs a₀ f₀ a f r
  by_name e w = rw e at w
