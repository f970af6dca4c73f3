-- Bytes are zero word by word.
use Prim.Native.Nat.{ℕ, zero, suc, ◌+◌, ◌*◌, ◌≤◌, ◌<◌}
use mathlib.Core.Path.{◌≡◌, refl, sym, ap, ◌∙◌}
use mathlib.Core.Bool.{Bool, true, false, ◌&&◌}
use mathlib.Core.List.{List}
use native.Mathlib.Omega.{arith}
use borrow.Author.Tests.{eqb-true, eqb-false, eq-eqb, ne_eqb}
use lib.Dec.{eqb}
use lib.ListN.{length, get_or, drop}
use lib.Seq.{drop-cons}
use Rattle.words.specs.Words.{word, zeros}
use Rattle.words.specs.Port.{same_words}

-- a sum of whole numbers is zero exactly if each is
joined : (b r : ℕ) → eqb (b + 256 * r) 0 ≡ (eqb b 0 && eqb r 0)
joined b r = go (eqb b 0) (eqb r 0) refl refl
  where
    go : (s t : Bool) → eqb b 0 ≡ s → eqb r 0 ≡ t → eqb (b + 256 * r) 0 ≡ (s && t)
    go true true e f = let h = eqb-true b 0 e in let k = eqb-true r 0 f in eq-eqb (b + 256 * r) 0 (omega arith)
    go true false e f = let k = eqb-false r 0 f in ne_eqb (b + 256 * r) 0 (λ z. k (omega arith))
    go false t e f = let h = eqb-false b 0 e in ne_eqb (b + 256 * r) 0 (λ z. h (omega arith))

and_assoc : (s t u : Bool) → ((s && t) && u) ≡ (s && (t && u))
and_assoc true t u = refl
and_assoc false t u = refl

-- one byte more of the list, beside one digit more of the word
module _ (l : List ℕ) (at next : ℕ) (n : next ≡ suc at) (h : at < length l) where
  digit : (r : ℕ) (t : Bool) → zeros (drop next l) ≡ (eqb r 0 && t) → zeros (drop at l) ≡ (eqb (get_or l at 0 + 256 * r) 0 && t)
  unfolding zeros
  digit r t e =
      let e' = rw n at e in
      rw (drop-cons l at 0 h, e', joined (get_or l at 0) r) (sym (and_assoc (eqb (get_or l at 0) 0) (eqb r 0) t))

  last : zeros (drop at l) ≡ (eqb (get_or l at 0) 0 && zeros (drop next l))
  unfolding zeros
  last = rw (drop-cons l at 0 h, n)

by_word : (l : List ℕ) (i : ℕ) → 8 * i + 8 ≤ length l → zeros (drop (8 * i) l) ≡ (eqb (word l i) 0 && zeros (drop (8 * (i + 1)) l))
by_word l i h =
    let at = 8 * i in
    let t = zeros (drop (8 * (i + 1)) l) in
    let d7 = last l (at + 7) (8 * (i + 1)) (omega arith) (omega arith) in
    let d6 = digit l (at + 6) (at + 7) (omega arith) (omega arith) _ t d7 in
    let d5 = digit l (at + 5) (at + 6) (omega arith) (omega arith) _ t d6 in
    let d4 = digit l (at + 4) (at + 5) (omega arith) (omega arith) _ t d5 in
    let d3 = digit l (at + 3) (at + 4) (omega arith) (omega arith) _ t d4 in
    let d2 = digit l (at + 2) (at + 3) (omega arith) (omega arith) _ t d3 in
    let d1 = digit l (at + 1) (at + 2) (omega arith) (omega arith) _ t d2 in
    digit l at (at + 1) (omega arith) (omega arith) _ t d1

and_swap : (s t u : Bool) → (s && (t && u)) ≡ ((t && s) && u)
and_swap true true u = refl
and_swap true false u = refl
and_swap false true u = refl
and_swap false false u = refl

-- the first k words, and what is behind them
pub by_words : (l : List ℕ) (k : ℕ) → 8 * k ≤ length l → zeros l ≡ (same_words l k 0 && zeros (drop (8 * k) l))
unfolding same_words
by_words l zero h = refl
by_words l (suc k) h =
    let i = by_words l k (omega arith) in
    let b = by_word l k (omega arith) in
    let next : k + 1 ≡ suc k = omega arith in
    let b' = rw next at b in
    i ∙ ap (λ (t : Bool). same_words l k 0 && t) b' ∙ and_swap (same_words l k 0) (eqb (word l k) 0) (zeros (drop (8 * suc k) l))
