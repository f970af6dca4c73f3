-- The blocks of a buffer from a place on, and up to a place.
use Prim.Native.Nat.{ℕ, zero, suc, ◌+◌, ◌*◌, ◌/◌, ◌%◌, ◌≤◌, ◌<◌}
use mathlib.Core.Path.{◌≡◌, refl, ap, sym, ◌∙◌}
use mathlib.Core.List.{List, [], ◌∷◌, ◌++◌}
use native.Mathlib.Omega.{arith}
use Rattle.std.specs.Simd.{first_chunks}
use lib.ListN.{length, get_or, take, drop, take-append-drop, length-append, length-drop, drop_of_length-le}
use lib.Seq.{drop-drop, take-add, length-take-le, take-append-le, drop-append-le, take_all, get_or-take, get_or-drop}
use Rattle.arms.specs.File.{blocks_of, blocks, number}

-- the number of the block at a place
pub number_at : (l : List ℕ) (at : ℕ) → number (take 512 (drop at l)) ≡ get_or l at 0
unfolding number
number_at l at =
    let z : at + 0 ≡ at = omega arith in
    get_or-take 512 (drop at l) 0 0 (omega arith) ∙ (get_or-drop at l 0 0 ∙ ap (λ (k : ℕ). get_or l k 0) z)

pub blocks_none : (l : List ℕ) → length l ≤ 0 → blocks l ≡ []
unfolding blocks blocks_of
blocks_none l h = let n : (length l + 511) / 512 ≡ 0 = omega arith in rw n

blocks_next : (l : List ℕ) → 0 < length l → blocks l ≡ take 512 l ∷ blocks (drop 512 l)
unfolding blocks blocks_of
blocks_next l h =
    let d = length-drop 512 l in
    let n : (length l + 511) / 512 ≡ suc ((length (drop 512 l) + 511) / 512) = omega arith in
    rw n

pub blocks_at : (l : List ℕ) (at : ℕ) → at < length l → blocks (drop at l) ≡ take 512 (drop at l) ∷ blocks (drop (at + 512) l)
blocks_at l at h =
    let d = length-drop at l in
    blocks_next (drop at l) (omega arith) ∙ ap (λ (x : List ℕ). take 512 (drop at l) ∷ blocks x) (drop-drop 512 at l)

pub blocks_past : (l : List ℕ) (at : ℕ) → length l ≤ at → blocks (drop at l) ≡ []
blocks_past l at h = let d = length-drop at l in blocks_none (drop at l) (omega arith)

-- up to a place that is a multiple of 512
blocks_append : (n : ℕ) (xs ys : List ℕ) → length xs ≡ 512 * n → blocks (xs ++ ys) ≡ blocks xs ++ blocks ys
blocks_append zero [] ys h = rw (blocks_none [] (omega arith))
blocks_append zero (x ∷ xs) ys h = absurd (omega arith)
blocks_append (suc n) xs ys h =
    let a = length-append xs ys in
    let d = length-drop 512 xs in
    let l = blocks_next (xs ++ ys) (omega arith) in
    let r = blocks_next xs (omega arith) in
    let i = blocks_append n (drop 512 xs) ys (omega arith) in
    let t : take 512 (xs ++ ys) ≡ take 512 xs = take-append-le 512 xs ys (omega arith) in
    let u : drop 512 (xs ++ ys) ≡ drop 512 xs ++ ys = drop-append-le 512 xs ys (omega arith) in
    rw (l, t, u, r, i)

module _ (l : List ℕ) (at : ℕ) (m : at % 512 ≡ 0) (h : at ≤ length l) where
  pub blocks_split : blocks l ≡ blocks (take at l) ++ blocks (drop at l)
  blocks_split =
      let a = length-take-le at l h in
      ap blocks (sym (take-append-drop at l)) ∙ blocks_append (at / 512) (take at l) (drop at l) (omega arith)

  pub blocks_up : at + 512 ≤ length l → blocks (take (at + 512) l) ≡ blocks (take at l) ++ take 512 (drop at l) ∷ []
  blocks_up g =
      let a = length-take-le at l h in
      let d = length-drop at l in
      let b = length-take-le 512 (drop at l) (omega arith) in
      let one = blocks_next (take 512 (drop at l)) (omega arith) in
      let t : take 512 (take 512 (drop at l)) ≡ take 512 (drop at l) = take_all 512 (take 512 (drop at l)) (omega arith) in
      let u : blocks (drop 512 (take 512 (drop at l))) ≡ [] = blocks_past (take 512 (drop at l)) 512 (omega arith) in
      rw (take-add at 512 l, blocks_append (at / 512) (take at l) (take 512 (drop at l)) (omega arith), one, t, u)

-- std's chunks of 512 bytes are the blocks, where the last is not short
chunks_are : (n : ℕ) (l : List ℕ) → first_chunks 512 n l ≡ blocks_of n l
unfolding blocks_of
chunks_are zero l = refl
chunks_are (suc n) l = ap (λ (bs : List (List ℕ)). take 512 l ∷ bs) (chunks_are n (drop 512 l))

pub whole_chunks : (l : List ℕ) → length l % 512 ≡ 0 → first_chunks 512 (length l / 512) l ≡ blocks l
unfolding blocks
whole_chunks l m = let n : (length l + 511) / 512 ≡ length l / 512 = omega arith in rw n (chunks_are (length l / 512) l)

pub short_chunk : (l : List ℕ) → (length l % 512 ≡ 0 → ⊥) → first_chunks 512 (length l / 512) l ++ (drop (length l / 512 * 512) l ∷ []) ≡ blocks l
short_chunk l m = go (length l / 512) l refl m
  where
    go : (n : ℕ) (xs : List ℕ) → length xs / 512 ≡ n → (length xs % 512 ≡ 0 → ⊥) → first_chunks 512 n xs ++ (drop (n * 512) xs ∷ []) ≡ blocks xs
    go zero xs e h =
        let r : drop 512 xs ≡ [] = drop_of_length-le xs {i = 512} (omega (arith, h)) in
        let n : blocks [] ≡ [] = blocks_none [] (omega arith) in
        let t : take 512 xs ≡ xs = take_all 512 xs (omega arith) in
        rw (blocks_next xs (omega (arith, h)), r, n, t)
    go (suc n) xs e h =
        let d = length-drop 512 xs in
        let i = go n (drop 512 xs) (omega arith) (λ z. h (omega arith)) in
        let k : 512 + n * 512 ≡ suc n * 512 = omega arith in
        rw (blocks_next xs (omega arith)) (ap (λ (bs : List (List ℕ)). take 512 xs ∷ bs) (rw (drop-drop (n * 512) 512 xs, k) at i))
