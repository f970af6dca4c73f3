-- Bytes: a buffer is its blocks, the bytes of a number give it back, and the block of an arm is read as that arm and is sound.
use Prim.Native.Nat.{ℕ, zero, suc, ◌+◌, ◌*◌, ◌/◌, ◌%◌, ◌^◌, ◌≤◌, ◌<◌}
use mathlib.Core.Path.{◌≡◌, refl, ap, sym, ◌∙◌}
use mathlib.Core.Bool.{Bool, true, false, ◌&&◌}
use mathlib.Core.List.{List, [], ◌∷◌, ◌++◌, append-nil, append_assoc}
use native.Mathlib.Omega.{arith}
use native.Mathlib.Nat.{div-add-mod, mod-eq_of_lt, min-le_left}
use Rattle.std.proofs.Math.Nat.{div-div-eq-div-mul}
use Rattle.std.specs.Int.{byte_at, bytes_low_first}
use borrow.Author.Tests.{eqb-true, eq-eqb, le-ltb}
use lib.Dec.{T, eqb}
use lib.Ieee.{Float, binary64, fits, to_bits}
use lib.Ieee.Bits.{of_bits-to_bits, to_bits-lt}
use lib.ListN.{length, get_or, take, drop, replicate, length-append, length-take, length-drop, take-append-drop, replicate-append-replicate, get_or-append}
use lib.Seq.{take_at, drop_at, drop-drop, get_or-drop}
use Rattle.words.specs.Words.{word, zeros, numbers}
use Rattle.block.specs.Block.{arm}
use Rattle.block.specs.Check.{sum_of, check}
use Rattle.arms.specs.Arm.{Arm, numbered, arm_fault}
use Rattle.arms.specs.File.{blocks_of, blocks, flat, number_bytes, number_gap, number, arm_of, rest, block_fault, little, eights, body, block_of, empty}
use Rattle.arms.specs.Agreement.{Each, none, more, Fits}
use Rattle.arms.proofs.Blocks.{Sound}

-- a buffer and its blocks
flat_blocks_of : (n : ℕ) (bytes : List ℕ) → length bytes ≤ 512 * n → flat (blocks_of n bytes) ≡ bytes
unfolding flat blocks_of
flat_blocks_of zero bytes h = sym (nothing bytes (omega arith))
  where
    nothing : (l : List ℕ) → length l ≤ 0 → l ≡ []
    nothing [] h' = refl
    nothing (x ∷ l) h' = absurd (omega arith)
flat_blocks_of (suc n) bytes h =
    let r = flat_blocks_of n (drop 512 bytes) (rw (length-drop 512 bytes) (omega arith)) in
    rw r (take-append-drop 512 bytes)

pub flat_blocks : (bytes : List ℕ) → flat (blocks bytes) ≡ bytes
unfolding blocks
flat_blocks bytes = flat_blocks_of ((length bytes + 511) / 512) bytes (omega arith)

small_blocks_of : (n : ℕ) (bytes : List ℕ) → Each (λ b. length b ≤ 512) (blocks_of n bytes)
unfolding blocks_of
small_blocks_of zero bytes = none
small_blocks_of (suc n) bytes =
    let h : length (take 512 bytes) ≤ 512 = rw (length-take 512 bytes) (min-le_left 512 (length bytes)) in
    more h (small_blocks_of n (drop 512 bytes))

pub small_blocks : (bytes : List ℕ) → Each (λ b. length b ≤ 512) (blocks bytes)
unfolding blocks
small_blocks bytes = small_blocks_of ((length bytes + 511) / 512) bytes

pub length_flat : {bs : List (List ℕ)} → Each (λ b. length b ≡ 512) bs → length (flat bs) ≡ 512 * length bs
unfolding flat
length_flat none = refl
length_flat (more {x = b} {xs = bs} p e) = let i = length_flat e in rw (length-append b (flat bs)) (omega arith)

blocks_of_flat : {bs : List (List ℕ)} → Each (λ b. length b ≡ 512) bs → blocks_of (length bs) (flat bs) ≡ bs
unfolding flat blocks_of
blocks_of_flat none = refl
blocks_of_flat (more {x = b} {xs = bs} p e) = rw (take_at b (flat bs) 512 p, drop_at b (flat bs) 512 p, blocks_of_flat e)

pub blocks_flat : {bs : List (List ℕ)} → Each (λ b. length b ≡ 512) bs → blocks (flat bs) ≡ bs
unfolding blocks
blocks_flat {bs} e =
    let l = length_flat e in
    let n : (length (flat bs) + 511) / 512 ≡ length bs = omega arith in
    rw n (blocks_of_flat e)

-- bytes of a number
pub length_little : (n v : ℕ) → length (little n v) ≡ n
unfolding little
length_little zero v = refl
length_little (suc n) v = ap suc (length_little n (v / 256))

shifted_byte : (i v : ℕ) → byte_at (suc i) v ≡ byte_at i (v / 256)
shifted_byte zero v = refl
shifted_byte (suc i) v =
    let k : 256 ^ suc (suc i) ≡ 256 * 256 ^ suc i = omega arith in
    rw k (ap (λ (x : ℕ). x % 256) (sym (div-div-eq-div-mul v 256 (256 ^ suc i))))

shifted : (i n v : ℕ) → bytes_low_first (suc i) n v ≡ bytes_low_first i n (v / 256)
shifted i zero v = refl
shifted i (suc n) v = rw (shifted_byte i v, shifted (suc i) n v)

pub le_bytes : (n v : ℕ) → bytes_low_first 0 n v ≡ little n v
unfolding little
le_bytes zero v = refl
le_bytes (suc n) v = ap (λ (l : List ℕ). v % 256 ∷ l) (shifted 0 n v ∙ le_bytes n (v / 256))

join : (v : ℕ) {r : ℕ} → r ≡ v / 256 → v % 256 + 256 * r ≡ v
join v e = omega (arith, div-add-mod v 256)

fewer : (v k : ℕ) → v < 256 * k → v / 256 < k
fewer v k h = omega (arith, div-add-mod v 256)

join_eight : (v : ℕ) → v < 2 ^ 64
    → v % 256 + 256 * (v / 256 % 256 + 256 * (v / 256 / 256 % 256 + 256 * (v / 256 / 256 / 256 % 256 + 256 * (v / 256 / 256 / 256 / 256 % 256 + 256 * (v / 256 / 256 / 256 / 256 / 256 % 256 + 256 * (v / 256 / 256 / 256 / 256 / 256 / 256 % 256 + 256 * (v / 256 / 256 / 256 / 256 / 256 / 256 / 256 % 256))))))) ≡ v
join_eight v h =
    let h1 = fewer v (2 ^ 56) h in
    let h2 = fewer (v / 256) (2 ^ 48) h1 in
    let h3 = fewer (v / 256 / 256) (2 ^ 40) h2 in
    let h4 = fewer (v / 256 / 256 / 256) (2 ^ 32) h3 in
    let h5 = fewer (v / 256 / 256 / 256 / 256) (2 ^ 24) h4 in
    let h6 = fewer (v / 256 / 256 / 256 / 256 / 256) (2 ^ 16) h5 in
    let h7 = fewer (v / 256 / 256 / 256 / 256 / 256 / 256) (2 ^ 8) h6 in
    join v (join (v / 256) (join (v / 256 / 256) (join (v / 256 / 256 / 256) (join (v / 256 / 256 / 256 / 256) (join (v / 256 / 256 / 256 / 256 / 256) (join (v / 256 / 256 / 256 / 256 / 256 / 256) (mod-eq_of_lt h7)))))))

-- reading at a place: the bytes from there on
from : (l : List ℕ) (at k : ℕ) {m : List ℕ} → drop at l ≡ m → get_or l (at + k) 0 ≡ get_or m k 0
from l at k e = sym (get_or-drop at l k 0) ∙ ap (λ (x : List ℕ). get_or x k 0) e

from_start : (l : List ℕ) (at : ℕ) {m : List ℕ} → drop at l ≡ m → get_or l at 0 ≡ get_or m 0 0
from_start l at e = let z : at + 0 ≡ at = omega arith in rw z at (from l at 0 e)

word_at : (l : List ℕ) (i v : ℕ) (post : List ℕ) → drop (8 * i) l ≡ little 8 v ++ post → v < 2 ^ 64 → word l i ≡ v
unfolding little
word_at l i v post e h =
    rw (from_start l (8 * i) e, from l (8 * i) 1 e, from l (8 * i) 2 e, from l (8 * i) 3 e, from l (8 * i) 4 e, from l (8 * i) 5 e, from l (8 * i) 6 e, from l (8 * i) 7 e) (join_eight v h)

number_at : (v : ℕ) (post : List ℕ) → v < 2 ^ (8 * number_bytes) → number (little number_bytes v ++ post) ≡ v
unfolding little number
number_at v post h = mod-eq_of_lt h

-- the eight bytes of each f64 are read as that f64, whatever it is
numbers_at : (l : List ℕ) (first : ℕ) {xs : List Float} (post : List ℕ) → drop (8 * first) l ≡ eights xs ++ post → Each (λ x. T (fits binary64 x)) xs → numbers l first (length xs) ≡ xs
unfolding eights numbers
numbers_at l first post e none = refl
numbers_at l first post e (more {x} {xs} h hs) =
    let w = to_bits binary64 x in
    let e' : drop (8 * first) l ≡ little 8 w ++ (eights xs ++ post) = e ∙ append_assoc (little 8 w) (eights xs) post in
    let n : 8 * (first + 1) ≡ 8 * first + 8 = omega arith in
    let next : drop (8 * (first + 1)) l ≡ eights xs ++ post =
    rw n (sym (drop-drop 8 (8 * first) l) ∙ (ap (λ (m : List ℕ). drop 8 m) e' ∙ drop_at (little 8 w) (eights xs ++ post) 8 (length_little 8 w))) in
    rw (word_at l first w (eights xs ++ post) e' (to_bits-lt binary64 x h), of_bits-to_bits binary64 x h, numbers_at l (first + 1) post next hs)

pub length_eights : (xs : List Float) → length (eights xs) ≡ 8 * length xs
unfolding eights
length_eights [] = refl
length_eights (x ∷ xs) = let i = length_eights xs in rw (length-append (little 8 (to_bits binary64 x)) (eights xs), length_little 8 (to_bits binary64 x)) (omega arith)

-- the check is that of the bytes before it
word_before : (l m : List ℕ) (i : ℕ) → 8 * i + 8 ≤ length l → word (l ++ m) i ≡ word l i
word_before l m i h =
    rw (
      get_or-append l m 0 (8 * i) (omega arith),
      get_or-append l m 0 (8 * i + 1) (omega arith),
      get_or-append l m 0 (8 * i + 2) (omega arith),
      get_or-append l m 0 (8 * i + 3) (omega arith),
      get_or-append l m 0 (8 * i + 4) (omega arith),
      get_or-append l m 0 (8 * i + 5) (omega arith),
      get_or-append l m 0 (8 * i + 6) (omega arith),
      get_or-append l m 0 (8 * i + 7) (omega arith),
    )

sum_before : (l m : List ℕ) (n : ℕ) → 8 * n ≤ length l → sum_of (l ++ m) n ≡ sum_of l n
unfolding sum_of
sum_before l m zero h = refl
sum_before l m (suc n) h =
    let a = sum_before l m n (omega arith) in
    let b = word_before l m n (omega arith) in
    ap (λ (x : ℕ). x + word (l ++ m) n) a ∙ ap (λ (x : ℕ). sum_of l n + x) b

pub check_before : (l m : List ℕ) → length l ≡ 504 → check (l ++ m) ≡ check l
unfolding check
check_before l m h = ap (λ (x : ℕ). x % 2 ^ 64) (sum_before l m 63 (omega arith))

check_small : (l : List ℕ) → check l < 2 ^ 64
unfolding check
check_small l = omega arith

-- zero bytes
pub zeros_replicate : (n : ℕ) → zeros (replicate n 0) ≡ true
unfolding zeros
zeros_replicate zero = refl
zeros_replicate (suc n) = zeros_replicate n

zeros_at : (l : List ℕ) (k : ℕ) → zeros l ≡ true → get_or l k 0 ≡ 0
unfolding zeros
zeros_at [] k z = refl
zeros_at (x ∷ l) zero z = go (eqb x 0) refl z
  where
    go : (t : Bool) → eqb x 0 ≡ t → (t && zeros l) ≡ true → x ≡ 0
    go true e f = eqb-true x 0 e
    go false e f = let y : ◌≡◌ {A = ℕ} 0 1 = cc in absurd (omega arith)
zeros_at (x ∷ l) (suc k) z = zeros_at l k (go (eqb x 0) z)
  where
    go : (t : Bool) → (t && zeros l) ≡ true → zeros l ≡ true
    go true f = f
    go false f = let y : ◌≡◌ {A = ℕ} 0 1 = cc in absurd (omega arith)

pub zeros_number : (l : List ℕ) → zeros l ≡ true → number l ≡ 0
unfolding number
zeros_number l z = zeros_at l 0 z

zeros_not : (l : List ℕ) → (number l ≡ 0 → ⊥) → zeros l ≡ false
zeros_not l h = go (zeros l) refl
  where
    go : (t : Bool) → zeros l ≡ t → t ≡ false
    go true z = absurd (h (zeros_number l z))
    go false z = refl

zeros_word : (l : List ℕ) (i : ℕ) → zeros l ≡ true → word l i ≡ 0
zeros_word l i z =
    rw (zeros_at l (8 * i) z, zeros_at l (8 * i + 1) z, zeros_at l (8 * i + 2) z, zeros_at l (8 * i + 3) z, zeros_at l (8 * i + 4) z, zeros_at l (8 * i + 5) z, zeros_at l (8 * i + 6) z, zeros_at l (8 * i + 7) z)

zeros_sum : (l : List ℕ) (n : ℕ) → zeros l ≡ true → sum_of l n ≡ 0
unfolding sum_of
zeros_sum l zero z = refl
zeros_sum l (suc n) z = let a = zeros_sum l n z in let b = zeros_word l n z in omega arith

zeros_check : (l : List ℕ) → zeros l ≡ true → check l ≡ 0
unfolding check
zeros_check l z = rw (zeros_sum l 63 z)

-- an empty block is not refused, whatever stands before it: its check is 0 too
pub empty_fault : (earlier : List Arm) (b : List ℕ) → 512 ≤ length b → zeros b ≡ true → block_fault earlier b ≡ 0
unfolding block_fault
empty_fault earlier b h z = rw (le-ltb (length b) 512 h, eq-eqb (word b 63) (check b) (zeros_word b 63 z ∙ sym (zeros_check b z)), z)

pub empty_zeros : zeros empty ≡ true
unfolding empty
empty_zeros = zeros_replicate 512

pub empty_length : length empty ≡ 512
unfolding empty
empty_length = refl

empties : (n : ℕ) → empty ++ replicate n 0 ≡ replicate (512 + n) 0
unfolding empty
empties n = let zero : ℕ = 0 in replicate-append-replicate 512 n zero

pub flat_empty : (k : ℕ) → flat (replicate k empty) ≡ replicate (512 * k) 0
unfolding flat
flat_empty zero = refl
flat_empty (suc k) = let n : 512 * suc k ≡ 512 + 512 * k = omega arith in rw (n, flat_empty k) (empties (512 * k))

pub empty_sound : Sound empty
empty_sound = empty_fault [] empty (let h = empty_length in omega arith) empty_zeros

-- the parts of a block, and where each begins
module _ (A Z E X C : List ℕ) (a : length A ≡ number_bytes) (z : length Z ≡ number_gap) (e : length E ≡ 312) (x : length X ≡ 184) where
  parts : (A ++ (Z ++ (E ++ X))) ++ C ≡ A ++ (Z ++ (E ++ (X ++ C)))
  parts = simp append_assoc

  part_gap : drop number_bytes ((A ++ (Z ++ (E ++ X))) ++ C) ≡ Z ++ (E ++ (X ++ C))
  part_gap = ap (λ (l : List ℕ). drop number_bytes l) parts ∙ drop_at A _ number_bytes a

  part_8 : drop 8 ((A ++ (Z ++ (E ++ X))) ++ C) ≡ E ++ (X ++ C)
  part_8 = sym (drop-drop number_gap number_bytes ((A ++ (Z ++ (E ++ X))) ++ C)) ∙ (ap (λ (l : List ℕ). drop number_gap l) part_gap ∙ drop_at Z _ number_gap z)

  part_320 : drop 320 ((A ++ (Z ++ (E ++ X))) ++ C) ≡ X ++ C
  part_320 = sym (drop-drop 312 8 ((A ++ (Z ++ (E ++ X))) ++ C)) ∙ (ap (λ (l : List ℕ). drop 312 l) part_8 ∙ drop_at E _ 312 e)

  pub parts_before : length (A ++ (Z ++ (E ++ X))) ≡ 504
  parts_before = simp length-append (omega arith)

  parts_rest : zeros Z ≡ true → zeros X ≡ true → rest ((A ++ (Z ++ (E ++ X))) ++ C) ≡ true
  unfolding rest
  parts_rest zz xz = rw (part_gap, part_320, take_at Z (E ++ (X ++ C)) number_gap z, take_at X C 184 x, zz, xz)

arm_is : (arm : Arm) {n : ℕ} {numbers : List Float} → n ≡ arm.number → numbers ≡ arm.numbers → numbered n numbers ≡ arm
arm_is arm e f = rw (e, f)

-- the block of an arm
module _ (arm : Arm) (all : length arm.numbers ≡ 39) where
  eights_length : length (eights arm.numbers) ≡ 312
  eights_length = let l = length_eights arm.numbers in omega arith

  pub body_length : length (body arm) ≡ 504
  unfolding body
  body_length = parts_before (little number_bytes arm.number) (replicate number_gap 0) (eights arm.numbers) (replicate 184 0) [] (length_little number_bytes arm.number) refl eights_length refl

  pub block_length : length (block_of arm) ≡ 512
  unfolding block_of
  block_length = let h = body_length in rw (length-append (body arm) (little 8 (check (body arm))), length_little 8 (check (body arm))) (omega arith)

  block_rest : rest (block_of arm) ≡ true
  unfolding block_of body
  block_rest =
      parts_rest (little number_bytes arm.number) (replicate number_gap 0) (eights arm.numbers) (replicate 184 0) (little 8 (check (body arm)))
      (length_little number_bytes arm.number) refl eights_length refl (zeros_replicate number_gap) (zeros_replicate 184)

  block_check : word (block_of arm) 63 ≡ check (block_of arm)
  unfolding block_of
  block_check =
      word_at (body arm ++ little 8 (check (body arm))) 63 (check (body arm)) []
      (drop_at (body arm) _ 504 body_length ∙ sym (append-nil (little 8 (check (body arm))))) (check_small (body arm)) ∙ sym (check_before (body arm) _ body_length)

  module _ (fits : Fits arm) where
    block_number : number (block_of arm) ≡ arm.number
    unfolding block_of body
    block_number =
        ap number (append_assoc (little number_bytes arm.number) (replicate number_gap 0 ++ (eights arm.numbers ++ replicate 184 0)) (little 8 (check (body arm)))) ∙ number_at arm.number _ fits.number_fits

    block_numbers : numbers (block_of arm) 1 39 ≡ arm.numbers
    unfolding block_of body
    block_numbers =
        rw all at (numbers_at (block_of arm) 1 _
        (part_8 (little number_bytes arm.number) (replicate number_gap 0) (eights arm.numbers) (replicate 184 0) (little 8 (check (body arm))) (length_little number_bytes arm.number) refl eights_length refl) fits.numbers_fit)

    -- it is read as that arm, number for number
    pub block_arm : arm_of (block_of arm) ≡ arm
    unfolding arm_of
    block_arm = arm_is arm block_number block_numbers

    pub block_held : (arm.number ≡ 0 → ⊥) → zeros (block_of arm) ≡ false
    block_held h = zeros_not (block_of arm) (λ e. h (sym block_number ∙ e))

    pub block_sound : (arm.number ≡ 0 → ⊥) → arm_fault [] arm ≡ 0 → Sound (block_of arm)
    unfolding block_fault
    block_sound h f =
        rw (le-ltb (length (block_of arm)) 512 (let l = block_length in omega arith), eq-eqb (word (block_of arm) 63) (check (block_of arm)) block_check, block_held h, block_rest, block_arm) f
