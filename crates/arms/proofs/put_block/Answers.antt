-- Zeros, then number, arm and check written over them.
use Prim.Native.Nat.{ℕ, ◌<◌}
use mathlib.Core.Path.{◌≡◌, refl, sym, ap, ◌∙◌}
use mathlib.Core.List.{List, [], ◌++◌, append_assoc, append-nil}
use native.Mathlib.Nat.{mod-eq_of_lt}
use native.Mathlib.Omega.{arith}
use borrow.Rule.Slice.PartMut.{put_mid}
use lib.Ieee.{Float}
use lib.ListN.{length, set, replicate, length-append}
use lib.Seq.{take_at, drop_at}
use Rattle.std.specs.Int.{to_le_bytes, w64}
use Rattle.block.specs.Check.{check}
use Rattle.arms.specs.Arm.{Arm, numbered}
use Rattle.arms.specs.File.{number_bytes, number_gap, little, eights, body, block_of}
use Rattle.arms.proofs.Bytes.{length_little, le_bytes, check_before, body_length}
use Rattle.arms.proofs.put_block.Goals as goal

put-part : (p m s ys : List ℕ) (a k : ℕ) → length p ≡ a → length m ≡ k → put_mid a k (p ++ (m ++ s)) ys ≡ p ++ (ys ++ s)
put-part p m s ys a k g h = rw (take_at p (m ++ s) a g, drop_at p (m ++ s) a g, drop_at m s k h)

-- a block of five parts, of which the third is written
module _ (A Z E X C E' : List ℕ) (a : length A ≡ number_bytes) (z : length Z ≡ number_gap) (e : length E ≡ 312) where
  third_part : put_mid 8 312 (A ++ (Z ++ (E ++ (X ++ C)))) E' ≡ (A ++ (Z ++ (E' ++ X))) ++ C
  third_part =
      ap (λ (l : List ℕ). put_mid 8 312 l E') (sym (append_assoc A Z (E ++ (X ++ C))))
      ∙ (put-part (A ++ Z) E (X ++ C) E' 8 312 (simp length-append (omega arith)) e ∙ regroup)
    where
      regroup : (A ++ Z) ++ (E' ++ (X ++ C)) ≡ (A ++ (Z ++ (E' ++ X))) ++ C
      regroup = simp append_assoc

last : (p c m : List ℕ) → length p ≡ 504 → length c ≡ 8 → put_mid 504 8 (p ++ c) m ≡ p ++ m
last p c m g h =
    ap (λ (l : List ℕ). put_mid 504 8 (p ++ l) m) (sym (append-nil c)) ∙ (put-part p c [] m 504 8 g h ∙ ap (λ (l : List ℕ). p ++ l) (append-nil m))

abbrev Zs : ℕ → List ℕ
Zs k = replicate k 0

parts : Zs 512 ≡ Zs number_bytes ++ (Zs number_gap ++ (Zs 312 ++ (Zs 184 ++ Zs 8)))
parts = refl

first : (n : ℕ) (rest : List ℕ) → n < 256 → set (Zs number_bytes ++ rest) 0 n ≡ little number_bytes n ++ rest
unfolding little
first n rest h = rw (mod-eq_of_lt h)

module _ (b₀ : List ℕ) (n : ℕ) (numbers : List Float) {b m2 m3 : List ℕ} {s : ℕ} (small : n < 256) (long : length b₀ ≡ 512) (all : length numbers ≡ 39)
    (e-b : b ≡ replicate (length b₀) 0)
    (e2 : m2 ≡ eights numbers)
    (e-s : s ≡ check (put_mid 8 312 (set b 0 n) m2))
    (e3 : m3 ≡ to_le_bytes w64 s) where
  abbrev arm : Arm
  arm = numbered n numbers

  b-is : b ≡ Zs number_bytes ++ (Zs number_gap ++ (Zs 312 ++ (Zs 184 ++ Zs 8)))
  b-is = rw long at e-b ∙ parts

  at-two : put_mid 8 312 (set b 0 n) m2 ≡ body arm ++ Zs 8
  unfolding body
  at-two =
      let rest : List ℕ = Zs number_gap ++ (Zs 312 ++ (Zs 184 ++ Zs 8)) in
      ap (λ (l : List ℕ). put_mid 8 312 (set l 0 n) m2) b-is
      ∙ (ap (λ (l : List ℕ). put_mid 8 312 l m2) (first n rest small)
      ∙ (ap (λ (l : List ℕ). put_mid 8 312 (little number_bytes n ++ rest) l) e2
      ∙ third_part (little number_bytes n) (Zs number_gap) (Zs 312) (Zs 184) (Zs 8) (eights numbers) (length_little number_bytes n) refl refl))

  b-long : length (body arm) ≡ 504
  b-long = body_length arm all

  s-is : s ≡ check (body arm)
  s-is = e-s ∙ (ap check at-two ∙ check_before (body arm) (Zs 8) b-long)

  m3-is : m3 ≡ little 8 (check (body arm))
  m3-is = e3 ∙ (le_bytes 8 s ∙ ap (λ (v : ℕ). little 8 v) s-is)

  met : put_mid 504 8 (put_mid 8 312 (set b 0 n) m2) m3 ≡ block_of (numbered n numbers)
  unfolding block_of
  met = ap (λ (l : List ℕ). put_mid 504 8 l m3) at-two ∙ (last (body arm) (Zs 8) m3 b-long refl ∙ ap (λ (l : List ℕ). body arm ++ l) m3-is)

pub returns : goal.returns
returns c =
    met c.args.b.now c.args.number c.args.arm.now (omega arith) c.requires.0 c.requires.1 (c.fill.ensures.after (λ y e. e)) c.put_numbers.ensures c.check-sum.ensures (c.copy_from_slice.ensures.after ∙ c.to_le_bytes.ensures)
