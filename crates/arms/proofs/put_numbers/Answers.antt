-- The bytes of the first i numbers are written.
use Prim.Native.Nat.{ℕ, ◌+◌, ◌-◌, ◌*◌, ◌≤◌, ◌<◌}
use mathlib.Core.Path.{◌≡◌, ap, ◌∙◌}
use mathlib.Core.List.{List, ◌++◌, append_assoc, append-nil}
use native.Mathlib.Numerals.{add-one}
use native.Mathlib.Omega.{arith}
use borrow.Rule.Slice.PartMut.{mid_of, put_mid, post_of, same_len_mid}
use lib.Ieee.{Float, nan, binary64, to_bits}
use lib.ListN.{length, get_or, take, drop, length-append, length-drop, drop_of_length-le}
use lib.Seq.{drop-cons, take_at, take_all, length-take-le}
use Rattle.std.specs.Int.{to_le_bytes, w64}
use Rattle.arms.specs.File.{little, eights}
use Rattle.arms.proofs.Bytes.{length_little, le_bytes}
use Rattle.arms.proofs.put_numbers.Goals as goal

module _ (b₀ : List ℕ) (numbers : List Float) (b : List ℕ) (i : ℕ) (fit : length b₀ ≡ 8 * length numbers) (long : length b ≡ length b₀)
    (e : take (8 * i) b ++ eights (drop i numbers) ≡ eights numbers) where
  module _ {m : List ℕ} {w : ℕ} (h : i < length numbers) (e-w : w ≡ to_bits binary64 (get_or numbers i nan)) (f : m ≡ to_le_bytes w64 w) where
    m-is : m ≡ little 8 (to_bits binary64 (get_or numbers i nan))
    m-is = f ∙ (le_bytes 8 w ∙ ap (λ (v : ℕ). little 8 v) e-w)

    m-long : length m ≡ 8
    m-long = ap (λ (x : List ℕ). length x) m-is ∙ length_little 8 (to_bits binary64 (get_or numbers i nan))

    same : length (put_mid (8 * i) (8 * i + 8 - 8 * i) b m) ≡ length b₀
    same =
        let d = length-drop (8 * i) b in
        let l : length (mid_of (8 * i) (8 * i + 8 - 8 * i) b) ≡ 8 = length-take-le (8 * i + 8 - 8 * i) (drop (8 * i) b) (omega arith) ∙ (omega arith) in
        same_len_mid (8 * i) (8 * i + 8 - 8 * i) b m (rw (m-long, l)) ∙ long

    one_more : take (8 * (i + 1)) (put_mid (8 * i) (8 * i + 8 - 8 * i) b m) ++ eights (drop (i + 1) numbers) ≡ eights numbers
    unfolding eights
    one_more =
        let t = length-take-le (8 * i) b (omega arith) in
        let lm = m-long in
        let a = length-append (take (8 * i) b) m in
        let p = take_at (take (8 * i) b ++ m) (post_of (8 * i) (8 * i + 8 - 8 * i) b) (8 * (i + 1)) (omega arith) in
        let q : take (8 * (i + 1)) (put_mid (8 * i) (8 * i + 8 - 8 * i) b m) ≡ take (8 * i) b ++ m = rw (← (append_assoc (take (8 * i) b) m (post_of (8 * i) (8 * i + 8 - 8 * i) b))) p in
        let e' = rw (drop-cons numbers i nan h) at e in
        rw (q, m-is, add-one i, append_assoc) e'

  all : length numbers ≤ i → i ≤ length numbers → b ≡ eights numbers
  unfolding eights
  all h g = rw (drop_of_length-le numbers h, take_all (8 * i) b (omega arith), append-nil) at e

pub loop-i-preserved : goal.loop-i-preserved
loop-i-preserved c =
    let b = c.loop-i.b in
    let xs = c.args.numbers.now in
    let f = c.copy_from_slice.ensures.after ∙ c.to_le_bytes.ensures in (
      same c.args.b.now xs b c.loop-i.i c.requires c.loop-i.invariant.0 c.loop-i.invariant.1 (omega arith) c.pattern.ensures f,
      one_more c.args.b.now xs b c.loop-i.i c.requires c.loop-i.invariant.0 c.loop-i.invariant.1 (omega arith) c.pattern.ensures f,
    )

pub returns : goal.returns
returns c = all c.args.b.now c.args.numbers.now c.loop-i.b c.loop-i.i c.requires c.loop-i.invariant.0 c.loop-i.invariant.1 (omega arith) (omega arith)
