-- The held blocks before the place stand at the front, and the blocks from the place on are as they were.
use Prim.Native.Nat.{ℕ, ◌+◌, ◌*◌, ◌≤◌, ◌<◌}
use mathlib.Core.Path.{◌≡◌, refl, sym, ap, ◌∙◌}
use mathlib.Core.Bool.{cond}
use mathlib.Core.List.{List, [], ◌++◌, append-nil}
use native.Mathlib.Omega.{arith}
use borrow.Author.Tests.{eq-eqb, ne_eqb}
use lib.Dec.{eqb}
use lib.ListN.{length, get_or, take, drop}
use lib.Seq.{drop-drop, take_all}
use Rattle.words.specs.Words.{zeros}
use Rattle.arms.specs.File.{blocks, flat, front}
use Rattle.arms.specs.Agreement.{Valid}
use Rattle.arms.specs.Port.{Moved, Fronted}
use Rattle.arms.proofs.Parts.{blocks_none, number_at}
use Rattle.arms.proofs.Places.{valid_whole, empty_at}
use Rattle.arms.proofs.Fronts.{front_next}
use Rattle.arms.proofs.to_front.Goals as goal
use Rattle.arms.proofs.to_front.Goals.{then-buffer-from-ne0, else-buffer-from-ne0}
use Rattle.arms.proofs.to_front.Invariants.{State}

start : (b : List ℕ) → Valid b → State b b 0 0
unfolding front flat
start b v = record { whole = valid_whole b v; step = refl; within = omega arith; low = omega arith; long = refl; fronts = rw (blocks_none [] (omega arith)); behind = refl }

module _ (b₀ b : List ℕ) (w at next : ℕ) (v : Valid b₀) (s : State b₀ b w at) (h : at < length b) (e-next : next ≡ at + 512) where
  zeros-is : zeros (take 512 (drop at b₀)) ≡ eqb (get_or b at 0) 0
  zeros-is =
      let l = s.long in
      let e₀ = rw s.behind at (number_at b at) in
      rw e₀ at (empty_at b₀ v at s.step (omega arith))

  up : flat (front (blocks (take (at + 512) b₀))) ≡ flat (front (blocks (take at b₀))) ++ cond (eqb (get_or b at 0) 0) [] (take 512 (drop at b₀))
  up =
      let l = s.long in
      let t = s.step in
      let m = s.whole in
      rw zeros-is at (front_next b₀ at s.step (omega arith))

  drop-next : drop (at + 512) b ≡ drop (at + 512) b₀
  drop-next = sym (drop-drop 512 at b) ∙ (ap (λ (x : List ℕ). drop 512 x) s.behind ∙ drop-drop 512 at b₀)

  skipped : get_or b at 0 ≡ 0 → State b₀ b w next
  skipped z =
      let l = s.long in
      let u = s.step in
      let g = s.low in
      let m = s.whole in
      let f = rw (eq-eqb (get_or b at 0) 0 z, append-nil (flat (front (blocks (take at b₀))))) at up in
      rw e-next (record { whole = m; step = omega arith; within = omega arith; low = omega arith; long = s.long; fronts = s.fronts ∙ sym f; behind = drop-next })

  moved : {b' : List ℕ} → (get_or b at 0 ≡ 0 → ⊥) → Moved at w b b' → State b₀ b' (w + 512) next
  moved {b'} z mv =
      let l = s.long in
      let u = s.step in
      let g = s.low in
      let m = s.whole in
      let f = rw (ne_eqb (get_or b at 0) 0 z) at up in
      rw e-next (record {
        whole = m;
        step = omega arith;
        within = omega arith;
        low = omega arith;
        long = mv.long ∙ s.long;
        fronts = mv.there ∙ (rw (s.fronts, s.behind) (sym f));
        behind = mv.behind ∙ drop-next;
      })

all : (b₀ b : List ℕ) (w at : ℕ) → State b₀ b w at → length b ≤ at → Fronted w b₀ b
all b₀ b w at s h =
    let l = s.long in
    let u = s.low in
    let g = s.within in
    record { within = omega arith; long = s.long; fronts = rw (take_all at b₀ (omega arith)) at s.fronts }

pub loop-k-init : goal.loop-k-init
loop-k-init c = start c.args.buffer.now c.requires

pub loop-k-preserved : goal.loop-k-preserved
loop-k-preserved c =
    let b₀ = c.args.buffer.now in
    let b = c.loop-k.buffer in
    let s = c.loop-k.invariant in
    let at = 512 * c.loop-k.k in
    let next = 512 * (c.loop-k.k + 1) in
    let h : at < length b = omega arith in
    elim c.if-buffer-from-ne0.branch [
      | then-buffer-from-ne0 w ↦ rw (w.buffer-is, w.behind-is) (moved b₀ b c.loop-k.behind at next c.requires s h (omega arith) w.if-buffer-from-ne0.true w.move_down.ensures)
      | else-buffer-from-ne0 w ↦ rw (w.buffer-is, w.behind-is) (skipped b₀ b c.loop-k.behind at next c.requires s h (omega arith) w.if-buffer-from-ne0.false)
    ]
