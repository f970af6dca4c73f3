-- The held blocks before the place stand at the front, and the blocks from the place on are as they were.
use Prim.Native.Nat.{ℕ, ◌*◌, ◌%◌, ◌≤◌}
use mathlib.Core.Path.{◌≡◌}
use mathlib.Core.List.{List}
use lib.ListN.{length, take, drop}
use Rattle.arms.specs.File.{blocks, flat, front}
use Rattle.arms.proofs.to_front.Given as goal

pub record State (b₀ b : List ℕ) (w at : ℕ) : Type 0 where
  pub whole : length b₀ % 512 ≡ 0
  pub step : at % 512 ≡ 0
  pub within : at ≤ length b₀
  pub low : w ≤ at
  pub long : length b ≡ length b₀
  pub fronts : take w b ≡ flat (front (blocks (take at b₀)))
  pub behind : drop at b ≡ drop at b₀

abbrev pub invariant-loop-k : goal.invariant-loop-k
invariant-loop-k l = State l.initial.buffer l.buffer l.behind (512 * l.k)
