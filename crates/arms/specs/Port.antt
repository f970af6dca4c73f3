-- What the port's functions promise each other; no definition of the file goes by these.
use Rattle.std.specs.Prelude.{ℕ, ◌+◌, ◌≤◌, ◌≡◌, Bool, false, cond, ◌||◌, List, ◌++◌, eqb, length, take, drop}
use Rattle.arms.specs.Arm.{Arm, holds}
use Rattle.arms.specs.File.{blocks, flat, number, front}

-- a block's number bytes have this number. In a valid buffer 0 is that of the empty blocks, and another that of the block that holds it.
abbrev pub named : ℕ → List ℕ → Bool
named n b = eqb (number b) n

-- what an arm of a number is refused for, by whether it is finite: `arm-fault` of specs/Arm.antt, where the numbers themselves are not at hand
unfoldable pub fault_by : List Arm → ℕ → Bool → ℕ
fault_by held n finite = cond finite (cond (eqb n 0 || holds n held) 13 0) 8

-- a number that is not marked is not held
pub record Told (marked : Bool) (n : ℕ) (held : List Arm) : Type 0 where
  pub new : marked ≡ false → holds n held ≡ false

-- the 512 bytes from a place on are copied to a place that is not behind it
pub record Moved (from to : ℕ) (b b' : List ℕ) : Type 0 where
  pub long : length b' ≡ length b
  pub there : take (to + 512) b' ≡ take to b ++ take 512 (drop from b)
  pub behind : drop (from + 512) b' ≡ drop (from + 512) b

-- the first w bytes are the blocks that are not empty
pub record Fronted (w : ℕ) (b b' : List ℕ) : Type 0 where
  pub within : w ≤ length b
  pub long : length b' ≡ length b
  pub fronts : take w b' ≡ flat (front (blocks b))
