-- Laws of the cut into blocks.
use Prim.Native.Nat.{ℕ, suc, ◌+◌, ◌/◌, ◌<◌}
use mathlib.Core.Path.{◌≡◌, refl}
use mathlib.Core.List.{List, [], ◌∷◌, ◌++◌}
use native.Mathlib.Omega.{arith}
use lib.ListN.{length, length-append}
use lib.Seq.{take_at, drop_at, take_all}
use Rattle.stream.specs.Output.{cut, blocks}

pub no_blocks : blocks [] ≡ []
unfolding blocks cut
no_blocks = refl

-- a whole block in front
pub whole_first : (b rest : List ℕ) → length b ≡ 512 → blocks (b ++ rest) ≡ b ∷ blocks rest
unfolding blocks cut
whole_first b rest h =
    let n : (length (b ++ rest) + 511) / 512 ≡ suc ((length rest + 511) / 512) = rw (length-append b rest, h) (omega arith) in
    rw (n, take_at b rest 512 h, drop_at b rest 512 h)

-- a short block alone
pub short_last : (b : List ℕ) → 0 < length b → length b < 512 → blocks b ≡ b ∷ []
unfolding blocks cut
short_last b some few =
    let n : (length b + 511) / 512 ≡ 1 = omega arith in
    rw (n, take_all 512 b (omega arith))
