-- What the program prints of its whole input. Document 01: "The program reads blocks from standard input [..]. It prints, for each block, its place from 0 [..]. Empty input
-- prints nothing." "1. The last block of the program's input has fewer than 512 bytes." Document 02, request 1, of a limits block: "it prints no line and isn't counted as a
-- place unless refused. It holds for the pose blocks after it until the next one; a refused one changes nothing."
use Rattle.std.specs.Prelude.{ℕ, zero, suc, ◌+◌, ◌/◌, cond, List, [], ◌∷◌, ◌++◌, Float, length, take, drop}
use Rattle.limits_block.specs.LimitsBlock.{accepted, in_force}
use Rattle.lines.specs.Lines.{lines}

-- the first n blocks of an input
unfoldable pub cut : ℕ → List ℕ → List (List ℕ)
cut zero input = []
cut (suc n) input = take 512 input ∷ cut n (drop 512 input)

-- all its blocks, of 512 bytes each; the last one may have fewer
unfoldable pub blocks : List ℕ → List (List ℕ)
blocks input = cut ((length input + 511) / 512) input

-- the place of the block after one: every block is counted but limits blocks that are accepted
unfoldable pub place_after : List ℕ → ℕ → ℕ
place_after block place = cond (accepted block) place (place + 1)

-- the lines of blocks, the first of which stands at a place, with the limits in force before it
unfoldable pub printed : ℕ → List Float → List (List ℕ) → List ℕ
printed place limits [] = []
printed place limits (block ∷ rest) = lines block place limits ++ printed (place_after block place) (in_force block limits) rest

-- before the first limits block there are no limits
unfoldable pub output : List ℕ → List ℕ
output input = printed 0 [] (blocks input)
