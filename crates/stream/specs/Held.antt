-- What document 02 says of limits blocks, as statements about the definition of the output; proofs/Held.antt proves them. "[A limits block] prints no line and isn't counted as
-- a place unless refused. It holds for the pose blocks after it until the next one; a refused one changes nothing."
use Rattle.std.specs.Prelude.{ℕ, ◌+◌, ◌≡◌, true, false, List, [], ◌∷◌, ◌++◌, Float}
use Rattle.limits.specs.Limits.{refusal_10}
use Rattle.limits_block.specs.LimitsBlock.{is_limits, limits as brought, limits_refusal, accepted, in_force}
use Rattle.text.specs.Lists.{head}
use Rattle.lines.specs.Lines.{pose_lines, lines}
use Rattle.stream.specs.Output.{place_after, printed}

-- one block, by its kind
pub record One (block : List ℕ) (place : ℕ) (limits : List Float) : Type 0 where
  -- a limits block that is accepted "prints no line and isn't counted as a place", and it holds
  pub no_line : accepted block ≡ true → lines block place limits ≡ []
  pub no_place : accepted block ≡ true → place_after block place ≡ place
  pub new_limits : accepted block ≡ true → in_force block limits ≡ brought block
  -- "unless refused": then it prints its line
  pub its_line : is_limits block ≡ true → accepted block ≡ false → lines block place limits ≡ head place (limits_refusal block) 0 0
  -- any other block is solved with the limits in force
  pub solved : is_limits block ≡ false → lines block place limits ≡ pose_lines block place limits
  -- all blocks but accepted limits blocks are counted, and change nothing
  pub others : is_limits block ≡ false → accepted block ≡ false
  pub counted : accepted block ≡ false → place_after block place ≡ place + 1
  pub no_change : accepted block ≡ false → in_force block limits ≡ limits

-- the place and the limits in force after blocks
unfoldable pub place_behind : List (List ℕ) → ℕ → ℕ
place_behind [] place = place
place_behind (block ∷ rest) place = place_behind rest (place_after block place)

unfoldable pub holding : List (List ℕ) → List Float → List Float
holding [] limits = limits
holding (block ∷ rest) limits = holding rest (in_force block limits)

-- no block of these is an accepted limits block
unfoldable pub NoneAccepted : List (List ℕ) → Type 0
NoneAccepted [] = Unit {0}
NoneAccepted (block ∷ rest) = (accepted block ≡ false) × NoneAccepted rest

-- blocks in a row
pub record Held (before : List (List ℕ)) (place : ℕ) (limits : List Float) : Type 0 where
  -- what is printed of the blocks behind goes by the place and the limits that those before leave
  pub behind : (rest : List (List ℕ)) → printed place limits (before ++ rest) ≡ printed place limits before ++ printed (place_behind before place) (holding before limits) rest
  -- "It holds for the pose blocks after it until the next one"
  pub last : (block : List ℕ) (between : List (List ℕ)) → accepted block ≡ true → NoneAccepted between → holding (before ++ (block ∷ between)) limits ≡ brought block
  -- where there was none, nothing has changed
  pub none : NoneAccepted before → holding before limits ≡ limits
  -- so 10 is given of no pose block of an input
  pub never_10 : refusal_10 limits ≡ 0 → refusal_10 (holding before limits) ≡ 0
