-- What holds of an accepted limits block: it is one, it is whole, and its twelve numbers can be lent to a call.
use Prim.Native.Nat.{ℕ, ◌≤◌}
use mathlib.Core.Path.{◌≡◌, refl, sym, ◌∙◌}
use mathlib.Core.Bool.{Bool, true, false, ◌&&◌, cond}
use mathlib.Core.List.{List}
use native.Mathlib.Omega.{arith}
use borrow.Author.Tests.{eqb-true}
use lib.ListN.{length, take, drop}
use Rattle.words.specs.Words.{zeros, numbers}
use Rattle.block.proofs.Judged.{undamaged, passed}
use Rattle.limits.specs.Limits.{refusal_10}
use Rattle.limits_block.specs.LimitsBlock.{is_limits, limits, limits_reserved, limits_refusal, accepted}

first : (a b c d : Bool) → a && b && c && d ≡ true → a ≡ true
first true b c d e = refl
first false b c d e = e

fits : (t : Bool) (x : ℕ) → cond t x 3 ≡ 0 → t ≡ true
fits true x e = refl
fits false x e = absurd (omega arith)

fine : (t : Bool) (x : ℕ) → cond t x 3 ≡ 0 → x ≡ 0
fine true x e = e
fine false x e = absurd (omega arith)

pub twelve : (bytes : List ℕ) → length (limits bytes) ≡ 12
unfolding numbers
twelve bytes = refl

module _ (bytes : List ℕ) (h : accepted bytes ≡ true) where
  none : limits_refusal bytes ≡ 0
  none = eqb-true (limits_refusal bytes) 0 h

  rest : cond (limits_reserved bytes) (refusal_10 (limits bytes)) 3 ≡ 0
  unfolding limits_refusal
  rest = passed bytes _ none

  pub accepted_whole : 512 ≤ length bytes
  unfolding limits_refusal
  accepted_whole = undamaged bytes _ none

  pub accepted_is_limits : is_limits bytes ≡ true
  unfolding limits_reserved
  accepted_is_limits =
      first (is_limits bytes) (zeros (take 3 bytes)) (zeros (take 4 (drop 4 bytes))) (zeros (take 400 (drop 104 bytes))) (fits (limits_reserved bytes) (refusal_10 (limits bytes)) rest)

  pub accepted_limits : refusal_10 (limits bytes) ≡ 0
  accepted_limits = fine (limits_reserved bytes) (refusal_10 (limits bytes)) rest

-- so a pose block is not one
not_both : (t : Bool) {l : Bool} → (t ≡ true → l ≡ true) → l ≡ false → t ≡ false
not_both true f e = sym (f refl) ∙ e
not_both false f e = refl

pub another_block : (bytes : List ℕ) → is_limits bytes ≡ false → accepted bytes ≡ false
another_block bytes e = not_both (accepted bytes) (accepted_is_limits bytes) e
