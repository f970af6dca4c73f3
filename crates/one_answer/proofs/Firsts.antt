-- The first answer inside.
use Prim.Native.Nat.{ℕ, suc, ◌+◌, ◌≤◌, ◌<◌}
use mathlib.Core.Path.{◌≡◌, refl, sym, ◌∙◌}
use mathlib.Core.Bool.{Bool, true, false, cond}
use mathlib.Core.List.{List, ◌∷◌}
use native.Mathlib.Numerals.{add-one}
use lib.Ieee.{Float}
use lib.ListN.{length, get_or, drop, drop_of_length-le}
use lib.Seq.{drop-cons}
use Rattle.answers.specs.declared.Answer.{Answer}
use Rattle.limits.specs.Limits.{inside, allowed}
use Rattle.std.proofs.Common.{Some, None}
use Rattle.one_answer.specs.First.{head, first_allowed}

by_inside : (b : Bool) (q : Answer) (rest : List Answer) → head (cond b (q ∷ rest) rest) ≡ cond b (Some q) (head rest)
by_inside true q rest = refl
by_inside false q rest = refl

module _ (limits : List Float) (all : List Answer) where
  step : (k : ℕ) (d : Answer) → k < length all → first_allowed limits (drop k all) ≡ cond (inside limits (get_or all k d)) (Some (get_or all k d)) (first_allowed limits (drop (suc k) all))
  unfolding first_allowed allowed
  step k d h = rw (drop-cons all k d h) (by_inside (inside limits (get_or all k d)) (get_or all k d) (allowed limits (drop (suc k) all)))

  -- none of the first k is inside
  module _ (k : ℕ) (e : first_allowed limits (drop k all) ≡ first_allowed limits all) where
    module _ {q : Answer} {t : Bool} (d : Answer) (h : k < length all) (e-q : q ≡ get_or all k d) (e-t : t ≡ inside limits q) where
      same : t ≡ inside limits (get_or all k d)
      same = rw e-q at e-t

      pub here : t ≡ true → Some q ≡ first_allowed limits all
      here i = rw e-q (sym (rw (← same, i) at (step k d h)) ∙ e)

      pub on : t ≡ false → first_allowed limits (drop (k + 1) all) ≡ first_allowed limits all
      on i = rw (add-one k) (sym (rw (← same, i) at (step k d h)) ∙ e)

    ended : length all ≤ k → first_allowed limits (drop k all) ≡ None
    unfolding first_allowed allowed
    ended h = rw (drop_of_length-le all h)

    pub none : length all ≤ k → None ≡ first_allowed limits all
    none h = sym (ended h) ∙ e
