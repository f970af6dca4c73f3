-- The numbers so far are finite, and the rest decides.
use borrow.Author.Tests.{not-true, not-false}
use Rattle.std.proofs.Common.{◌≡◌, ℕ, suc, ◌+◌, ◌<◌, ◌≤◌, Bool, true, false, cond, List, length, drop, get_or, drop-cons, drop_of_length-le, add-one, not, Float, arith}
use Rattle.std.specs.Float.{nan}
use Rattle.float.specs.Number.{is_finite}
use Rattle.refusals.specs.Judge.{first_not_finite}
use Rattle.refusals.proofs.first_not_finite.Goals as goal

module _ (l : List Float) (i : ℕ) (e : i + first_not_finite (drop i l) ≡ first_not_finite l) where
  module _ {t : Bool} (h : i < length l) (e-t : t ≡ is_finite (get_or l i nan)) where
    rest : first_not_finite (drop i l) ≡ cond t (suc (first_not_finite (drop (i + 1) l))) 0
    unfolding first_not_finite
    rest = rw (drop-cons l i nan h, e-t, add-one i)

    here : not t ≡ true → i ≡ first_not_finite l
    here f = let r = rw (not-true t f) at rest in omega arith

    on : not t ≡ false → i + 1 + first_not_finite (drop (i + 1) l) ≡ first_not_finite l
    on f = let r = rw (not-false t f) at rest in omega arith

  end : length l ≤ i → i ≤ length l → length l ≡ first_not_finite l
  unfolding first_not_finite
  end h h' = let none = rw (drop_of_length-le l h) at e in omega arith

pub returns-then-not-is_finite : goal.returns-then-not-is_finite
returns-then-not-is_finite c = search here

pub loop-i-preserved : goal.loop-i-preserved
loop-i-preserved c = search on

pub returns : goal.returns
returns c = end _ _ c.loop-i.invariant c.loop-i-test.false c.loop-i.auto.i-end
