-- The invariant: the passes that are left, counted on from those made, give what all give.
use Prim.Native.Nat.{ℕ, suc, ◌+◌, ◌-◌, ◌≤◌, ◌<◌}
use native.Mathlib.Omega.{arith}
use mathlib.Core.Path.{◌≡◌, refl, sym, ap, ◌∙◌}
use mathlib.Core.Bool.{Bool, true, false}
use mathlib.Core.List.{List}
use lib.Dec.{leb}
use borrow.Author.Tests.{leb-true, leb-false}
use Rattle.scalar.proofs.Order.{by_test}
use Rattle.triple_sort.specs.Port.{sorted}
use Rattle.triple_sort.specs.Sort.{SortOf, ordered_above, exchanges, pass, by_passes, sort}
use Rattle.triple_sort.specs.declared.Ordered.{Ordered}
use Rattle.triple_sort.proofs.sort.Goals as goal
use Rattle.triple_sort.proofs.sort.Invariants.{counted}

abbrev left : ℕ → List Ordered → SortOf Ordered
left k t = by_passes ordered_above k t

uncounted : (s : SortOf Ordered) → counted 0 s ≡ s
uncounted s = let e : 0 + s.passes ≡ s.passes = omega arith in rw e refl

module _ (n k : ℕ) (t t₀ : List Ordered) (s : 1 ≤ k) where
  module _ {u : List Ordered} {any : Bool} (h : k < n) (e : u ≡ pass ordered_above t) (d : any ≡ exchanges ordered_above t)
      (inv : counted (k - 1) (left (n - k) t) ≡ left (n - 1) t₀) where
    again : any ≡ true → counted (k + 1 - 1) (left (n - (k + 1)) u) ≡ left (n - 1) t₀
    unfolding by_passes
    again a =
        let more : n - k ≡ suc (n - (k + 1)) = omega arith in
        let x : exchanges ordered_above t ≡ true = sym d ∙ a in
        let i = rw (more, x) at inv in
        let p : k - 1 + suc (left (n - (k + 1)) (pass ordered_above t)).passes ≡ k + 1 - 1 + (left (n - (k + 1)) (pass ordered_above t)).passes = omega arith in
        let q = rw p at i in
        rw e q

    quiet : any ≡ false → sorted u k ≡ left (n - 1) t₀
    unfolding by_passes
    quiet a =
        let more : n - k ≡ suc (n - (k + 1)) = omega arith in
        let x : exchanges ordered_above t ≡ false = sym d ∙ a in
        let i = rw (more, x) at inv in
        let p : k - 1 + 1 ≡ k = omega arith in
        let q = rw p at i in
        rw e q

  -- where no pass is left, all that there may be were made
  end : {r : ℕ} → n ≤ k → (1 ≤ n → k ≤ n) → r ≡ n - 1 → counted (k - 1) (left (n - k) t) ≡ left (n - 1) t₀ → sorted t r ≡ left (n - 1) t₀
  unfolding by_passes
  end h f e inv =
      let over : n - k ≡ 0 = omega arith in
      let z : k - 1 + 0 ≡ k - 1 = omega arith in
      let i = rw (over, z) at inv in
      by_test (leb 1 n)
      (λ x. let g = f (leb-true 1 n x) in let d : k - 1 ≡ n - 1 = omega arith in rw e (rw d at i))
      (λ x.
      let g = leb-false 1 n x in
      let none : n - 1 ≡ 0 = omega arith in
      let d : k - 1 ≡ 0 = ap (λ (s : SortOf Ordered). s.passes) (rw none at i) in
      rw (e, none) (rw (d, none) at i))

pub loop-made-init : goal.loop-made-init
loop-made-init c = uncounted _

pub loop-made-preserved : goal.loop-made-preserved
loop-made-preserved c =
    again _ _ _ _ c.loop-made.auto.made c.loop-made-test.true c.pass.ensures.list c.pass.ensures.any c.loop-made.invariant c.if-not-pass.false

pub returns-then-not-pass : goal.returns-then-not-pass
unfolding sort
returns-then-not-pass c =
    quiet _ _ _ _ c.loop-made.auto.made c.loop-made-test.true c.pass.ensures.list c.pass.ensures.any c.loop-made.invariant c.if-not-pass.true

pub returns : goal.returns
unfolding sort
returns c =
    let long = c.loop-made.auto.t in
    let e = c.saturating_sub.ensures in
    end _ _ _ _ c.loop-made.auto.made c.loop-made-test.false c.loop-made.auto.made-end (rw long at e) c.loop-made.invariant
