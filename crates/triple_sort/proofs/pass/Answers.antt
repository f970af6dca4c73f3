-- The invariant: what is left of the pass gives what all of it gives, and with what was exchanged before tells whether all of it exchanges any.
use Prim.Native.Nat.{ℕ, suc, ◌+◌, ◌-◌, ◌≤◌, ◌<◌}
use native.Mathlib.Omega.{arith}
use mathlib.Core.Path.{◌≡◌, refl, sym, ap, ◌∙◌}
use mathlib.Core.Bool.{Bool, true, false, ◌||◌}
use mathlib.Core.List.{List}
use lib.ListN.{length, get_or}
use Rattle.std.specs.List.{swap}
use Rattle.std.proofs.lemmas.List.Edits.{swap_is}
use Rattle.triple_sort.specs.Sort.{ordered_above, exchanges, pass}
use Rattle.triple_sort.specs.declared.Ordered.{Ordered}
use Rattle.triple_sort.proofs.Passes.{exchange_at, pass_from, pass_is, any_from, any_is}
use Rattle.triple_sort.proofs.pass.Goals as goal
use Rattle.triple_sort.proofs.pass.Goals.{then-ordered_above, else-ordered_above}
use Rattle.triple_sort.proofs.pass.Invariants.{from, some, outside}

or_assoc : (a b c : Bool) → a || (b || c) ≡ (a || b) || c
or_assoc true b c = refl
or_assoc false b c = refl

or_true : (a : Bool) → a || true ≡ true
or_true true = refl
or_true false = refl

or_false : (a : Bool) → a || false ≡ a
or_false true = refl
or_false false = refl

abbrev Holds : ℕ → ℕ → List Ordered → Bool → List Ordered → Type 0
Holds n j t any t₀ =
    (from (n - j) (j - 1) t ≡ from (n - 1) 0 t₀) × (any || some (n - j) (j - 1) t ≡ some (n - 1) 0 t₀)

module _ (n j : ℕ) (t t₀ : List Ordered) (any : Bool) (s : 1 ≤ j) (h : j < n) (m : n ≡ length t) (inv : Holds n j t any t₀) where
  abbrev above-here : Bool
  above-here = ordered_above (get_or t (j - 1) outside) (get_or t j outside)

  next : {u : List Ordered} {more : Bool} → u ≡ exchange_at ordered_above outside (j - 1) t → more ≡ any || above-here → Holds n (j + 1) u more t₀
  unfolding pass_from any_from
  next {more = more} e d =
      let left : n - j ≡ suc (n - (j + 1)) = omega arith in
      let on : j + 1 - 1 ≡ suc (j - 1) = omega arith in
      let here : suc (j - 1) ≡ j = omega arith in
      let f = rw left at inv.0 in
      let g = rw (left, here) at inv.1 in
      let o = or_assoc any above-here (some (n - (j + 1)) j (exchange_at ordered_above outside (j - 1) t)) in
      (rw (on, e) f, rw (on, here, e, d) (sym o ∙ g))

  module _ {r : Bool} (e : r ≡ ordered_above (get_or t (j - 1) outside) (get_or t j outside)) where
    swapped : {u : List Ordered} {more : Bool} → r ≡ true → u ≡ swap t (j - 1) j → more ≡ true → Holds n (j + 1) u more t₀
    unfolding exchange_at
    swapped x d y =
        let here : suc (j - 1) ≡ j = omega arith in
        let w = swap_is t (j - 1) j outside (omega arith) (omega arith) in
        let o = or_true any in
        next (rw here cc) (y ∙ sym o ∙ ap (λ b. any || b) (sym x ∙ e))

    kept : {u : List Ordered} {more : Bool} → r ≡ false → u ≡ t → more ≡ any → Holds n (j + 1) u more t₀
    unfolding exchange_at
    kept x d y =
        let here : suc (j - 1) ≡ j = omega arith in
        let o = or_false any in
        next (rw here cc) (y ∙ sym o ∙ ap (λ b. any || b) (sym x ∙ e))

module _ (j : ℕ) (t t₀ : List Ordered) (any : Bool) (h : length t₀ ≤ j) (inv : Holds (length t₀) j t any t₀) where
  end : t ≡ pass ordered_above t₀
  unfolding pass_from
  end =
      let over : length t₀ - j ≡ 0 = omega arith in
      (rw over at inv.0) ∙ pass_is ordered_above outside t₀

  end_any : any ≡ exchanges ordered_above t₀
  unfolding any_from
  end_any =
      let over : length t₀ - j ≡ 0 = omega arith in
      let o = or_false any in
      sym o ∙ (rw over at inv.1) ∙ any_is ordered_above outside t₀

pub loop-j-preserved : goal.loop-j-preserved
loop-j-preserved c =
    let s = c.loop-j.auto.j in
    let h = c.loop-j-test.true in
    let m = sym c.loop-j.auto.t in
    let e = c.ordered_above.ensures in
    elim c.if-ordered_above.branch [
      | then-ordered_above w ↦ swapped _ _ _ _ _ s h m c.loop-j.invariant e w.if-ordered_above.true (w.t-is ∙ w.swap.ensures.after) w.any-is
      | else-ordered_above w ↦ kept _ _ _ _ _ s h m c.loop-j.invariant e w.if-ordered_above.false w.t-is w.any-is
    ]

pub returns-clause-list : goal.returns-clause-list
returns-clause-list c = end _ _ _ _ c.loop-j-test.false c.loop-j.invariant

pub returns-clause-any : goal.returns-clause-any
returns-clause-any c = end_any _ _ _ _ c.loop-j-test.false c.loop-j.invariant
