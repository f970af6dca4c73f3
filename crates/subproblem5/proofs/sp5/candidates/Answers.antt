-- The invariant: those of the heights passed, at most four of each.
use Prim.Native.Nat.{ℕ, ◌+◌, ◌<◌, ◌≤◌}
use native.Mathlib.Omega.{arith}
use native.Mathlib.Numerals.{add-one}
use mathlib.Core.Path.{◌≡◌, refl, sym, ap, ◌∙◌}
use mathlib.Core.List.{List, [], ◌∷◌, ◌++◌, append-nil, append_assoc, flat_map}
use lib.ListN.{length, get_or, take}
use lib.Seq.{take-suc, take_all}
use Rattle.subproblem5.proofs.sp5.candidates.Goals as goal

module _ {A B : Type 0} (f : A → List B) where
  begin : [] ≡ flat_map f []
  unfolding flat_map
  begin = refl

  flat_map_end : (l : List A) (a : A) → flat_map f (l ++ (a ∷ [])) ≡ flat_map f l ++ f a
  unfolding flat_map
  flat_map_end [] a = append-nil (f a)
  flat_map_end (b ∷ l) a = rw (flat_map_end l a) (sym (append_assoc (f b) (flat_map f l) (f a)))

  again : (l : List A) (i : ℕ) (d : A) {s s' : List B}
      → i < length l
      → s ≡ flat_map f (take i l)
      → s' ≡ s ++ f (get_or l i d)
      → s' ≡ flat_map f (take (i + 1) l)
  again l i d h e e' =
      rw (add-one, take-suc l i d h) (e' ∙ ap (λ (s : List B). s ++ f (get_or l i d)) e ∙ sym (flat_map_end (take i l) (get_or l i d)))

  end : (l : List A) (i : ℕ) {s : List B} → length l ≤ i → s ≡ flat_map f (take i l) → s ≡ flat_map f l
  end l i h e = let a = take_all i l h in rw a at e

pub loop-h-init : goal.loop-h-init
loop-h-init c = rw c.new-found.ensures (omega arith, begin _)

pub at_root-requires : goal.at_root-requires
at_root-requires c = omega (arith, c.loop-h.invariant.0, c.deref-h-items.ensures)

pub loop-h-preserved : goal.loop-h-preserved
loop-h-preserved c = (
  omega (arith, c.loop-h.invariant.0, c.at_root.ensures.four),
  again _ _ _ _ c.loop-h-test.true c.loop-h.invariant.1 c.at_root.ensures.items,
)

pub returns : goal.returns
returns c = rw (sym c.deref-h-items.ensures.0) (end _ _ _ c.loop-h-test.false c.loop-h.invariant.1)
