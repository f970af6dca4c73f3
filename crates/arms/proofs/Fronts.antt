-- The blocks that are not empty, in bytes.
use Prim.Native.Nat.{ℕ, ◌+◌, ◌%◌, ◌≤◌}
use mathlib.Core.Path.{◌≡◌, refl, ap, sym, ◌∙◌}
use mathlib.Core.Bool.{Bool, true, false, cond}
use mathlib.Core.List.{List, [], ◌∷◌, ◌++◌, append_assoc, append-nil}
use native.Mathlib.Omega.{arith}
use lib.ListN.{length, take, drop}
use Rattle.words.specs.Words.{zeros}
use Rattle.arms.specs.File.{blocks, flat, front}
use Rattle.arms.proofs.Parts.{blocks_up}

front_append : (xs ys : List (List ℕ)) → front (xs ++ ys) ≡ front xs ++ front ys
unfolding front
front_append [] ys = refl
front_append (b ∷ bs) ys = go (zeros b) (front_append bs ys)
  where
    go : (t : Bool) → front (bs ++ ys) ≡ front bs ++ front ys → cond t (front (bs ++ ys)) (b ∷ front (bs ++ ys)) ≡ cond t (front bs) (b ∷ front bs) ++ front ys
    go true ih = ih
    go false ih = ap (λ (l : List (List ℕ)). b ∷ l) ih

pub flat_append : (xs ys : List (List ℕ)) → flat (xs ++ ys) ≡ flat xs ++ flat ys
unfolding flat
flat_append [] ys = refl
flat_append (b ∷ bs) ys = ap (λ (l : List ℕ). b ++ l) (flat_append bs ys) ∙ sym (append_assoc b (flat bs) (flat ys))

pub front_next : (l : List ℕ) (at : ℕ) → at % 512 ≡ 0 → at + 512 ≤ length l
    → flat (front (blocks (take (at + 512) l))) ≡ flat (front (blocks (take at l))) ++ cond (zeros (take 512 (drop at l))) [] (take 512 (drop at l))
unfolding front flat
front_next l at m h =
    rw (blocks_up l at m (omega arith) h, front_append (blocks (take at l)) (take 512 (drop at l) ∷ []), flat_append (front (blocks (take at l))) (front (take 512 (drop at l) ∷ [])))
    (ap (λ (x : List ℕ). flat (front (blocks (take at l))) ++ x) (go (zeros (take 512 (drop at l)))))
  where
    go : (t : Bool) → flat (cond t [] (take 512 (drop at l) ∷ [])) ≡ cond t [] (take 512 (drop at l))
    go true = refl
    go false = append-nil (take 512 (drop at l))
