-- The walk over the components, by where the code is. Assumes nothing.
use Rattle.std.proofs.Common.{◌≡◌, sym, ◌∙◌, ap, ap₂, List, ℕ, suc, ◌+◌, ◌-◌, ◌<◌, ◌≤◌, add-one, arith, ◌⊎◌}
use Rattle.std.specs.Prelude.{None}
use Rattle.std.proofs.Common.{inl, inr}
use Rattle.search_steps.specs.Way.{chain}
use Rattle.search_steps.specs.ComponentSteps.{component_way}
use Rattle.search_steps.specs.Steps.{Samples, taken_at, searching, components_way}
use Rattle.step_pairs.specs.declared.Found.{Found}
use Rattle.step_pairs.specs.Landed.{putting, landing, landed}

module _ (n room : ℕ) (h : List Found) (S : Samples) where
  pub next_component : (k : ℕ) → k < 4 → landed room h (chain (searching (3 - k) k) (component_way k (taken_at S k) n) (components_way n S (4 - (k + 1)) (k + 1))) ≡ landed room h (components_way n S (4 - k) k)
  unfolding components_way
  next_component k l =
      let a : 4 - k ≡ suc (3 - k) = omega arith in
      let b : 4 - (k + 1) ≡ 3 - k = omega arith in
      ap₂ (λ (c j : ℕ). landed room h (chain (searching (3 - k) k) (component_way k (taken_at S k) n) (components_way n S c j))) b (add-one k)
      ∙ sym (ap (λ (c : ℕ). landed room h (components_way n S c k)) a)

  pub no_component : (k : ℕ) → 4 ≤ k → landing h None ≡ landed room h (components_way n S (4 - k) k)
  unfolding components_way landed putting
  no_component k l =
      let a : 4 - k ≡ 0 = omega arith in
      sym (ap (λ (c : ℕ). landed room h (components_way n S c k)) a)

  -- from the component that follows i: j is its number, or one past the last
  pub others : (i j : ℕ) → (j ≡ i + 1) ⊎ (4 ≤ j) × (4 ≤ i) → landed room h (components_way n S (4 - j) j) ≡ landed room h (components_way n S (3 - i) (suc i))
  unfolding components_way
  others i j (inl e) =
      let b : 4 - (i + 1) ≡ 3 - i = omega arith in
      ap (λ (k : ℕ). landed room h (components_way n S (4 - k) k)) e ∙ ap₂ (λ (c k : ℕ). landed room h (components_way n S c k)) b (add-one i)
  others i j (inr (a, b)) =
      let z : 4 - j ≡ 0 = omega arith in
      let w : 0 ≡ 3 - i = omega arith in
      ap (λ (c : ℕ). landed room h (components_way n S c j)) z ∙ ap (λ (c : ℕ). landed room h (components_way n S c (suc i))) w
