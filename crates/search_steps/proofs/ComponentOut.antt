-- One component in steps is the definition's. Assumes nothing.
use mathlib.Core.Path.{◌≡◌, refl, ◌∙◌, ap}
use mathlib.Core.Bool.{Bool, true, false, beq}
use Prim.Native.Nat.{ℕ, zero, suc, ◌+◌}
use lib.Ieee.{Float}
use Rattle.float.specs.Number.{is_finite}
use Rattle.search_definition.specs.Found.{grid, edge, Out, ◌then◌}
use Rattle.search_definition.specs.Dip.{Point}
use Rattle.search_definition.specs.Scan.{scan_samples}
use Rattle.search_definition.specs.Search.{if_alike, edge_at, edges, runs, of_component}
use Rattle.search_definition.proofs.Bounds.{then_assoc}
use Rattle.search_steps.specs.Way.{Way, chain}
use Rattle.search_steps.specs.ScanSteps.{last_pair, scan_way}
use Rattle.search_steps.specs.EdgeSteps.{edge_way}
use Rattle.search_steps.specs.ComponentSteps.{Component, in_run, in_edge, gap_at, if_alike_way, edges_way, runs_way, component_way, component_angle, component_next}
use Rattle.search_steps.proofs.Ways.{ask, way_out, chain_out, chain_once}
use Rattle.search_steps.proofs.ScanOut.{scan_out, scan_once, scan_way_out}
use Rattle.search_steps.proofs.EdgeOut.{edge_out, edge_once, edge_way_out}

module _ (f : Float → Float) (i : ℕ) (P : ℕ → Point) (n : ℕ) where
  abbrev behind : ℕ → ℕ → Out
  behind r k = runs f i P r (suc k) 0 then edges f i P n 0

  -- what is left of a component that asks
  pub component_out : Component → Out
  component_out (in_run r s m z) = scan_out f (grid i) P s (last_pair s m) z then behind r (s + m)
  component_out (in_edge r k z) = edge_out f (edge i k) (gap_at i P n k).inside z then edges f i P r (suc k)

  edges_out : (r k : ℕ) → way_out component_out (edges_way i P n r k) ≡ edges f i P r k
  unfolding edges_way edges way_out edge_at if_alike if_alike_way component_out gap_at
  edges_out zero k = refl
  edges_out (suc r) k = go (beq (is_finite (P k).y) (is_finite (P (suc k)).y)) (edges_out r (suc k))
    where
      go : (b : Bool) → way_out component_out (edges_way i P n r (suc k)) ≡ edges f i P r (suc k) → way_out component_out (if_alike_way i P n b r k (edges_way i P n r (suc k))) ≡ if_alike f i P b k then edges f i P r (suc k)
      go true e = e
      go false e =
          chain_out (edge_out f (edge i k) (gap_at i P n k).inside) component_out (in_edge r k) (edges f i P r (suc k)) (λ z. refl) (edges_way i P n r (suc k)) e (edge_way (edge i k) (gap_at i P n k))
          ∙ ap (λ (z : Out). z then edges f i P r (suc k)) (edge_way_out f (edge i k) (gap_at i P n k))

  -- a run, and what is behind it
  run_out : (r s m : ℕ) (w : Way Component) → way_out component_out w ≡ behind r (s + m) → way_out component_out (chain (in_run r s m) (scan_way (grid i) P s m) w) ≡ scan_samples f (grid i) P s m then behind r (s + m)
  unfolding component_out
  run_out r s m w e =
      chain_out (scan_out f (grid i) P s (last_pair s m)) component_out (in_run r s m) (behind r (s + m)) (λ z. refl) w e (scan_way (grid i) P s m)
      ∙ ap (λ (z : Out). z then behind r (s + m)) (scan_way_out f (grid i) P s m)

  runs_out : (r s m : ℕ) → way_out component_out (runs_way i P n r s m) ≡ runs f i P r s m then edges f i P n 0
  unfolding runs_way runs scan_samples
  runs_out zero s m = run_out zero s m (edges_way i P n n 0) (edges_out n 0)
  runs_out (suc r) s m = go (is_finite (P (s + m)).y) (runs_out r s (suc m)) (runs_out r (suc (s + m)) 0)
    where
      go : (b : Bool)
          → way_out component_out (runs_way i P n r s (suc m)) ≡ runs f i P r s (suc m) then edges f i P n 0
          → way_out component_out (runs_way i P n r (suc (s + m)) 0) ≡ runs f i P r (suc (s + m)) 0 then edges f i P n 0
          → way_out component_out (elim b as (λ (z : Bool). Way Component) [ true ↦ runs_way i P n r s (suc m) | false ↦ chain (in_run r s m) (scan_way (grid i) P s m) (runs_way i P n r (suc (s + m)) 0) ]) ≡ (elim b as (λ (z : Bool). Out) [ true ↦ runs f i P r s (suc m) | false ↦ scan_samples f (grid i) P s m then runs f i P r (suc (s + m)) 0 ]) then edges f i P n 0
      go true e h = e
      go false e h = run_out r s m (runs_way i P n r (suc (s + m)) 0) h ∙ then_assoc (scan_samples f (grid i) P s m) (runs f i P r (suc (s + m)) 0) (edges f i P n 0)

  -- a whole component
  pub component_way_out : way_out component_out (component_way i P n) ≡ of_component f i P n
  unfolding component_way of_component
  component_way_out = runs_out (suc n) 0 0

  -- one evaluation
  pub component_once : (z : Component) → component_out z ≡ ask (component_angle i P n z) (way_out component_out (component_next i P n z (f (component_angle i P n z))))
  unfolding component_out component_angle component_next
  component_once (in_run r s m z) =
      chain_once (scan_out f (grid i) P s (last_pair s m)) component_out (in_run r s m) (behind r (s + m)) (λ x. refl) (runs_way i P n r (suc (s + m)) 0) (runs_out r (suc (s + m)) 0) z _ _ (scan_once f (grid i) P s (last_pair s m) z)
  component_once (in_edge r k z) =
      chain_once (edge_out f (edge i k) (gap_at i P n k).inside) component_out (in_edge r k) (edges f i P r (suc k)) (λ x. refl) (edges_way i P n r (suc k)) (edges_out r (suc k)) z _ _ (edge_once f (edge i k) (gap_at i P n k).inside z)
