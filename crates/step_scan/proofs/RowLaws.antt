-- The last pair of a run, and the components of the grid's samples. Assumes nothing.
use Rattle.std.proofs.Common.{◌≡◌, sym, refl, ◌∙◌, ap, List, [], map, ℕ, zero, suc, ◌+◌, ◌-◌, ◌<◌, ◌≤◌, arith, min, get_or}
use Rattle.std.proofs.Math.ListN.{get_or-map}
use Rattle.std.specs.Float.{nan}
use Rattle.search_definition.specs.Dip.{Point}
use Rattle.search_steps.specs.ScanSteps.{last_pair}
use Rattle.search_steps.specs.Steps.{row_of, taken_at}
use Rattle.search_pairs.specs.Row.{column}
use Rattle.search_pairs.specs.declared.row.Sample.{Sample}
use Rattle.step_scan.specs.State.{value, samples_of}

pub last_short : (s m : ℕ) → m < 2 → s ≡ last_pair s m
unfolding last_pair
last_short s zero h = refl
last_short s (suc zero) h = refl
last_short s (suc (suc m)) h = absurd (omega arith)

pub last_long : (s m : ℕ) → 2 ≤ m → s + (m - 2) ≡ last_pair s m
unfolding last_pair
last_long s zero h = absurd (omega arith)
last_long s (suc zero) h = absurd (omega arith)
last_long s (suc (suc m)) h = let e : suc (suc m) - 2 ≡ m = omega arith in ap (λ (z : ℕ). s + z) e

-- a component of the grid's samples as the machine's: a number beyond the fourth's is read as the fourth's
module _ (l : List Sample) where
  -- what a reading past the end gives
  abbrev empty : Sample
  empty = record { x = nan; y = [] }

  abbrev read : ℕ → ℕ → Point
  read j k = record { x = get_or (map (λ (s : Sample). s.x) l) k nan; y = get_or (map (value j) l) k nan }

  column_reads : (j : ℕ) → column l j ≡ read j
  column_reads j =
      λ i k. record {
        x = sym (get_or-map (λ (s : Sample). s.x) l k empty) i;
        y = sym (get_or-map (value j) l k empty) i;
      }

  pub column_taken : (i : ℕ) → column l (min i 3) ≡ taken_at (samples_of l) i
  unfolding taken_at row_of
  column_taken zero = column_reads 0
  column_taken (suc zero) = column_reads 1
  column_taken (suc (suc zero)) = column_reads 2
  column_taken (suc (suc (suc i))) =
      let t : min (suc (suc (suc i))) 3 ≡ 3 = omega arith in
      ap (column l) t ∙ column_reads 3
