-- The code's samples, runs and enum of a scan as the machine's.
use Rattle.std.specs.Prelude.{List, map, ℕ, suc, ◌-◌, get_or, Float}
use Rattle.std.specs.Float.{nan}
use Rattle.search_definition.specs.Found.{Place, Origin}
use Rattle.search_definition.specs.Dip.{Point}
use Rattle.search_definition.specs.Scan.{crosses}
use Rattle.search_steps.specs.Way.{Way}
use Rattle.search_steps.specs.ScanSteps as Steps
use Rattle.search_steps.specs.ScanSteps.{last_pair}
use Rattle.search_steps.specs.Steps.{Samples}
use Rattle.search_pairs.specs.declared.row.Sample as DeclaredSample
use Rattle.step_refine.specs.State.{refining_of}
use Rattle.step_dip.specs.State.{dip_of}
use Rattle.step_scan.specs.declared.run.Run as DeclaredRun
use Rattle.step_scan.specs.declared.scan.Scan as DeclaredScan
use Rattle.step_scan.specs.declared.scan.Scan.TheVariants.{Crossing, Inner, Last, First}

-- component i of a sample
abbrev pub value : ℕ → DeclaredSample.Sample → Float
value i s = get_or s.y i nan

abbrev pub samples_of : List DeclaredSample.Sample → Samples
samples_of l =
    record { xs = map (λ s. s.x) l; y0 = map (value 0) l; y1 = map (value 1) l; y2 = map (value 2) l; y3 = map (value 3) l }

abbrev pub last_of : DeclaredRun.Run → ℕ
last_of r = last_pair r.from r.count

-- in a row whose last sample but one is t: so many pairs of neighbours follow as there are up to it
abbrev pub scan_of : ℕ → DeclaredScan.Scan → Steps.Scan
scan_of t (Crossing l r) = Steps.at_crossing (t - l) l (refining_of r)
scan_of t (Inner l d) = Steps.at_inner (t - l) l (dip_of d)
scan_of t (Last d) = Steps.at_last (dip_of d)
scan_of t (First d) = Steps.at_first (dip_of d)

-- one item of a row, and w behind it
abbrev pub item_way : (Place → Origin) → (ℕ → Point) → ℕ → ℕ → ℕ → ℕ → Way Steps.Scan → Way Steps.Scan
item_way o P s t c l w = Steps.if_crosses_way o P s t (crosses (P l) (P (suc l))) c l w
