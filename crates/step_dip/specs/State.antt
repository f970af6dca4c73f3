-- The code's enum of a dip as the machine's.
use Rattle.search_dip.specs.Valley.{valley}
use Rattle.search_steps.specs.DipSteps as Steps
use Rattle.step_refine.specs.State.{point_of, refining_of}
use Rattle.step_dip.specs.declared.dip.Dip as DeclaredDip
use Rattle.step_dip.specs.declared.dip.Dip.TheVariants.{Opening, OpenedLeft, Sinking, Before, After}

abbrev pub dip_of : DeclaredDip.Dip → Steps.Dip
dip_of Opening = Steps.opening
dip_of (OpenedLeft g) = Steps.opened_left g
dip_of (Sinking k v) = Steps.sinking k (valley v)
dip_of (Before m r) = Steps.refining_before (point_of m) (refining_of r)
dip_of (After r) = Steps.refining_after (refining_of r)
