-- The axes, then the offsets.
use mathlib.Core.Path.{◌≡◌, refl}
use mathlib.Core.List.{[], ◌∷◌}
use Rattle.kinematics.specs.declared.Kinematics.{Kinematics}
use Rattle.track.specs.Reduced.{to_numbers}
use Rattle.track.proofs.reduced.to_numbers.Goals as goal

met : (kin : Kinematics) → kin.h1.x ∷ kin.h1.y ∷ kin.h1.z ∷ kin.h2.x ∷ kin.h2.y ∷ kin.h2.z ∷ kin.h3.x ∷ kin.h3.y ∷ kin.h3.z ∷ kin.h4.x ∷ kin.h4.y ∷ kin.h4.z ∷ kin.h5.x ∷ kin.h5.y ∷ kin.h5.z ∷ kin.h6.x ∷ kin.h6.y ∷ kin.h6.z ∷ kin.p0.x ∷ kin.p0.y ∷ kin.p0.z ∷ kin.p1.x ∷ kin.p1.y ∷ kin.p1.z ∷ kin.p2.x ∷ kin.p2.y ∷ kin.p2.z ∷ kin.p3.x ∷ kin.p3.y ∷ kin.p3.z ∷ kin.p4.x ∷ kin.p4.y ∷ kin.p4.z ∷ kin.p5.x ∷ kin.p5.y ∷ kin.p5.z ∷ kin.p6.x ∷ kin.p6.y ∷ kin.p6.z ∷ [] ≡ to_numbers kin
unfolding to_numbers
met kin = refl

pub returns : goal.returns
returns c = search met
