-- The sine and the cosine come from one call.
use mathlib.Core.Path.{◌≡◌}
use lib.Ieee.{Float}
use Rattle.float.specs.Num.{◌⊗◌}
use Rattle.float.specs.Sine.{sin_cos}
use Rattle.float.specs.declared.sine.SinCos.{SinCos}
use Rattle.complex.specs.Complex.{polar}
use Rattle.complex.specs.declared.Complex.{Complex}
use Rattle.complex.proofs.polar.Goals as goal

met : (r θ : Float) {t : SinCos}
    → t ≡ sin_cos θ
    → ◌≡◌ {A = Complex} (record { re = r ⊗ t.cos; im = r ⊗ t.sin }) (polar r θ)
unfolding polar sin_cos
met r θ e = rw e

pub returns : goal.returns
returns c = search met
