-- The two parts of one call.
use mathlib.Core.Path.{◌≡◌}
use lib.Ieee.{Float}
use Rattle.float.specs.Num.{◌⊕◌}
use Rattle.float.specs.Sine.{sin, cos, sin_cos}
use Rattle.float.specs.declared.sine.SinCos.{SinCos}
use Rattle.float_c.proofs.bench_sin_plus_cos.Goals as goal

met : (x : Float) {both : SinCos} → both ≡ sin_cos x → both.sin ⊕ both.cos ≡ sin x ⊕ cos x
unfolding sin_cos
met x e = cc

pub returns : goal.returns
returns c = search met
