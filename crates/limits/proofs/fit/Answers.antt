-- The test of all six joints is the tests of each, joined.
use Rattle.std.proofs.Common.{◌≡◌, Bool, true, false, ◌&&◌, refl, ◌∙◌, rules, tests}
use Rattle.std.proofs.lemmas.Iterator.{YieldsList-from_range}
use Rattle.std.proofs.lemmas.Iterator.Search.{all_from_yields_List}
use Rattle.limits.specs.Limits.{all6, fit_joint, fit}
use Rattle.limits.proofs.fit.Goals as goal

joined : (a b c d e f : Bool) → (a && (b && (c && (d && (e && (f && true)))))) ≡ all6 a b c d e f
joined false b c d e f = refl
joined true false c d e f = refl
joined true true false d e f = refl
joined true true true false e f = refl
joined true true true true false f = refl
joined true true true true true false = refl
joined true true true true true true = refl

pub returns : goal.returns
unfolding fit
returns c =
    let l = c.args.limits.now in
    all_from_yields_List (fit_joint l) _ _ c.all.result c.all.ensures.ran (YieldsList-from_range 0 6 6 refl refl) (λ x b q k. search (rules, tests)) ∙ joined (fit_joint l 0) (fit_joint l 1) (fit_joint l 2) (fit_joint l 3) (fit_joint l 4) (fit_joint l 5)
