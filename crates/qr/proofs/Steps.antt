-- The code's parts are the definition's steps.
use mathlib.Core.Path.{◌≡◌, refl, ap}
use mathlib.Core.Bool.{Bool, true, false, cond}
use mathlib.Core.List.{List, [], ◌∷◌}
use lib.Ieee.{Float}
use Rattle.std.specs.Prelude.{None, Some}
use Rattle.qr.specs.Qr.{entries, dot, v_of, is_zero, stepped, qr}
use Rattle.qr.specs.Port.{vector_3, vector_4, entries_3, lower, lower_reflected, reflection_4, reflection_3, reflect_4, reflect_3, columns, factors}
use Rattle.qr.specs.declared.Vector4.{Vector4}

-- a function of what a test picks
picked : {A B : Type 0} (f : A → B) (t : Bool) (a b : A) → cond t (f a) (f b) ≡ f (cond t a b)
picked f true a b = refl
picked f false a b = refl

module _ (a : Vector4) (x y z w : Float) where
  first : stepped 0 (entries a) (x ∷ y ∷ z ∷ w ∷ []) ≡ entries (reflect_4 (reflection_4 a) (record { x = x; y = y; z = z; w = w }))
  unfolding stepped reflect_4 reflection_4
  first =
      picked (λ m. entries (reflect_4 m (record { x = x; y = y; z = z; w = w }))) (is_zero (entries a)) None
      (Some (record { v = vector_4 (v_of (entries a)); vv = dot (v_of (entries a)) (v_of (entries a)) }))

  second : stepped 1 (entries a) (x ∷ y ∷ z ∷ w ∷ []) ≡ entries (reflect_3 (reflection_3 (lower a)) (record { x = x; y = y; z = z; w = w }))
  unfolding stepped reflect_3 reflection_3
  second =
      let p = entries_3 (lower a) in
      ap (λ (l : List Float). x ∷ l)
      (picked (λ m. entries_3 (lower_reflected m (record { x = x; y = y; z = z; w = w }))) (is_zero p) None
      (Some (record { v = vector_3 (v_of p); vv = dot (v_of p) (v_of p) })))

pub steps : (a0 a1 : Vector4) →
    let m = reflection_4 a0 in
    let r1 = reflect_4 m a1 in
    let n = reflection_3 (lower r1) in
    factors (columns m n) (reflect_4 m a0).x r1.x (reflect_3 n r1).y ≡ qr a0 a1
unfolding columns factors reflect_3 qr
steps a0 a1 = simp (first a0, second)
