-- refine_bracket in steps is the definition's refine_bracket. Assumes nothing.
use mathlib.Core.Path.{◌≡◌, refl, sym, ◌∙◌, ap}
use mathlib.Core.Bool.{Bool, true, false}
use mathlib.Core.List.{[], ◌∷◌}
use Prim.Native.Nat.{ℕ, zero, suc}
use lib.Ieee.{Float}
use Rattle.float.specs.Number.{is_finite}
use Rattle.search_definition.specs.Found.{Origin, Out, Asked, Step, again, leave}
use Rattle.search_definition.specs.Refine.{Bracket, bracket, next, near, if_near, if_value, reached, if_next, refine_step, refine_from, refine_bracket}
use Rattle.search_definition.specs.Dip.{Point, refined}
use Rattle.search_definition.proofs.Steps.{taken, run_suc, run_zero}
use Rattle.search_steps.specs.RefineSteps.{Refining, refine_angle, one_pair, if_guess, refine_way, refine_turned, refine_next, refine_start}
use Rattle.search_steps.proofs.Ways.{ask, way_out}

-- the pair of a refinement
abbrev pub refine_pair : Origin → Asked Float → Out
refine_pair o a = record { found = one_pair a.value o; asked = a.asked }

module _ (f : Float → Float) (o : Origin) where
  -- what is left of a refinement that asks
  pub refine_out : Refining → Out
  refine_out r = refine_pair o (taken (refine_from f r.left) (if_next f true (next r.at) r.at))

  pub refine_way_out : (k : ℕ) (s : Bracket) → way_out refine_out (refine_way o k s) ≡ refine_pair o (refine_from f k s)
  unfolding refine_way refine_from refine_step way_out if_guess refine_out if_next
  refine_way_out zero s = ap (refine_pair o) (sym (run_zero (refine_step f) reached s))
  refine_way_out (suc k) s = go (is_finite (next s)) ∙ ap (refine_pair o) (sym (run_suc (refine_step f) reached k s))
    where
      go : (b : Bool) → way_out refine_out (if_guess o b k s) ≡ refine_pair o (taken (refine_from f k) (if_next f b (next s) s))
      go true = refl
      go false = refl

  -- a whole refinement between two points
  pub refine_start_out : (p q : Point) → way_out refine_out (refine_start o p q) ≡ refined f o p q
  unfolding refine_start refined refine_bracket
  refine_start_out p q = refine_way_out 60 (bracket p.x q.x p.y q.y)

  -- one evaluation
  pub refine_once : (r : Refining) → refine_out r ≡ ask (refine_angle r) (way_out refine_out (refine_next o r (f (refine_angle r))))
  unfolding refine_out refine_angle refine_next if_next if_value if_near refine_turned way_out
  refine_once r = valued (is_finite (f p))
    where
      p : Float
      p = next r.at

      turned : Step Bracket Float → Type 0
      turned t = refine_pair o (taken (refine_from f r.left) t) ≡ ask p (way_out refine_out (refine_turned o r.left t))

      on : (s : Bracket) → turned (again (p ∷ []) s)
      on s = ap (ask p) (sym (refine_way_out r.left s))

      out : (x : Float) → turned (leave (p ∷ []) x)
      out x = refl

      close : (b : Bool) → turned (if_near b p (f p) r.at)
      close true = out p
      close false = on _

      valued : (b : Bool) → turned (if_value b p (f p) r.at)
      valued true = close (near r.at (f p))
      valued false = out r.at.x
