-- A loop that writes the answers of a list in turn: what is left of both lists is lent to the function that writes one. For rows of any width.
use Prim.Native.Nat.{ℕ, min, ◌+◌, ◌*◌, ◌-◌, ◌<◌, ◌≤◌}
use mathlib.Core.Path.{◌≡◌, refl, ap, ◌∙◌}
use mathlib.Core.List.{List, [], ◌∷◌}
use native.Mathlib.Nat.{le_refl}
use native.Mathlib.Omega.{arith}
use borrow.Rule.Slice.PartMut.{put_mid, mid_of}
use lib.Ieee.{Float}
use lib.ListN.{length, take, drop, get_or}
use lib.Seq.{take_all}
use Rattle.std.proofs.lemmas.List.{take-take, take_min, take_more}
use Rattle.answers.specs.Rows.{Form, room_of, fitting_of, written_of, flagged_of, WroteOf}
use Rattle.answers.specs.declared.Answer.{Answer}
use Rattle.answers.proofs.Rows.{Good, written_long, flagged_long, next, within}
use Rattle.answers.proofs.RowSteps.{lent, back}

module _ (form : Form) (good : Good form) (qs : List Answer) {a₀ a : List Float} {f₀ f : List ℕ} where
  -- one more
  pub one_more : {k : ℕ} (d : Answer) {at on r : ℕ} {a' : List Float} {f' : List ℕ} {q : Answer}
      → k < length qs
      → k < room_of form a₀ f₀
      → WroteOf form (take k qs) a₀ f₀ a f k
      → at ≡ form.wide * k
      → on ≡ k
      → q ≡ get_or qs k d
      → WroteOf form (q ∷ []) (mid_of at (length a - at) a) (mid_of on (length f - on) f) a' f' r
      → WroteOf form (take (k + 1) qs) a₀ f₀ (put_mid at (length a - at) a a') (put_mid on (length f - on) f f') (k + 1)
  unfolding room_of
  one_more {k} d {at} {on} {a' = a'} {f' = f'} {q = q} h h' w e-at e-on e v =
      let long-a : length a ≡ length a₀ = ap length w.all_angles ∙ written_long form good (take k qs) a₀ f₀ in
      let long-f : length f ≡ length f₀ = ap length w.all_flags ∙ flagged_long form good (take k qs) a₀ f₀ in
      let in-a : form.wide * k ≤ length a₀ = within good.width (length a₀) (length f₀) k (omega (arith, h')) in
      let at-a : at ≡ min (form.wide * k) (length a) = omega (arith, e-at, long-a, in-a) in
      let on-f : on ≡ min k (length f) = omega (arith, e-on, long-f, h') in
      let v' : WroteOf form (q ∷ []) (drop (form.wide * k) a) (drop k f) a' f' 1 = rw (lent (form.wide * k) a at-a, lent k f on-f, v.all_counted) at v in
      rw (take_more qs k d h, ← e, back (form.wide * k) a a' at-a, back k f f' on-f) (next form good w v')

  -- all that fit
  pub whole : {k : ℕ} (fit : ℕ)
      → fit ≡ min (room_of form a₀ f₀) (length qs)
      → length (take fit qs) ≤ k
      → WroteOf form (take k (take fit qs)) a₀ f₀ a f k
      → WroteOf form qs a₀ f₀ a f (length qs)
  unfolding written_of flagged_of fitting_of
  whole {k} fit e h w =
      let all : take k (take fit qs) ≡ take fit qs = take_all k (take fit qs) h in
      let w' : WroteOf form (take fit qs) a₀ f₀ a f k = rw all at w in
      let room = room_of form a₀ f₀ in
      let first : take room (take fit qs) ≡ take room qs = rw (e, take_min room qs) (take-take room room qs (le_refl room)) in
      record { all_angles = rw first at w'.all_angles; all_flags = rw first at w'.all_flags; all_counted = refl }
