-- One answer: its row and its byte fit both lists, or one of them is too short. For rows of any width.
use Prim.Native.Nat.{ℕ, ◌/◌, ◌<◌, ◌≤◌}
use mathlib.Core.Path.{◌≡◌, refl}
use mathlib.Core.Bool.{Bool}
use mathlib.Core.List.{List, [], ◌∷◌, ◌++◌, flat_map, append-nil}
use native.Mathlib.Omega.{arith}
use lib.Ieee.{Float}
use lib.ListN.{length, drop, set}
use lib.Seq.{set_split, take_all}
use Rattle.std.proofs.Math.Nat.{div-eq_of_lt, le-div_iff_mul-le}
use Rattle.answers.specs.Answer.{flag}
use Rattle.answers.specs.Rows.{Form, RowOf, room_of, fitting_of, written_of, flagged_of, WroteOf}
use Rattle.answers.specs.declared.Answer.{Answer}
use Rattle.answers.proofs.Rows.{no_rows, one_wide}

some_rows : (m : ℕ) {w : ℕ} → 1 ≤ w → w ≤ m → 1 ≤ m / w
some_rows m {w} some h = (le-div_iff_mul-le {k = w} {x = 1} {y = m} some).1 (omega arith)

module _ (form : Form) (q : Answer) {row : List Float} {is_ls : Bool} (r : RowOf form q row is_ls) (a : List Float) (f : List ℕ) where
  no_room : room_of form a f ≡ 0 → WroteOf form (q ∷ []) a f a f 1
  unfolding written_of flagged_of fitting_of flat_map
  no_room e = record { all_angles = rw (e, no_rows r.some); all_flags = rw e; all_counted = refl }

  pub short_angles : length a < length row → WroteOf form (q ∷ []) a f a f 1
  unfolding room_of
  short_angles h =
      let few : length a < form.wide = rw r.wide h in
      let e : length a / form.wide ≡ 0 = div-eq_of_lt few in
      no_room (omega (arith, e))

  pub short_flags : length f ≡ 0 → WroteOf form (q ∷ []) a f a f 1
  unfolding room_of
  short_flags e = no_room (omega (arith, e))

  first : 1 ≤ room_of form a f → fitting_of form (q ∷ []) a f ≡ q ∷ []
  unfolding fitting_of
  first h = take_all (room_of form a f) (q ∷ []) (omega arith)

  some : length row ≤ length a → 1 ≤ length f → 1 ≤ room_of form a f
  unfolding room_of
  some h h' =
      let fits : form.wide ≤ length a = rw r.wide h in
      omega (arith, some_rows (length a) r.some fits, h')

  pub fits : {a' : List Float} {b : ℕ} → length row ≤ length a → 1 ≤ length f → a' ≡ row ++ drop (length row) a → b ≡ flag is_ls → WroteOf form (q ∷ []) a f a' (set f 0 b) 1
  unfolding written_of flagged_of flat_map
  fits h h' e e' =
      let one = first (some h h') in
      record {
        all_angles = rw (one, e, append-nil (form.numbers q), one_wide r.some, r.numbers, r.wide);
        all_flags = rw (one, e', r.ls) (set_split f 0 (flag is_ls) h');
        all_counted = refl;
      }
