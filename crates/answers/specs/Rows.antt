-- Answers written to the two lists that a caller lends, each as a row of numbers and a byte: six numbers, or seven on a track.
-- Document 01: "writes the first answers that fit both lists. Elements past the last written answer keep their values, always." Document 02, request 2: "an answer is seven
-- numbers and 9 counts sevens".
use Rattle.std.specs.Prelude.{ℕ, Bool, min, ◌*◌, ◌/◌, ◌≤◌, ◌≡◌, Float}
use mathlib.Core.List.{List, ◌++◌, map, flat_map}
use Rattle.std.proofs.Math.ListN.{length, take, drop}
use Rattle.answers.specs.Answer.{byte}
use Rattle.answers.specs.declared.Answer.{Answer}

-- how many numbers an answer takes, and which
pub record Form : Type 0 where
  pub wide : ℕ
  pub numbers : Answer → List Float

-- the row and the flag that an answer is written as: as many numbers as the form takes, at least one
pub record RowOf (form : Form) (q : Answer) (row : List Float) (is_ls : Bool) : Type 0 where
  pub wide : form.wide ≡ length row
  pub some : 1 ≤ form.wide
  pub numbers : form.numbers q ≡ row
  pub ls : q.is_ls ≡ is_ls

module _ (form : Form) where
  -- how many answers the lists have room for: the angle list has whole rows, the flag list bytes
  unfoldable pub room_of : List Float → List ℕ → ℕ
  room_of angles flags = min (length angles / form.wide) (length flags)

  -- the first answers that fit both lists
  unfoldable pub fitting_of : List Answer → List Float → List ℕ → List Answer
  unfolding room_of
  fitting_of answers angles flags = take (room_of angles flags) answers

  -- the angle list with them, and from there on as it was
  unfoldable pub written_of : List Answer → List Float → List ℕ → List Float
  unfolding fitting_of
  written_of answers angles flags =
      let first = fitting_of answers angles flags in
      flat_map form.numbers first ++ drop (form.wide * length first) angles

  -- the flag list with them, and from there on as it was
  unfoldable pub flagged_of : List Answer → List Float → List ℕ → List ℕ
  unfolding fitting_of
  flagged_of answers angles flags = let first = fitting_of answers angles flags in map byte first ++ drop (length first) flags

  -- what a function that writes answers leaves: angles₀ and flags₀ are the lists at entry, angles and flags at exit, and count is
  -- the number of answers, also of those that do not fit
  pub record WroteOf (answers : List Answer) (angles₀ : List Float) (flags₀ : List ℕ) (angles : List Float) (flags : List ℕ) (count : ℕ) : Type 0 where
    pub all_angles : angles ≡ written_of answers angles₀ flags₀
    pub all_flags : flags ≡ flagged_of answers angles₀ flags₀
    pub all_counted : count ≡ length answers
