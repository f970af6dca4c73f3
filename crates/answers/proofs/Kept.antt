-- Document 01: "Elements past the last written answer keep their values, always." So it is for every function that promises `Wrote`, and for lists of every length, 0 included.
use Prim.Native.Nat.{ℕ, ◌*◌}
use mathlib.Core.Path.{◌≡◌, ap, ◌∙◌}
use mathlib.Core.List.{List, map, flat_map}
use lib.Ieee.{Float}
use lib.ListN.{length, take, drop, length-map}
use lib.Seq.{take_at, drop_at}
use Rattle.answers.specs.Answer.{six, byte}
use Rattle.answers.specs.Rows.{written_of, flagged_of}
use Rattle.answers.specs.Written.{fitting, Wrote}
use Rattle.answers.specs.declared.Answer.{Answer}
use Rattle.answers.proofs.Laws.{length_six, written_long, flagged_long}

-- both lists after the n answers that fit: the answers, and past them everything as it was
pub record Kept (first : List Answer) (a₀ : List Float) (f₀ : List ℕ) (a : List Float) (f : List ℕ) : Type 0 where
  pub angles_first : take (6 * length first) a ≡ flat_map six first
  pub angles_past : drop (6 * length first) a ≡ drop (6 * length first) a₀
  pub angles_long : length a ≡ length a₀
  pub flags_first : take (length first) f ≡ map byte first
  pub flags_past : drop (length first) f ≡ drop (length first) f₀
  pub flags_long : length f ≡ length f₀

pub kept : (answers : List Answer) (a₀ a : List Float) (f₀ f : List ℕ) (r : ℕ) → Wrote answers a₀ f₀ a f r → Kept (fitting answers a₀ f₀) a₀ f₀ a f
unfolding written_of flagged_of
kept answers a₀ a f₀ f r w =
    let qs = fitting answers a₀ f₀ in
    record {
      angles_first = rw w.all_angles (take_at (flat_map six qs) (drop (6 * length qs) a₀) (6 * length qs) (length_six qs));
      angles_past = rw w.all_angles (drop_at (flat_map six qs) (drop (6 * length qs) a₀) (6 * length qs) (length_six qs));
      angles_long = ap length w.all_angles ∙ written_long answers a₀ f₀;
      flags_first = rw w.all_flags (take_at (map byte qs) (drop (length qs) f₀) (length qs) (length-map qs byte));
      flags_past = rw w.all_flags (drop_at (map byte qs) (drop (length qs) f₀) (length qs) (length-map qs byte));
      flags_long = ap length w.all_flags ∙ flagged_long answers a₀ f₀;
    }
