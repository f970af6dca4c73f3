-- The lists that hold answers print as the answers' lines.
use Prim.Native.Nat.{ℕ, zero, suc, min, ◌+◌, ◌*◌, ◌≤◌, ◌<◌}
use mathlib.Core.Path.{◌≡◌, refl, sym, ap, ◌∙◌}
use mathlib.Core.Bool.{Bool, true, false}
use mathlib.Core.List.{List, [], ◌∷◌, ◌++◌, map, flat_map}
use native.Mathlib.Numerals.{add-one}
use native.Mathlib.Omega.{arith}
use lib.Ieee.{Float, nan}
use lib.ListN.{length, take, drop, get_or, length-take}
use lib.Seq.{drop-drop, take_all}
use Rattle.answers.specs.Answer.{six, flag, byte}
use Rattle.answers.specs.Rows.{room_of, fitting_of, written_of, flagged_of}
use Rattle.answers.specs.Written.{fitting, written, flagged}
use Rattle.answers.specs.declared.Answer.{Answer}
use Rattle.text.specs.Text.{digits, places, decimal}
use Rattle.text.specs.Lists.{line, line_at, lines_of}
use Rattle.lines.specs.Lines.{answer_line}
use Rattle.text.proofs.Laws.{one_more}

-- the six angles of answer i
angles_at : (d : Answer) (qs : List Answer) (rest : List Float) (i : ℕ) → i < length qs → take 6 (drop (6 * i) (flat_map six qs ++ rest)) ≡ six (get_or qs i d)
unfolding flat_map
angles_at d [] rest i h = absurd (omega arith)
angles_at d (q ∷ qs) rest zero h = refl
angles_at d (q ∷ qs) rest (suc i) h =
    let e : 6 * suc i ≡ 6 + 6 * i = omega arith in
    rw (e, ← drop-drop (6 * i) 6 (flat_map six (q ∷ qs) ++ rest)) (angles_at d qs rest i (omega arith))

flag_at : (d : Answer) (qs : List Answer) (rest : List ℕ) (i : ℕ) → i < length qs → get_or (map byte qs ++ rest) i 0 ≡ byte (get_or qs i d)
flag_at d [] rest i h = absurd (omega arith)
flag_at d (q ∷ qs) rest zero h = refl
flag_at d (q ∷ qs) rest (suc i) h = flag_at d qs rest i (omega arith)

-- a flag is one digit
one_digit : (b : Bool) → digits 10 1 (flag b) ≡ decimal (flag b)
unfolding decimal digits places
one_digit true = refl
one_digit false = refl

module _ (d : Answer) (qs : List Answer) (a : List Float) (f : List ℕ) where
  line_is : (i : ℕ) → i < length qs → line_at (flat_map six qs ++ a) (map byte qs ++ f) i ≡ answer_line (get_or qs i d)
  unfolding line_at line answer_line
  line_is i h = rw (angles_at d qs a i h, flag_at d qs f i h, one_digit (get_or qs i d).is_ls)

  lines_are : (n : ℕ) → n ≤ length qs → lines_of (flat_map six qs ++ a) (map byte qs ++ f) n ≡ flat_map answer_line (take n qs)
  unfolding lines_of flat_map
  lines_are zero h = refl
  lines_are (suc n) h =
      let more : flat_map answer_line (take (n + 1) qs) ≡ flat_map answer_line (take n qs) ++ answer_line (get_or qs n d) = one_more answer_line qs d n (omega arith) in
      rw (lines_are n (omega arith), line_is n (omega arith)) (sym (rw (add-one n) at more))

abbrev blank : Answer
blank = record { q1 = nan; q2 = nan; q3 = nan; q4 = nan; q5 = nan; q6 = nan; is_ls = false }

-- the lists that were lent, with room for 1,024 answers
pub printed : (qs : List Answer) (a : List Float) (f : List ℕ) {n : ℕ} → length a ≡ 6144 → length f ≡ 1024 → n ≡ min (length qs) 1024
    → lines_of (written qs a f) (flagged qs a f) n ≡ flat_map answer_line (take 1024 qs)
unfolding written_of flagged_of fitting_of room_of
printed qs a f {n} ha hf e =
    let first = fitting qs a f in
    let is : first ≡ take 1024 qs = rw (ha, hf) in
    let long : length first ≡ n = rw (is, length-take 1024 qs) (omega arith) in
    let all = lines_are blank first (drop (6 * length first) a) (drop (length first) f) n (omega arith) in
    all ∙ ap (λ (l : List Answer). flat_map answer_line l) (take_all n first (omega arith) ∙ is)
