-- Whatever calls the system answers and however, what is written is a beginning of the output, and at the end the whole of it.
use Prim.Native.Nat.{ℕ, ◌+◌, ◌≤◌, ◌<◌}
use mathlib.Core.Path.{◌≡◌, refl, sym, ◌∙◌}
use mathlib.Core.Bool.{Bool, true, false, cond, false≢true}
use mathlib.Core.List.{List, [], ◌∷◌, ◌++◌, append_assoc, append-nil}
use native.Mathlib.Omega.{arith}
use borrow.Author.Tests.{eqb-true, eqb-false, ne_eqb}
use lib.Dec.{eqb}
use lib.Ieee.{Float}
use lib.ListN.{length, take, drop, length-append, length-take, take-append-drop}
use lib.Seq.{take-nil}
use Rattle.lines.specs.Lines.{lines}
use Rattle.stream.specs.Output.{blocks, printed, output}
use Rattle.stream.specs.Standing.{Standing, start, broken, delivered, full, received, closed, count, after_write, after_read, go_on}
use Rattle.stream.specs.Calls.{Call, after, reads, writes, all_read, all_written, Fitting, Right}
use Rattle.std.proofs.Common.{Option, Some, None}
use Rattle.stream.proofs.Blocks.{no_blocks, whole_first, short_last}

-- what is still to be written where these bytes are read besides
owed : Standing → List ℕ → List ℕ
owed s more = s.pending ++ cond s.ended [] (printed s.place s.limits (blocks (s.begun ++ more)))

abbrev mk : ℕ → List Float → List ℕ → List ℕ → Bool → Bool → Standing
mk place limits begun pending ended failed = record { place = place; limits = limits; begun = begun; pending = pending; ended = ended; failed = failed }

either : (P : Standing → Type 0) (t : Bool) {a b : Standing} → P a → P b → P (cond t a b)
either P true h k = h
either P false h k = k

-- After the end the program stays there and reads nothing.
stays_ended : (place : ℕ) (limits : List Float) (begun pending : List ℕ) (failed : Bool) (gave : Option ℕ) (behind : List ℕ) → (go_on (mk place limits begun pending true failed) gave behind).ended ≡ true
unfolding go_on after_write delivered broken
stays_ended place limits begun pending true gave behind = refl
stays_ended place limits begun [] false gave behind = refl
stays_ended place limits begun (x ∷ xs) false None behind = refl
stays_ended place limits begun (x ∷ xs) false (Some n) behind =
    either (λ s. s.ended ≡ true) (eqb n 0) {a = broken (mk place limits begun (x ∷ xs) true false)} {b = mk place limits begun (drop n (x ∷ xs)) true false} refl refl

reads_nothing : (place : ℕ) (limits : List Float) (begun pending : List ℕ) (failed : Bool) (c : Call) → reads (mk place limits begun pending true failed) c ≡ []
unfolding reads
reads_nothing place limits begun pending true c = refl
reads_nothing place limits begun [] false c = refl
reads_nothing place limits begun (x ∷ xs) false c = refl

no_more : (place : ℕ) (limits : List Float) (begun pending : List ℕ) (ended failed : Bool) (calls : List Call) → ended ≡ true → all_read (mk place limits begun pending ended failed) calls ≡ []
unfolding all_read
no_more place limits begun pending ended failed [] h = refl
no_more place limits begun pending false failed (c ∷ calls) h = absurd (false≢true h)
no_more place limits begun pending true failed (c ∷ calls) h =
    let s = go_on (mk place limits begun pending true failed) c.gave c.behind in
    rw (reads_nothing place limits begun pending failed c)
    (no_more s.place s.limits s.begun s.pending s.ended s.failed calls (stays_ended place limits begun pending failed c.gave c.behind))

ended_closed : (s : Standing) → (closed s).ended ≡ true
unfolding closed
ended_closed s = refl

-- a short last block is printed, and nothing where none was begun
closed_lines : (place : ℕ) (limits : List Float) (begun : List ℕ) → length begun < 512 → cond (eqb (length begun) 0) [] (lines begun place limits) ++ [] ≡ printed place limits (blocks (begun ++ []))
unfolding printed
closed_lines place limits [] few = rw (no_blocks)
closed_lines place limits (x ∷ xs) few =
    let b = x ∷ xs in
    rw (append-nil b, short_last b (omega arith) few, ne_eqb (length b) 0 (λ h. omega arith))

-- One call writes what was owed before it, and no longer is after it.
module _ (place : ℕ) (limits : List Float) (begun : List ℕ) where
  delivers : (pending : List ℕ) (ended : Bool) (more : List ℕ) (n : ℕ) (t : Bool) → eqb n 0 ≡ t
      → take n pending ++ owed (cond t (broken (mk place limits begun pending ended false)) (mk place limits begun (drop n pending) ended false)) more
      ≡ owed (mk place limits begun pending ended false) more
  unfolding owed broken
  delivers pending ended more n true h = rw (eqb-true n 0 h)
  delivers pending ended more n false h =
      rw (← append_assoc (take n pending) (drop n pending) (cond ended [] (printed place limits (blocks (begun ++ more)))), take-append-drop n pending)

  after_writing : (pending : List ℕ) (ended : Bool) (gave : Option ℕ) (more : List ℕ)
      → take (count gave) pending ++ owed (after_write (mk place limits begun pending ended false) gave) more ≡ owed (mk place limits begun pending ended false) more
  unfolding after_write delivered
  after_writing pending ended (Some n) more = delivers pending ended more n _ refl
  after_writing pending ended None more = delivers pending ended more 0 true refl

  same_owed : (more : List ℕ) → owed (broken (mk place limits begun [] false false)) more ≡ owed (mk place limits begun [] false false) more
  unfolding owed broken
  same_owed more = refl

  closes : length begun < 512 → owed (closed (mk place limits begun [] false false)) [] ≡ owed (mk place limits begun [] false false) []
  unfolding owed closed printed
  closes few = closed_lines place limits begun few

  fills : (new more : List ℕ) (t : Bool) → eqb (length (begun ++ new)) 512 ≡ t
      → owed (cond t (full (mk place limits begun [] false false) (begun ++ new)) (mk place limits (begun ++ new) [] false false)) more
      ≡ owed (mk place limits begun [] false false) (new ++ more)
  unfolding owed full printed
  fills new more true h =
      rw (← append_assoc begun new more, whole_first (begun ++ new) more (eqb-true (length (begun ++ new)) 512 h))
  fills new more false h = rw (append_assoc begun new more)

  -- a read, of n bytes where it did not fail
  counts : (behind more : List ℕ) (n : ℕ) (t : Bool) → eqb n 0 ≡ t → length begun < 512
      → ((cond t (closed (mk place limits begun [] false false)) (received (mk place limits begun [] false false) (take n behind))).ended ≡ true → more ≡ [])
      → owed (cond t (closed (mk place limits begun [] false false)) (received (mk place limits begun [] false false) (take n behind))) more
      ≡ owed (mk place limits begun [] false false) (take n behind ++ more)
  unfolding received
  counts behind more n true h few last =
      let nothing : more ≡ [] = last (ended_closed (mk place limits begun [] false false)) in
      rw (nothing, eqb-true n 0 h) (closes few)
  counts behind more n false h few last = fills (take n behind) more _ refl

  after_reading : (gave : Option ℕ) (behind more : List ℕ) → length begun < 512 → ((after_read (mk place limits begun [] false false) gave behind).ended ≡ true → more ≡ [])
      → owed (after_read (mk place limits begun [] false false) gave behind) more ≡ owed (mk place limits begun [] false false) (take (count gave) behind ++ more)
  unfolding after_read
  after_reading (Some n) behind more few last = counts behind more n _ refl few last
  after_reading None behind more few last = same_owed more

  step : (pending : List ℕ) (ended failed : Bool) (c : Call) (more : List ℕ) → length begun < 512
      → ((go_on (mk place limits begun pending ended failed) c.gave c.behind).ended ≡ true → more ≡ [])
      → writes (mk place limits begun pending ended failed) c ++ owed (go_on (mk place limits begun pending ended failed) c.gave c.behind) more
      ≡ owed (mk place limits begun pending ended failed) (reads (mk place limits begun pending ended failed) c ++ more)
  unfolding go_on writes reads
  step pending ended true c more few last = refl
  step (x ∷ xs) ended false c more few last = after_writing (x ∷ xs) ended c.gave more
  step [] true false c more few last = rw (take-nil (count c.gave))
  step [] false false c more few last = rw (take-nil (count c.gave)) (after_reading c.gave c.behind more few last)

  -- a block that is begun is not full
  fewer : (new : List ℕ) (t : Bool) → eqb (length (begun ++ new)) 512 ≡ t → length begun + length new ≤ 512
      → length (cond t (full (mk place limits begun [] false false) (begun ++ new)) (mk place limits (begun ++ new) [] false false)).begun < 512
  unfolding full
  fewer new true h all = omega arith
  fewer new false h all =
      let n = eqb-false (length (begun ++ new)) 512 h in
      let l = length-append begun new in
      omega arith

  counts_few : (behind : List ℕ) (n : ℕ) (t : Bool) → length begun < 512 → length begun + length behind ≡ 512
      → length (cond t (closed (mk place limits begun [] false false)) (received (mk place limits begun [] false false) (take n behind))).begun < 512
  unfolding closed received
  counts_few behind n true few room = omega arith
  counts_few behind n false few room = fewer (take n behind) _ refl (omega (arith, length-take n behind))

  reads_few : (gave : Option ℕ) (behind : List ℕ) → length begun < 512 → length begun + length behind ≡ 512 → length (after_read (mk place limits begun [] false false) gave behind).begun < 512
  unfolding after_read broken
  reads_few (Some n) behind few room = counts_few behind n (eqb n 0) few room
  reads_few None behind few room = few

  stays_few : (pending : List ℕ) (ended failed : Bool) (gave : Option ℕ) (behind : List ℕ) → length begun < 512 → length begun + length behind ≡ 512
      → length (go_on (mk place limits begun pending ended failed) gave behind).begun < 512
  unfolding go_on after_write delivered broken
  stays_few pending ended true gave behind few room = few
  stays_few (x ∷ xs) ended false None behind few room = few
  stays_few (x ∷ xs) ended false (Some n) behind few room =
      either (λ s. length s.begun < 512) (eqb n 0)
      {a = broken (mk place limits begun (x ∷ xs) ended false)}
      {b = mk place limits begun (drop n (x ∷ xs)) ended false}
      few
      few
  stays_few [] true false gave behind few room = few
  stays_few [] false false gave behind few room = reads_few gave behind few room

-- one call more
pub after_one : (s : Standing) (calls : List Call) (c : Call) → after s (calls ++ (c ∷ [])) ≡ go_on (after s calls) c.gave c.behind
unfolding after
after_one s [] c = refl
after_one s (d ∷ calls) c = after_one (go_on s d.gave d.behind) calls c

pub fitting_one : (s : Standing) (calls : List Call) (c : Call) → Fitting s calls → length (after s calls).begun + length c.behind ≡ 512 → Fitting s (calls ++ (c ∷ []))
unfolding after Fitting
fitting_one s [] c fit room = (room, tt)
fitting_one s (d ∷ calls) c fit room = (fit.0, fitting_one (go_on s d.gave d.behind) calls c fit.1 room)

-- over any calls
law : (s : Standing) (calls : List Call) → length s.begun < 512 → Fitting s calls → all_written s calls ++ owed (after s calls) [] ≡ owed s (all_read s calls)
unfolding all_written all_read after Fitting
law s [] few fit = refl
law s (c ∷ calls) few fit =
    let next = go_on s c.gave c.behind in
    let more = all_read next calls in
    let one = step s.place s.limits s.begun s.pending s.ended s.failed c more few (no_more next.place next.limits next.begun next.pending next.ended next.failed calls) in
    let others = law next calls (stays_few s.place s.limits s.begun s.pending s.ended s.failed c.gave c.behind few fit.0) fit.1 in
    rw (append_assoc (writes s c) (all_written next calls) (owed (after next calls) []), others) one

-- nothing is owed at the end
paid : (s : Standing) → s.ended ≡ true → s.pending ≡ [] → owed s [] ≡ []
unfolding owed
paid s e p = rw (e, p)

pub right : (calls : List Call) → Fitting start calls → Right calls
unfolding output printed owed
right calls fit =
    let all = law start calls (omega arith) fit in
    record {
      whole = λ e p. sym (append-nil (all_written start calls)) ∙ (rw (paid (after start calls) e p) at all);
      rest = owed (after start calls) [];
      beginning = all;
    }
