-- What the program's numbers and its workspace stand for after each step.
use Prim.Native.Nat.{ℕ, zero, suc, ◌+◌, ◌<◌, ◌≤◌}
use mathlib.Core.Path.{◌≡◌, refl, sym, ap, ◌∙◌}
use mathlib.Core.Bool.{Bool, true, false, cond, true≢false}
use mathlib.Core.List.{List, [], ◌∷◌, ◌++◌}
use native.Mathlib.Omega.{arith}
use borrow.Author.Tests.{eq-eqb, ne_eqb}
use lib.Dec.{eqb}
use lib.Ieee.{Float}
use lib.ListN.{length, take, drop, length-take, length-drop}
use lib.Seq.{take-add, take_all, take-nil, drop-drop, drop-nil}
use Rattle.std.proofs.Common.{Option, Some, None}
use Rattle.std.proofs.KnownBytes.{Consumes-nil, Appends-nil}
use Rattle.std.specs.Io.KnownBytes.{Appends, Consumes, IsAtEnd}
use Rattle.stream.specs.Calls.{Call, Moved, reads, writes}
use Rattle.limits_block.specs.LimitsBlock.{accepted, in_force}
use Rattle.lines.specs.Lines.{lines}
use Rattle.stream.specs.Output.{place_after}
use Rattle.stream.specs.Standing.{Standing, numbers, some, broken, delivered, full, received, closed, count, next, after_write, after_read, go_on}
use Rattle.stream.specs.Progress.{standing, Went, Turned}
use Rattle.stream.specs.declared.progress.Ask.{Ask}
use Rattle.stream.specs.declared.progress.Ask.TheVariants.{Write, Read, Stop}
use Rattle.stream.specs.declared.progress.Run.{Run}

next_at_most : (place : ℕ) (accept : Bool) → cond accept place (place + 1) ≤ place + 1
next_at_most place true = omega arith
next_at_most place false = omega arith

-- `q` is the program after a step
module _ (p q : Run) (long : length p.block ≡ 512) where
  begun_long : length (take p.at.filled p.block) ≡ p.at.filled
  begun_long = let r = p.room_left in rw (length-take p.at.filled p.block) (omega (arith, long, r))

  -- the input ends
  pub closes_none : p.at.filled ≡ 0 → q.at.place ≡ p.at.place → q.at.filled ≡ 0 → q.limits ≡ p.limits → q.lines.out.items ≡ [] → q.at.ended ≡ true → q.at.failed ≡ p.at.failed
      → Went (closed (standing p)) q p.at.place
  unfolding closed
  closes_none h e-p e-f e-l empty e-e e-b =
      record {
        stands = rw (eq-eqb (length (take p.at.filled p.block)) 0 (begun_long ∙ h), e-p, e-f, e-l, empty, e-e, e-b, drop-nil) refl;
        places = omega (arith, e-p);
      }

  pub closes_short : {l : List Float} → l ≡ numbers p.limits → (p.at.filled ≡ 0 → ⊥) → q.at.place ≡ p.at.place → q.at.filled ≡ 0 → q.at.written ≡ 0 → q.limits ≡ p.limits
      → q.lines.out.items ≡ lines (take p.at.filled p.block) p.at.place l → q.at.ended ≡ true → q.at.failed ≡ p.at.failed
      → Went (closed (standing p)) q p.at.place
  unfolding closed
  closes_short held h e-p e-f e-w e-l printed e-e e-b =
      record {
        stands = rw (ne_eqb (length (take p.at.filled p.block)) 0 (λ z. h (sym begun_long ∙ z)), e-p, e-f, e-w, e-l, printed, e-e, e-b, held) refl;
        places = omega (arith, e-p);
      }

  -- the block is full
  pub filled_up : {l : List Float} {accept : Bool} → l ≡ numbers p.limits → q.lines.out.items ≡ lines p.block p.at.place l → accept ≡ accepted p.block
      → numbers q.limits ≡ in_force p.block (numbers p.limits) → q.at.place ≡ cond accept p.at.place (p.at.place + 1) → q.at.filled ≡ 0 → q.at.written ≡ 0 → q.at.ended ≡ p.at.ended → q.at.failed ≡ p.at.failed
      → Went (full (standing p) p.block) q p.at.place
  unfolding full place_after
  filled_up {accept = accept} held printed e-a e-l e-p e-f e-w e-e e-b =
      record {
        stands = rw (e-p, e-f, e-w, e-l, e-e, e-b, e-a, printed, held) refl;
        places = rw e-p (next_at_most p.at.place accept);
      }

  -- n bytes more do not fill the block
  pub begins : (n : ℕ) → p.at.filled + n ≤ 512 → (p.at.filled + n ≡ 512 → ⊥) → q.at.place ≡ p.at.place → q.block ≡ p.block → q.at.filled ≡ p.at.filled + n → q.limits ≡ p.limits → q.lines.out.items ≡ []
      → q.at.ended ≡ p.at.ended → q.at.failed ≡ p.at.failed
      → Went (received (standing p) (take n (drop p.at.filled p.block))) q p.at.place
  unfolding received
  begins n all h e-p e-k e-f e-l empty e-e e-b =
      let more : take p.at.filled p.block ++ take n (drop p.at.filled p.block) ≡ take (p.at.filled + n) p.block = sym (take-add p.at.filled n p.block) in
      let so_long : length (take (p.at.filled + n) p.block) ≡ p.at.filled + n = rw (length-take (p.at.filled + n) p.block) (omega (arith, long)) in
      record {
        stands = rw (more, ne_eqb (length (take (p.at.filled + n) p.block)) 512 (λ z. h (sym so_long ∙ z)), e-p, e-k, e-f, e-l, empty, e-e, e-b, drop-nil) refl;
        places = omega (arith, e-p);
      }

  -- they do
  pub fills : (n : ℕ) → p.at.filled + n ≡ 512 → Went (full (standing p) p.block) q p.at.place → Went (received (standing p) (take n (drop p.at.filled p.block))) q p.at.place
  unfolding received
  fills n h went =
      let whole : take p.at.filled p.block ++ take n (drop p.at.filled p.block) ≡ p.block = sym (take-add p.at.filled n p.block) ∙ take_all (p.at.filled + n) p.block (omega (arith, long)) in
      rw (whole, eq-eqb (length p.block) 512 long) went

some_of : (l : List ℕ) → 0 < length l → some l ≡ true
some_of [] h = absurd (omega arith)
some_of (x ∷ l) h = refl

none_of : (l : List ℕ) → length l ≤ 0 → some l ≡ false
none_of [] h = refl
none_of (x ∷ l) h = absurd (omega arith)

module _ (p q : Run) where
  -- after a call that failed
  pub failed_on : q.at.place ≡ p.at.place → q.block ≡ p.block → q.at.filled ≡ p.at.filled → q.limits ≡ p.limits → q.lines ≡ p.lines → q.at.written ≡ p.at.written → q.at.ended ≡ p.at.ended → q.at.failed ≡ true
      → Went (broken (standing p)) q p.at.place
  unfolding broken
  failed_on e-p e-k e-f e-l e-o e-w e-e e-b = record { stands = rw (e-p, e-k, e-f, e-l, e-o, e-w, e-e, e-b) refl; places = omega (arith, e-p) }

  module _ (gave : Option ℕ) {took : ℕ} (e : took ≡ count gave) where
    -- after a write
    pub writes_none : took ≡ 0 → q.at.place ≡ p.at.place → q.block ≡ p.block → q.at.filled ≡ p.at.filled → q.limits ≡ p.limits → q.lines ≡ p.lines → q.at.written ≡ p.at.written → q.at.ended ≡ p.at.ended → q.at.failed ≡ true
        → Went (after_write (standing p) gave) q p.at.place
    unfolding after_write delivered
    writes_none z e-p e-k e-f e-l e-o e-w e-e e-b = by_gave gave (sym e ∙ z)
      where
        by_gave : (g : Option ℕ) → count g ≡ 0 → Went (after_write (standing p) g) q p.at.place
        by_gave (Some n) z = rw (eq-eqb n 0 z) (failed_on e-p e-k e-f e-l e-o e-w e-e e-b)
        by_gave None z = failed_on e-p e-k e-f e-l e-o e-w e-e e-b

    pub writes_some : (took ≡ 0 → ⊥) → q.at.place ≡ p.at.place → q.block ≡ p.block → q.at.filled ≡ p.at.filled → q.limits ≡ p.limits → q.lines ≡ p.lines → q.at.written ≡ p.at.written + took
        → q.at.ended ≡ p.at.ended → q.at.failed ≡ p.at.failed → Went (after_write (standing p) gave) q p.at.place
    unfolding after_write delivered
    writes_some h e-p e-k e-f e-l e-o e-w e-e e-b = by_gave gave (λ z. h (e ∙ z)) (e-w ∙ ap (λ (n : ℕ). p.at.written + n) e)
      where
        by_gave : (g : Option ℕ) → (count g ≡ 0 → ⊥) → q.at.written ≡ p.at.written + count g → Went (after_write (standing p) g) q p.at.place
        by_gave (Some n) h f =
            record {
              stands = rw (ne_eqb n 0 h, e-p, e-k, e-f, e-l, e-o, f, e-e, e-b, drop-drop n p.at.written p.lines.out.items) refl;
              places = omega (arith, e-p);
            }
        by_gave None h f = absurd (h refl)

  -- after a read
  module _ {gave : Option ℕ} where
    pub reads_fail : gave ≡ None → q.at.place ≡ p.at.place → q.block ≡ p.block → q.at.filled ≡ p.at.filled → q.limits ≡ p.limits → q.lines ≡ p.lines → q.at.written ≡ p.at.written → q.at.ended ≡ p.at.ended → q.at.failed ≡ true
        → Went (after_read (standing p) gave (drop p.at.filled p.block)) q p.at.place
    unfolding after_read
    reads_fail e e-p e-k e-f e-l e-o e-w e-e e-b = rw e (failed_on e-p e-k e-f e-l e-o e-w e-e e-b)

    module _ {n : ℕ} (e : gave ≡ Some n) where
      pub reads_none : n ≡ 0 → Went (closed (standing p)) q p.at.place → Went (after_read (standing p) gave (drop p.at.filled p.block)) q p.at.place
      unfolding after_read
      reads_none h went = rw (e, eq-eqb n 0 h) went

      pub reads_some : (n ≡ 0 → ⊥) → Went (received (standing p) (take n (drop p.at.filled p.block))) q p.at.place
          → Went (after_read (standing p) gave (drop p.at.filled p.block)) q p.at.place
      unfolding after_read
      reads_some h went = rw (e, ne_eqb n 0 h) went

-- `next`
module _ (p : Run) where
  pub asks_none : p.at.failed ≡ true → Stop ≡ next (standing p)
  unfolding next
  asks_none h = rw h refl

  module _ (well : p.at.failed ≡ false) where
    pub asks_write : p.at.written < length p.lines.out.items → Write ≡ next (standing p)
    unfolding next
    asks_write h = rw (well, some_of (drop p.at.written p.lines.out.items) (rw (length-drop p.at.written p.lines.out.items) (omega arith))) refl

    module _ (h : length p.lines.out.items ≤ p.at.written) where
      none_left : some (drop p.at.written p.lines.out.items) ≡ false
      none_left = none_of (drop p.at.written p.lines.out.items) (rw (length-drop p.at.written p.lines.out.items) (omega arith))

      pub asks_end : p.at.ended ≡ true → Stop ≡ next (standing p)
      unfolding next
      asks_end e = rw (none_left, well, e) refl

      pub asks_read : p.at.ended ≡ false → Read ≡ next (standing p)
      unfolding next
      asks_read e = rw (none_left, well, e) refl

abbrev mk : ℕ → List Float → List ℕ → List ℕ → Bool → Bool → Standing
mk place limits begun pending ended failed = record { place = place; limits = limits; begun = begun; pending = pending; ended = ended; failed = failed }

module _ (place : ℕ) (limits : List Float) (begun : List ℕ) (h : Option ℕ) (behind : List ℕ) where
  stop_stays : (pending : List ℕ) (ended failed : Bool) → Stop ≡ next (mk place limits begun pending ended failed) → go_on (mk place limits begun pending ended failed) h behind ≡ mk place limits begun pending ended failed
  unfolding next go_on
  stop_stays pending ended true e = refl
  stop_stays (x ∷ xs) ended false e = let z : ◌≡◌ {A = ℕ} 0 1 = cc in absurd (omega arith)
  stop_stays [] true false e = refl
  stop_stays [] false false e = let z : ◌≡◌ {A = ℕ} 0 1 = cc in absurd (omega arith)

  write_goes : (pending : List ℕ) (ended failed : Bool) → Write ≡ next (mk place limits begun pending ended failed)
      → go_on (mk place limits begun pending ended failed) h behind ≡ after_write (mk place limits begun pending ended failed) h
  unfolding next go_on
  write_goes pending ended true e = let z : ◌≡◌ {A = ℕ} 0 1 = cc in absurd (omega arith)
  write_goes (x ∷ xs) ended false e = refl
  write_goes [] true false e = let z : ◌≡◌ {A = ℕ} 0 1 = cc in absurd (omega arith)
  write_goes [] false false e = let z : ◌≡◌ {A = ℕ} 0 1 = cc in absurd (omega arith)

  read_goes : (pending : List ℕ) (ended failed : Bool) → Read ≡ next (mk place limits begun pending ended failed)
      → go_on (mk place limits begun pending ended failed) h behind ≡ after_read (mk place limits begun pending ended failed) h behind
  unfolding next go_on
  read_goes pending ended true e = let z : ◌≡◌ {A = ℕ} 0 1 = cc in absurd (omega arith)
  read_goes (x ∷ xs) ended false e = let z : ◌≡◌ {A = ℕ} 0 1 = cc in absurd (omega arith)
  read_goes [] true false e = let z : ◌≡◌ {A = ℕ} 0 1 = cc in absurd (omega arith)
  read_goes [] false false e = refl

-- a write does not end the input
write_ends : (s : Standing) (h : Option ℕ) → (after_write s h).ended ≡ s.ended
unfolding after_write delivered broken
write_ends s (Some n) = either (eqb n 0)
  where
    either : (t : Bool) → (cond t (broken s) (record { place = s.place; limits = s.limits; begun = s.begun; pending = drop n s.pending; ended = s.ended; failed = s.failed })).ended ≡ s.ended
    either true = refl
    either false = refl
write_ends s None = refl

-- nor does a read that brings bytes
received_ends : (s : Standing) (new : List ℕ) → (received s new).ended ≡ s.ended
unfolding received full
received_ends s new = either (eqb (length (s.begun ++ new)) 512)
  where
    either : (t : Bool) → (cond t (full s (s.begun ++ new)) (record { place = s.place; limits = s.limits; begun = s.begun ++ new; pending = []; ended = s.ended; failed = s.failed })).ended ≡ s.ended
    either true = refl
    either false = refl

read_ends : (s : Standing) (h : Option ℕ) (behind : List ℕ) → (after_read s h behind).ended ≡ true → s.ended ≡ false → h ≡ Some 0
unfolding after_read broken
read_ends s (Some zero) behind is not = refl
read_ends s (Some (suc n)) behind is not =
    let more : eqb (suc n) 0 ≡ false = ne_eqb (suc n) 0 (λ z. omega arith) in
    let there = rw more at is in
    absurd (true≢false (sym there ∙ received_ends s (take (suc n) behind) ∙ not))
read_ends s None behind is not = absurd (true≢false (sym is ∙ not))

-- what was moved is what was asked
module _ (place : ℕ) (limits : List Float) (begun : List ℕ) (h : Option ℕ) (behind : List ℕ) where
  abbrev call : Call
  call = record { gave = h; behind = behind }

  pub stop_moves : (left held : Option (List ℕ)) (pending : List ℕ) (ended failed : Bool) → Stop ≡ next (mk place limits begun pending ended failed)
      → Moved (mk place limits begun pending ended failed) call left left held held
  unfolding next go_on reads writes
  stop_moves left held pending ended true e =
      record { consumed = Consumes-nil left; appended = Appends-nil held; ends = λ is not. absurd (true≢false (sym is ∙ not)) }
  stop_moves left held (x ∷ xs) ended false e = let z : ◌≡◌ {A = ℕ} 0 1 = cc in absurd (omega arith)
  stop_moves left held [] true false e =
      record { consumed = Consumes-nil left; appended = rw (take-nil {A = ℕ} (count h)) (Appends-nil held); ends = λ is not. absurd (true≢false (sym is ∙ not)) }
  stop_moves left held [] false false e = let z : ◌≡◌ {A = ℕ} 0 1 = cc in absurd (omega arith)

  pub write_moves : (left held₀ held : Option (List ℕ)) (pending : List ℕ) (ended failed : Bool) → Write ≡ next (mk place limits begun pending ended failed)
      → Appends held₀ held (take (count h) pending) → Moved (mk place limits begun pending ended failed) call left left held₀ held
  unfolding next go_on reads writes
  write_moves left held₀ held pending ended true e more = let z : ◌≡◌ {A = ℕ} 0 1 = cc in absurd (omega arith)
  write_moves left held₀ held (x ∷ xs) ended false e more =
      record {
        consumed = Consumes-nil left;
        appended = more;
        ends = λ is not. absurd (true≢false (sym is ∙ write_ends (mk place limits begun (x ∷ xs) ended false) h ∙ not));
      }
  write_moves left held₀ held [] true false e more = let z : ◌≡◌ {A = ℕ} 0 1 = cc in absurd (omega arith)
  write_moves left held₀ held [] false false e more = let z : ◌≡◌ {A = ℕ} 0 1 = cc in absurd (omega arith)

  pub read_moves : (left₀ left held : Option (List ℕ)) (pending : List ℕ) (ended failed : Bool) → Read ≡ next (mk place limits begun pending ended failed)
      → Consumes left₀ left (take (count h) behind) → (h ≡ Some 0 → IsAtEnd left) → Moved (mk place limits begun pending ended failed) call left₀ left held held
  unfolding next go_on reads writes
  read_moves left₀ left held pending ended true e more ends = let z : ◌≡◌ {A = ℕ} 0 1 = cc in absurd (omega arith)
  read_moves left₀ left held (x ∷ xs) ended false e more ends = let z : ◌≡◌ {A = ℕ} 0 1 = cc in absurd (omega arith)
  read_moves left₀ left held [] true false e more ends = let z : ◌≡◌ {A = ℕ} 0 1 = cc in absurd (omega arith)
  read_moves left₀ left held [] false false e more ends =
      record {
        consumed = more;
        appended = rw (take-nil {A = ℕ} (count h)) (Appends-nil held);
        ends = λ is not. ends (read_ends (mk place limits begun [] false false) h behind is not);
      }

module _ (p : Run) {ask : Ask} (long : length p.block ≡ 512) (asked : ask ≡ next (standing p)) where
  pending : List ℕ
  pending = drop p.at.written p.lines.out.items

  room : length (take p.at.filled p.block) + length (drop p.at.filled p.block) ≡ 512
  room = let r = p.room_left in rw (length-drop p.at.filled p.block, length-take p.at.filled p.block) (omega (arith, long, r))

  pub turned_stop : (left held : Option (List ℕ)) → ask ≡ Stop → Turned p p left left held held
  unfolding pending
  turned_stop left held e =
      let same = stop_stays p.at.place (numbers p.limits) (take p.at.filled p.block) None (drop p.at.filled p.block) pending p.at.ended p.at.failed (sym e ∙ asked) in
      record {
        gave = None;
        behind = drop p.at.filled p.block;
        room = room;
        went = record { stands = sym same; places = omega arith };
        moved = stop_moves p.at.place (numbers p.limits) (take p.at.filled p.block) None (drop p.at.filled p.block) left held pending p.at.ended p.at.failed (sym e ∙ asked);
      }

  pub turned_write : (left held₀ held : Option (List ℕ)) (gave : Option ℕ) {r : Run} → ask ≡ Write → Went (after_write (standing p) gave) r p.at.place
      → Appends held₀ held (take (count gave) (drop p.at.written p.lines.out.items)) → Turned p r left left held₀ held
  unfolding pending
  turned_write left held₀ held gave e went more =
      let goes = write_goes p.at.place (numbers p.limits) (take p.at.filled p.block) gave (drop p.at.filled p.block) pending p.at.ended p.at.failed (sym e ∙ asked) in
      record {
        gave = gave;
        behind = drop p.at.filled p.block;
        room = room;
        went = rw goes went;
        moved = write_moves p.at.place (numbers p.limits) (take p.at.filled p.block) gave (drop p.at.filled p.block) left held₀ held pending p.at.ended p.at.failed (sym e ∙ asked) more;
      }

  -- `block` is the block after the read
  pub turned_read : (left₀ left held : Option (List ℕ)) (gave : Option ℕ) (block : List ℕ) {r : Run} → ask ≡ Read
      → length block ≡ length p.block → take p.at.filled block ≡ take p.at.filled p.block
      → Consumes left₀ left (take (count gave) (drop p.at.filled block)) → (gave ≡ Some 0 → IsAtEnd left)
      → Went (after_read (mk p.at.place (numbers p.limits) (take p.at.filled block) (drop p.at.written p.lines.out.items) p.at.ended p.at.failed) gave (drop p.at.filled block)) r p.at.place
      → Turned p r left₀ left held held
  unfolding pending
  turned_read left₀ left held gave block e so_long begun more ends went =
      let goes = read_goes p.at.place (numbers p.limits) (take p.at.filled p.block) gave (drop p.at.filled block) pending p.at.ended p.at.failed (sym e ∙ asked) in
      let went' = rw begun at went in
      record {
        gave = gave;
        behind = drop p.at.filled block;
        room = let r = p.room_left in rw (length-drop p.at.filled block, length-take p.at.filled p.block) (omega (arith, so_long, long, r));
        went = rw goes went';
        moved = read_moves p.at.place (numbers p.limits) (take p.at.filled p.block) gave (drop p.at.filled block) left₀ left held pending p.at.ended p.at.failed (sym e ∙ asked) more ends;
      }
