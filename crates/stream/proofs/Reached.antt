-- The calls by which the program came to where it stands, and what they moved.
use Prim.Native.Nat.{ℕ, ◌+◌, ◌-◌, ◌≤◌, ◌^◌}
use mathlib.Core.Path.{◌≡◌, refl, sym, ap, ◌∙◌}
use mathlib.Core.Bool.{Bool, true, false, cond, true≢false}
use mathlib.Core.List.{List, [], ◌∷◌, ◌++◌}
use native.Mathlib.Omega.{arith}
use lib.ListN.{length, length-append}
use Rattle.std.proofs.Common.{Option, IfSome, None, subst, append-nil, append_assoc}
use Rattle.std.proofs.KnownBytes.{Consumes-nil, Consumes-trans, Consumes-all, Appends-nil, Appends-trans}
use Rattle.std.specs.Io.KnownBytes.{Appends, Consumes}
use Rattle.stream.specs.Standing.{Standing, start, some, next, go_on}
use Rattle.stream.specs.Calls.{Call, after, reads, writes, all_read, all_written, Fitting, Served, Copied}
use Rattle.stream.specs.Progress.{standing, Turned}
use Rattle.stream.specs.declared.progress.Ask.{Ask}
use Rattle.stream.specs.declared.progress.Ask.TheVariants.{Stop}
use Rattle.stream.specs.declared.progress.Run.{Run}
use Rattle.stream.proofs.Right.{after_one, fitting_one, right}

-- one call more
read_one : (s : Standing) (calls : List Call) (c : Call) → all_read s (calls ++ (c ∷ [])) ≡ all_read s calls ++ reads (after s calls) c
unfolding all_read after
read_one s [] c = append-nil (reads s c)
read_one s (d ∷ calls) c =
    let then = go_on s d.gave d.behind in
    ap (λ (l : List ℕ). reads s d ++ l) (read_one then calls c) ∙ sym (append_assoc (reads s d) (all_read then calls) (reads (after then calls) c))

written_one : (s : Standing) (calls : List Call) (c : Call) → all_written s (calls ++ (c ∷ [])) ≡ all_written s calls ++ writes (after s calls) c
unfolding all_written after
written_one s [] c = append-nil (writes s c)
written_one s (d ∷ calls) c =
    let then = go_on s d.gave d.behind in
    ap (λ (l : List ℕ). writes s d ++ l) (written_one then calls c) ∙ sym (append_assoc (writes s d) (all_written then calls) (writes (after then calls) c))

-- nothing is read past the end
ended_reads : (s : Standing) (c : Call) → s.ended ≡ true → reads s c ≡ []
unfolding reads
ended_reads s c e = rw e (none s.failed (some s.pending))
  where
    none : (a b : Bool) → cond {A = List ℕ} a [] (cond b [] []) ≡ []
    none true b = refl
    none false true = refl
    none false false = refl

-- n calls were made, each a place at most further on
pub record Reached (p : Run) (n : ℕ) (left₀ left held₀ held : Option (List ℕ)) : Type 0 where
  pub calls : List Call
  pub counted : length calls ≡ n
  pub places : p.at.place ≤ n
  pub fitting : Fitting start calls
  pub came : after start calls ≡ standing p
  pub consumed : Consumes left₀ left (all_read start calls)
  pub appended : Appends held₀ held (all_written start calls)
  pub all_of_it : p.at.ended ≡ true → IfSome left₀ (λ input. all_read start calls ≡ input)

module _ (left₀ held₀ : Option (List ℕ)) where
  pub none_made : (p : Run) → standing p ≡ start → Reached p 0 left₀ left₀ held₀ held₀
  unfolding after Fitting all_read all_written
  none_made p stands =
      record {
        calls = [];
        counted = refl;
        places = omega (arith, ap (λ (s : Standing). s.place) stands);
        fitting = tt;
        came = sym stands;
        consumed = Consumes-nil left₀;
        appended = Appends-nil held₀;
        all_of_it = λ is. absurd (true≢false (sym is ∙ ap (λ (s : Standing). s.ended) stands));
      }

  module _ (p : Run) (n : ℕ) (left held : Option (List ℕ)) (r : Reached p n left₀ left held₀ held) where
    module _ (q : Run) (left' held' : Option (List ℕ)) (t : Turned p q left left' held held') where
      abbrev call : Call
      call = record { gave = t.gave; behind = t.behind }

      all_consumed : Consumes left₀ left' (all_read start (r.calls ++ (call ∷ [])))
      all_consumed =
          let m = t.moved in
          rw (read_one start r.calls call, r.came) (Consumes-trans left₀ left left' _ _ r.consumed m.consumed)

      all_appended : Appends held₀ held' (all_written start (r.calls ++ (call ∷ [])))
      all_appended =
          let m = t.moved in
          rw (written_one start r.calls call, r.came) (Appends-trans held₀ held held' _ _ r.appended m.appended)

      all_there : (ended : Bool) → p.at.ended ≡ ended → q.at.ended ≡ true → IfSome left₀ (λ input. all_read start (r.calls ++ (call ∷ [])) ≡ input)
      all_there true e is =
          let same : all_read start (r.calls ++ (call ∷ [])) ≡ all_read start r.calls =
          read_one start r.calls call ∙ ap (λ (s : Standing). all_read start r.calls ++ reads s call) r.came
          ∙ ap (λ (l : List ℕ). all_read start r.calls ++ l) (ended_reads (standing p) call e) ∙ append-nil (all_read start r.calls) in
          subst (λ (xs : List ℕ). IfSome left₀ (λ input. xs ≡ input)) (sym same) (r.all_of_it e)
      all_there false e is =
          let m = t.moved in
          let went = t.went in
          let ends = m.ends (ap (λ (s : Standing). s.ended) (sym went.stands) ∙ is) e in
          Consumes-all left₀ left' (all_read start (r.calls ++ (call ∷ []))) [] (all_read start (r.calls ++ (call ∷ []))) all_consumed ends refl

      pub one_more : Reached q (n + 1) left₀ left' held₀ held'
      one_more =
          let went = t.went in
          let room : length (after start r.calls).begun + length call.behind ≡ 512 = rw r.came (t.room) in
          record {
            calls = r.calls ++ (call ∷ []);
            counted = rw (length-append r.calls (call ∷ [])) (omega (arith, r.counted));
            places = omega (arith, went.places, r.places);
            fitting = fitting_one start r.calls call r.fitting room;
            came = rw (after_one start r.calls call, r.came) (sym went.stands);
            consumed = all_consumed;
            appended = all_appended;
            all_of_it = all_there p.at.ended refl;
          }

    pub served_out : 2 ^ 64 - 2 ≤ n → Served (standing p) (2 ^ 64 - 2)
    served_out h = record { calls = r.calls; fitting = r.fitting; came = r.came; done = λ few. absurd (omega (arith, r.counted)) }

    pub served_all : {ask : Ask} → ask ≡ next (standing p) → ask ≡ Stop → Served (standing p) (2 ^ 64 - 2)
    served_all asked e = record { calls = r.calls; fitting = r.fitting; came = r.came; done = λ _. sym asked ∙ e }

    pub copied : Copied (standing p) left₀ left held₀ held
    copied =
        let all = right r.calls r.fitting in
        record {
          read = all_read start r.calls;
          written = all_written start r.calls;
          consumed = r.consumed;
          appended = r.appended;
          all_of_it = r.all_of_it;
          whole = λ e f. all.whole (ap (λ (s : Standing). s.ended) r.came ∙ e) (ap (λ (s : Standing). s.pending) r.came ∙ f);
          rest = all.rest;
          beginning = all.beginning;
        }
