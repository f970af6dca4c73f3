-- The machine's step, by where the code is and what its calls gave. Assumes nothing.
use Rattle.std.proofs.Common.{◌≡◌, refl, sym, ◌∙◌, ap, ap₂, subst, List, [], ◌∷◌, ◌++◌, ℕ, suc, ◌-◌, ◌≤◌, ◌<◌, arith, length, Float}
use Rattle.std.specs.Prelude.{Option, Some, None}
use Rattle.std.specs.Option.{option_map}
use Rattle.std.proofs.lemmas.List.{map-append}
use Rattle.search_definition.specs.Found.{Entry}
use Rattle.search_definition.specs.Search.{angle}
use Rattle.search_steps.specs.Way.{Way, pause, over}
use Rattle.search_steps.specs.Steps.{Samples, more, Phase, sampling, ended, State, arrive, components_way, start, angle_in, angle_of, next_in, next}
use Rattle.search_steps.specs.Run.{step}
use Rattle.search_error.specs.Fixed.{error_of, error_at}
use Rattle.search_error.specs.declared.Fixed.{Fixed}
use Rattle.step_refine.specs.Point as DeclaredPoint
use Rattle.step_pairs.specs.declared.Found as DeclaredFound
use Rattle.step_pairs.specs.Landed.{putting, Landed, landed, came}
use Rattle.step_pairs.proofs.LandedLaws.{putting_both}
use Rattle.step_scan.specs.State.{value, samples_of}
use Rattle.search_pairs.specs.declared.row.Sample as DeclaredSample
use Rattle.step_component.specs.State.{component_of}
use Rattle.step_phase.specs.State.{place_of, searched}
use Rattle.step_phase.specs.declared.phase.Place as DeclaredPlace
use Rattle.step_search.specs.Holds.{Memory, memory, values, phase_of, Holds, phase_at}
use Rattle.step_search.specs.declared.SearchPhase as Declared
use Rattle.step_search.specs.declared.SearchPhase.TheVariants.{Sampling, Searching, Ended}

-- ---- where a way leads to
module _ (room : ℕ) (S : Samples) (l : List Entry) where
  arrive_samples : (w : Way Phase) → (arrive S l w).samples ≡ S
  unfolding arrive
  arrive_samples (pause e p) = refl
  arrive_samples (over e) = refl

  arrive_phase : (h : List DeclaredFound.Found) (w : Way Phase) → phase_at (landed room h w).now_at ≡ (arrive S l w).phase
  unfolding arrive landed
  arrive_phase h (pause e p) = refl
  arrive_phase h (over e) = refl

  arrive_list : (h : List DeclaredFound.Found) (w : Way Phase) → (landed room (putting room h l) w).list ≡ putting room h (arrive S l w).found
  unfolding arrive landed
  arrive_list h (pause e p) = sym (putting_both room h l e)
  arrive_list h (over e) = sym (putting_both room h l e)

-- r is where the code of the walk has come to, k the list that it left, and f the same as the whole search's
pub arrives : (n room : ℕ) (S : Samples) (l : List Entry) (w : Way Phase) (s : List DeclaredSample.Sample) (q : List DeclaredPoint.Point) (h k : List DeclaredFound.Found) (r : Option DeclaredPlace.Place) (f : Declared.SearchPhase) → h ≡ putting room [] l → came (place_of n q) k r ≡ landed room h w → phase_of n s q f ≡ phase_at (option_map (place_of n q) r) → samples_of s ≡ S → Holds n room (arrive S l w) f (memory s q k)
arrives n room S l w s q h k r f eh e a es =
    record {
      phase = a ∙ sym (now r) ∙ ap (λ (x : Landed Phase). phase_at x.now_at) e ∙ arrive_phase room S l h w;
      samples = es ∙ sym (arrive_samples room S l w);
      pairs = sym (kept r) ∙ ap (λ (x : Landed Phase). x.list) e ∙ ap (λ (z : List DeclaredFound.Found). (landed room z w).list) eh ∙ arrive_list room S l [] w;
    }
  where
    now : (r : Option DeclaredPlace.Place) → phase_at (came (place_of n q) k r).now_at ≡ phase_at (option_map (place_of n q) r)
    now (Some p) = refl
    now None = refl

    kept : (r : Option DeclaredPlace.Place) → (came (place_of n q) k r).list ≡ k
    kept (Some p) = refl
    kept None = refl

-- ---- a sample
pub sample_put : (s : List DeclaredSample.Sample) (x : Float) (e : List Float) → samples_of (s ++ (record { x = x; y = e } ∷ [])) ≡ more (samples_of s) x (values e)
unfolding more
sample_put s x e =
    let l : List DeclaredSample.Sample = record { x = x; y = e } ∷ [] in
    λ i. record {
      xs = map-append (λ (s : DeclaredSample.Sample). s.x) s l i;
      y0 = map-append (value 0) s l i;
      y1 = map-append (value 1) s l i;
      y2 = map-append (value 2) s l i;
      y3 = map-append (value 3) s l i;
    }

-- k samples are taken, t is with the next one, and m the memory before
module _ (n room : ℕ) (s : State) (e : List Float) (m : Memory) (h : Holds n room s Sampling m) (t : List DeclaredSample.Sample) {x : Float} (ex : x ≡ angle n (length m.samples)) (put : t ≡ m.samples ++ (record { x = x; y = e } ∷ [])) where
  abbrev k : ℕ
  k = length m.samples

  abbrev before : Samples
  before = samples_of m.samples

  abbrev after : Samples
  after = more before (angle n k) (values e)

  step_is : (c : ℕ) → n - k ≡ c → next n s (values e) ≡ next_in n before s.found (sampling c k) (values e)
  unfolding next
  step_is c d =
      ap₂ (λ (T : Samples) (p : Phase). next_in n T s.found p (values e)) (sym h.samples) (sym h.phase ∙ ap (λ (z : ℕ). sampling z k) d)

  samples_are : samples_of t ≡ after
  samples_are = ap samples_of put ∙ sample_put m.samples x e ∙ ap (λ (z : Float). more before z (values e)) ex

  longer : length t ≡ suc k
  longer = ap length put ∙ length_more m.samples
    where
      length_more : (l : List DeclaredSample.Sample) → length (l ++ (record { x = x; y = e } ∷ [])) ≡ suc (length l)
      length_more [] = refl
      length_more (y ∷ l) = ap suc (length_more l)

  pub sample_goes : (r : List DeclaredPoint.Point) → k < n → Holds n room (next n s (values e)) Sampling (memory t r m.found)
  unfolding next_in
  sample_goes r l =
      let d : n - k ≡ suc (n - suc k) = omega arith in
      subst (λ (z : State). Holds n room z Sampling (memory t r m.found)) (sym (step_is (suc (n - suc k)) d))
      (record { phase = ap (λ (z : ℕ). sampling (n - z) z) longer; samples = samples_are; pairs = h.pairs })

  pub sample_ends : (q : List DeclaredPoint.Point) (k' : List DeclaredFound.Found) (r : Option DeclaredPlace.Place) (f : Declared.SearchPhase) → n ≤ k → came (place_of n q) k' r ≡ landed room m.found (components_way n (samples_of t) 4 0) → phase_of n t q f ≡ phase_at (option_map (place_of n q) r) → Holds n room (next n s (values e)) f (memory t q k')
  unfolding next_in
  sample_ends q k' r f kn a b =
      let z : n - k ≡ 0 = omega arith in
      subst (λ (u : State). Holds n room u f (memory t q k')) (sym (step_is 0 z))
      (arrives n room after s.found (components_way n after 4 0) t q m.found k' r f h.pairs (a ∙ ap (λ (T : Samples). landed room m.found (components_way n T 4 0)) samples_are) b samples_are)

-- ---- a component
pub component_goes : (n room : ℕ) (s : State) (e : List Float) (p : DeclaredPlace.Place) (m : Memory) → Holds n room s (Searching p) m → (q : List DeclaredPoint.Point) (k : List DeclaredFound.Found) (r : Option DeclaredPlace.Place) (f : Declared.SearchPhase) (t : List DeclaredSample.Sample) → t ≡ m.samples → came (place_of n q) k r ≡ landed room m.found (searched n (samples_of t) p.i (component_of n m.row p.at) (values e p.i)) → phase_of n m.samples q f ≡ phase_at (option_map (place_of n q) r) → Holds n room (next n s (values e)) f (memory m.samples q k)
unfolding next next_in
component_goes n room s e p m h q k r f t et a b =
    let S = samples_of m.samples in
    let w = searched n S p.i (component_of n m.row p.at) (values e p.i) in
    let to : next n s (values e) ≡ arrive S s.found w = ap₂ (λ (T : Samples) (p : Phase). next_in n T s.found p (values e)) (sym h.samples) (sym h.phase) in
    subst (λ (t : State). Holds n room t f (memory m.samples q k)) (sym to)
    (arrives n room S s.found w m.samples q m.found k r f h.pairs (a ∙ ap (λ (l : List DeclaredSample.Sample). landed room m.found (searched n (samples_of l) p.i (component_of n m.row p.at) (values e p.i))) et) b refl)

-- ---- any phase
module _ (n room : ℕ) (s : State) (f : Declared.SearchPhase) (m : Memory) where
  pub holds_at : (p : Declared.SearchPhase) → f ≡ p → Holds n room s f m → Holds n room s p m
  holds_at p e h = subst (λ (z : Declared.SearchPhase). Holds n room s z m) e h

  pub ended_stays : (v : ℕ → Float) → f ≡ Ended → Holds n room s f m → Holds n room (next n s v) f m
  unfolding next next_in
  ended_stays v e h =
      let d : ended ≡ s.phase = sym (ap (phase_of n m.samples m.row) e) ∙ h.phase in
      let t : State = record { samples = s.samples; found = s.found; phase = ended } in
      let to : next n s v ≡ t = ap (λ (p : Phase). next_in n s.samples s.found p v) (sym d) in
      subst (λ (z : State). Holds n room z f m) (sym to) (record { phase = ap (phase_of n m.samples m.row) e; samples = h.samples; pairs = h.pairs })

  -- the angle that the code asks is the machine's
  pub same_angle : Holds n room s f m → angle_in n (samples_of m.samples) (phase_of n m.samples m.row f) ≡ angle_of n s
  unfolding angle_of
  same_angle h = ap₂ (angle_in n) h.samples h.phase

-- a step's values are the error's at the angle that the state asks
pub error_steps : (given : Fixed) (n room : ℕ) (s : State) (g : Declared.SearchPhase) (w : Memory) {x : Float} (e : List Float) → e ≡ error_of given x → x ≡ angle_of n s → Holds n room (next n s (values e)) g w → Holds n room (step (error_at given) n s) g w
unfolding step error_at
error_steps given n room s g w e ee ex h =
    subst (λ (l : List Float). Holds n room (next n s (values l)) g w) (ee ∙ ap (error_of given) ex) h

pub starts : (n room : ℕ) (t : List DeclaredSample.Sample) (r : List DeclaredPoint.Point) (k : List DeclaredFound.Found) → t ≡ [] → k ≡ [] → Holds n room (start n) Sampling (memory t r k)
unfolding start putting
starts n room t r k et ek =
    let e : n - 0 ≡ n = omega arith in
    record {
      phase = ap (λ (l : List DeclaredSample.Sample). sampling (n - length l) (length l)) et ∙ ap (λ (k : ℕ). sampling k 0) e;
      samples = ap samples_of et;
      pairs = ek;
    }
