-- What a way does to the list of pairs: one part within another, and a pair more.
use Rattle.std.proofs.Common.{◌≡◌, refl, sym, ◌∙◌, ap, ℕ, ◌<◌, ◌≤◌, Bool, true, cond, List, [], ◌∷◌, ◌++◌, length, Float}
use Rattle.std.specs.Prelude.{Option, Some, None}
use Rattle.std.specs.Option.{option_map}
use Rattle.std.proofs.lemmas.Bool.{lt-ltb, le-ltb}
use Rattle.search_definition.specs.Found.{Entry, Origin, component}
use Rattle.search_steps.specs.Way.{Way, pause, over, adding, chain}
use Rattle.step_pairs.specs.declared.Found.{Found}
use Rattle.step_pairs.specs.Landed.{entry_of, put_one, putting, Landed, landing, landed, came}

module _ (room : ℕ) where
  pub putting_both : (h : List Found) (a b : List Entry) → putting room h (a ++ b) ≡ putting room (putting room h a) b
  unfolding putting
  putting_both h [] b = refl
  putting_both h (e ∷ a) b = putting_both (put_one room h e) a b

  pub adding_landed : {S : Type 0} (h : List Found) (e : List Entry) (w : Way S) → landed room h (adding e w) ≡ landed room (putting room h e) w
  unfolding adding landed
  adding_landed h e (pause d s) = ap (λ (z : List Found). landing z (Some s)) (putting_both h e d)
  adding_landed h e (over d) = ap (λ (z : List Found). landing z None) (putting_both h e d)

  -- where a part is over, the larger one goes on as w
  abbrev followed : {S U : Type 0} → (S → U) → Way U → Landed S → Landed U
  followed up w l = elim l.now_at [ Some s ↦ landing l.list (Some (up s)) | None ↦ landed room l.list w ]

  chain_landed : {S U : Type 0} (up : S → U) (h : List Found) (w : Way U) (a : Way S) → followed up w (landed room h a) ≡ landed room h (chain up a w)
  unfolding chain landed
  chain_landed up h w (pause e s) = refl
  chain_landed up h w (over e) = sym (adding_landed h e w)

  pub chain_of_nothing : {S U : Type 0} (up : S → U) (h : List Found) (w : Way U) → landed room h w ≡ landed room h (chain up (over []) w)
  unfolding chain putting
  chain_of_nothing up h w = sym (adding_landed h [] w)

  -- two ways that come to the same from any list
  pub chain_same : {S U : Type 0} (up : S → U) (h : List Found) (a : Way S) (v w : Way U) → ((k : List Found) → landed room k v ≡ landed room k w) → landed room h (chain up a v) ≡ landed room h (chain up a w)
  unfolding chain landed
  chain_same up h (pause e s) v w q = refl
  chain_same up h (over e) v w q = adding_landed h e v ∙ q (putting room h e) ∙ sym (adding_landed h e w)

  -- a part within a larger one, by what the part's code left and returned: it asks, or the larger part goes on as w
  module _ {T S U : Type 0} (f : T → S) (up : S → U) (h : List Found) (a : Way S) (w : Way U) where
    pub part_asks : {k : List Found} {r : Option T} (t : T) → came f k r ≡ landed room h a → r ≡ Some t → landing k (Some (up (f t))) ≡ landed room h (chain up a w)
    part_asks {k} t e d =
        ap (λ (z : Option T). followed up w (came f k z)) (sym d) ∙ ap (followed up w) e ∙ chain_landed up h w a

    pub part_over : (k : List Found) {r : Option T} {l : Landed U} → came f k r ≡ landed room h a → r ≡ None → l ≡ landed room k w → l ≡ landed room h (chain up a w)
    part_over k e d b =
        b
        ∙ ap (λ (z : Option T). followed up w (came f k z)) (sym d)
        ∙ ap (followed up w) e
        ∙ chain_landed up h w a

  -- a is a way without what follows it, and b with w behind it
  abbrev pub Joined : {S : Type 0} → List Found → Way S → Way S → Way S → Type 0
  Joined h a w b = landed room h b ≡ followed (λ s. s) w (landed room h a)

  pub joined : {S U : Type 0} (up : S → U) (h : List Found) (a : Way S) (w : Way U) → Joined h (chain up a (over [])) w (chain up a w)
  unfolding chain landed putting
  joined up h (pause e s) w = refl
  joined up h (over e) w = adding_landed h e w ∙ sym (ap (followed (λ s. s) w) (adding_landed h e (over [])))

  pub joined_nothing : {S : Type 0} (h : List Found) (w : Way S) → Joined h (over []) w w
  unfolding landed putting
  joined_nothing h w = refl

  module _ {T S : Type 0} (f : T → S) (h : List Found) (a w b : Way S) (j : Joined h a w b) where
    pub then_asks : (k : List Found) {r : Option T} (t : T) → came f k r ≡ landed room h a → r ≡ Some t → landing k (Some (f t)) ≡ landed room h b
    then_asks k t e d = ap (λ (z : Option T). followed (λ s. s) w (came f k z)) (sym d) ∙ ap (followed (λ s. s) w) e ∙ sym j

    pub then_over : (k : List Found) {r : Option T} {l : Landed S} → came f k r ≡ landed room h a → r ≡ None → l ≡ landed room k w → l ≡ landed room h b
    then_over k e d i =
        i ∙ ap (λ (z : Option T). followed (λ s. s) w (came f k z)) (sym d) ∙ ap (followed (λ s. s) w) e ∙ sym j

  -- the same where the part is the larger one's last: g reads what the larger part's code returns
  pub part_ends : {T S V U : Type 0} (f : T → S) (g : V → U) (con : T → V) (up : S → U) (h k : List Found) (a : Way S) → ((t : T) → g (con t) ≡ up (f t))
      → (r : Option T) (s : Option V) → came f k r ≡ landed room h a → s ≡ option_map con r → came g k s ≡ landed room h (chain up a (over []))
  unfolding landed putting
  part_ends f g con up h k a q (Some t) s e d =
      ap (came g k) d ∙ ap (λ (z : _). landing k (Some z)) (q t) ∙ part_asks f up h a (over []) t e refl
  part_ends f g con up h k a q None s e d = ap (came g k) d ∙ part_over f up h a (over []) k e refl refl

  -- ---- a pair more
  module _ (h : List Found) (x : Float) (i : ℕ) where
    abbrev more : List Found
    more = h ++ (record { q1 = x; component = i } ∷ [])

    kept : Bool → ℕ → List Found
    kept b j = cond b (h ++ (record { q1 = x; component = j } ∷ [])) h

    pub no_room : room ≤ length h → (o : Origin) → component o ≡ i → h ≡ put_one room h (entry_of x o)
    unfolding put_one kept
    no_room l o e = sym (ap (λ (b : Bool). kept b (component o)) (le-ltb (length h) room l))

    pub put_there : length h < room → (o : Origin) → component o ≡ i → more ≡ put_one room h (entry_of x o)
    unfolding put_one kept
    put_there l o e = ap (kept true) (sym e) ∙ sym (ap (λ (b : Bool). kept b (component o)) (lt-ltb (length h) room l))

  -- ---- a way that is over at once, and one that asks at once
  pub nothing : {S : Type 0} (h : List Found) → landing h None ≡ landed {S = S} room h (over [])
  unfolding landed putting
  nothing h = refl

  pub asks : {S : Type 0} (h : List Found) (s : S) → landing h (Some s) ≡ landed room h (pause [] s)
  unfolding landed putting
  asks h s = refl
