-- What a way gives, as a part of the search's definition: one part within another, one evaluation, then the rest. Assumes nothing.
use mathlib.Core.Path.{◌≡◌, refl, sym, ◌∙◌, ap}
use mathlib.Core.List.{List, [], ◌∷◌}
use lib.Ieee.{Float}
use Rattle.search_definition.specs.Found.{Entry, Out, nothing, asks, ◌then◌}
use Rattle.search_definition.proofs.Bounds.{then_assoc, then_nothing}
use Rattle.search_steps.specs.Way.{Way, pause, over, adding, chain}

-- pairs with no evaluation
abbrev pub emits : List Entry → Out
emits e = record { found = e; asked = [] }

-- one evaluation, then the rest
abbrev pub ask : Float → Out → Out
ask x o = asks (x ∷ []) then o

module _ {S : Type 0} (out : S → Out) where
  unfoldable pub way_out : Way S → Out
  way_out (pause e s) = emits e then out s
  way_out (over e) = emits e

  pub adding_out : (e : List Entry) (w : Way S) → way_out (adding e w) ≡ emits e then way_out w
  unfolding adding way_out
  adding_out e (pause d s) = sym (then_assoc (emits e) (emits d) (out s))
  adding_out e (over d) = refl

  pub paused : (s : S) → way_out (pause [] s) ≡ out s
  unfolding way_out
  paused s = refl

module _ {S T : Type 0} (out : S → Out) (big : T → Out) (up : S → T) (rest : Out) (whole : (s : S) → big (up s) ≡ out s then rest) (w : Way T) (e : way_out big w ≡ rest) where
  pub chain_out : (a : Way S) → way_out big (chain up a w) ≡ way_out out a then rest
  unfolding chain way_out
  chain_out (pause d s) = ap (λ (z : Out). emits d then z) (whole s) ∙ then_assoc (emits d) (out s) rest
  chain_out (over d) = adding_out big d w ∙ ap (λ (z : Out). emits d then z) e

  -- one evaluation of the small part is one of the large
  pub chain_once : (s : S) (x : Float) (a : Way S) → out s ≡ ask x (way_out out a) → big (up s) ≡ ask x (way_out big (chain up a w))
  chain_once s x a h = whole s ∙ ap (λ (z : Out). z then rest) h ∙ ap (ask x) (sym (chain_out a))

-- a part that is the last of the larger one
module _ {S T : Type 0} (out : S → Out) (big : T → Out) (up : S → T) (whole : (s : S) → big (up s) ≡ out s) where
  last_whole : (s : S) → big (up s) ≡ out s then nothing
  last_whole s = whole s ∙ sym (then_nothing (out s))

  last_over : way_out big (over []) ≡ nothing
  unfolding way_out
  last_over = refl

  pub last_out : (a : Way S) → way_out big (chain up a (over [])) ≡ way_out out a
  last_out a = chain_out out big up nothing last_whole (over []) last_over a ∙ then_nothing (way_out out a)

  pub last_once : (s : S) (x : Float) (a : Way S) → out s ≡ ask x (way_out out a) → big (up s) ≡ ask x (way_out big (chain up a (over [])))
  last_once s x a h = chain_once out big up nothing last_whole (over []) last_over s x a h
