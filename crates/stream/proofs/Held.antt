-- Document 02's words on limits blocks hold of the output.
use Prim.Native.Nat.{ℕ, ◌+◌}
use mathlib.Core.Path.{◌≡◌, refl, sym, ◌∙◌}
use mathlib.Core.Bool.{true, false}
use mathlib.Core.List.{List, [], ◌∷◌, ◌++◌, append_assoc}
use lib.Ieee.{Float}
use Rattle.limits.specs.Limits.{refusal_10}
use Rattle.limits_block.specs.LimitsBlock.{is_limits, limits as brought, limits_refusal, accepted, in_force}
use Rattle.limits_block.proofs.Accepted.{accepted_is_limits, another_block}
use Rattle.limits_block.proofs.InForce.{taken, kept, in_force_accepted}
use Rattle.text.specs.Lists.{head}
use Rattle.lines.specs.Lines.{pose_lines, limits_lines, lines}
use Rattle.stream.specs.Output.{place_after, printed}
use Rattle.stream.specs.Held.{One, place_behind, holding, NoneAccepted, Held}

module _ (block : List ℕ) (place : ℕ) (limits : List Float) where
  no_line : accepted block ≡ true → lines block place limits ≡ []
  unfolding lines limits_lines
  no_line h = rw (accepted_is_limits block h, h)

  its_line : is_limits block ≡ true → accepted block ≡ false → lines block place limits ≡ head place (limits_refusal block) 0 0
  unfolding lines limits_lines
  its_line is h = rw (is, h)

  solved : is_limits block ≡ false → lines block place limits ≡ pose_lines block place limits
  unfolding lines
  solved not = rw not

  no_place : accepted block ≡ true → place_after block place ≡ place
  unfolding place_after
  no_place h = rw h

  counted : accepted block ≡ false → place_after block place ≡ place + 1
  unfolding place_after
  counted h = rw h

  pub one : One block place limits
  one =
      record {
        no_line = no_line;
        no_place = no_place;
        new_limits = taken block limits;
        its_line = its_line;
        solved = solved;
        others = another_block block;
        counted = counted;
        no_change = kept block limits;
      }

behind : (before rest : List (List ℕ)) (place : ℕ) (limits : List Float)
    → printed place limits (before ++ rest) ≡ printed place limits before ++ printed (place_behind before place) (holding before limits) rest
unfolding printed place_behind holding
behind [] rest place limits = refl
behind (block ∷ before) rest place limits =
    let next = place_after block place in
    let now-held = in_force block limits in
    let others = printed (place_behind before next) (holding before now-held) rest in
    rw (behind before rest next now-held) (sym (append_assoc (lines block place limits) (printed next now-held before) others))

none : (before : List (List ℕ)) (limits : List Float) → NoneAccepted before → holding before limits ≡ limits
unfolding holding NoneAccepted
none [] limits h = refl
none (block ∷ before) limits h = rw (kept block limits h.0) (none before limits h.1)

last : (before : List (List ℕ)) (limits : List Float) (block : List ℕ) (between : List (List ℕ)) → accepted block ≡ true → NoneAccepted between
    → holding (before ++ (block ∷ between)) limits ≡ brought block
unfolding holding
last [] limits block between h quiet = none between (in_force block limits) quiet ∙ taken block limits h
last (first ∷ before) limits block between h quiet = last before (in_force first limits) block between h quiet

never_10 : (before : List (List ℕ)) (limits : List Float) → refusal_10 limits ≡ 0 → refusal_10 (holding before limits) ≡ 0
unfolding holding
never_10 [] limits e = e
never_10 (block ∷ before) limits e = never_10 before (in_force block limits) (in_force_accepted block limits e)

pub held : (before : List (List ℕ)) (place : ℕ) (limits : List Float) → Held before place limits
held before place limits =
    record {
      behind = λ rest. behind before rest place limits;
      last = last before limits;
      none = none before limits;
      never_10 = never_10 before limits;
    }
