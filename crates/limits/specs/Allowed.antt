-- What the filtered list is: some of the answers, in their order, and exactly those inside.
use Rattle.std.specs.Prelude.{◌≤◌, ◌≡◌, true, false, List, [], ◌∷◌, Float, length}
use Rattle.answers.specs.declared.Answer.{Answer}
use Rattle.limits.specs.Limits.{inside, allowed}

-- the second list is the first with the answers left out that are outside, and no other; all stay in order
pub data Filtered (limits : List Float) : List Answer → List Answer → Type 0 where
  none : Filtered limits [] []
  stays : {q : Answer} {all some : List Answer} → inside limits q ≡ true → Filtered limits all some → Filtered limits (q ∷ all) (q ∷ some)
  leaves : {q : Answer} {all some : List Answer} → inside limits q ≡ false → Filtered limits all some → Filtered limits (q ∷ all) some

pub record Allowed (limits : List Float) (all : List Answer) : Type 0 where
  pub filtered : Filtered limits all (allowed limits all)
  pub no_more : length (allowed limits all) ≤ length all
