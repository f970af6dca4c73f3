-- Answers read back from two lists that hold them one after the other.
use Rattle.std.specs.Prelude.{ℕ, zero, suc, ◌+◌, ◌*◌, List, [], ◌∷◌, eqb, Float, get_or, drop}
use Rattle.std.specs.Float.{nan}
use Rattle.answers.specs.declared.Answer.{Answer}

-- answer k
unfoldable pub read : List Float → List ℕ → ℕ → Answer
read angles flags k =
    record {
      q1 = get_or angles (6 * k) nan;
      q2 = get_or angles (6 * k + 1) nan;
      q3 = get_or angles (6 * k + 2) nan;
      q4 = get_or angles (6 * k + 3) nan;
      q5 = get_or angles (6 * k + 4) nan;
      q6 = get_or angles (6 * k + 5) nan;
      is_ls = eqb (get_or flags k 0) 1;
    }

-- the first n answers
unfoldable pub held : ℕ → List Float → List ℕ → List Answer
unfolding read
held zero angles flags = []
held (suc n) angles flags = read angles flags 0 ∷ held n (drop 6 angles) (drop 1 flags)
