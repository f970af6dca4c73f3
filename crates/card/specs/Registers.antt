-- The registers as they lie in memory: 516 bytes.
use Rattle.std.specs.Prelude.{ℕ, ◌/◌, ◌%◌, Bool, ◌&&◌, ◌||◌, List, ◌∷◌, eqb, leb, length, get_or, drop}
use Rattle.card.specs.Card.{Card, status}

unfoldable pub registers_of : Card → List ℕ
registers_of c = 0 ∷ status c ∷ c.mask ∷ c.flag ∷ c.block

-- the card of such bytes that has made so many steps
unfoldable pub card_of : List ℕ → ℕ → Card
card_of registers made =
    record {
      busy = eqb (get_or registers 1 0 % 2) 1;
      done = eqb (get_or registers 1 0 / 2 % 2) 1;
      refused = eqb (get_or registers 1 0 / 4 % 2) 1;
      mask = get_or registers 2 0;
      flag = get_or registers 3 0;
      block = drop 4 registers;
      made = made;
    }

-- bytes that calls lead to: no command, and a card that is idle, busy, done, or done and refused; its flag is 0 or 1
unfoldable pub proper : List ℕ → Bool
proper registers =
    eqb (length registers) 516
    && (eqb (get_or registers 0 0) 0
    && (leb (get_or registers 3 0) 1
    && (leb (get_or registers 1 0) 2 || eqb (get_or registers 1 0) 6)))
