-- `search_pairs::row::not_a_number` meets its contract. Assumes nothing.
use mathlib.Core.Path.{refl}
use lib.Ieee.{div, of_bits}
use Rattle.search_pairs.proofs.row.not_a_number.Goals as goal

pub returns : goal.returns
unfolding div of_bits
returns c = refl
