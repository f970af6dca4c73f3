-- What a contract sees of a list that lies in the value itself.
use Rattle.std.specs.Prelude.{ℕ, List, length}

-- the items in order, and what stands in the places behind them, of which no clause says anything
pub record ArrayVec (T : Type 0) : Type 0 where
  pub items : List T
  pub spare : List T

abbrev pub array_vec_len : {T : Type 0} → ArrayVec T → ℕ
array_vec_len v = length v.items
