-- How a test program counts: 32 counts of cases, each with its count of mismatches. The entry of a function has its id as its place,
-- 30 is the entry of what is no whole record of a known function, and 31 that of the total.
use Rattle.std.specs.Prelude.{◌≡◌, ℕ, ◌+◌, ◌%◌, ◌^◌, Bool, false, cond, ◌⊎◌, List, nat_lt, slice_index_or, slice_set}
use Rattle.cases.specs.declared.tally.Counts.{Counts}

-- one case more, and one mismatch more unless it is right
abbrev pub more : Counts → Bool → Counts
more c ok = record { cases = (c.cases + 1) % 2 ^ 64; mismatches = cond ok c.mismatches ((c.mismatches + 1) % 2 ^ 64) }

abbrev pub none : Counts
none = record { cases = 0; mismatches = 0 }

-- one case more at an entry
abbrev pub noted : List Counts → ℕ → Bool → List Counts
noted l entry ok = slice_set l entry (more (slice_index_or l entry none) ok)

-- so too in the total
abbrev pub noted_twice : List Counts → ℕ → Bool → List Counts
noted_twice l entry ok = noted (noted l 31 ok) entry ok

-- a case of the function id of a group of n functions; an id that none of them has is a mismatch
abbrev pub counted : List Counts → ℕ → ℕ → Bool → List Counts
counted l n id ok = cond (nat_lt id n) (noted_twice l id ok) (noted_twice l 30 false)

-- what the read of a record leaves of the counts l: all as they were; or, where the input ends within one, a mismatch more
abbrev pub Read : Bool → List Counts → List Counts → Type 0
Read whole l m = (m ≡ l) ⊎ ((whole ≡ false) × (m ≡ noted_twice l 30 false))
