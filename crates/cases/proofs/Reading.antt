-- What one read more, to the rest of a record, leaves there.
use borrow.Rule.Slice.PartMut.{mid_of, put_mid, same_len_mid, take_put}
use lib.ListN.{length-drop, length-take}
use lib.Seq.{take-add, drop_at, length-take-le}
use Rattle.std.proofs.Common.{◌≡◌, ℕ, ◌+◌, ◌-◌, ◌≤◌, List, [], ◌∷◌, ◌++◌, length, take, drop, refl, ◌∙◌, append-nil, Option, arith}
use Rattle.std.proofs.KnownBytes.{Consumes-trans}
use Rattle.std.specs.Io.KnownBytes.{Consumes}

empty_of : (l : List ℕ) → length l ≡ 0 → l ≡ []
empty_of [] h = refl
empty_of (x ∷ l) h = absurd (omega arith)

module _ (bytes ys : List ℕ) (done : ℕ) (inside : done ≤ length bytes) (h : length ys ≡ length (mid_of done (length bytes - done) bytes)) where
  abbrev after : List ℕ
  after = put_mid done (length bytes - done) bytes ys

  lent_is : drop done after ≡ ys
  lent_is =
      let rest = drop (length bytes - done) (drop done bytes) in
      let none : rest ≡ [] = empty_of rest (rw (length-drop (length bytes - done) (drop done bytes), length-drop done bytes) (omega arith)) in
      drop_at (take done bytes) (ys ++ rest) done (length-take-le done bytes inside) ∙ rw none (append-nil ys)

  grown : (n : ℕ) → take (done + n) after ≡ take done bytes ++ take n ys
  grown n = take-add done n after ∙ rw (take_put done (length bytes - done) bytes ys inside, lent_is)

  pub read_within : (n : ℕ) → n ≤ length ys → done + n ≤ length after
  read_within n few =
      let same : length after ≡ length bytes = same_len_mid done (length bytes - done) bytes ys h in
      let long : length ys ≡ length bytes - done = rw (h, length-take (length bytes - done) (drop done bytes), length-drop done bytes) (omega arith) in
      omega arith

  -- a read that gives n bytes consumes these
  pub read_goes : (a b c : Option (List ℕ)) → Consumes a b (take done bytes) → (n : ℕ) → Consumes b c (take n ys) → Consumes a c (take (done + n) after)
  read_goes a b c before n more = rw (grown n) (Consumes-trans a b c (take done bytes) (take n ys) before more)
