-- Worked searches: the definition computed over an error that is easy to write down, and held to what the reference program prints of the same
-- (`oracle stand-in N`, for N = 1, 2 and 7): the pairs by their bits, in order, what added each, and the number of evaluations.
-- The reference program names a dip by the sample on its left, the definition an inner dip by its lowest sample, one further.
use mathlib.Core.Path.{◌≡◌, refl}
use mathlib.Core.Bool.{cond}
use mathlib.Core.List.{List, [], ◌∷◌}
use Prim.Native.Nat.{ℕ, zero, suc}
use lib.Ieee.{Float, binary64, of_bits, of_int, add, sub, mul, div, neg, lt, le, eq}
use lib.ListN.{length}
use Rattle.float.specs.Num.{◌⊕◌, ◌⊖◌, ◌⊗◌, one, two, infinity}
use Rattle.search_definition.specs.Found.{Entry, Origin, Place, grid, edge, crossing, inner, last, first, only, before, after, run}
use Rattle.search_definition.specs.Refine.{half, negative, next, near, narrowed, if_near, if_value, if_next, refine_step, refine_from, refine_bracket}
use Rattle.search_definition.specs.Dip.{left_of, right_of, sign_of, bettered, best, if_below, probe, depth, moved, dip_step, opened, lowest_from, lowest, entry, if_tangent, refined, if_crossed, settled, minimise_dip}
use Rattle.search_definition.specs.Scan.{alike, crosses, dips, falls_to, falls_back, if_dip, inner_dip, if_crosses, item, items, last_dip, first_dip, scan_samples}
use Rattle.search_definition.specs.Search.{mid, if_inside, keep, reversed_if, share, halved, bisect, subsample, subsamples, edge_points, edge_row, row_at, if_first_inside, scan_row, edge_from, if_alike, edge_at, edges, runs, of_component, delta, angle, angles, sample, search_1d_bracketed}

-- 0.2 and 0.01
abbrev fifth : Float
fifth = of_bits binary64 0x3fc9_9999_9999_999a

abbrev hundredth : Float
hundredth = of_bits binary64 0x3f84_7ae1_47ae_147b

-- The reference program's `stand_in`: component 0 is (x - 1) (x + 2) (x + 0.5), which crosses three times; component 1 is (x - 0.2)^2 - 0.01, two roots in a dip,
-- and its branch ends at 2; the others are infinite.
unfoldable stand_in : ℕ → Float → Float
stand_in zero x = (x ⊖ one) ⊗ (x ⊕ two) ⊗ (x ⊕ half)
stand_in (suc zero) x = cond (lt x two) ((x ⊖ fifth) ⊗ (x ⊖ fifth) ⊖ hundredth) infinity
stand_in (suc (suc i)) x = infinity

abbrev found_at : ℕ → Origin → Entry
found_at bits o = record { q1 = of_bits binary64 bits; origin = o }

record Values : Type 0 where
  found_1 : (search_1d_bracketed stand_in 1).found ≡ found_at 0xc000_0000_0000_0000 (grid 0 (crossing 0)) ∷ found_at 0x3fb9_9999_9999_999b (edge 1 0 (inner 3 before)) ∷ found_at 0x3fd3_3333_3333_3334 (edge 1 0 (inner 3 after)) ∷ []
  asked_1 : length (search_1d_bracketed stand_in 1).asked ≡ 62
  found_2 : (search_1d_bracketed stand_in 2).found ≡ found_at 0x3ff0_0000_0000_0000 (grid 0 (crossing 1)) ∷ found_at 0xbf41_d105_d9d2_c89e (grid 1 (last 0 only)) ∷ found_at 0x3fb9_9999_9999_99bf (edge 1 1 (first 0 before)) ∷ found_at 0x3fd3_3333_3333_3333 (edge 1 1 (first 0 after)) ∷ []
  asked_2 : length (search_1d_bracketed stand_in 2).asked ≡ 79
  found_7 : (search_1d_bracketed stand_in 7).found ≡ found_at 0xc000_0000_0000_0000 (grid 0 (crossing 1)) ∷ found_at 0xbfe0_0000_0000_0000 (grid 0 (crossing 2)) ∷ found_at 0x3ff0_0000_0000_0000 (grid 0 (crossing 4)) ∷ found_at 0x3fb9_9999_9999_999b (grid 1 (inner 4 before)) ∷ found_at 0x3fd3_3333_3333_331a (grid 1 (inner 4 after)) ∷ []
  asked_7 : length (search_1d_bracketed stand_in 7).asked ≡ 80

values : Values
unfolding stand_in negative next near narrowed if_near if_value if_next refine_step refine_from refine_bracket left_of right_of sign_of bettered best if_below probe depth moved dip_step opened lowest_from lowest entry if_tangent refined if_crossed settled minimise_dip alike crosses dips falls_to falls_back if_dip inner_dip if_crosses item items last_dip first_dip scan_samples mid if_inside keep reversed_if share halved bisect subsample subsamples edge_points edge_row row_at if_first_inside scan_row edge_from if_alike edge_at edges runs of_component delta angle angles sample search_1d_bracketed run of_bits of_int add sub mul div neg lt le eq
values = record { found_1 = refl; asked_1 = refl; found_2 = refl; asked_2 = refl; found_7 = refl; asked_7 = refl }
