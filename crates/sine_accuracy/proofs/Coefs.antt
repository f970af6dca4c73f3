-- The coefficients of the sums: each is within 2 ^ -53 of its fraction. Assumes nothing.
use mathlib.Core.Path.{refl}
use Prim.Native.Nat.{ℕ, zero, suc, ◌+◌, ◌*◌, ◌^◌, ◌≤◌}
use native.Mathlib.Omega.{arith}
use mathlib.Core.Bool.{true, false}
use lib.Dec.{lit≤}
use lib.Ieee.{div, neg, of_int}
use Rattle.float.specs.Sine.{term, fact}
use Rattle.sine_accuracy.proofs.Series.{share, signed_by}
use Rattle.sine_accuracy.proofs.Nested.{Coef}

pub sin_0 : Coef (fact 41) (term 0 1) (signed_by 0 (share 1)).p (signed_by 0 (share 1)).n
unfolding term fact div neg of_int share
sin_0 = record { sign = false; units = 1 * 2 ^ 1074; value = (refl, refl); small = lit≤ tt; few = lit≤ tt; near = record { under = lit≤ tt; over = lit≤ tt } }

pub sin_1 : Coef (fact 41) (term 1 3) (signed_by 1 (share 3)).p (signed_by 1 (share 3)).n
unfolding term fact div neg of_int share
sin_1 = record { sign = true; units = 6004799503160661 * 2 ^ 1019; value = (refl, refl); small = lit≤ tt; few = lit≤ tt; near = record { under = lit≤ tt; over = lit≤ tt } }

pub sin_2 : Coef (fact 41) (term 2 5) (signed_by 2 (share 5)).p (signed_by 2 (share 5)).n
unfolding term fact div neg of_int share
sin_2 = record { sign = false; units = 4803839602528529 * 2 ^ 1015; value = (refl, refl); small = lit≤ tt; few = lit≤ tt; near = record { under = lit≤ tt; over = lit≤ tt } }

pub sin_3 : Coef (fact 41) (term 3 7) (signed_by 3 (share 7)).p (signed_by 3 (share 7)).n
unfolding term fact div neg of_int share
sin_3 = record { sign = true; units = 3660068268593165 * 2 ^ 1010; value = (refl, refl); small = lit≤ tt; few = lit≤ tt; near = record { under = lit≤ tt; over = lit≤ tt } }

pub sin_4 : Coef (fact 41) (term 4 9) (signed_by 4 (share 9)).p (signed_by 4 (share 9)).n
unfolding term fact div neg of_int share
sin_4 = record { sign = false; units = 1626697008263629 * 2 ^ 1005; value = (refl, refl); small = lit≤ tt; few = lit≤ tt; near = record { under = lit≤ tt; over = lit≤ tt } }

pub sin_5 : Coef (fact 41) (term 5 11) (signed_by 5 (share 11)).p (signed_by 5 (share 11)).n
unfolding term fact div neg of_int share
sin_5 = record { sign = true; units = 1892883791434041 * 2 ^ 998; value = (refl, refl); small = lit≤ tt; few = lit≤ tt; near = record { under = lit≤ tt; over = lit≤ tt } }

pub sin_6 : Coef (fact 41) (term 6 13) (signed_by 6 (share 13)).p (signed_by 6 (share 13)).n
unfolding term fact div neg of_int share
sin_6 = record { sign = false; units = 6212541674450185 * 2 ^ 989; value = (refl, refl); small = lit≤ tt; few = lit≤ tt; near = record { under = lit≤ tt; over = lit≤ tt } }

pub sin_7 : Coef (fact 41) (term 7 15) (signed_by 7 (share 15)).p (signed_by 7 (share 15)).n
unfolding term fact div neg of_int share
sin_7 = record { sign = true; units = 7573384136472607 * 2 ^ 981; value = (refl, refl); small = lit≤ tt; few = lit≤ tt; near = record { under = lit≤ tt; over = lit≤ tt } }

pub sin_8 : Coef (fact 41) (term 8 17) (signed_by 8 (share 17)).p (signed_by 8 (share 17)).n
unfolding term fact div neg of_int share
sin_8 = record { sign = false; units = 3563945475987109 * 2 ^ 974; value = (refl, refl); small = lit≤ tt; few = lit≤ tt; near = record { under = lit≤ tt; over = lit≤ tt } }

pub cos_0 : Coef (fact 41) (term 0 0) (signed_by 0 (share 0)).p (signed_by 0 (share 0)).n
unfolding term fact div neg of_int share
cos_0 = record { sign = false; units = 1 * 2 ^ 1074; value = (refl, refl); small = lit≤ tt; few = lit≤ tt; near = record { under = lit≤ tt; over = lit≤ tt } }

pub cos_1 : Coef (fact 41) (term 1 2) (signed_by 1 (share 2)).p (signed_by 1 (share 2)).n
unfolding term fact div neg of_int share
cos_1 = record { sign = true; units = 1 * 2 ^ 1073; value = (refl, refl); small = lit≤ tt; few = lit≤ tt; near = record { under = lit≤ tt; over = lit≤ tt } }

pub cos_2 : Coef (fact 41) (term 2 4) (signed_by 2 (share 4)).p (signed_by 2 (share 4)).n
unfolding term fact div neg of_int share
cos_2 = record { sign = false; units = 6004799503160661 * 2 ^ 1017; value = (refl, refl); small = lit≤ tt; few = lit≤ tt; near = record { under = lit≤ tt; over = lit≤ tt } }

pub cos_3 : Coef (fact 41) (term 3 6) (signed_by 3 (share 6)).p (signed_by 3 (share 6)).n
unfolding term fact div neg of_int share
cos_3 = record { sign = true; units = 6405119470038039 * 2 ^ 1012; value = (refl, refl); small = lit≤ tt; few = lit≤ tt; near = record { under = lit≤ tt; over = lit≤ tt } }

pub cos_4 : Coef (fact 41) (term 4 8) (signed_by 4 (share 8)).p (signed_by 4 (share 8)).n
unfolding term fact div neg of_int share
cos_4 = record { sign = false; units = 3660068268593165 * 2 ^ 1007; value = (refl, refl); small = lit≤ tt; few = lit≤ tt; near = record { under = lit≤ tt; over = lit≤ tt } }

pub cos_5 : Coef (fact 41) (term 5 10) (signed_by 5 (share 10)).p (signed_by 5 (share 10)).n
unfolding term fact div neg of_int share
cos_5 = record { sign = true; units = 1301357606610903 * 2 ^ 1002; value = (refl, refl); small = lit≤ tt; few = lit≤ tt; near = record { under = lit≤ tt; over = lit≤ tt } }

pub cos_6 : Coef (fact 41) (term 6 12) (signed_by 6 (share 12)).p (signed_by 6 (share 12)).n
unfolding term fact div neg of_int share
cos_6 = record { sign = false; units = 630961263811347 * 2 ^ 996; value = (refl, refl); small = lit≤ tt; few = lit≤ tt; near = record { under = lit≤ tt; over = lit≤ tt } }

pub cos_7 : Coef (fact 41) (term 7 14) (signed_by 7 (share 14)).p (signed_by 7 (share 14)).n
unfolding term fact div neg of_int share
cos_7 = record { sign = true; units = 7100047627943069 * 2 ^ 985; value = (refl, refl); small = lit≤ tt; few = lit≤ tt; near = record { under = lit≤ tt; over = lit≤ tt } }

pub cos_8 : Coef (fact 41) (term 8 16) (signed_by 8 (share 16)).p (signed_by 8 (share 16)).n
unfolding term fact div neg of_int share
cos_8 = record { sign = false; units = 7573384136472607 * 2 ^ 977; value = (refl, refl); small = lit≤ tt; few = lit≤ tt; near = record { under = lit≤ tt; over = lit≤ tt } }
