-- Every row of the table, by computing the definitions. Assumes nothing.
use mathlib.Core.Path.{◌≡◌, refl}
use mathlib.Core.List.{[], ◌∷◌}
use mathlib.Core.Bool.{true, false}
use borrow.Author.Tests.{eq-eqb}
use lib.IntN.{negsuc}
use lib.Ieee.{binary64, add, sub, mul, div, neg, rem, lt, eq, is_nan, of_int, of_bits, to_bits}
use lib.ListN.{length}
use Rattle.float.specs.Num.{int_as_f64, nought, two, pi, frac_pi_2}
use Rattle.float.specs.Root.{sqrt}
use Rattle.float.specs.Sine.{sin, cos}
use Rattle.float.specs.Arctangent.{atan2}
use Rattle.float.specs.Wrap.{rem_euclid_tau, wrap_to_pi, inverse_wrap_to_pi}
use Rattle.complex.specs.Complex.{◌+ᶜ◌, ◌-ᶜ◌, ◌*ᶜ◌, ◌/ᶜ◌, negᶜ, scaleᶜ, absᶜ, sqrtᶜ}
use Rattle.polynomial.specs.Convolution.{vec_self_convolve_2, vec_self_convolve_3, vec_convolve_3}
use Rattle.polynomial.specs.Triangular.{solve_lower_triangular_system_2x2}
use Rattle.polynomial.specs.Quadratic.{solve_quadratic_roots}
use Rattle.linear.specs.Vector.{norm}
use Rattle.solutionset.specs.declared.set2.SolutionSet2.TheVariants.{One, Two}
use Rattle.subproblems.specs.Subproblem1.{subproblem1}
use Rattle.subproblems.specs.Subproblem4.{subproblem4}
use Rattle.refusals.specs.Judge.{judge}
use Rattle.examples.specs.KnownResults.{KnownResults, Judged, num, x_axis, y_axis, z_axis, vector_2, vector_3, vector_5, matrix_2, quadratic}

self_convolve_2 : vec_self_convolve_2 (vector_2 1 2) ≡ vector_3 1 4 4
unfolding vec_self_convolve_2 mul of_int of_bits
self_convolve_2 = refl

self_convolve_3 : vec_self_convolve_3 (vector_3 1 2 3) ≡ vector_5 1 4 10 12 9
unfolding vec_self_convolve_3 add mul of_int of_bits
self_convolve_3 = refl

convolve_3 : vec_convolve_3 (vector_3 1 2 3) (vector_3 4 5 6) ≡ vector_5 4 13 28 27 18
unfolding vec_convolve_3 add mul of_int
convolve_3 = refl

lower_triangular : solve_lower_triangular_system_2x2 (matrix_2 2 0 1 4) (vector_2 6 11) ≡ vector_2 3 2
unfolding solve_lower_triangular_system_2x2 sub mul div of_int
lower_triangular = refl

quadratic_two_one :
    solve_quadratic_roots (quadratic (num 1) (int_as_f64 (negsuc 2)) (num 2))
    ≡ record { re = num 2; im = neg nought } ∷ record { re = num 1; im = nought } ∷ []
unfolding solve_quadratic_roots ◌+ᶜ◌ ◌-ᶜ◌ ◌*ᶜ◌ ◌/ᶜ◌ negᶜ scaleᶜ absᶜ sqrtᶜ sqrt sin cos atan2 add sub mul div neg rem lt eq is_nan of_int of_bits
quadratic_two_one = refl

quadratic_none : solve_quadratic_roots (quadratic nought nought (num 5)) ≡ []
unfolding solve_quadratic_roots absᶜ sqrt add mul div lt eq is_nan of_int of_bits
quadratic_none = refl

auxiliary_wrap_to_pi_at_pi : wrap_to_pi pi ≡ neg pi
unfolding wrap_to_pi rem_euclid_tau add sub neg rem lt of_bits
auxiliary_wrap_to_pi_at_pi = refl

inverse_wrap_to_pi_at_pi : inverse_wrap_to_pi pi ≡ pi
unfolding inverse_wrap_to_pi wrap_to_pi rem_euclid_tau add sub neg rem lt eq of_bits
inverse_wrap_to_pi_at_pi = refl

quarter_turn : subproblem1 x_axis y_axis z_axis ≡ record { theta = frac_pi_2; is_ls = false }
unfolding subproblem1 norm sqrt atan2 add sub mul div neg lt eq is_nan of_int of_bits
quarter_turn = refl

touching : subproblem4 x_axis x_axis z_axis (num 1) ≡ record { set = One nought; is_ls = true }
unfolding subproblem4 sqrt atan2 add sub mul div neg lt eq is_nan of_int of_bits
touching = refl

crossing : subproblem4 x_axis x_axis z_axis nought ≡ record { set = Two frac_pi_2 (neg frac_pi_2); is_ls = false }
unfolding subproblem4 sqrt atan2 add sub mul div neg lt eq is_nan of_int of_bits
crossing = refl

sqrt_of_two : to_bits binary64 (sqrt two) ≡ 0x3ff6_a09e_667f_3bcd
unfolding sqrt of_bits to_bits
sqrt_of_two = refl

samples_1 : Judged 1 0
unfolding judge
samples_1 arm pose s = rw (eq-eqb (length arm) 39 s.arm_long, eq-eqb (length pose) 12 s.pose_long, s.arm_finite, s.pose_finite)

samples_400 : Judged 400 0
unfolding judge
samples_400 arm pose s = rw (eq-eqb (length arm) 39 s.arm_long, eq-eqb (length pose) 12 s.pose_long, s.arm_finite, s.pose_finite)

samples_0 : Judged 0 7
unfolding judge
samples_0 arm pose s = rw (eq-eqb (length arm) 39 s.arm_long, eq-eqb (length pose) 12 s.pose_long)

samples_401 : Judged 401 7
unfolding judge
samples_401 arm pose s = rw (eq-eqb (length arm) 39 s.arm_long, eq-eqb (length pose) 12 s.pose_long)

pub known_results : KnownResults
known_results =
    record {
      self_convolve_2 = self_convolve_2;
      self_convolve_3 = self_convolve_3;
      convolve_3 = convolve_3;
      lower_triangular = lower_triangular;
      quadratic_two_one = quadratic_two_one;
      quadratic_none = quadratic_none;
      auxiliary_wrap_to_pi_at_pi = auxiliary_wrap_to_pi_at_pi;
      inverse_wrap_to_pi_at_pi = inverse_wrap_to_pi_at_pi;
      quarter_turn = quarter_turn;
      touching = touching;
      crossing = crossing;
      sqrt_of_two = sqrt_of_two;
      samples_1 = samples_1;
      samples_400 = samples_400;
      samples_0 = samples_0;
      samples_401 = samples_401;
    }
