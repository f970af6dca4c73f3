-- Document 01, "Known results, marked for proof": one table, a row for each result. A row speaks of the definitions that the functions are proved equal to.
use Rattle.std.specs.Prelude.{◌≡◌, List, [], ◌∷◌, true, false, ℕ, negsuc, Float, length}
use Rattle.std.specs.Float.{binary64}
use Rattle.std.specs.Float.Ieee.{neg, to_bits}
use Rattle.float.specs.Num.{as_f64, int_as_f64, nought, two, pi, frac_pi_2}
use Rattle.float.specs.Root.{sqrt}
use Rattle.float.specs.Wrap.{wrap_to_pi, inverse_wrap_to_pi}
use Rattle.linear.specs.declared.vector.Vector3.{Vector3}
use Rattle.complex.specs.declared.Complex.{Complex}
use Rattle.polynomial.specs.Convolution.{vec_self_convolve_2, vec_self_convolve_3, vec_convolve_3}
use Rattle.polynomial.specs.Triangular.{solve_lower_triangular_system_2x2}
use Rattle.polynomial.specs.Quadratic.{solve_quadratic_roots}
use Rattle.polynomial.specs.declared.Vector2.{Vector2}
use Rattle.polynomial.specs.declared.Vector5.{Vector5}
use Rattle.polynomial.specs.declared.Matrix2.{Matrix2}
use Rattle.polynomial.specs.declared.Quadratic.{Quadratic}
use Rattle.solutionset.specs.declared.set2.SolutionSet2.TheVariants.{One, Two}
use Rattle.subproblems.specs.Subproblem1.{subproblem1}
use Rattle.subproblems.specs.Subproblem4.{subproblem4}
use Rattle.refusals.specs.Judge.{all_finite, judge}

-- ---- short names for the numbers of the table
abbrev pub num : ℕ → Float
num k = as_f64 k

abbrev pub vector_2 : ℕ → ℕ → Vector2
vector_2 a b = record { x = num a; y = num b }

abbrev pub vector_3 : ℕ → ℕ → ℕ → Vector3
vector_3 a b c = record { x = num a; y = num b; z = num c }

abbrev pub vector_5 : ℕ → ℕ → ℕ → ℕ → ℕ → Vector5
vector_5 a b c d e = record { a = num a; b = num b; c = num c; d = num d; e = num e }

-- rows (a, b) and (c, d)
abbrev pub matrix_2 : ℕ → ℕ → ℕ → ℕ → Matrix2
matrix_2 a b c d = record { m00 = num a; m01 = num b; m10 = num c; m11 = num d }

abbrev pub real : Float → Complex
real x = record { re = x; im = nought }

abbrev pub quadratic : Float → Float → Float → Quadratic
quadratic a b c = record { a = real a; b = real b; c = real c }

abbrev pub x_axis : Vector3
x_axis = vector_3 1 0 0

abbrev pub y_axis : Vector3
y_axis = vector_3 0 1 0

abbrev pub z_axis : Vector3
z_axis = vector_3 0 0 1

-- an arm and a pose with which nothing is wrong
pub record Sound (arm pose : List Float) : Type 0 where
  pub arm_long : length arm ≡ 39
  pub pose_long : length pose ≡ 12
  pub arm_finite : all_finite arm ≡ true
  pub pose_finite : all_finite pose ≡ true

-- what the solve call says of them before it solves, in family 6 with n samples: 0 is no refusal
abbrev pub Judged : ℕ → ℕ → Type 0
Judged n refusal = (arm pose : List Float) → Sound arm pose → judge 6 n arm pose ≡ refusal

pub record KnownResults : Type 0 where
  -- "vec_self_convolve_2(1,2) = (1,4,4)."
  pub self_convolve_2 : vec_self_convolve_2 (vector_2 1 2) ≡ vector_3 1 4 4
  -- "vec_self_convolve_3(1,2,3) = (1,4,10,12,9)."
  pub self_convolve_3 : vec_self_convolve_3 (vector_3 1 2 3) ≡ vector_5 1 4 10 12 9
  -- "vec_convolve_3 of (1,2,3) and (4,5,6) = (4,13,28,27,18)."
  pub convolve_3 : vec_convolve_3 (vector_3 1 2 3) (vector_3 4 5 6) ≡ vector_5 4 13 28 27 18
  -- "solve_lower_triangular_system_2x2, rows (2,0) and (1,4), with (6,11) = (3,2)."
  pub lower_triangular : solve_lower_triangular_system_2x2 (matrix_2 2 0 1 4) (vector_2 6 11) ≡ vector_2 3 2
  -- "Quadratic 1, -3, 2: roots 2, 1": these are the real parts; the imaginary parts come out as -0.0 and 0.0
  pub quadratic_two_one :
      solve_quadratic_roots (quadratic (num 1) (int_as_f64 (negsuc 2)) (num 2))
      ≡ record { re = num 2; im = neg nought } ∷ record { re = num 1; im = nought } ∷ []
  -- "0, 0, 5: none."
  pub quadratic_none : solve_quadratic_roots (quadratic nought nought (num 5)) ≡ []
  -- "The two wrap_to_pi at PI: -PI (auxiliary), PI (inverse)."
  pub auxiliary_wrap_to_pi_at_pi : wrap_to_pi pi ≡ neg pi
  pub inverse_wrap_to_pi_at_pi : inverse_wrap_to_pi pi ≡ pi
  -- "subproblem1(x axis, y axis, about z): FRAC_PI_2, unflagged."
  pub quarter_turn : subproblem1 x_axis y_axis z_axis ≡ record { theta = frac_pi_2; is_ls = false }
  -- "subproblem4(h = x axis, p = x axis, k = z axis): d = 1 gives One 0 flagged, d = 0 gives Two FRAC_PI_2, -FRAC_PI_2 unflagged."
  pub touching : subproblem4 x_axis x_axis z_axis (num 1) ≡ record { set = One nought; is_ls = true }
  pub crossing : subproblem4 x_axis x_axis z_axis nought ≡ record { set = Two frac_pi_2 (neg frac_pi_2); is_ls = false }
  -- "sqrt(2) has bits 3ff6a09e667f3bcd."
  pub sqrt_of_two : to_bits binary64 (sqrt two) ≡ 0x3ff6_a09e_667f_3bcd
  -- "For n: 1 and 400 pass, 0 and 401 are refused in family 6."
  pub samples_1 : Judged 1 0
  pub samples_400 : Judged 400 0
  pub samples_0 : Judged 0 7
  pub samples_401 : Judged 401 7
