-- One step of a nested sum, c + z * g: what it is off by against the exact step. Everything is a number of units, and `U` units make one. Assumes nothing.
use mathlib.Core.Path.{◌≡◌, refl, sym, ap, ◌∙◌, subst}
use mathlib.Core.Logic.{◌⊎◌, inl, inr}
use Prim.Native.Nat.{ℕ, ◌+◌, ◌-◌, ◌*◌, ◌^◌, ◌≤◌, ◌<◌}
use native.Mathlib.Nat.{le_trans, le_of_eq, le_refl, mul_comm, mul_assoc, mul_left_comm, mul-mul-mul_comm, add-mul, mul-add, mul-le-mul, mul-le-mul_right, le_of_mul-le-mul_right}
use native.Mathlib.Omega.{arith}
use mathlib.Core.Bool.{Bool, true, false, not}
use lib.Dec.{T, leb, leb→le, nleb→lt, lit≤}
use Rattle.float.proofs.Units.{Off}
use Rattle.sine_accuracy.proofs.Ops.{Near, plus, minus}

-- ---- laws of `Near`
pub near_to : {p n q m d p' n' q' m' d' : ℕ} → Near p n q m d → p ≡ p' → n ≡ n' → q ≡ q' → m ≡ m' → d ≤ d' → Near p' n' q' m' d'
near_to o e1 e2 e3 e4 h = let a = o.under in let b = o.over in record { under = omega arith; over = omega arith }

pub near_scale : {p n q m d : ℕ} (k : ℕ) → Near p n q m d → Near (p * k) (n * k) (q * k) (m * k) (d * k)
near_scale {p} {n} {q} {m} {d} k o =
    let e1 : (p + m) * k ≡ p * k + m * k = add-mul p m k in
    let e2 : (q + n + d) * k ≡ q * k + n * k + d * k = add-mul (q + n) d k ∙ ap (λ (x : ℕ). x + d * k) (add-mul q n k) in
    let e3 : (q + n) * k ≡ q * k + n * k = add-mul q n k in
    let e4 : (p + m + d) * k ≡ p * k + m * k + d * k = add-mul (p + m) d k ∙ ap (λ (x : ℕ). x + d * k) (add-mul p m k) in
    record {
      under = le_trans (le_of_eq (sym e1)) (le_trans (mul-le-mul_right k o.under) (le_of_eq e2));
      over = le_trans (le_of_eq (sym e3)) (le_trans (mul-le-mul_right k o.over) (le_of_eq e4));
    }

pub near_trans : {p n q m r s d e : ℕ} → Near p n q m d → Near q m r s e → Near p n r s (d + e)
near_trans o k = let a = o.under in let b = o.over in let c = k.under in let d = k.over in record { under = omega arith; over = omega arith }

-- two factors that differ by at most α, of one number of size at most μ
more : (b δ α p n μ : ℕ) → δ ≤ α → p ≤ n + μ → n ≤ p + μ → Near (b * p) (b * n) ((b + δ) * p) ((b + δ) * n) (α * μ)
more b δ α p n μ h k l =
    let e1 : (b + δ) * p ≡ b * p + δ * p = add-mul b δ p in
    let e2 : (b + δ) * n ≡ b * n + δ * n = add-mul b δ n in
    let f1 : δ * p ≤ δ * (n + μ) = mul-le-mul (le_refl δ) k in
    let f2 : δ * n ≤ δ * (p + μ) = mul-le-mul (le_refl δ) l in
    let g1 : δ * (n + μ) ≡ δ * n + δ * μ = mul-add δ n μ in
    let g2 : δ * (p + μ) ≡ δ * p + δ * μ = mul-add δ p μ in
    let i : δ * μ ≤ α * μ = mul-le-mul_right μ h in
    record { under = omega arith; over = omega arith }

near_flip : {p n q m d : ℕ} → Near p n q m d → Near q m p n d
near_flip o = let a = o.under in let b = o.over in record { under = omega arith; over = omega arith }

either : (a b : ℕ) → (a ≤ b) ⊎ (b ≤ a)
either a b = go (leb a b) (leb→le a b) (nleb→lt a b)
  where
    go : (t : Bool) → (T t → a ≤ b) → (T (not t) → b < a) → (a ≤ b) ⊎ (b ≤ a)
    go true f g = inl (f tt)
    go false f g = inr (let h = g tt in omega arith)

pub factor : (b b' α p n μ : ℕ) → Off b b' α → p ≤ n + μ → n ≤ p + μ → Near (b * p) (b * n) (b' * p) (b' * n) (α * μ)
factor b b' α p n μ o k l = elim (either b b') [ inl h ↦ up h | inr h ↦ down h ]
  where
    up : b ≤ b' → Near (b * p) (b * n) (b' * p) (b' * n) (α * μ)
    up h =
        let e : b + (b' - b) ≡ b' = omega arith in
        let g : b' - b ≤ α = omega (arith, o.over) in
        subst (λ (x : ℕ). Near (b * p) (b * n) (x * p) (x * n) (α * μ)) e (more b (b' - b) α p n μ g k l)

    down : b' ≤ b → Near (b * p) (b * n) (b' * p) (b' * n) (α * μ)
    down h =
        let e : b' + (b - b') ≡ b = omega arith in
        let g : b - b' ≤ α = omega (arith, o.under) in
        near_flip (subst (λ (x : ℕ). Near (b' * p) (b' * n) (x * p) (x * n) (α * μ)) e (more b' (b - b') α p n μ g k l))

-- the product of a near a' and p - n near q - m
pub near_mul : (K a a' α p n q m β μ : ℕ) → Off (K * a) (K * a') α → Near (K * p) (K * n) (K * q) (K * m) β → q ≤ m + μ → m ≤ q + μ
    → Near (K * (a * p)) (K * (a * n)) (K * (a' * q)) (K * (a' * m)) (a * β + α * μ)
near_mul K a a' α p n q m β μ o k h l =
    near_trans
    (near_to (near_scale a k) (turn p) (turn n) (turn q) (turn m) (le_of_eq (mul_comm β a)))
    (near_to (factor (K * a) (K * a') α q m μ o h l) (mul_assoc K a q) (mul_assoc K a m) (mul_assoc K a' q) (mul_assoc K a' m) (le_refl (α * μ)))
  where
    turn : (x : ℕ) → K * x * a ≡ K * (a * x)
    turn x = mul_assoc K x a ∙ ap (λ (y : ℕ). K * y) (mul_comm x a)

-- ---- the sum of four differences
four : (K x xn y yn w wn v vn u un t tn d1 d2 d3 d4 : ℕ) → Near (K * x) (K * xn) (K * (y + w)) (K * (yn + wn)) d1 → Near (K * w) (K * wn) (K * v) (K * vn) d2
    → Near (K * v) (K * vn) (K * u) (K * un) d3 → Near (K * y) (K * yn) (K * t) (K * tn) d4 → Near (K * x) (K * xn) (K * (t + u)) (K * (tn + un)) (d1 + d2 + d3 + d4)
four K x xn y yn w wn v vn u un t tn d1 d2 d3 d4 n1 n2 n3 n4 =
    let e1 = mul-add K y w in
    let e2 = mul-add K yn wn in
    let e3 = mul-add K t u in
    let e4 = mul-add K tn un in
    let a1 = n1.under in let b1 = n1.over in
    let a2 = n2.under in let b2 = n2.over in
    let a3 = n3.under in let b3 = n3.over in
    let a4 = n4.under in let b4 = n4.over in
    record { under = omega arith; over = omega arith }

-- ---- linear parts
z_linear : (zu a u uu : ℕ) → 2 ^ 53 * zu ≤ 2 ^ 53 * a + (a + 2 ^ 52 * u) → 8 * a ≤ 5 * uu → 1024 * u ≤ uu → 100 * zu ≤ 63 * uu
z_linear zu a u uu h k l = omega arith

h_linear : (hu zg u uu : ℕ) → 2 ^ 53 * hu ≤ 2 ^ 53 * zg + (zg + 2 ^ 52 * u) → 100 * zg ≤ 252 * uu → 1024 * u ≤ uu → 100 * hu ≤ 253 * uu
h_linear hu zg u uu h k l = omega arith

two_linear : (zg u uu : ℕ) → 100 * zg ≤ 252 * uu → 2 ^ 60 * u ≤ uu → zg + 2 ^ 52 * u ≤ 3 * uu
two_linear zg u uu h k = omega arith

three_linear : (zu a u uu : ℕ) → 100 * zu ≤ 63 * uu → 8 * a ≤ 5 * uu → 2 ^ 60 * u ≤ uu → 30 * zu + 3 * (a + 2 ^ 52 * u) ≤ 21 * uu
three_linear zu a u uu h k l = omega arith

result_linear : (x c f u : ℕ) → 2 ^ 53 * x ≤ 2 ^ 53 * (c + f) + (c + f + 2 ^ 52) → c ≤ u → 100 * f ≤ 253 * u → 1024 ≤ u → x ≤ 4 * u
result_linear x c f u h k l b = omega arith

-- ---- one step. z is Z units and exactly A / (U * U); g is gp - gn units and exactly (hp - hn) / S
module _ (U S Z A : ℕ) (big : 2 ^ 60 ≤ U) (zo : Off (2 ^ 53 * (Z * U)) (2 ^ 53 * A) (A + 2 ^ 52 * U)) (za : 8 * A ≤ 5 * (U * U)) where
  square : 2 ^ 60 * U ≤ U * U
  square = mul-le-mul_right U big

  z_units : 100 * (Z * U) ≤ 63 * (U * U)
  z_units = z_linear (Z * U) A U (U * U) zo.under za (mul-le-mul_right U (le_trans (lit≤ tt) big))

  pub z_small : 100 * Z ≤ 63 * U
  z_small = cancel U Z U (le_trans (lit_1 big) (le_refl U)) z_units
    where
      lit_1 : 2 ^ 60 ≤ U → 1 ≤ U
      lit_1 h = omega arith

      cancel : (k a b : ℕ) → 1 ≤ k → 100 * (a * k) ≤ 63 * (b * k) → 100 * a ≤ 63 * b
      cancel k a b p h = le_of_mul-le-mul_right {k = k} (le_trans (le_of_eq (mul_assoc 100 a k)) (le_trans h (le_of_eq (sym (mul_assoc 63 b k))))) p

  -- z * g in units
  zg_small : (G : ℕ) → G ≤ 4 * U → 100 * (Z * G) ≤ 252 * (U * U)
  zg_small G h =
      let a : 100 * Z * G ≤ 63 * U * (4 * U) = mul-le-mul z_small h in
      let e : 100 * Z * G ≡ 100 * (Z * G) = mul_assoc 100 Z G in
      let f : 63 * U * (4 * U) ≡ 63 * 4 * (U * U) = mul-mul-mul_comm 63 U 4 U in
      omega arith

  h_units : (G H : ℕ) → G ≤ 4 * U → Off (2 ^ 53 * (H * U)) (2 ^ 53 * (Z * G)) (Z * G + 2 ^ 52 * U) → 100 * (H * U) ≤ 253 * (U * U)
  h_units G H h o = h_linear (H * U) (Z * G) U (U * U) o.under (zg_small G h) (mul-le-mul_right U (le_trans (lit≤ tt) big))

  pub h_small : (G H : ℕ) → G ≤ 4 * U → Off (2 ^ 53 * (H * U)) (2 ^ 53 * (Z * G)) (Z * G + 2 ^ 52 * U) → 100 * H ≤ 253 * U
  h_small G H h o = le_of_mul-le-mul_right {k = U} (le_trans (le_of_eq (mul_assoc 100 H U)) (le_trans (h_units G H h o) (le_of_eq (sym (mul_assoc 253 U U))))) (pos big)
    where
      pos : 2 ^ 60 ≤ U → 0 < U
      pos h = omega arith

  -- what the four parts are off by, in T = S * (U * U) * U
  part_1 : (C H : ℕ) → C ≤ U → 100 * H ≤ 253 * U → (C + H + 2 ^ 52) * (S * (U * U)) ≤ 5 * (S * (U * U) * U)
  part_1 C H c h =
      let a : C + H + 2 ^ 52 ≤ 5 * U = let b = big in omega arith in
      le_trans (mul-le-mul_right (S * (U * U)) a) (le_of_eq (mul_assoc 5 U (S * (U * U)) ∙ ap (λ (x : ℕ). 5 * x) (mul_comm U (S * (U * U)))))

  part_2 : (G : ℕ) → G ≤ 4 * U → (Z * G + 2 ^ 52 * U) * (S * U) ≤ 3 * (S * (U * U) * U)
  part_2 G h =
      let a : Z * G + 2 ^ 52 * U ≤ 3 * (U * U) = two_linear (Z * G) U (U * U) (zg_small G h) square in
      le_trans (mul-le-mul_right (S * U) a) (le_of_eq (mul_assoc 3 (U * U) (S * U) ∙ ap (λ (x : ℕ). 3 * x) (simp (mul_assoc, mul_comm, mul_left_comm))))

  part_3 : Z * U * (30 * (S * U)) + (A + 2 ^ 52 * U) * (3 * (S * U)) ≤ 21 * (S * (U * U) * U)
  part_3 =
      let e : S * (U * U) * U ≡ U * U * (S * U) = simp (mul_assoc, mul_comm, mul_left_comm) in
      let f : Z * U * (30 * (S * U)) ≡ 30 * (Z * U) * (S * U) = sym (mul_assoc (Z * U) 30 (S * U)) ∙ ap (λ (x : ℕ). x * (S * U)) (mul_comm (Z * U) 30) in
      let g : (A + 2 ^ 52 * U) * (3 * (S * U)) ≡ 3 * (A + 2 ^ 52 * U) * (S * U) = sym (mul_assoc (A + 2 ^ 52 * U) 3 (S * U)) ∙ ap (λ (x : ℕ). x * (S * U)) (mul_comm (A + 2 ^ 52 * U) 3) in
      let i : 30 * (Z * U) + 3 * (A + 2 ^ 52 * U) ≤ 21 * (U * U) = three_linear (Z * U) A U (U * U) z_units za square in
      le_trans (le_of_eq (ap (λ (x : ℕ). x + (A + 2 ^ 52 * U) * (3 * (S * U))) f ∙ ap (λ (x : ℕ). 30 * (Z * U) * (S * U) + x) g ∙ sym (add-mul (30 * (Z * U)) (3 * (A + 2 ^ 52 * U)) (S * U))))
      (le_trans (mul-le-mul_right (S * U) i) (le_of_eq (mul_assoc 21 (U * U) (S * U) ∙ ap (λ (x : ℕ). 21 * x) (sym e))))

  -- the step: c is cp - cn units, exactly (tp - tn) / (S * (U * U)); the product is fp - fn units, the result xp - xn units
  pub step : (gp gn hp hn cp cn tp tn fp fn xp xn C G H : ℕ) → G ≤ 4 * U → C ≤ U
      → Near (2 ^ 53 * (gp * S)) (2 ^ 53 * (gn * S)) (2 ^ 53 * (hp * U)) (2 ^ 53 * (hn * U)) (30 * (S * U)) → hp ≤ hn + 3 * S → hn ≤ hp + 3 * S
      → Off (2 ^ 53 * (H * U)) (2 ^ 53 * (Z * G)) (Z * G + 2 ^ 52 * U)
      → Near (2 ^ 53 * (fp * U)) (2 ^ 53 * (fn * U)) (2 ^ 53 * (Z * gp)) (2 ^ 53 * (Z * gn)) (Z * G + 2 ^ 52 * U)
      → Near (2 ^ 53 * xp) (2 ^ 53 * xn) (2 ^ 53 * (cp + fp)) (2 ^ 53 * (cn + fn)) (C + H + 2 ^ 52)
      → Near (2 ^ 53 * (cp * (S * (U * U)))) (2 ^ 53 * (cn * (S * (U * U)))) (2 ^ 53 * (tp * U)) (2 ^ 53 * (tn * U)) (S * (U * U) * U)
      → Near (2 ^ 53 * (xp * (S * (U * U)))) (2 ^ 53 * (xn * (S * (U * U)))) (2 ^ 53 * ((tp + A * hp) * U)) (2 ^ 53 * ((tn + A * hn) * U)) (30 * (S * (U * U) * U))
  step gp gn hp hn cp cn tp tn fp fn xp xn C G H g c ih i1 i2 ho hn' xs cs =
      let K = 2 ^ 53 in
      let S' = S * (U * U) in
      let n1 : Near (K * (xp * S')) (K * (xn * S')) (K * (cp * S' + fp * S')) (K * (cn * S' + fn * S')) (5 * (S' * U)) =
      near_to (near_scale S' xs) (mul_assoc K xp S') (mul_assoc K xn S') (mul_assoc K (cp + fp) S' ∙ ap (λ (x : ℕ). K * x) (add-mul cp fp S')) (mul_assoc K (cn + fn) S' ∙ ap (λ (x : ℕ). K * x) (add-mul cn fn S')) (part_1 C H c (h_small G H g ho)) in
      let n2 : Near (K * (fp * S')) (K * (fn * S')) (K * (Z * U * (gp * S))) (K * (Z * U * (gn * S))) (3 * (S' * U)) =
      near_to (near_scale (S * U) hn') (left fp) (left fn) (right gp) (right gn) (part_2 G g) in
      let n3 : Near (K * (Z * U * (gp * S))) (K * (Z * U * (gn * S))) (K * (A * (hp * U))) (K * (A * (hn * U))) (21 * (S' * U)) =
      near_to (near_mul K (Z * U) A (A + 2 ^ 52 * U) (gp * S) (gn * S) (hp * U) (hn * U) (30 * (S * U)) (3 * (S * U)) zo ih (grown hp hn i1) (grown hn hp i2)) refl refl refl refl part_3 in
      near_to
      (four K (xp * S') (xn * S') (cp * S') (cn * S') (fp * S') (fn * S') (Z * U * (gp * S)) (Z * U * (gn * S)) (A * (hp * U)) (A * (hn * U)) (tp * U) (tn * U) (5 * (S' * U)) (3 * (S' * U)) (21 * (S' * U)) (S' * U) n1 n2 n3 cs)
      refl refl (ap (λ (x : ℕ). K * x) (joined tp hp)) (ap (λ (x : ℕ). K * x) (joined tn hn)) (thirty (S' * U))
    where
      left : (f : ℕ) → 2 ^ 53 * (f * U) * (S * U) ≡ 2 ^ 53 * (f * (S * (U * U)))
      left f = mul_assoc (2 ^ 53) (f * U) (S * U) ∙ ap (λ (x : ℕ). 2 ^ 53 * x) (mul_assoc f U (S * U) ∙ ap (λ (x : ℕ). f * x) (mul_left_comm U S U))

      right : (g : ℕ) → 2 ^ 53 * (Z * g) * (S * U) ≡ 2 ^ 53 * (Z * U * (g * S))
      right g = mul_assoc (2 ^ 53) (Z * g) (S * U) ∙ ap (λ (x : ℕ). 2 ^ 53 * x) (ap (λ (x : ℕ). Z * g * x) (mul_comm S U) ∙ mul-mul-mul_comm Z g U S)

      grown : (a b : ℕ) → a ≤ b + 3 * S → a * U ≤ b * U + 3 * (S * U)
      grown a b h = le_trans (mul-le-mul_right U h) (le_of_eq (add-mul b (3 * S) U ∙ ap (λ (x : ℕ). b * U + x) (mul_assoc 3 S U)))

      joined : (t h : ℕ) → t * U + A * (h * U) ≡ (t + A * h) * U
      joined t h = ap (λ (x : ℕ). t * U + x) (sym (mul_assoc A h U)) ∙ sym (add-mul t (A * h) U)

      thirty : (x : ℕ) → 5 * x + 3 * x + 21 * x + x ≤ 30 * x
      thirty x = omega arith

  -- the exact value stays small, and so does the result
  pub exact_small : (F tp tn hp hn : ℕ) → tp + tn ≤ S * (U * U) → hp ≤ hn + 3 * S → tp + A * hp ≤ tn + A * hn + 3 * (S * (U * U))
  exact_small F tp tn hp hn t h =
      let a : A * hp ≤ A * (hn + 3 * S) = mul-le-mul (le_refl A) h in
      let b : A * (hn + 3 * S) ≡ A * hn + 3 * (A * S) = mul-add A hn (3 * S) ∙ ap (λ (x : ℕ). A * hn + x) (mul_left_comm A 3 S) in
      let c : 8 * A * S ≤ 5 * (U * U) * S = mul-le-mul_right S za in
      let d : 8 * A * S ≡ 8 * (A * S) = mul_assoc 8 A S in
      let e : 5 * (U * U) * S ≡ 5 * (S * (U * U)) = mul_assoc 5 (U * U) S ∙ ap (λ (x : ℕ). 5 * x) (mul_comm (U * U) S) in
      omega arith

  pub result_small : (s : Bool) (X cp cn fp fn C G H : ℕ) → G ≤ 4 * U → C ≤ U → cp + cn ≤ C → fp + fn ≤ H → Off (2 ^ 53 * (H * U)) (2 ^ 53 * (Z * G)) (Z * G + 2 ^ 52 * U)
      → Near (2 ^ 53 * plus s X) (2 ^ 53 * minus s X) (2 ^ 53 * (cp + fp)) (2 ^ 53 * (cn + fn)) (C + H + 2 ^ 52) → X ≤ 4 * U
  result_small true X cp cn fp fn C G H g c cc' ff ho o = result_linear X C H U (flat X cp cn fp fn C H cc' ff o.over) c (h_small G H g ho) (le_trans (lit≤ tt) big)
    where
      flat : (X cp cn fp fn C H : ℕ) → cp + cn ≤ C → fp + fn ≤ H → 2 ^ 53 * (cp + fp) + 2 ^ 53 * X ≤ 2 ^ 53 * 0 + 2 ^ 53 * (cn + fn) + (C + H + 2 ^ 52) → 2 ^ 53 * X ≤ 2 ^ 53 * (C + H) + (C + H + 2 ^ 52)
      flat X cp cn fp fn C H k l h = omega arith
  result_small false X cp cn fp fn C G H g c cc' ff ho o = result_linear X C H U (flat X cp cn fp fn C H cc' ff o.under) c (h_small G H g ho) (le_trans (lit≤ tt) big)
    where
      flat : (X cp cn fp fn C H : ℕ) → cp + cn ≤ C → fp + fn ≤ H → 2 ^ 53 * X + 2 ^ 53 * (cn + fn) ≤ 2 ^ 53 * (cp + fp) + 2 ^ 53 * 0 + (C + H + 2 ^ 52) → 2 ^ 53 * X ≤ 2 ^ 53 * (C + H) + (C + H + 2 ^ 52)
      flat X cp cn fp fn C H k l h = omega arith
