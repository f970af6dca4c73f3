-- Polynomials over differences of whole numbers: values, the shift of the argument, and a bound by the sizes of the coefficients. Assumes nothing.
use mathlib.Core.Path.{◌≡◌, refl, sym, ap, ◌∙◌, subst}
use mathlib.Core.List.{List, [], ◌∷◌}
use Prim.Native.Nat.{ℕ, ◌+◌, ◌-◌, ◌*◌, ◌≤◌, zero-le}
use native.Mathlib.Nat.{le_trans, le_of_eq, mul-zero, add-zero, mul_comm, mul_assoc, add_comm, add_assoc, add_left_comm, add-mul, mul-add, mul-le-mul}
use native.Mathlib.Omega.{arith}
use Rattle.float.proofs.Units.{Off}
use Rattle.sine_accuracy.proofs.Horner.{factor}

-- the number p - n
pub record Diff : Type 0 where
  pub p : ℕ
  pub n : ℕ

infixl 6 ◌⊞◌
infixl 7 ◌⊠◌
abbrev pub nil : Diff
nil = record { p = 0; n = 0 }

unfoldable pub ◌⊞◌ : Diff → Diff → Diff
a ⊞ b = record { p = a.p + b.p; n = a.n + b.n }

unfoldable pub ◌⊠◌ : Diff → Diff → Diff
a ⊠ b = record { p = a.p * b.p + a.n * b.n; n = a.p * b.n + a.n * b.p }

abbrev pub opposite : Diff → Diff
opposite a = record { p = a.n; n = a.p }

-- ---- laws
pub both : {a b : Diff} → a.p ≡ b.p → a.n ≡ b.n → a ≡ b
both e f = λ i. record { p = e i; n = f i }

⊞-assoc : (a b c : Diff) → a ⊞ b ⊞ c ≡ a ⊞ (b ⊞ c)
unfolding ◌⊞◌
⊞-assoc a b c = both (add_assoc a.p b.p c.p) (add_assoc a.n b.n c.n)

⊞-comm : (a b : Diff) → a ⊞ b ≡ b ⊞ a
unfolding ◌⊞◌
⊞-comm a b = both (add_comm a.p b.p) (add_comm a.n b.n)

⊞-left-comm : (a b c : Diff) → a ⊞ (b ⊞ c) ≡ b ⊞ (a ⊞ c)
⊞-left-comm a b c = sym (⊞-assoc a b c) ∙ ap (λ (x : Diff). x ⊞ c) (⊞-comm a b) ∙ ⊞-assoc b a c

⊞-nil : (a : Diff) → a ⊞ nil ≡ a
unfolding ◌⊞◌
⊞-nil a = both (add-zero a.p) (add-zero a.n)

pub nil-⊞ : (a : Diff) → nil ⊞ a ≡ a
nil-⊞ a = ⊞-comm nil a ∙ ⊞-nil a

pub ⊠-comm : (a b : Diff) → a ⊠ b ≡ b ⊠ a
unfolding ◌⊠◌
⊠-comm a b = both (simp (mul_comm, add_comm)) (simp (mul_comm, add_comm))

⊠-nil : (a : Diff) → a ⊠ nil ≡ nil
unfolding ◌⊠◌
⊠-nil a = both (simp (mul-zero, add-zero)) (simp (mul-zero, add-zero))

⊠-⊞ : (a b c : Diff) → a ⊠ (b ⊞ c) ≡ a ⊠ b ⊞ a ⊠ c
unfolding ◌⊞◌ ◌⊠◌
⊠-⊞ a b c = both (simp (mul-add, add_assoc, add_comm, add_left_comm)) (simp (mul-add, add_assoc, add_comm, add_left_comm))

⊞-⊠ : (a b c : Diff) → (a ⊞ b) ⊠ c ≡ a ⊠ c ⊞ b ⊠ c
⊞-⊠ a b c = ⊠-comm (a ⊞ b) c ∙ ⊠-⊞ c a b ∙ ap (λ (x : Diff). x ⊞ c ⊠ b) (⊠-comm c a) ∙ ap (λ (x : Diff). a ⊠ c ⊞ x) (⊠-comm c b)

⊠-assoc : (a b c : Diff) → a ⊠ b ⊠ c ≡ a ⊠ (b ⊠ c)
unfolding ◌⊠◌
⊠-assoc a b c = both (simp (mul-add, add-mul, mul_assoc, add_assoc, add_comm, add_left_comm)) (simp (mul-add, add-mul, mul_assoc, add_assoc, add_comm, add_left_comm))

⊠-left-comm : (a b c : Diff) → a ⊠ (b ⊠ c) ≡ b ⊠ (a ⊠ c)
⊠-left-comm a b c = sym (⊠-assoc a b c) ∙ ap (λ (x : Diff). x ⊠ c) (⊠-comm a b) ∙ ⊠-assoc b a c

-- ---- polynomials, the constant first
unfoldable pub ev : List Diff → Diff → Diff
ev [] x = nil
ev (a ∷ l) x = a ⊞ x ⊠ ev l x

unfoldable pub plus_poly : List Diff → List Diff → List Diff
plus_poly [] m = m
plus_poly (a ∷ l) [] = a ∷ l
plus_poly (a ∷ l) (b ∷ m) = (a ⊞ b) ∷ plus_poly l m

unfoldable pub times_poly : Diff → List Diff → List Diff
times_poly c [] = []
times_poly c (a ∷ l) = (c ⊠ a) ∷ times_poly c l

unfoldable pub shift : Diff → List Diff → List Diff
shift c [] = []
shift c (a ∷ l) = let q = shift c l in plus_poly (a ∷ q) (times_poly c q)

unfoldable pub minus_poly : List Diff → List Diff
minus_poly [] = []
minus_poly (a ∷ l) = opposite a ∷ minus_poly l

pub ev_plus : (l m : List Diff) (x : Diff) → ev (plus_poly l m) x ≡ ev l x ⊞ ev m x
unfolding ev plus_poly
ev_plus [] m x = sym (nil-⊞ (ev m x))
ev_plus (a ∷ l) [] x = sym (⊞-nil (a ⊞ x ⊠ ev l x))
ev_plus (a ∷ l) (b ∷ m) x =
    ap (λ (y : Diff). a ⊞ b ⊞ x ⊠ y) (ev_plus l m x)
    ∙ ap (λ (y : Diff). a ⊞ b ⊞ y) (⊠-⊞ x (ev l x) (ev m x))
    ∙ crossed a b (x ⊠ ev l x) (x ⊠ ev m x)
  where
    crossed : (a b c d : Diff) → a ⊞ b ⊞ (c ⊞ d) ≡ a ⊞ c ⊞ (b ⊞ d)
    crossed a b c d = ⊞-assoc a b (c ⊞ d) ∙ ap (λ (y : Diff). a ⊞ y) (⊞-left-comm b c d) ∙ sym (⊞-assoc a c (b ⊞ d))

pub ev_times : (c : Diff) (l : List Diff) (x : Diff) → ev (times_poly c l) x ≡ c ⊠ ev l x
unfolding ev times_poly
ev_times c [] x = sym (⊠-nil c)
ev_times c (a ∷ l) x =
    ap (λ (y : Diff). c ⊠ a ⊞ x ⊠ y) (ev_times c l x)
    ∙ ap (λ (y : Diff). c ⊠ a ⊞ y) (⊠-left-comm x c (ev l x))
    ∙ sym (⊠-⊞ c a (x ⊠ ev l x))

-- the polynomial at c + x
pub ev_shift : (c : Diff) (l : List Diff) (x : Diff) → ev (shift c l) x ≡ ev l (c ⊞ x)
unfolding ev shift
ev_shift c [] x = refl
ev_shift c (a ∷ l) x =
    let q = shift c l in
    ev_plus (a ∷ q) (times_poly c q) x
    ∙ ap (λ (y : Diff). a ⊞ x ⊠ ev q x ⊞ y) (ev_times c q x)
    ∙ ⊞-assoc a (x ⊠ ev q x) (c ⊠ ev q x)
    ∙ ap (λ (y : Diff). a ⊞ y) (⊞-comm (x ⊠ ev q x) (c ⊠ ev q x) ∙ sym (⊞-⊠ c x (ev q x)) ∙ ap (λ (y : Diff). (c ⊞ x) ⊠ y) (ev_shift c l x))

pub ev_minus : (l : List Diff) (x : Diff) → ev (minus_poly l) x ≡ opposite (ev l x)
unfolding ev minus_poly ◌⊞◌ ◌⊠◌
ev_minus [] x = refl
ev_minus (a ∷ l) x = ap (λ (y : Diff). record { p = a.n + (x.p * y.p + x.n * y.n); n = a.p + (x.p * y.n + x.n * y.p) }) (ev_minus l x)

-- every second coefficient is zero: a polynomial in x * x
unfoldable pub spread : List Diff → List Diff
spread [] = []
spread (a ∷ l) = a ∷ nil ∷ spread l

pub ev_spread : (l : List Diff) (x : Diff) → ev (spread l) x ≡ ev l (x ⊠ x)
unfolding ev spread
ev_spread [] x = refl
ev_spread (a ∷ l) x = ap (λ (y : Diff). a ⊞ x ⊠ y) (nil-⊞ (x ⊠ ev (spread l) x)) ∙ ap (λ (y : Diff). a ⊞ y) (sym (⊠-assoc x x (ev (spread l) x)) ∙ ap (λ (y : Diff). x ⊠ x ⊠ y) (ev_spread l x))

-- ---- a bound by the sizes of the coefficients
abbrev pub size : Diff → ℕ
size a = (a.p - a.n) + (a.n - a.p)

unfoldable pub sizes : List Diff → List ℕ
sizes [] = []
sizes (a ∷ l) = size a ∷ sizes l

unfoldable pub ev_nat : List ℕ → ℕ → ℕ
ev_nat [] x = 0
ev_nat (a ∷ l) x = a + x * ev_nat l x

product_size : (x y u t b d : ℕ) → Off x y b → Off u t d → Off (x * u + y * t) (x * t + y * u) (b * d)
product_size x y u t b d o k =
    let f = factor x y b u t d o k.under k.over in
    record { under = le_trans (le_of_eq refl) (go_1 (x * u) (x * t) (y * u) (y * t) (b * d) f.under); over = go_2 (x * u) (x * t) (y * u) (y * t) (b * d) f.over }
  where
    go_1 : (a b c e g : ℕ) → a + e ≤ c + b + g → a + e ≤ b + c + g
    go_1 a b c e g h = omega arith

    go_2 : (a b c e g : ℕ) → c + b ≤ a + e + g → b + c ≤ a + e + g
    go_2 a b c e g h = omega arith

pub ev_size : (l : List Diff) (x : Diff) (b : ℕ) → Off x.p x.n b → Off (ev l x).p (ev l x).n (ev_nat (sizes l) b)
unfolding ev sizes ev_nat ◌⊞◌ ◌⊠◌
ev_size [] x b o = record { under = zero-le; over = zero-le }
ev_size (a ∷ l) x b o =
    let k = product_size x.p x.n (ev l x).p (ev l x).n b (ev_nat (sizes l) b) o (ev_size l x b o) in
    go a.p a.n (x.p * (ev l x).p + x.n * (ev l x).n) (x.p * (ev l x).n + x.n * (ev l x).p) (b * ev_nat (sizes l) b) k
  where
    go : (p n u t d : ℕ) → Off u t d → Off (p + u) (n + t) ((p - n) + (n - p) + d)
    go p n u t d o = let a = o.under in let b = o.over in record { under = omega arith; over = omega arith }

pub ev_nat_mono : (l : List ℕ) (a b : ℕ) → a ≤ b → ev_nat l a ≤ ev_nat l b
unfolding ev_nat
ev_nat_mono [] a b h = zero-le
ev_nat_mono (c ∷ l) a b h = let k : a * ev_nat l a ≤ b * ev_nat l b = mul-le-mul h (ev_nat_mono l a b h) in omega arith

-- ---- equal differences have equal values
abbrev pub Same : Diff → Diff → Type 0
Same a b = a.p + b.n ≡ b.p + a.n

times_same : (x w v : Diff) → Same w v → Same (x ⊠ w) (x ⊠ v)
unfolding ◌⊠◌
times_same x w v h =
    let e1 : x.p * (w.p + v.n) ≡ x.p * w.p + x.p * v.n = mul-add x.p w.p v.n in
    let e2 : x.p * (v.p + w.n) ≡ x.p * v.p + x.p * w.n = mul-add x.p v.p w.n in
    let e3 : x.n * (w.p + v.n) ≡ x.n * w.p + x.n * v.n = mul-add x.n w.p v.n in
    let e4 : x.n * (v.p + w.n) ≡ x.n * v.p + x.n * w.n = mul-add x.n v.p w.n in
    let f : x.p * (w.p + v.n) ≡ x.p * (v.p + w.n) = ap (λ (y : ℕ). x.p * y) h in
    let g : x.n * (w.p + v.n) ≡ x.n * (v.p + w.n) = ap (λ (y : ℕ). x.n * y) h in
    omega arith

same_trans : (a b c : Diff) → Same a b → Same b c → Same a c
same_trans a b c h k = omega arith

plus_same : (a b c : Diff) → Same b c → Same (a ⊞ b) (a ⊞ c)
unfolding ◌⊞◌
plus_same a b c h = omega arith

pub ev_same : (l : List Diff) (x y : Diff) → Same x y → Same (ev l x) (ev l y)
unfolding ev
ev_same [] x y h = refl
ev_same (a ∷ l) x y h =
    plus_same a (x ⊠ ev l x) (y ⊠ ev l y)
    (same_trans (x ⊠ ev l x) (x ⊠ ev l y) (y ⊠ ev l y) (times_same x (ev l x) (ev l y) (ev_same l x y h))
    (subst (λ (z : Diff). Same z (y ⊠ ev l y)) (⊠-comm (ev l y) x) (subst (λ (z : Diff). Same (ev l y ⊠ x) z) (⊠-comm (ev l y) y) (times_same (ev l y) x y h))))
