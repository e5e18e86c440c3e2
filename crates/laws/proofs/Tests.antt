-- Tests on Bools and whole numbers, and what they say.
use mathlib.Core.Bool.{Bool, ◌&&◌, ◌||◌, cond, false, false≢true, not, true, true≢false}
use mathlib.Core.Path.{◌≡◌, refl}
use Prim.Native.Nat.{◌*◌, ◌<◌, ◌≤◌, suc, zero, ℕ}
use native.Mathlib.Omega.{arith}
use native.Mathlib.Nat.{lt_of_not-le, mul-pos, not-le_of_lt, zero-lt-suc}
use lib.Dec.{T, eqb, eqb→eq, leb, leb→le, le→leb, ltb, ltb→lt, lt→ltb, not_T}
use lib.Ieee.Bits.{is_false, is_true}
use lib.Ieee.Fits.{eq→eqb}

bool_iff : (a b : Bool) → (T a → T b) → (T b → T a) → a ≡ b
bool_iff true true h k = refl
bool_iff true false h k = absurd (h tt)
bool_iff false true h k = absurd (k tt)
bool_iff false false h k = refl

pub and_true : (a : Bool) → (a && true) ≡ a
and_true true = refl
and_true false = refl

pub both_true : (a b : Bool) → (a && b) ≡ true → (a ≡ true) × (b ≡ true)
both_true true b h = (refl, h)
both_true false b h = absurd (false≢true h)

-- a test that gives 1 where it fails
pub passed : (b : Bool) (n : ℕ) → cond b n 1 ≡ 0 → b ≡ true
passed true n h = refl
passed false n h = absurd (one_not_zero h)
  where
    one_not_zero : ◌≡◌ {A = ℕ} 1 0 → ⊥
    one_not_zero e = omega arith

-- P holds of what a refusal's number chooses, where it holds of both: of x if the number is 0
pub unless_refused : {X : Type 0} (P : X → Type 0) (n : ℕ) (x y : X) → (n ≡ 0 → P x) → P y → P (cond (eqb n 0) x y)
unless_refused P n x y p q = go (eqb n 0) (eqb→eq n 0)
  where
    go : (b : Bool) → (T b → n ≡ 0) → P (cond b x y)
    go true z = p (z tt)
    go false z = q

pub or_left : (a b : Bool) → T a → T (a || b)
or_left true b t = tt
or_left false b t = absurd t

pub or_right : (a b : Bool) → T b → T (a || b)
or_right true b h = tt
or_right false b h = h

pub or_case : (a b : Bool) {X : Type 0} → (T a → X) → (T b → X) → T (a || b) → X
or_case true b f g t = f tt
or_case false b f g t = g t

pub of_true : (b : Bool) → b ≡ true → T b
of_true true e = tt
of_true false e = absurd (false≢true e)

pub of_false : (b : Bool) → b ≡ false → T (not b)
of_false true e = absurd (true≢false e)
of_false false e = tt

pub eqb_iff : (a b c d : ℕ) → (a ≡ b → c ≡ d) → (c ≡ d → a ≡ b) → eqb a b ≡ eqb c d
eqb_iff a b c d h k = bool_iff (eqb a b) (eqb c d) (λ t. eq→eqb (h (eqb→eq a b t))) (λ t. eq→eqb (k (eqb→eq c d t)))

pub ltb_iff : (a b c d : ℕ) → (b ≤ a → d ≤ c) → (d ≤ c → b ≤ a) → ltb a b ≡ ltb c d
ltb_iff a b c d h k = bool_iff (ltb a b) (ltb c d) (go a b c d k) (go c d a b h)
  where
    go : (a b c d : ℕ) → (d ≤ c → b ≤ a) → T (ltb a b) → T (ltb c d)
    go a b c d k t = lt→ltb c d (lt_of_not-le (λ (g : d ≤ c). not-le_of_lt (ltb→lt a b t) (k g)))

pub leb_yes : (a b : ℕ) → a ≤ b → leb a b ≡ true
leb_yes a b h = is_true (leb a b) (le→leb a b h)

pub leb_no : (a b : ℕ) → b < a → leb a b ≡ false
leb_no a b h = is_false (leb a b) (not_T (leb a b) (λ (t : T (leb a b)). not-le_of_lt h (leb→le a b t)))

pub eqb_yes : (a b : ℕ) → a ≡ b → eqb a b ≡ true
eqb_yes a b h = is_true (eqb a b) (eq→eqb h)

pub eqb_no : (a b : ℕ) → (a ≡ b → ⊥) → eqb a b ≡ false
eqb_no a b h = is_false (eqb a b) (not_T (eqb a b) (λ (t : T (eqb a b)). h (eqb→eq a b t)))

-- a product with a number above 0 is 0 only where the other factor is
pub zero_of : (a d : ℕ) → 0 < d → a * d ≤ 0 → a ≡ 0
zero_of zero d D h = refl
zero_of (suc a) d D h = absurd (not-le_of_lt (mul-pos {m = suc a} (zero-lt-suc a) D) h)
