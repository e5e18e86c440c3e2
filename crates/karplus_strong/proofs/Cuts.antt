-- A number from 1 to below 2 ^ 52 has its fraction in the low digits of its bits.
use Rattle.std.proofs.Common.{◌≡◌, ℕ, zero, suc, ◌+◌, ◌-◌, ◌*◌, ◌/◌, ◌%◌, ◌^◌, ◌<◌, ◌≤◌, Bool, true, false, cond, not, T, eqb, leb, pos, sym, refl, ap, subst}
use Rattle.std.proofs.Common.{zero-le, le_trans, le_of_eq, le-add_right, mod-eq_of_lt, mul-le-mul, lt_of_not-le, mul-one, not-le_of_lt, lit<, lit≤, ltb→lt}
use Rattle.std.proofs.Common.{pow_pos, pow_mono}
use lib.Dec.{nleb→lt}
use lib.Ieee.{Float, nan, inf, fin, binary64, lt, le, odd, is_nan, of_bits, of_fields, to_bits, to_unsigned}
use lib.Bits.{bit_and, bit_or}
use lib.Ieee.Bits.{of_bits-to_bits, is_true}
use lib.Ieee.Exact.{HasValue, odd_sign}
use lib.Ieee.Positive.{positive, between}
use Rattle.laws.proofs.Order.{le_lt_trans, lt_by_values, le_of_lt_true}
use Rattle.laws.proofs.Tests.{of_false}
use Rattle.laws.specs.Float.{F64, one}
use Rattle.std.proofs.num.Truncating.{two_to, at_least_one, is_no_nan, down_by, cut_down}
use Rattle.numeric.specs.Basic.{whole_of}
use Rattle.numeric.proofs.RangeLaws.{whole_monotone}
use Rattle.karplus_strong.specs.Shortcuts.{Cut}

abbrev top : Float
top = of_bits binary64 0x4330000000000000

top_value : HasValue top false (2 ^ 52) 1
unfolding of_bits
top_value = (refl, refl)

-- a whole number of 2 ^ 52 and more, shifted by j, is below 2 ^ 52 shifted by l only for a smaller j
shift_below : (q j l : ℕ) → 2 ^ 52 ≤ q → q * 2 ^ j < 2 ^ 52 * 2 ^ l → j < l
shift_below q j l h k = lt_of_not-le (λ (g : l ≤ j). not-le_of_lt k (mul-le-mul h (pow_mono g)))

sign_clear : (v : Float) (s : Bool) (a c : ℕ) → T (positive v) → HasValue v s a c → s ≡ false
sign_clear nan s a c p h = absurd p
sign_clear (inf t) s a c p h = absurd p
sign_clear (fin true m e) s a c p h = absurd p
sign_clear (fin false m e) s a c p h = sym h.0

-- what a field of bits below the top stands for
low_field : (s : Bool) (k t : ℕ) → T (positive (of_fields binary64 s k t)) → T (lt (of_fields binary64 s k t) top) → (s ≡ false) × (k ≤ 1075)
unfolding of_fields
low_field s zero t p h = (sign_clear (odd 53 s t 0 1074) s (t * 2 ^ 0) (2 ^ 1074) p (odd_sign 53 s t 0 1074), zero-le)
low_field s (suc j) t p h = go (eqb (suc j) 2047) (eqb t 0) p h
  where
    v : Float
    v = odd 53 s (2 ^ 52 + t) j 1074

    go : (a b : Bool) → T (positive (cond a (cond b (inf s) nan) v)) → T (lt (cond a (cond b (inf s) nan) v) top) → (s ≡ false) × (suc j ≤ 1075)
    go true true p h = absurd p
    go true false p h = absurd p
    go false b p h =
        let e : s ≡ false = sign_clear v s ((2 ^ 52 + t) * 2 ^ j) (2 ^ 1074) p (odd_sign 53 s (2 ^ 52 + t) j 1074) in
        let w : HasValue v false ((2 ^ 52 + t) * 2 ^ j) (2 ^ 1074) =
        subst (λ (z : Bool). HasValue v z ((2 ^ 52 + t) * 2 ^ j) (2 ^ 1074)) e (odd_sign 53 s (2 ^ 52 + t) j 1074) in
        let k : (2 ^ 52 + t) * 2 ^ j < 2 ^ 52 * 2 ^ 1074 =
        subst (λ (z : ℕ). z < 2 ^ 52 * 2 ^ 1074) (mul-one ((2 ^ 52 + t) * 2 ^ j))
        (ltb→lt ((2 ^ 52 + t) * 2 ^ j * 1) (2 ^ 52 * 2 ^ 1074)
        (subst T (lt_by_values v top ((2 ^ 52 + t) * 2 ^ j) (2 ^ 1074) (2 ^ 52) 1 (pow_pos 1074) (lit< tt) w top_value) h)) in
        (e, le_trans (shift_below (2 ^ 52 + t) j 1074 (le-add_right (2 ^ 52) t) k) (lit≤ tt))

fields : (b : ℕ) → of_bits binary64 b ≡ of_fields binary64 (leb (2 ^ 63) b) (b % 2 ^ 63 / 2 ^ 52) (b % 2 ^ 52)
unfolding of_bits
fields b = refl

low_bits : (b : ℕ) → T (positive (of_bits binary64 b)) → T (lt (of_bits binary64 b) top) → b / 2 ^ 52 ≤ 1075
low_bits b p h =
    let f = low_field (leb (2 ^ 63) b) (b % 2 ^ 63 / 2 ^ 52) (b % 2 ^ 52) (subst (λ (z : Float). T (positive z)) (fields b) p)
    (subst (λ (z : Float). T (lt z top)) (fields b) h) in
    le_trans (le_of_eq (ap (λ (z : ℕ). z / 2 ^ 52) (sym (mod-eq_of_lt (nleb→lt (2 ^ 63) b (of_false (leb (2 ^ 63) b) f.0)))))) f.1

low_exponent : (x : Float) → F64 x → T (le one x) → T (lt x top) → to_bits binary64 x / 2 ^ 52 ≤ 1075
low_exponent x f l h =
    low_bits (to_bits binary64 x)
    (subst (λ (z : Float). T (positive z)) (sym (of_bits-to_bits binary64 x f))
    (between one x top (unfold of_bits in tt) (unfold of_bits in tt) l (le_of_lt_true x top h)))
    (subst (λ (z : Float). T (lt z top)) (sym (of_bits-to_bits binary64 x f)) h)

-- what `whole` asks of such a number, and what it answers
module _ (x : Float) (f : F64 x) (h : Cut x) where
  at_one : T (le (fin false 1 (pos 0)) x)
  at_one = at_least_one x (is_true (le one x) h.0)

  below_64 : T (lt x (two_to 64))
  below_64 = le_lt_trans x top (two_to 64) (le_of_lt_true x top h.1) (unfold lt of_bits in tt)

  pub cut_number : T (not (is_nan x))
  cut_number = is_no_nan x f at_one below_64

  pub cut_exponent : to_bits binary64 x / 2 ^ 52 ≤ 1075
  cut_exponent = low_exponent x f h.0 h.1

  pub cut_shift : 1075 - to_bits binary64 x / 2 ^ 52 < 64
  cut_shift = down_by x f at_one below_64

  pub cut_whole : bit_or (bit_and (to_bits binary64 x) (2 ^ 52 - 1)) (2 ^ 52) / 2 ^ (1075 - to_bits binary64 x / 2 ^ 52) ≡ whole_of x
  cut_whole = cut_down x f at_one below_64 cut_exponent

  pub cut_small : whole_of x ≤ 4503599627370496
  cut_small = le_trans (whole_monotone x top (le_of_lt_true x top h.1)) (le_of_eq (unfold to_unsigned of_bits in refl))
