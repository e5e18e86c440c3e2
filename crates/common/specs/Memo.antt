-- Memo, written from common.rs, of any key and any value: `same` compares keys, and its closure gives v. The keys are the bits of f64s, any NaN's as one.
use Rattle.std.specs.Prelude.{◌≡◌, ℕ, Bool, true, false, cond, ◌&&◌, eqb, Float}
use Rattle.std.specs.Float.{binary64}
use Rattle.std.specs.Float.Ieee.{to_bits}
use Rattle.laws.specs.Float.{zer}
use Rattle.common.specs.Pitch.{voct_to_hz}
use Rattle.common.specs.declared.Hertz.{Hertz}
use Rattle.common.specs.declared.Memo.{Memo}

-- Memo::new(v): no key matches
abbrev pub new_memo : {K V : Type 0} → K → V → Memo K V
new_memo k v = record { key = k; val = v; valid = false }

unfoldable pub hits : {K V : Type 0} → (K → K → Bool) → Memo K V → K → Bool
hits same m k = m.valid && same m.key k

unfoldable pub filled : {K V : Type 0} → K → V → Memo K V
filled k v = record { key = k; val = v; valid = true }

-- get_or_compute(k, || v): the memo after it, whose val is its answer
unfoldable pub recall : {K V : Type 0} → (K → K → Bool) → V → Memo K V → K → Memo K V
recall same v m k = cond (hits same m k) m (filled k v)

-- ---- Memo<1, f64> of a frequency, whose closure is a function of its key
abbrev pub Memo1 : Type 0
Memo1 = Memo ℕ Hertz

abbrev pub new_memo1 : Memo1
new_memo1 = new_memo 0 (record { 0 = zer })

abbrev pub hits1 : Memo1 → Float → Bool
hits1 m x = hits eqb m (to_bits binary64 x)

abbrev pub filled1 : Float → Hertz → Memo1
filled1 x v = filled (to_bits binary64 x) v

abbrev pub recall1 : (Float → Hertz) → Memo1 → Float → Memo1
recall1 compute m x = recall eqb (compute x) m (to_bits binary64 x)

-- the closure || voct_to_hz(voct)
abbrev pub voct_to_hz_at : Float → Hertz
voct_to_hz_at x = voct_to_hz (record { 0 = x })

-- ---- keys of three f64s
abbrev pub Key3 : Type 0
Key3 = ℕ × ℕ × ℕ

abbrev pub key3 : Float → Float → Float → Key3
key3 x y z = (to_bits binary64 x, to_bits binary64 y, to_bits binary64 z)

abbrev pub same3 : Key3 → Key3 → Bool
same3 a b = (eqb a.0 b.0 && eqb a.1 b.1) && eqb a.2 b.2

-- and Memo<3, f64>
abbrev pub Memo3 : Type 0
Memo3 = Memo Key3 Hertz

abbrev pub new_memo3 : Memo3
new_memo3 = new_memo (0, 0, 0) (record { 0 = zer })

abbrev pub hits3 : Memo3 → Float → Float → Float → Bool
hits3 m x y z = hits same3 m (key3 x y z)

abbrev pub filled3 : Float → Float → Float → Hertz → Memo3
filled3 x y z v = filled (key3 x y z) v

abbrev pub recall3 : (Float → Float → Float → Hertz) → Memo3 → Float → Float → Float → Memo3
recall3 compute m x y z = recall same3 (compute x y z) m (key3 x y z)
