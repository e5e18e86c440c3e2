-- Places on a ring of len cells: a remainder without a division.
use Rattle.std.proofs.Common.{◌≡◌, ℕ, ◌+◌, ◌-◌, ◌%◌, ◌<◌, ◌≤◌, sym, ◌∙◌, mod-lt, mod-eq_of_lt, arith}
use native.Mathlib.Nat.{mod_self, add-mod_right}

pub next_place : (pos len : ℕ) → pos + 1 < len → pos + 1 ≡ (pos + 1) % len
next_place pos len h = sym (mod-eq_of_lt h)

pub first_place : (pos len : ℕ) → pos < len → len ≤ pos + 1 → 0 ≡ (pos + 1) % len
first_place pos len h k =
    let e : pos + 1 ≡ len = omega arith in
    rw e (sym (mod_self len))

-- back by a delay: within the cells before pos, round to those behind it, and not at all from the oldest cell on
pub back_near : (pos len delay : ℕ) → pos < len → delay ≤ pos → pos - delay ≡ (pos + (len - delay)) % len
back_near pos len delay h k =
    let e : pos + (len - delay) ≡ pos - delay + len = omega arith in
    rw e (sym (add-mod_right (pos - delay) len ∙ mod-eq_of_lt {n = pos - delay} {m = len} (omega arith)))

pub back_round : (pos len delay : ℕ) → pos < delay → delay < len → pos + (len - delay) ≡ (pos + (len - delay)) % len
back_round pos len delay h k = sym (mod-eq_of_lt {n = pos + (len - delay)} {m = len} (omega arith))

pub back_oldest : (pos len delay : ℕ) → pos < len → len ≤ delay → pos ≡ (pos + (len - delay)) % len
back_oldest pos len delay h k =
    let e : pos + (len - delay) ≡ pos = omega arith in
    rw e (sym (mod-eq_of_lt h))

-- a place is an index
pub in_line : (r x pos len n : ℕ) → r ≡ x % len → pos < len → len ≤ n → r < n
in_line r x pos len n e h k =
    let q : x % len < len = mod-lt x {m = len} (omega arith) in
    omega arith
