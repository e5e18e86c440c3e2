-- The rows that change in n ticks, by halves of the index.
use Rattle.std.proofs.Common.{◌≡◌, ℕ, zero, suc, ◌+◌, ◌-◌, ◌*◌, ◌/◌, ◌%◌, ◌^◌, ◌<◌, ◌≤◌, min, sym, refl, ap, ◌∙◌, ap₂, add-zero, add-suc, mod-lt, zero-add}
use Rattle.std.proofs.Common.{arith, lit<, lit≤}
use native.Mathlib.Nat.{sub-zero, mod-add-mod}
use lib.Arith.{digits_div, digits_mod}
use lib.Count.{under, count_trailing_zeros}
use Rattle.answer.specs.Block.{after_ticks}
use Rattle.noise_generator.proofs.RowLaws.{low_digits, changed_zeros, changed_range}
use Rattle.noise_generator.specs.Shortcuts.{climbed_of}
use Rattle.noise_generator.specs.NoiseGenerator.{changed_by, needed_by}
use Rattle.noise_generator.specs.Pink.{next_index, changed_of}
use Rattle.noise_generator.specs.declared.NoiseGenerator.{NoiseGenerator}

-- ---- the sum of halves
pub climbed_turn : (d n : ℕ) → climbed_of (suc d) n ≡ n + climbed_of d (n / 2)
unfolding climbed_of
climbed_turn d n = refl

pub climbed_most : (d n : ℕ) → climbed_of d n ≤ 2 * n
unfolding climbed_of
climbed_most zero n = omega arith
climbed_most (suc d) n = let h = climbed_most d (n / 2) in omega arith

-- a loop that adds a half at each turn: what it has and what is left are the whole
pub climbed_none : (d n : ℕ) → 0 + climbed_of (d - 0) n ≡ climbed_of d n
climbed_none d n = zero-add (climbed_of (d - 0) n) ∙ ap (λ (k : ℕ). climbed_of k n) (sub-zero d)

pub climbed_more : (d i n sum rest : ℕ) → i < d → sum + climbed_of (d - i) rest ≡ climbed_of d n
    → (sum + rest) + climbed_of (d - (i + 1)) (rest / 2) ≡ climbed_of d n
climbed_more d i n sum rest l e =
    let one : d - i ≡ suc (d - (i + 1)) = omega arith in
    let turn : climbed_of (d - i) rest ≡ rest + climbed_of (d - (i + 1)) (rest / 2) = ap (λ (k : ℕ). climbed_of k rest) one ∙ climbed_turn (d - (i + 1)) rest in
    omega arith

pub climbed_done : (d i n sum rest : ℕ) → i ≡ d → sum + climbed_of (d - i) rest ≡ climbed_of d n → sum ≡ climbed_of d n
unfolding climbed_of
climbed_done d i n sum rest h e =
    let left : d - i ≡ 0 = omega arith in
    let none : climbed_of (d - i) rest ≡ 0 = ap (λ (k : ℕ). climbed_of k rest) left in
    omega arith

-- ---- one tick more
-- the halves of an even number step too
climbed_step : (d n : ℕ) → climbed_of d (suc n) ≡ climbed_of d n + min d (suc (count_trailing_zeros d (suc n)))
unfolding climbed_of count_trailing_zeros
climbed_step zero n = refl
climbed_step (suc d) n = go (climbed_step d (n / 2)) (suc n % 2) refl
  where
    go : climbed_of d (suc (n / 2)) ≡ climbed_of d (n / 2) + min d (suc (count_trailing_zeros d (suc (n / 2)))) → (r : ℕ) → suc n % 2 ≡ r
        → suc n + climbed_of d (suc n / 2) ≡ n + climbed_of d (n / 2) + min (suc d) (suc (under r (count_trailing_zeros d (suc n / 2))))
    go half zero a =
        let up : suc n / 2 ≡ suc (n / 2) = omega arith in
        let climbed : climbed_of d (suc n / 2) ≡ climbed_of d (suc (n / 2)) = ap (climbed_of d) up in
        let zeros : count_trailing_zeros d (suc n / 2) ≡ count_trailing_zeros d (suc (n / 2)) = ap (count_trailing_zeros d) up in
        omega arith
    go half (suc zero) a = let same : climbed_of d (suc n / 2) ≡ climbed_of d (n / 2) = ap (climbed_of d) (omega arith) in omega arith
    go half (suc (suc r)) a = absurd (omega arith)

-- the digits past the first d and the wrapping don't matter to d rows
zeros_cut : (d e n : ℕ) → d ≤ e → min d (count_trailing_zeros e (n % 2 ^ e)) ≡ count_trailing_zeros d n
unfolding count_trailing_zeros
zeros_cut zero e n h = omega arith
zeros_cut (suc d) zero n h = absurd (omega arith)
zeros_cut (suc d) (suc e) n h =
    ap (λ (m : ℕ). min (suc d) (count_trailing_zeros (suc e) m)) (low_digits n e)
    ∙ ap₂ (λ (r q : ℕ). min (suc d) (under r (count_trailing_zeros e q)))
    (digits_mod (n / 2 % 2 ^ e) (mod-lt n (lit< tt))) (digits_div (n / 2 % 2 ^ e) (mod-lt n (lit< tt)))
    ∙ under_min (n % 2) (count_trailing_zeros e (n / 2 % 2 ^ e))
    ∙ ap (under (n % 2)) (zeros_cut d e (n / 2) (omega arith))
  where
    under_min : (r t : ℕ) → min (suc d) (under r t) ≡ under r (min d t)
    under_min zero t = omega arith
    under_min (suc r) t = omega arith

changed_wrapped : (n : ℕ) → changed_of (n % 4294967296) ≡ min 16 (suc (count_trailing_zeros 16 n))
changed_wrapped n =
    let z = changed_zeros (n % 4294967296) (mod-lt n (lit< tt)) in
    let c : min 16 (count_trailing_zeros 32 (n % 2 ^ 32)) ≡ count_trailing_zeros 16 n = zeros_cut 16 32 n (lit≤ tt) in
    omega arith

-- ---- n ticks
pub index_after : (n i : ℕ) → after_ticks next_index (suc n) i ≡ (i + suc n) % 4294967296
unfolding after_ticks next_index
index_after zero i = refl
index_after (suc n) i =
    ap (λ (k : ℕ). (k + 1) % 4294967296) (index_after n i) ∙ mod-add-mod (i + suc n) 4294967296 1
    ∙ ap (λ (k : ℕ). k % 4294967296) (omega arith)

rows_at : (index n : ℕ) → changed_of (after_ticks next_index (suc n) index) ≡ min 16 (suc (count_trailing_zeros 16 (suc (index + n))))
rows_at index n =
    ap changed_of (index_after n index) ∙ changed_wrapped (index + suc n) ∙ ap (λ (k : ℕ). min 16 (suc (count_trailing_zeros 16 k))) (add-suc index n)

pub changed_by_lem : (index n : ℕ) → changed_by index n + climbed_of 16 index ≡ climbed_of 16 (index + n)
unfolding changed_by
changed_by_lem index zero = zero-add (climbed_of 16 index) ∙ ap (climbed_of 16) (sym (add-zero index))
changed_by_lem index (suc n) =
    let before = changed_by_lem index n in
    let more = climbed_step 16 (index + n) in
    let rows = rows_at index n in
    (omega arith) ∙ ap (climbed_of 16) (sym (add-suc index n))

changed_least : (index n : ℕ) → n ≤ changed_by index n
unfolding changed_by after_ticks
changed_least index zero = lit≤ tt
changed_least index (suc n) = let h = changed_least index n in let r = changed_range (after_ticks next_index n index) in omega arith

pub needed_least : (s : NoiseGenerator) (n : ℕ) → 4 * n ≤ needed_by s n
unfolding needed_by
needed_least s n = let a = changed_least s.pink.index n in let b = changed_least s.pink2.index n in omega arith

-- so they are few enough for a sum of 64 bits
pub changed_by_most : (index n : ℕ) → changed_by index n ≤ 2 * (index + n)
changed_by_most index n = let a = changed_by_lem index n in let b = climbed_most 16 (index + n) in omega arith
