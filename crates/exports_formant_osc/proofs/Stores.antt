-- Parts of a list read and written, and the floats of a state stored so.
use mathlib.Core.List.{List, ◌++◌}
use mathlib.Core.Path.{◌≡◌, refl, sym, ap, ◌∙◌}
use Prim.Native.Nat.{ℕ, ◌+◌, ◌-◌, ◌≤◌}
use native.Mathlib.Omega.{arith}
use lib.Ieee.{Float, nan}
use lib.ListN.{length, length-drop, get_or, set, take, drop}
use lib.Seq.{sets, length-take-le, get_or-take, get_or-drop}
use Rattle.exports_formant_osc.specs.State.{n_floats, part, floats_of}
use Rattle.formant_osc.specs.declared.FormantOsc.{FormantOsc}
use Rattle.laws.proofs.Over.{by_cells}
use Rattle.laws.proofs.Slices.{stored, sets_part}
use Rattle.laws.specs.Lists.{tab}

-- a part of a list, copied out of it
pub part_read : (l m : List Float) (at n k : ℕ) → at + n ≤ length l → k ≡ n → m ≡ take k (drop at l) → m ≡ part l at n
part_read l m at n k h e q =
    let long : length (drop at l) ≡ length l - at = length-drop at l in
    let size : length m ≡ n = ap length q ∙ length-take-le k (drop at l) (omega arith) ∙ e in
    by_cells nan (λ (i : ℕ). get_or l (at + i) nan) n m size
    (λ i b. ap (λ (x : List Float). get_or x i nan) q ∙ get_or-take k (drop at l) i nan (omega arith) ∙ get_or-drop at l i nan)

-- and copied into it
pub part_written : (l m cells : List Float) (at k : ℕ) → at + length cells ≤ length l → k ≡ length cells → m ≡ cells
    → take at l ++ (m ++ drop k (drop at l)) ≡ sets l at cells
part_written l m cells at k h e q =
    let long : length (drop at l) ≡ length l - at = length-drop at l in
    let size : length (take k (drop at l)) ≡ length cells = length-take-le k (drop at l) (omega arith) ∙ e in
    sets_part l m cells at k (omega arith) (omega arith) (q ∙ sym (stored (take k (drop at l)) cells size))

-- all cells of a list are the list
pub whole : (l : List Float) (n : ℕ) → length l ≡ n → tab (λ (i : ℕ). get_or l i nan) n ≡ l
whole l n h = sym (by_cells nan (λ (i : ℕ). get_or l i nan) n l h (λ i k. refl))

pub all_stored : (s : FormantOsc) (l m n : List Float) → length l ≡ n_floats → length s.resonator_state ≡ 10 → length s.coef_memo.val ≡ 15
    → m ≡ sets l 2 s.resonator_state → n ≡ sets m 14 s.coef_memo.val
    → set (set (set (set n 0 s.phase.0) 1 s.vibrato_phase.0) 12 s.sample_rate.0) 13 s.freq_memo.val.0 ≡ floats_of s
unfolding floats_of tab
all_stored s l m n h a b p q =
    (λ i. last (q i)) ∙ (λ i. last (sets (p i) 14 s.coef_memo.val))
    ∙ (λ i. last (sets (sets (sym (whole l n_floats h) i) 2 (sym (whole s.resonator_state 10 a) i)) 14 (sym (whole s.coef_memo.val 15 b) i)))
  where
    last : List Float → List Float
    last x = set (set (set (set x 0 s.phase.0) 1 s.vibrato_phase.0) 12 s.sample_rate.0) 13 s.freq_memo.val.0
