-- Some of a line's cells, lent as a slice of their own.
use mathlib.Core.List.{List, [], ◌++◌, append_assoc, append-nil}
use mathlib.Core.Path.{◌≡◌, refl, sym, ap, ◌∙◌}
use Prim.Native.Nat.{◌+◌, ◌-◌, ◌<◌, ◌≤◌, suc, zero, ℕ}
use native.Mathlib.Numerals.{add-one}
use native.Mathlib.Omega.{arith}
use lib.Ieee.{Float, nan, binary64, add, sub, div, neg}
use lib.ListN.{drop_of_length-le, get_or, get_or-append, length, length-drop, length-take, take, drop, replicate}
use Rattle.std.specs.List.{fold}
use Rattle.std.proofs.Common.{lt-ltb, le-ltb}
use Rattle.std.proofs.lemmas.List.{drop-drop, drop_at, replicate_more, take_all}
use Rattle.std.proofs.lemmas.List.Sums.{fold_more}
use Rattle.laws.specs.Float.{zer}
use Rattle.laws.specs.Lists.{tab, over}
use Rattle.laws.proofs.Over.{length_tab, tab_append, tab_ext, tab_take}
use Rattle.numeric.specs.Basic.{real_of}
use Rattle.karplus_strong.specs.Line.{blank_at, blank_of, excited_at, excited_of, level_at, level_of, mean_of, struck_of, sum_to}

-- ---- filled
same_cells : (f : ℕ → Float) (v : Float) (n : ℕ) → ((i : ℕ) → f i ≡ v) → tab f n ≡ replicate n v
unfolding tab
same_cells f v zero h = refl
same_cells f v (suc n) h =
    let e = same_cells f v n h in
    let q = h n in
    rw (e, q) (replicate_more n v ∙ ap (λ k. replicate k v) (add-one n))

pub blanked : (l ys : List Float) (from to n : ℕ) → from ≤ to → to ≤ length l → n ≡ to - from → ys ≡ replicate (length (take n (drop from l))) zer
    → take from l ++ (ys ++ drop n (drop from l)) ≡ blank_of from to l
unfolding blank_of over blank_at
blanked l ys from to n h k en ey =
    let kept : tab (blank_at from l) from ≡ take from l = tab_take nan (blank_at from l) l from (omega arith) (λ i b. simp (lt-ltb i from b)) in
    let new : tab (λ j. blank_at from l (j + from)) n ≡ replicate n zer =
    same_cells (λ j. blank_at from l (j + from)) zer n (λ j. simp (le-ltb (j + from) from (omega arith))) in
    let size : length (take n (drop from l)) ≡ n = simp (length-take, length-drop) (omega arith) in
    let filled : ys ≡ replicate n zer = rw size at ey in
    let all : n + from ≡ to = omega arith in
    let last : from + n ≡ to = omega arith in
    sym (ap (λ m. tab (blank_at from l) m ++ drop to l) (sym all)
    ∙ ap (λ (t : List Float). t ++ drop to l) (tab_append (blank_at from l) from n)
    ∙ append_assoc (tab (blank_at from l) from) (tab (λ j. blank_at from l (j + from)) n) (drop to l)
    ∙ (λ i. kept i ++ ((new ∙ sym filled) i ++ (ap (λ m. drop m l) (sym last) ∙ sym (drop-drop n from l)) i)))

-- ---- struck
pub sum_alike : (l m : List Float) (n : ℕ) → ((i : ℕ) → i < n → get_or l i nan ≡ get_or m i nan) → sum_to l n ≡ sum_to m n
unfolding sum_to
sum_alike l m zero k = refl
sum_alike l m (suc n) k = rw (sum_alike l m n (λ i q. k i (omega arith)), k n (omega arith))

pub summed : (l : List Float) (i : ℕ) → i ≤ length l → fold (add binary64) (neg zer) (take i l) ≡ sum_to l i
unfolding sum_to
summed l zero h = refl
summed l (suc i) h =
    let more = ap (λ k. fold (add binary64) (neg zer) (take k l)) (sym (add-one i)) ∙ fold_more (add binary64) (neg zer) l i nan h in
    rw (summed l i (omega arith)) at more

-- each pass over all of a list's cells
pub struck_by : (n : ℕ) (b : Float) (d : List ℕ) (l x y : List Float) (t r : Float) → length x ≡ n → x ≡ excited_of n b d l
    → t ≡ fold (add binary64) (neg zer) x → r ≡ real_of n → y ≡ level_of (length x) (div binary64 t r) x → y ≡ struck_of n b d l
unfolding struck_of mean_of
struck_by n b d l x y t r z ex et er ey =
    let all : fold (add binary64) (neg zer) x ≡ sum_to x (length x) =
    ap (fold (add binary64) (neg zer)) (sym (take_all (length x) x (omega arith))) ∙ summed x (length x) (omega arith) in
    rw (ey, et, all, er, z, ex)

-- the first n cells of a line, and the others as they were
pub struck_cells : (n : ℕ) (b : Float) (d : List ℕ) (l : List Float) → n ≤ length l → struck_of n b d (take n l) ++ drop n l ≡ struck_of n b d l
unfolding struck_of excited_of level_of level_at mean_of over
struck_cells n b d l h =
    let new : List Float = tab (excited_at n b d) n in
    let size : length new ≡ n = length_tab (excited_at n b d) n in
    let none : drop n (take n l) ≡ [] = drop_of_length-le (take n l) {i = n} (simp length-take (omega arith)) in
    let old : drop n (new ++ drop n l) ≡ drop n l = drop_at new (drop n l) n size in
    let past : drop n new ≡ [] = drop_of_length-le new {i = n} (omega arith) in
    let same : (i : ℕ) → i < n → get_or new i nan ≡ get_or (new ++ drop n l) i nan = λ i q. sym (get_or-append new (drop n l) nan i (omega arith)) in
    let mean : sum_to new n ≡ sum_to (new ++ drop n l) n = sum_alike new (new ++ drop n l) n same in
    let levelled : tab (level_at (mean_of n new) new) n ≡ tab (level_at (mean_of n (new ++ drop n l)) (new ++ drop n l)) n =
    tab_ext (level_at (mean_of n new) new) (level_at (mean_of n (new ++ drop n l)) (new ++ drop n l)) n
    (λ i q j. sub binary64 (same i q j) (div binary64 (mean j) (real_of n))) in
    rw (none, append-nil, past, append-nil, old, levelled)
