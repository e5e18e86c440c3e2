-- Numbers of a table, and tables of the bank.
use mathlib.Core.Bool.{Bool, true, false}
use mathlib.Core.List.{List, ◌++◌, append_assoc}
use mathlib.Core.Logic.{◌≢◌}
use mathlib.Core.Path.{◌≡◌, refl, sym, ap, ◌∙◌}
use Prim.Native.Nat.{ℕ, zero, suc, ◌+◌, ◌*◌, ◌/◌, ◌%◌, ◌<◌}
use native.Mathlib.Omega.{arith}
use lib.Dec.{eqb}
use lib.Ieee.{Float, nan, binary64, mul}
use lib.ListN.{length, get_or, set, take, length-append, length-take}
use lib.Seq.{get_or-set_same, get_or-set_other, take_at, take_all}
use Rattle.std.proofs.lemmas.Bool.{lt-ltb}
use borrow.Author.Tests.{eq-eqb, eqb-true, eqb-false}
use Rattle.laws.proofs.Over.{by_cells, length_tab, tab_ext, tab_append}
use Rattle.laws.specs.Lists.{tab}
use Rattle.std.specs.Prelude.{Result, Ok, Err}
use Rattle.common.proofs.RefusalLaws.{nonzero}
use Rattle.common.specs.Refusal.{refused_number}
use Rattle.common.specs.declared.Refusal.{Refusal}
use Rattle.wavetable.specs.Bank.{Filled, filled, fill_table_of}
use Rattle.wavetable.specs.Bank.{plain_of, series_of, sum_of, terms_of, scale_of, is_series, cell_of, table_cell, table_of, bank_cell, bank_of}
use Rattle.wavetable.specs.Shortcuts.{series_number, plain_number, number_of, Right}
use Rattle.wavetable.specs.declared.bank.TheConstants.WavetableType.{ALL}
use Rattle.wavetable.specs.declared.bank.Series.{Series}
use Rattle.wavetable.specs.declared.bank.Series.TheVariants as series
use Rattle.wavetable.specs.declared.bank.Plain.{Plain}
use Rattle.wavetable.specs.declared.bank.Plain.TheVariants as plain
use Rattle.wavetable.specs.declared.bank.WavetableType.{WavetableType}
use Rattle.wavetable.specs.declared.bank.WavetableType.TheVariants as tables

is_plain : (p : Plain) → is_series (plain_number p) ≡ false
unfolding is_series
is_plain plain.Sine = refl
is_plain plain.FormantA = refl
is_plain plain.FormantO = refl

is_sum : (s : Series) → is_series (series_number s) ≡ true
unfolding is_series
is_sum series.Triangle = refl
is_sum series.Saw = refl
is_sum series.Square = refl
is_sum series.Pulse25 = refl
is_sum series.Pulse12 = refl

pub plain_cell : (p : Plain) (j : ℕ) (v : Float) → v ≡ plain_of (plain_number p) (j / 256) (j % 256) → v ≡ table_cell (plain_number p) j
unfolding table_cell cell_of
plain_cell p j v e = rw (is_plain p, e)

pub series_cell : (t : Series) (l i : ℕ) (s b : Float) → s ≡ sum_of (series_number t) (terms_of (series_number t) l) i → b ≡ scale_of (series_number t)
    → mul binary64 s b ≡ cell_of (series_number t) l i
unfolding cell_of series_of
series_cell t l i s b e f = rw (is_sum t, e, f)

-- a table of the bank
pub few : (w : WavetableType) → number_of w < 8
few (tables.Series s) = sums s
  where
    sums : (s : Series) → series_number s < 8
    sums series.Triangle = omega arith
    sums series.Saw = omega arith
    sums series.Square = omega arith
    sums series.Pulse25 = omega arith
    sums series.Pulse12 = omega arith
few (tables.Plain p) = plains p
  where
    plains : (p : Plain) → plain_number p < 8
    plains plain.Sine = omega arith
    plains plain.FormantA = omega arith
    plains plain.FormantO = omega arith

-- ---- places of a series, one after another
pub right_more : (t i level n : ℕ) (p : List Float) (v : Float) → level + 1 ≡ n → length p ≡ 2048 → i < 256 → level < 8 → v ≡ cell_of t level i
    → Right t p i n → Right t (set p (256 * level + i) v) i level
right_more t i level n p v o s h k e r l m a b c = go (eqb (256 * l + m) (256 * level + i)) refl
  where
    go : (q : Bool) → eqb (256 * l + m) (256 * level + i) ≡ q → get_or (set p (256 * level + i) v) (256 * l + m) nan ≡ cell_of t l m
    go true q =
        let z : 256 * l + m ≡ 256 * level + i = eqb-true _ _ q in
        let x : l ≡ level = omega arith in
        let y : m ≡ i = omega arith in
        rw (x, y) (get_or-set_same p (256 * level + i) v nan (omega arith) ∙ e)
    go false q =
        let z : 256 * l + m ≢ 256 * level + i = eqb-false _ _ q in
        get_or-set_other p (256 * level + i) (256 * l + m) v nan z ∙ r l m a b (omega arith)

pub right_all : (t : ℕ) (p : List Float) → length p ≡ 2048 → Right t p 256 8 → p ≡ table_of t
unfolding table_of table_cell
right_all t p s r = by_cells nan (table_cell t) 2048 p s each
  where
    each : (j : ℕ) → j < 2048 → get_or p j nan ≡ cell_of t (j / 256) (j % 256)
    each j h =
        let q : 256 * (j / 256) + j % 256 ≡ j = omega arith in
        ap (λ x. get_or p x nan) (sym q) ∙ r (j / 256) (j % 256) (omega arith) (omega arith) (omega arith)

-- ---- tables of the bank, one after another
abbrev pub table_at : ℕ → WavetableType
table_at n = get_or ALL n (tables.Series series.Triangle)

pub in_order : (n : ℕ) → n < 8 → number_of (table_at n) ≡ n
in_order zero h = refl
in_order (suc zero) h = refl
in_order (suc (suc zero)) h = refl
in_order (suc (suc (suc zero))) h = refl
in_order (suc (suc (suc (suc zero)))) h = refl
in_order (suc (suc (suc (suc (suc zero))))) h = refl
in_order (suc (suc (suc (suc (suc (suc zero)))))) h = refl
in_order (suc (suc (suc (suc (suc (suc (suc zero))))))) h = refl
in_order (suc (suc (suc (suc (suc (suc (suc (suc n)))))))) h = absurd (omega arith)

cell_of_table : (t j : ℕ) → j < 2048 → bank_cell (j + 2048 * t) ≡ table_cell t j
unfolding bank_cell
cell_of_table t j h =
    let p : (j + 2048 * t) / 2048 ≡ t = omega arith in
    let q : (j + 2048 * t) % 2048 ≡ j = omega arith in
    rw (p, q)

one_more : (t : ℕ) → tab bank_cell (2048 * (t + 1)) ≡ tab bank_cell (2048 * t) ++ table_of t
unfolding table_of
one_more t =
    let p : 2048 * (t + 1) ≡ 2048 + 2048 * t = omega arith in
    ap (tab bank_cell) p
    ∙ tab_append bank_cell (2048 * t) 2048
    ∙ ap (λ (l : List Float). tab bank_cell (2048 * t) ++ l) (tab_ext (λ j. bank_cell (j + 2048 * t)) (table_cell t) 2048 (cell_of_table t))

table_length : (t : ℕ) → length (table_of t) ≡ 2048
unfolding table_of
table_length t = length_tab (table_cell t) 2048

pub next_table : (t : ℕ) (xs ys zs : List Float) → length xs ≡ 16384 → t < 8 → take (2048 * t) xs ≡ tab bank_cell (2048 * t) → ys ≡ table_of t
    → take (2048 * (t + 1)) (take (2048 * t) xs ++ (ys ++ zs)) ≡ tab bank_cell (2048 * (t + 1))
next_table t xs ys zs s h e f =
    let p : length (take (2048 * t) xs) ≡ 2048 * t = length-take (2048 * t) xs ∙ (omega arith) in
    let q : length ys ≡ 2048 = ap length f ∙ table_length t in
    let r : length (take (2048 * t) xs ++ ys) ≡ 2048 * (t + 1) = length-append (take (2048 * t) xs) ys ∙ (omega arith) in
    ap (take (2048 * (t + 1))) (sym (append_assoc (take (2048 * t) xs) ys zs))
    ∙ take_at (take (2048 * t) xs ++ ys) zs (2048 * (t + 1)) r
    ∙ rw (e, f) (sym (one_more t))

pub all_tables : (xs : List Float) → length xs ≡ 16384 → take 16384 xs ≡ tab bank_cell 16384 → xs ≡ bank_of
unfolding bank_of
all_tables xs s e = sym (take_all 16384 xs (omega arith)) ∙ e

-- what a fill leaves of a part of the right size
pub part_filled : (w : WavetableType) (r : Result (Unit {0}) Refusal) (old new : List Float) → length old ≡ 2048
    → filled r new ≡ fill_table_of (number_of w) old → (r ≡ Ok tt) × (new ≡ table_of (number_of w))
unfolding fill_table_of
part_filled w r old new s h =
    let e : fill_table_of (number_of w) old ≡ filled (Ok tt) (table_of (number_of w)) = simp (eq-eqb _ _ s, lt-ltb _ _ (few w)) in
    (ap (λ (f : Filled). f.outcome) (h ∙ e), ap (λ (f : Filled). f.cells) (h ∙ e))

pub ok_not_err : (e : Refusal) → ◌≡◌ {A = Result (Unit {0}) Refusal} (Ok tt) (Err e) → ⊥
unfolding refused_number
ok_not_err e h = nonzero e (sym (ap refused_number h))
