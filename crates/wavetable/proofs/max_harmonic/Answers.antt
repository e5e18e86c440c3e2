-- the rule's 64 numbers: a row for each table, in it a number for each level
use mathlib.Core.List.{List, []}
use mathlib.Core.Path.{◌≡◌, refl, ap, ◌∙◌}
use Prim.Native.Nat.{ℕ, ◌<◌, ◌^◌}
use native.Mathlib.Omega.{arith}
use lib.ListN.{get_or}
use Rattle.laws.proofs.Over.{get_or_tab}
use Rattle.laws.specs.Lists.{tab}
use Rattle.wavetable.proofs.Counts.{harmonics_most}
use Rattle.wavetable.specs.Consts.{num_tables, num_mips}
use Rattle.wavetable.specs.Harmonics.{max_harmonic}
use Rattle.wavetable.proofs.max_harmonic.Goals as goal

abbrev ruled : ℕ → List ℕ
ruled table = tab (max_harmonic table) num_mips

abbrev by_rule : List (List ℕ)
by_rule = tab ruled num_tables

-- a table that has them has the rule's number at each entry
entry : (rows : List (List ℕ)) → rows ≡ by_rule → (table level : ℕ) → (table < num_tables) × (level < num_mips)
    → get_or (get_or rows table []) level 0 ≡ max_harmonic table level
entry rows same table level (t, l) =
    ap (λ (all : List (List ℕ)). get_or (get_or all table []) level 0) same
    ∙ ap (λ (row : List ℕ). get_or row level 0) (get_or_tab [] ruled num_tables table t)
    ∙ get_or_tab 0 (max_harmonic table) num_mips level l

-- a number of the rule is a usize
is_usize : (n table level : ℕ) → n ≡ max_harmonic table level → n < 2 ^ 64
is_usize n table level e = let h = harmonics_most table level in omega arith

-- the test is `refl`: the prover computes the 64 numbers of by_rule, and they must be those of MAX_HARMONICS
pub returns : goal.returns
unfolding tab max_harmonic
returns c = entry _ refl _ _ c.requires

pub overflow_cast-result : goal.overflow_cast-result
overflow_cast-result c = record { fits = is_usize _ _ _ (returns c) }
