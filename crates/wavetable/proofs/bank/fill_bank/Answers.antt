use mathlib.Core.Path.{◌≡◌, refl, sym, ap, ◌∙◌}
use native.Mathlib.Omega.{arith}
use Rattle.laws.specs.Lists.{tab}
use Rattle.wavetable.proofs.Cells.{table_at, in_order, next_table, all_tables, part_filled, ok_not_err}
use Rattle.std.specs.Prelude.{Ok}
use borrow.Author.Tests.{eq-eqb, ne_eqb}
use Rattle.wavetable.specs.Bank.{table_of, filled, fill_bank_of}
use Rattle.wavetable.specs.Shortcuts.{number_of}
use Rattle.wavetable.proofs.bank.fill_bank.Goals as goal

pub loop-number-init : goal.loop-number-init
unfolding tab
loop-number-init c = refl

pub loop-number-preserved : goal.loop-number-preserved
loop-number-preserved c = let i = c.loop-number in
    let e : c.fill.new.part ≡ table_of (number_of (table_at i.number)) = (part_filled _ _ _ _ (omega arith) c.fill.ensures).1 in
    next_table i.number i.bank _ _ (omega arith) c.loop-number-test.true i.invariant (e ∙ ap table_of (in_order i.number c.loop-number-test.true))

pub returns-in_err-fill : goal.returns-in_err-fill
returns-in_err-fill c = let f = part_filled _ _ _ _ (omega arith) c.fill.ensures in
    absurd (ok_not_err _ (sym f.0 ∙ c.in_err-fill.was))

pub returns-then-bank-ne-BANK_SIZE : goal.returns-then-bank-ne-BANK_SIZE
unfolding fill_bank_of
returns-then-bank-ne-BANK_SIZE c = simp (ne_eqb _ _ c.if-bank-ne-BANK_SIZE.true)

pub returns : goal.returns
unfolding fill_bank_of
returns c = let z : c.loop-number.number ≡ 8 = omega arith in
    ap (filled (Ok tt)) (all_tables c.loop-number.bank (omega arith) (rw z at c.loop-number.invariant)) ∙ simp (eq-eqb _ _ c.if-bank-ne-BANK_SIZE.false)
