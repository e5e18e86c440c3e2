use mathlib.Core.Path.{◌≡◌}
use native.Mathlib.Omega.{arith}
use Rattle.wavetable.proofs.Cells.{right_all}
use Rattle.wavetable.specs.Shortcuts.{series_number}
use Rattle.wavetable.proofs.bank.Series.fill.Goals as goal

pub returns : goal.returns
returns c = let s = c.loop-i.invariant in
    let z : c.loop-i.i ≡ 256 = omega arith in
    right_all (series_number c.args.self) c.loop-i.part s.0 (rw z at s.1)
