-- `text::put_hex`: what was put and the last k digits, which are left, are the whole.
use mathlib.Core.List.{List, ◌++◌}
use mathlib.Core.Path.{◌≡◌}
use Prim.Native.Nat.{ℕ}
use Rattle.text.specs.Hex.{hex_from, hex_text}
use Rattle.text.specs.Promises.{Put}
use Rattle.text.proofs.put_hex.Given as goal

abbrev pub invariant-loop-k : goal.invariant-loop-k
invariant-loop-k l = (d : List ℕ) × ((d ++ hex_from l.k l.x ≡ hex_text l.x) × Put l.initial.out l.at d l.to l.out)
