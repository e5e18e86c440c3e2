-- `text::read_hex`: the whole is read as what is left is, from the number so far; so many digits stay below a power of 16.
use mathlib.Core.Path.{◌≡◌}
use Prim.Native.Nat.{◌^◌, ◌<◌}
use lib.ListN.{length, drop}
use Rattle.text.specs.Hex.{word_from, word_of}
use Rattle.text.proofs.read_hex.Given as goal

abbrev pub invariant-loop-b : goal.invariant-loop-b
invariant-loop-b l = (l.x < 16 ^ l.b-index) × ((length l.t ≡ 16) × (word_of l.t ≡ word_from l.x (drop l.b-index l.t)))
