-- `line::digits_of` meets its contract: the number so far and the digits left make the number. Assumes nothing.
use mathlib.Core.Path.{◌≡◌}
use Prim.Native.Nat.{◌≤◌, ◌<◌, ◌^◌}
use lib.ListN.{length, drop}
use Rattle.line.specs.Number.{digits_from, digits_of}
use Rattle.line.proofs.digits_of.Given as goal

abbrev pub invariant-loop-b : goal.invariant-loop-b
invariant-loop-b l = record {
  short : length l.v ≤ 12;
  small : l.size < 10 ^ l.b-index;
  rest : digits_of l.v ≡ digits_from l.size (drop l.b-index l.v);
}
