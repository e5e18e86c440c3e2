-- `text::put_text`: after some turns so many bytes have been put.
use lib.ListN.{take}
use Rattle.text.specs.Promises.{Put}
use Rattle.text.proofs.put_text.Given as goal

abbrev pub invariant-loop-b : goal.invariant-loop-b
invariant-loop-b l = Put l.initial.out l.at (take l.b-index l.t) l.to l.out
