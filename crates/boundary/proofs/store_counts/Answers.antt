use native.Mathlib.Omega.{arith}
use lib.ListN.{length-set}
use Rattle.laws.proofs.Slices.{stored}
use Rattle.boundary.specs.Flat.{counts_of}
use Rattle.boundary.proofs.store_counts.Goals as goal

pub bounds-counts-4 : goal.bounds-counts-4
bounds-counts-4 c = simp length-set (omega arith)

pub bounds-counts-5 : goal.bounds-counts-5
bounds-counts-5 c = simp length-set (omega arith)

pub returns : goal.returns
unfolding counts_of
returns c = stored c.args.counts.now (counts_of c.args.tally) c.requires
