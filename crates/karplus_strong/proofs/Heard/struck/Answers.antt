use Rattle.std.proofs.Common.{refl, length-take, arith}
use Rattle.common.proofs.DrawLaws.{draws_enough}
use Rattle.karplus_strong.proofs.Parts.{struck_taken}
use Rattle.karplus_strong.specs.Shortcuts.{strike_refusal_of, strike_len, strike_at}
use Rattle.karplus_strong.proofs.Heard.struck.Goals as goal

pub slice_bounds-excite-end : goal.slice_bounds-excite-end
unfolding strike_len
slice_bounds-excite-end c = rw c.in-Some.is at c.requires.1

pub slice_bounds-excite-end-in-Some : goal.slice_bounds-excite-end-in-Some
unfolding strike_len
slice_bounds-excite-end-in-Some c = let fits = rw c.in-Some.is at c.requires.1 in simp length-take (omega arith)

pub excite-requires : goal.excite-requires
unfolding strike_refusal_of
excite-requires c = let k = draws_enough _ _ (rw c.in-Some.is at c.requires.0) in simp length-take (omega arith)

pub returns-in-Some : goal.returns-in-Some
unfolding strike_len
returns-in-Some c = rw c.in-Some.is
    (struck_taken _ _ _ _ _ _ _ _ (rw c.in-Some.is at c.requires.1) c.within-bright.ensures c.at_rest.ensures c.excite.ensures)

pub returns-in-None : goal.returns-in-None
unfolding strike_at
returns-in-None c = rw c.in-None.is (refl, refl)
