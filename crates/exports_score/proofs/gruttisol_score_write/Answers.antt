-- `gruttisol_score_write`: the lengths are asked first, then the values, then the room.
use mathlib.Core.Path.{◌∙◌}
use lib.ListN.{length}
use borrow.Author.Tests.{ne_eqb, eq-eqb}
use Rattle.common.specs.Refusal.{number_of}
use Rattle.exports_score.specs.Calls.{score_write_at}
use Rattle.exports_score.proofs.Saved.{held_saved}
use Rattle.exports_score.proofs.gruttisol_score_write.Goals as goal

pub returns-in_default : goal.returns-in_default
unfolding score_write_at
returns-in_default c = simp (ne_eqb (length c.args.microvolts.now) 5 c.in_default.ensures.cases)

pub returns-in_default-as_array : goal.returns-in_default-as_array
unfolding score_write_at number_of
returns-in_default-as_array c = rw c.number.ensures (simp
    (eq-eqb (length c.args.microvolts.now) 5 c.in-Some.ensures.cases.long, ne_eqb (length c.args.wholes.now) 4 c.in_default-as_array.ensures.cases))

pub returns-then-written-ne-WRITTEN : goal.returns-then-written-ne-WRITTEN
unfolding score_write_at
returns-then-written-ne-WRITTEN c = simp (
  eq-eqb (length c.args.microvolts.now) 5 c.in-Some.ensures.cases.long,
  eq-eqb (length c.args.wholes.now) 4 c.in-Some-as_array.ensures.cases.long,
  ne_eqb _ _ c.if-written-ne-WRITTEN.true,
)

pub returns : goal.returns
unfolding score_write_at
returns c = rw c.code_of.ensures (c.save.ensures
    ∙ simp (
      c.in-Some.ensures.cases.same,
      c.in-Some-as_array.ensures.cases.same,
      eq-eqb (length c.args.microvolts.now) 5 c.in-Some.ensures.cases.long,
      eq-eqb (length c.args.wholes.now) 4 c.in-Some-as_array.ensures.cases.long,
      eq-eqb _ _ c.if-written-ne-WRITTEN.false,
    ) (held_saved _ _ _ _))
