-- draw: below 2 ^ 53 the cast loses nothing; from there on it is what of_u64 ensures; times 2 ^ -53.
use Rattle.std.proofs.Common.{refl, le_of_lt, le→leb}
use lib.Ieee.{in_float}
use Rattle.numeric.specs.Draw.{draw_of}
use Rattle.numeric.proofs.draw.Goals as goal

pub int_to_float-result : goal.int_to_float-result
unfolding in_float
int_to_float-result c = le→leb _ 9007199254740992 (le_of_lt c.if-k-lt9007199254740992.true)

pub returns-then-k-lt9007199254740992 : goal.returns-then-k-lt9007199254740992
unfolding draw_of
returns-then-k-lt9007199254740992 c = refl

pub returns-else-k-lt9007199254740992 : goal.returns-else-k-lt9007199254740992
unfolding draw_of
returns-else-k-lt9007199254740992 c = simp c.of_u64.ensures
