use Rattle.std.proofs.Common.{refl, rules}
use Rattle.karplus_strong.proofs.Cells.{blanked}
use Rattle.karplus_strong.proofs.blank.Goals as goal

pub returns : goal.returns
returns c = blanked _ _ _ _ _ c.requires.0 c.requires.1 refl (c.fill.ensures.after (search rules))
