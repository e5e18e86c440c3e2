use Rattle.std.proofs.Common.{T, sym, subst}
use Rattle.karplus_strong.proofs.Cuts.{cut_number, cut_exponent, cut_shift, cut_whole}
use Rattle.karplus_strong.proofs.whole.Goals as goal

pub float_to_bits-bits : goal.float_to_bits-bits
float_to_bits-bits c = cut_number c.args.x (subst T (sym c.well_formed.0.1) tt) c.requires

pub overflow_sub-result : goal.overflow_sub-result
overflow_sub-result c = cut_exponent c.args.x (subst T (sym c.well_formed.0.1) tt) c.requires

pub overflow_shr-result : goal.overflow_shr-result
overflow_shr-result c = cut_shift c.args.x (subst T (sym c.well_formed.0.1) tt) c.requires

pub returns : goal.returns
returns c = cut_whole c.args.x (subst T (sym c.well_formed.0.1) tt) c.requires
