use Rattle.std.proofs.Common.{◌≤◌, arith}
use Rattle.karplus_strong.specs.Shortcuts.{tuning_of}
use Rattle.karplus_strong.specs.Step.{filter_coef_of, ap_coef_of}
use Rattle.karplus_strong.proofs.Parts.{one_fin, minus_one_fin}
use Rattle.karplus_strong.proofs.KarplusStrongControls.tuning.Goals as goal

pub within-requires-2 : goal.within-requires-2
within-requires-2 c = (minus_one_fin, one_fin)

pub overflow_cast-delay : goal.overflow_cast-delay
unfolding filter_coef_of ap_coef_of
overflow_cast-delay c = let most : c.to_usize-delay.result ≤ 9610 =
    rw (c.to_usize-delay.ensures, c.target_delay-target.ensures, c.within.ensures, c.within-2.ensures) c.requires in
    omega arith

pub returns : goal.returns
unfolding tuning_of filter_coef_of ap_coef_of
returns c = simp (c.to_usize-delay.ensures, c.target_delay-target.ensures, c.within.ensures, c.within-2.ensures, c.are_numbers.ensures)
