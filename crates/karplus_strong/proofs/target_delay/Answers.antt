use Rattle.karplus_strong.specs.Step.{filter_delay_of, ap_delay_of, target_delay_of}
use Rattle.karplus_strong.proofs.target_delay.Goals as goal

pub returns : goal.returns
unfolding target_delay_of filter_delay_of ap_delay_of
returns c = simp c.max.ensures
