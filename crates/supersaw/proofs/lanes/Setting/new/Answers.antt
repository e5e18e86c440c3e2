use Rattle.supersaw.proofs.LaneLaws.{incs_plus}
use Rattle.supersaw.proofs.Sign.{clamp_small, fabs_plus}
use Rattle.supersaw.proofs.lanes.Setting.new.Goals as goal

pub invariant_of-result : goal.invariant_of-result
invariant_of-result c =
    record { forward = λ B j l. fabs_plus _ (rw (c.increments.ensures, c.clamp.ensures) (incs_plus _ _ _ (clamp_small _) B c.requires j l)) }
