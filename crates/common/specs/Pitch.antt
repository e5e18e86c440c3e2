-- voct_to_hz, written from common.rs.
use Rattle.std.specs.Float.{binary64}
use Rattle.std.specs.Float.Ieee.{mul, neg}
use Rattle.numeric.specs.Basic.{clamp_of}
use Rattle.numeric.specs.Power.{exp2_of}
use Rattle.common.specs.Consts.{c4, max_voct}
use Rattle.common.specs.declared.Hertz.{Hertz}
use Rattle.common.specs.declared.VoltsPerOctave.{VoltsPerOctave}

-- C4_HZ * pow(2, voct.clamp(-MAX_ABS_VOCT, MAX_ABS_VOCT))
unfoldable pub voct_to_hz : VoltsPerOctave → Hertz
voct_to_hz v = record { 0 = mul binary64 c4 (exp2_of (clamp_of v.0 (neg max_voct) max_voct)) }
