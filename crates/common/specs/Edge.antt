-- EdgeDetector, written from common.rs, where its threshold is always GATE_THRESHOLD_V.
use Rattle.std.specs.Prelude.{Bool, cond, ◌&&◌, Some, None, Float}
use Rattle.std.specs.Float.{binary64}
use Rattle.std.specs.Float.Ieee.{sub, div, lt, le}
use Rattle.laws.specs.Float.{zer, one}
use Rattle.numeric.specs.Basic.{clamp_of}
use Rattle.common.specs.declared.EdgeDetector.{EdgeDetector}
use Rattle.common.specs.declared.Risen.{Risen}
use Rattle.common.specs.declared.Crossed.{Crossed}

-- EdgeDetector::new, of a threshold
abbrev pub new_edge : Float → EdgeDetector
new_edge threshold = record { prev = zer; threshold = threshold }

-- reset: a new one like this
unfoldable pub reset_of : EdgeDetector → EdgeDetector
reset_of e = new_edge e.threshold

-- a sample is taken as the previous one
abbrev pub seen_of : EdgeDetector → Float → EdgeDetector
seen_of e v = record { prev = v; threshold = e.threshold }

-- v > threshold and previous ≤ threshold: a NaN on either side is no edge
unfoldable pub rises_above : Float → Float → Float → Bool
rises_above threshold prev v = lt threshold v && le prev threshold

unfoldable pub rising_above_of : EdgeDetector → Float → Float → Risen
rising_above_of e v threshold = record { edge = seen_of e v; rising = rises_above threshold e.prev v }

unfoldable pub rising_of : EdgeDetector → Float → Risen
rising_of e v = rising_above_of e v e.threshold

-- ((threshold - prev) / denom).clamp(0.0, 1.0) with denom = v - prev, and 1.0 where denom isn't above 0
unfoldable pub frac_above : Float → Float → Float → Float
frac_above threshold prev v =
    let denom = sub binary64 v prev in
    cond (lt zer denom) (clamp_of (div binary64 (sub binary64 threshold prev) denom) zer one) one

unfoldable pub crossed_above_of : EdgeDetector → Float → Float → Crossed
crossed_above_of e v threshold =
    record { edge = seen_of e v; at = cond (rises_above threshold e.prev v) (Some (frac_above threshold e.prev v)) None }

unfoldable pub crossed_of : EdgeDetector → Float → Crossed
crossed_of e v = crossed_above_of e v e.threshold
