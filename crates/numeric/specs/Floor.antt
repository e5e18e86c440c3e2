-- The largest whole number that is not above x. A NaN, an infinity and a whole number (-0.0 too) are kept.
use Rattle.std.specs.Prelude.{suc, ◌*◌, ◌/◌, ◌%◌, cond, pos, ◌==◌, Float}
use Rattle.std.specs.Float.{nan, inf, fin, binary64}
use Rattle.std.specs.Float.Ieee.{up, down, neg, of_int}

-- ±m * 2 ^ e is ±N / D with N = m * up e and D = down e: whole where D divides N; else N / D cut, and one more below 0
unfoldable pub floor_of : Float → Float
floor_of nan = nan
floor_of (inf s) = inf s
floor_of (fin s m e) =
    cond (m * up e % down e == 0) (fin s m e)
    (cond s (neg (of_int binary64 (pos (suc (m * up e / down e))))) (of_int binary64 (pos (m * up e / down e))))
