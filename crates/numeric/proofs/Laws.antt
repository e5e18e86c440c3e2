-- Every promise of specs/Promises.antt, proved, under its name in small letters. Crates above cite them from here.
pub use Rattle.numeric.proofs.RestLaws.{rest_inside}
pub use Rattle.numeric.proofs.TrigLaws.{sin_inside, cos_inside, sin_outside, cos_outside, sin_zero, cos_zero, sin_minus_zero, cos_minus_zero}
pub use Rattle.numeric.proofs.SinSign.{sin_positive}
pub use Rattle.numeric.proofs.PowerLaws.{exp2_whole, exp2_minus_zero, exp2_above, exp2_below, exp2_nan}
pub use Rattle.numeric.proofs.PowerLaws.{pow3000_zero, pow3000_minus_zero, pow3000_one, pow3000_nan}
pub use Rattle.numeric.proofs.PowerRange.{exp2_number, pow3000_number}
pub use Rattle.numeric.proofs.PowerSign.{exp2_positive}
pub use Rattle.numeric.proofs.PowerBound.{pow3000_range}
pub use Rattle.numeric.proofs.DrawLaws.{draw_exact, bipolar_exact}
pub use Rattle.numeric.proofs.FloorLaws.{floor_whole, floor_finite, floor_below, floor_rest}
pub use Rattle.numeric.proofs.RangeLaws.{clamp_range, clamp_nan, min_either, max_either, min_range, max_range}
pub use Rattle.numeric.proofs.RangeLaws.{min_nan, max_nan, whole_monotone, whole_top, whole_less, whole_real}
