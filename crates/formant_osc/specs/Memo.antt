-- The Rust's Memo<3, [[f64; 3]; 5]> of the coefficients: common's Memo of three f64s' bits, any NaN's as one.
use Rattle.std.specs.Prelude.{Bool, List, [], ◌∷◌, Float}
use Rattle.laws.specs.Float.{zer}
use Rattle.common.specs.Memo.{Key3, key3, same3, new_memo, hits, filled, recall}
use Rattle.common.specs.declared.Memo.{Memo}
use Rattle.formant_osc.specs.Coefs.{resonator_coefs}

abbrev pub CoefMemo : Type 0
CoefMemo = Memo Key3 (List Float)

abbrev pub new_coef_memo : CoefMemo
new_coef_memo = new_memo (0, 0, 0) (zer ∷ zer ∷ zer ∷ zer ∷ zer ∷ zer ∷ zer ∷ zer ∷ zer ∷ zer ∷ zer ∷ zer ∷ zer ∷ zer ∷ zer ∷ [])

abbrev pub coef_hits : CoefMemo → Float → Float → Float → Bool
coef_hits m x y z = hits same3 m (key3 x y z)

abbrev pub coef_filled : Float → Float → Float → List Float → CoefMemo
coef_filled x y z v = filled (key3 x y z) v

-- get_or_compute([vowel, shift, sample_rate], || resonator_coefs(..)): the memo after it, whose val is its answer
abbrev pub coef_recall : CoefMemo → Float → Float → Float → CoefMemo
coef_recall m vowel shift rate = recall same3 (resonator_coefs vowel shift rate) m (key3 vowel shift rate)
