-- The examples, computed; the printed frame is the player's theorem, which knows powers and sine only by what numeric promises.
use mathlib.Core.Path.{refl}
use lib.Ieee.{sub, mul, div, neg, le, eq, ne, is_nan, of_int, to_unsigned, of_bits}
use Rattle.numeric.specs.Basic.{fabs_of, clamp_of, min_of, max_of}
use Rattle.numeric.specs.Draw.{draw_of, bipolar_of}
use Rattle.numeric.specs.Floor.{floor_of}
use Rattle.common.specs.Edge.{rises_above, rising_above_of, rising_of, frac_above, crossed_above_of, crossed_of}
use Rattle.common.specs.Phase.{wrap_of, turned_of, polyblep_of}
use Rattle.wavetable.specs.Harmonics.{max_harmonic}
use Rattle.wavetable.specs.Reads.{allowed_of, level_from, select_level, table_pos_of, table_index_of, blend_of}
use Rattle.karplus_strong.specs.KarplusStrong.{max_len_of}
use Rattle.karplus_strong.specs.Step.{offset_one, offset_two}
use Rattle.player.proofs.Worked.{worked}
use Rattle.examples.specs.Table.{Examples, ◌also◌, none}

pub examples : Examples
unfolding wrap_of turned_of floor_of polyblep_of draw_of bipolar_of rises_above rising_above_of rising_of frac_above crossed_above_of crossed_of max_len_of
    max_harmonic allowed_of level_from select_level offset_one offset_two table_pos_of table_index_of blend_of fabs_of clamp_of min_of max_of sub mul div neg le
    eq ne
    is_nan of_int to_unsigned of_bits
examples =
    refl also refl also refl
    also refl also refl
    also refl also refl also refl also refl also refl
    also refl also refl also refl
    also refl also refl also refl
    also refl also refl also refl
    also refl also refl also refl also refl
    also refl also refl also refl also refl
    also refl also refl also refl
    also worked
    also refl also refl also refl also refl also refl
    also refl also refl also refl also refl also refl also refl
    also refl also refl also refl also refl also refl
    also none
