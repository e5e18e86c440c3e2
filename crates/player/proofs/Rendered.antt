-- What holds of a score that is read; and that each contract, being equations, settles what it speaks of.
use mathlib.Core.Path.{◌∙◌}
use native.Mathlib.Omega.{arith}
use Rattle.laws.proofs.Settled as laws
use Rattle.score.proofs.Text.{read_valid}
use Rattle.player.specs.Play.{heard_of}
use Rattle.player.specs.Player.{controls_of, player_of, played_of}
use Rattle.player.specs.Promises.{ReadRenders, Settled}
use Rattle.player.proofs.Counts.{all_begin, heard_counts, claimed_clean}
use Rattle.player.proofs.Heard.{frames_heard, frames_accepted}
use Rattle.player.proofs.Range.{valid_rate}
use Rattle.player.proofs.Unclaimed.{nan_unclaimed}

pub read_renders : ReadRenders
read_renders text s e =
    let v = read_valid text s e in
    let few = v.head.frames_most in
    let n = frames_heard s in
    let counts = heard_counts s (omega arith) in
    let accepts = frames_accepted s (valid_rate s v) in
    record {
      frames = n;
      accepts = accepts;
      counts = counts;
      begun = counts.begun ∙ all_begin (heard_of s) accepts ∙ n;
      claimed = claimed_clean s (omega arith);
      with_nan = nan_unclaimed s v.head.frames_least (omega arith);
    }

pub settled : Settled
settled = record { from = λ i. laws.settled (controls_of i); new = λ s. laws.settled (player_of s); play = λ p t o m. laws.settled (played_of p t o m) }
