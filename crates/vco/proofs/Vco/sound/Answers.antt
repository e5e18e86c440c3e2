use mathlib.Core.Path.{ap}
use Rattle.vco.specs.Shortcuts.{Held, held_next}
use Rattle.vco.specs.Vco.{vco_sound_of}
use Rattle.vco.proofs.Vco.sound.Goals as goal

pub returns : goal.returns
unfolding vco_sound_of held_next
returns c = let now = c.new-now.ensures in
    let set = c.new.ensures in
    simp (
      c.heard.ensures,
      set.width,
      set.step,
      set.mask,
      set.told,
      ap (λ (h : Held). h.phase) c.next.ensures,
      c.new-now.result.synced,
      now.at,
      now.before,
      c.rising_frac-crossed.ensures,
      c.increment-dt.ensures,
      c.tuned-freq_memo.ensures,
    )
