use Rattle.std.proofs.Common.{sym, ap}
use Rattle.std.proofs.lemmas.Result.{err_from_is_err_and}
use Rattle.common.specs.Refusal.{refused_number}
use Rattle.karplus_strong.specs.Shortcuts.{ticking}
use Rattle.karplus_strong.proofs.Parts.{accepted, heard_fits, heard_delay, struck_ready, ticked_parts, loop_turned, tick_refused, sound_by, sound_refused}
use Rattle.karplus_strong.specs.declared.KarplusStrong.{KarplusStrong}
use Rattle.karplus_strong.proofs.KarplusStrong.sound.Goals as goal

pub returns-in_err-refusal : goal.returns-in_err-refusal
unfolding refused_number ticking
returns-in_err-refusal c = let p = err_from_is_err_and c.from_residual.result c.from_residual.ensures.1 in
    rw (p.1, p.2) (ticked_parts (tick_refused _ _ _ _ _ c.in_err-refusal.ensures))

pub hear-heard-requires : goal.hear-heard-requires
unfolding refused_number
hear-heard-requires c = let good = (accepted _ _ (sym c.in_ok-refusal.ensures)).0 in (good.rate, good.value)

pub returns-in_err-refusal-2 : goal.returns-in_err-refusal-2
unfolding refused_number ticking
returns-in_err-refusal-2 c = let p = err_from_is_err_and c.from_residual-in_err-refusal-2.result c.from_residual-in_err-refusal-2.ensures.1 in
    rw (p.1, p.2) (ticked_parts (sound_refused _ _ _ _ c.in_ok-refusal.ensures _ c.hear-heard.ensures _ c.in_err-refusal-2.ensures))

pub tuning-tuning-requires : goal.tuning-tuning-requires
unfolding refused_number
tuning-tuning-requires c = let good = accepted _ _ (sym c.in_ok-refusal.ensures) in heard_delay _ _ _ c.hear-heard.ensures _ good.0 good.1

pub struck-struck-requires : goal.struck-struck-requires
unfolding refused_number
struck-struck-requires c = let good = accepted _ _ (sym c.in_ok-refusal.ensures) in
    (sym c.in_ok-refusal-2.ensures, heard_fits _ _ _ c.hear-heard.ensures _ good.0 good.1)

pub to_loop-requires : goal.to_loop-requires
unfolding refused_number
to_loop-requires c = let good = accepted _ _ (sym c.in_ok-refusal.ensures) in
    (struck_ready _ _ _ c.hear-heard.ensures _ good.0 good.1 _ _ _ _ c.struck-struck.ensures.0).0

pub turn-ticked-requires : goal.turn-ticked-requires
unfolding refused_number
turn-ticked-requires c = let good = accepted _ _ (sym c.in_ok-refusal.ensures) in
    let fits = (struck_ready _ _ _ c.hear-heard.ensures _ good.0 good.1 _ _ _ _ c.struck-struck.ensures.0).1 in
    rw c.struck-struck.auto.line (rw (ap (λ (s : KarplusStrong). s.len) c.to_loop.ensures) fits)

pub returns : goal.returns
unfolding refused_number ticking
returns c =
    let e = loop_turned c.struck-struck.result c.to_loop.result _ _ _ c.turn-ticked.result c.to_loop.ensures (c.turn-ticked.ensures c.struck-struck.result) in
    let p = ticked_parts e in
    rw c.with_loop.ensures
    (sound_by _ _ _ _ c.in_ok-refusal.ensures _ c.hear-heard.ensures c.in_ok-refusal-2.ensures _ _ _
    c.tuning-tuning.ensures c.struck-struck.ensures _ _ p.0 p.1)
