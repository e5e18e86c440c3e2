-- `frame::put_frames`: the text of each frame, or nothing.
use mathlib.Core.Path.{◌≡◌, sym, ◌∙◌}
use native.Mathlib.Omega.{arith}
use lib.ListN.{length}
use Rattle.answer.specs.Block.{joined}
use Rattle.text.proofs.PageLaws.{page_then}
use Rattle.frame.specs.Frames.{played_text, told_texts}
use Rattle.frame.proofs.Played.{frame_inside, frames_say, told_more}
use Rattle.frame.proofs.put_frames.Goals as goal

pub loop-i-init : goal.loop-i-init
unfolding told_texts joined
loop-i-init c = c.text.ensures

pub volts_at-requires : goal.volts_at-requires
volts_at-requires c = let z = frames_say _ _ _ _ _ c.are_frames.ensures c.if-are_frames.true in
    frame_inside _ _ _ _ _ c.ports_of-ports.ensures z.1 c.loop-i-test.true

pub overflow_cast-i : goal.overflow_cast-i
overflow_cast-i c = let z = frames_say _ _ _ _ _ c.are_frames.ensures c.if-are_frames.true in
    omega (arith, z.0, c.loop-i-test.true)

pub overflow_add-first : goal.overflow_add-first
overflow_add-first c = let z = frames_say _ _ _ _ _ c.are_frames.ensures c.if-are_frames.true in
    omega (arith, z.0, c.loop-i-test.true)

pub loop-i-preserved : goal.loop-i-preserved
loop-i-preserved c =
    rw (
      c.put_frame.ensures,
      c.loop-i.invariant,
      told_more _ _ _ _ _ _ _ _ c.ports_of-ports.ensures c.volts_at.ensures c.answer_of-told.ensures,
    )
    (page_then _ _ _)

pub returns-after-loop-i : goal.returns-after-loop-i
unfolding played_text
returns-after-loop-i c =
    let all : length c.args.marks.now ≡ c.loop-i.i = omega (arith, c.loop-i.auto.i-end, c.loop-i-test.false) in
    rw (sym c.are_frames.ensures ∙ c.if-are_frames.true, all) c.loop-i.invariant

pub returns-else-are_frames : goal.returns-else-are_frames
unfolding played_text
returns-else-are_frames c = rw (sym c.are_frames.ensures ∙ c.if-are_frames.false) c.text.ensures
