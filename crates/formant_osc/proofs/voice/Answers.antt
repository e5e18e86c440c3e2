use Rattle.std.proofs.Common.{◌≡◌, ◌<◌, refl, ap, ◌∙◌, length, le_antisymm, arith}
use Rattle.answer.specs.Answer.{host_number, volts_of}
use Rattle.answer.specs.declared.Answer.{Answer}
use Rattle.laws.proofs.Over.{over_done, over_none, over_more}
use Rattle.formant_osc.specs.Shortcuts.{cells_at}
use Rattle.formant_osc.proofs.Held.{voiced_turn, one_put}
use Rattle.formant_osc.proofs.voice.Goals as goal

pub loop-i-init : goal.loop-i-init
unfolding cells_at
loop-i-init c = record { heard = over_none _ _; marked = over_none _ _; rung = refl }

pub loop-i-preserved : goal.loop-i-preserved
loop-i-preserved c = let s = c.loop-i.invariant in
    let same = c.loop-i.auto in
    let i = c.loop-i-test.true in
    let z = c.requires in
    let fit : length c.loop-i.samples ≡ length c.loop-i.marks = omega (arith, same.samples, same.marks, z) in
    let h : c.loop-i.i < length c.args.samples.now = omega (arith, i, z) in
    let more : c.loop-i.i < length c.loop-i.marks = omega (arith, i, same.marks) in
    let t = voiced_turn _ _ _ _ _ _ _ _ _ _ _ _ _ _ h i s.heard s.marked s.rung c.ring-rung.ensures c.is_flagged.ensures c.voiced-heard.ensures in
    record {
      heard = rw (c.put.ensures.samples_after, one_put _ _ _ _ fit more) (over_more _ _ _ _ _ h s.heard (ap (λ (a : Answer). (volts_of a).p10) t.0));
      marked = rw c.put.ensures.marks_after (over_more _ _ _ _ _ i s.marked (ap host_number t.0));
      rung = t.1;
    }

pub returns : goal.returns
returns c = let s = c.loop-i.invariant in
    let a = c.args in
    let n : c.loop-i.i ≡ length a.marks.now = le_antisymm c.loop-i.auto.i-end c.loop-i-test.false in
    record {
      value = s.rung ∙ ap (λ k. cells_at a.c a.samples.now a.start k) n;
      samples_after = over_done _ _ _ _ _ n c.requires s.heard;
      marks_after = over_done _ _ _ _ _ n refl s.marked;
    }
