use Rattle.std.proofs.Common.{◌+◌, ◌≤◌, length, sym, refl, ap, ◌∙◌, subst, le_antisymm, arith, rules}
use Rattle.std.proofs.lemmas.Result.{err_from_is_err_and}
use Rattle.laws.proofs.Over.{over_none}
use Rattle.answer.proofs.Blocks.{four_ports, joined_none, frames_more, frames_done, marks_more, marks_done}
use Rattle.answer.proofs.Said.{said_fits, said_refused, said_done, kept_or}
use Rattle.answer.specs.Block.{after_ticks}
use Rattle.noise_generator.specs.Consts.{n_ports}
use Rattle.noise_generator.specs.NoiseGenerator.{generator, needed_of, changed_by, needed_by, correlation_of}
use Rattle.noise_generator.specs.NoiseGenerator.{drawing, undrawn, noise_generator_told_of, noise_generator_next_of}
use Rattle.noise_generator.specs.NoiseGenerator.{noise_generator_block_of}
use Rattle.noise_generator.specs.Shortcuts.{pink_at, needed_at}
use Rattle.noise_generator.proofs.CalmLaws.{ahead_taken, ahead_finite}
use Rattle.noise_generator.proofs.TickLaws.{numbers_of, drawing_at, heard, moved, advanced, reaches}
use Rattle.noise_generator.proofs.TurnLaws.{turn_there, undrawn_ok, undrawn_err}
use Rattle.noise_generator.proofs.NoiseGenerator.block.Goals as goal

pub returns-in_err-block_outcome : goal.returns-in_err-block_outcome
unfolding noise_generator_block_of
returns-in_err-block_outcome c = let a = c.args in
    let s = drawing a.self a.draws.now in
    let p = err_from_is_err_and c.from_residual.result c.from_residual.ensures.1 in
    rw (p.1, p.2)
    (undrawn_err s _ _ _ _
    ∙ ap undrawn
    (said_refused n_ports _ a.tally a.samples.now a.marks.now _ _ c.draws_refusal-first.ensures c.block_outcome.ensures
    (noise_generator_told_of a.c a.wanted) (noise_generator_next_of a.c a.wanted) s _ c.in_err-block_outcome.was))

pub loop-i-init : goal.loop-i-init
unfolding after_ticks needed_by changed_by
loop-i-init c = let a = c.args in
    let f = said_fits n_ports _ a.tally a.samples.now a.marks.now _ _ c.draws_refusal-first.ensures c.block_outcome.ensures _ c.in_ok-block_outcome.was in
    record {
      samples_size = f.0;
      marks_size = refl;
      samples = joined_none _ _;
      marks = over_none _ _;
      state = λ i. generator (c.rowless-pink.ensures i) (c.rowless-pink2.ensures i) c.args.self.correlation c.args.self.last_white;
      enough = f.1;
      taken = refl;
      fits = omega arith;
    }

pub turn-turned-requires : goal.turn-turned-requires
unfolding needed_at needed_of
turn-turned-requires c = let a = c.args in
    let good = c.well_formed.0.1.1 in
    let l = c.loop-i in
    let s = l.invariant in
    let x = generator (pink_at l.rows l.pink) (pink_at l.rows2 l.pink2) a.self.correlation l.last_white in record {
      draws_value = ahead_taken a.self a.c a.wanted a.draws.now _ s.enough l.i c.loop-i-test.true x l.at s.state s.taken;
      calm_value = λ e.
          ahead_finite a.self a.c a.wanted a.draws.now _ s.enough (search (rules, good.0)) (search (rules, good.1.0))
          (c.calm.ensures e) l.i c.loop-i-test.true _ x l.at c.clamped.ensures s.state s.taken;
    }

pub overflow_add-at : goal.overflow_add-at
unfolding needed_at needed_of
overflow_add-at c = let l = c.loop-i in
    let a = c.args in
    let s = l.invariant in
    let x = generator (pink_at l.rows l.pink) (pink_at l.rows2 l.pink2) a.self.correlation l.last_white in
    let h = reaches a.self a.c a.wanted a.draws.now _ s.enough l.i c.loop-i-test.true x l.at _ s.state s.taken refl in
    let e = c.turn-turned.ensures.taken in
    let g = c.well_formed in
    omega arith

pub loop-i-preserved : goal.loop-i-preserved
unfolding needed_at needed_of
loop-i-preserved c = let l = c.loop-i in
    let a = c.args in
    let t = c.loop-i-test.true in
    let s = l.invariant in
    let h = s.enough in
    let x = generator (pink_at l.rows l.pink) (pink_at l.rows2 l.pink2) a.self.correlation l.last_white in
    let e =
    turn_there _ (correlation_of a.self a.c) _ (numbers_of a.c) x a.wanted l.at a.draws.now _ c.clamped.ensures
    c.are_numbers.ensures (c.turn-turned.ensures.state a.self.correlation l.last_white) in
    let told = heard a.self a.c a.wanted a.draws.now _ h l.i t x l.at _ s.state s.taken e in
    let place = advanced a.self a.c a.wanted a.draws.now _ h l.i t x l.at _ s.state s.taken e in
    let reach = reaches a.self a.c a.wanted a.draws.now _ h l.i t x l.at _ s.state s.taken e in record {
      samples_size = c.put.auto.samples ∙ s.samples_size;
      marks_size = c.put.auto.marks ∙ s.marks_size;
      samples = rw c.put.ensures.samples_after
          (frames_more n_ports four_ports _ _ _ _ (length a.marks.now) _ _ _ _ s.marks_size t s.samples_size s.samples told);
      marks = rw c.put.ensures.marks_after (marks_more n_ports four_ports _ _ _ _ _ _ _ t s.marks told);
      state = moved a.self a.c a.wanted a.draws.now _ h l.i t x l.at _ s.state s.taken e;
      enough = h;
      taken = ap (λ k. l.at + k) c.turn-turned.ensures.taken ∙ place;
      fits = subst (λ k. l.at + k ≤ length a.draws.now) (sym c.turn-turned.ensures.taken) reach;
    }

pub returns : goal.returns
unfolding noise_generator_block_of
returns c = let l = c.loop-i in
    let a = c.args in
    let s = l.invariant in
    let x = drawing a.self a.draws.now in
    let n = le_antisymm l.auto.i-end c.loop-i-test.false in
    let f = said_fits n_ports _ a.tally a.samples.now a.marks.now _ _ c.draws_refusal-first.ensures c.block_outcome.ensures _ c.in_ok-block_outcome.was in
    undrawn_ok x _ _ _ _ _ _ (simp (c.with_rows.ensures, c.with_rows-2.ensures) s.state ∙ ap (λ k. (drawing_at a.self a.c a.wanted a.draws.now k).noise) n)
    ∙ ap undrawn
    (said_done n_ports _ a.tally a.samples.now a.marks.now _ _ c.draws_refusal-first.ensures c.block_outcome.ensures
    (noise_generator_told_of a.c a.wanted) (noise_generator_next_of a.c a.wanted) x _ c.in_ok-block_outcome.was _ _ _ _ refl
    (frames_done n_ports four_ports _ _ _ _ _ _ _ n f.0 s.samples) (marks_done n_ports four_ports _ _ _ _ _ _ _ n refl s.marks)
    (kept_or _ _ _ _ c.unwrap_or.ensures c.take_marks.ensures))
