-- `play`: between two pieces the player stands where the pieces before it end.
use mathlib.Core.Bool.{true}
use mathlib.Core.Path.{◌≡◌, refl}
use native.Mathlib.Omega.{arith}
use Rattle.text.specs.Page.{with_text, page_at}
use Rattle.render.proofs.Written.{was_read, stands_first, room_samples, samples_cut, samples_room}
use Rattle.render.proofs.Written.{played_done, done, samples_told, begins, piece_written, turn_next, end_written}
use Rattle.render.proofs.play.Goals as goal

pub loop-first-init : goal.loop-first-init
loop-first-init g c =
    record {
      read = was_read _ _ _ c.requires;
      frames_are = refl;
      owner = c.owner_of-osc.ensures;
      ports_are = c.ports_of-ports.ensures;
      out_size = c.told-out;
      samples_size = refl;
      marks_size = refl;
      stands = stands_first _ _ _ c.new-player.ensures c.new-tally.ensures;
      so_far = refl;
    }

pub overflow_mul-room : goal.overflow_mul-room
overflow_mul-room g c =
    let most = room_samples c.loop-first.invariant c.loop-first-test.true _ c.min-n.ensures in
    omega (arith, most, c.loop-first.invariant.samples_size)

pub slice_bounds-samples-end : goal.slice_bounds-samples-end
slice_bounds-samples-end g c = room_samples c.loop-first.invariant c.loop-first-test.true _ c.min-n.ensures

pub slice_bounds-play-end : goal.slice_bounds-play-end
slice_bounds-play-end g c = samples_cut c.loop-first.invariant c.loop-first-test.true _ c.min-n.ensures

pub unwrap-played-requires : goal.unwrap-played-requires
unwrap-played-requires g c = played_done c.loop-first.invariant c.loop-first-test.true _ c.min-n.ensures _ _ _ c.play.ensures

pub slice_bounds-samples-end-in-loop-first : goal.slice_bounds-samples-end-in-loop-first
slice_bounds-samples-end-in-loop-first g c =
    samples_room c.loop-first.invariant c.loop-first-test.true _ c.min-n.ensures
    (done _ _ _ _ _ _ _ c.unwrap-played.ensures c.play.ensures) c.play.auto.samples c.play.auto.marks

pub slice_bounds-put_frames-end : goal.slice_bounds-put_frames-end
slice_bounds-put_frames-end g c =
    samples_told c.loop-first.invariant c.loop-first-test.true _ c.min-n.ensures
    (done _ _ _ _ _ _ _ c.unwrap-played.ensures c.play.ensures) c.play.auto.samples c.play.auto.marks

pub write_piece-wrote-requires : goal.write_piece-wrote-requires
unfolding with_text page_at
write_piece-wrote-requires g c =
    let i = c.loop-first.invariant in
    let some = c.loop-first-test.true in (
      c.requires,
      piece_written i some _ c.min-n.ensures (done _ _ _ _ _ _ _ c.unwrap-played.ensures c.play.ensures) c.play.auto.samples c.play.auto.marks
          (rw (c.place-to.ensures, c.put_frames.ensures, c.new-page.ensures) (refl, grind arith)),
      begins i some _ c.min-n.ensures,
      i.so_far,
    )

pub loop-first-preserved : goal.loop-first-preserved
unfolding with_text page_at
loop-first-preserved g c =
    let on : c.write_piece-wrote.result ≡ true = cc in
    turn_next c.loop-first.invariant c.loop-first-test.true _ c.min-n.ensures
    (done _ _ _ _ _ _ _ c.unwrap-played.ensures c.play.ensures) c.play.auto.samples c.play.auto.marks
    {to = c.place-to.result}
    (rw (c.place-to.ensures, c.put_frames.ensures, c.new-page.ensures) (refl, grind arith)) on

pub write_end-requires : goal.write_end-requires
unfolding with_text page_at
write_end-requires g c =
    let i = c.loop-first.invariant in (
      c.requires,
      end_written i c.loop-first-test.false _ _ (rw (c.place-to-2.ensures, c.put_end.ensures, c.new-page-2.ensures) (refl, grind arith)),
      i.so_far,
    )
