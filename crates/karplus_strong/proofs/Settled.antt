-- Each contract names the answer and the line, so two that it allows are equal.
use Rattle.std.proofs.Common.{◌≡◌, List, refl, sym, ap, ◌∙◌}
use lib.Ieee.{Float}
use Rattle.laws.specs.Machine.{Settles}
use Rattle.answer.proofs.Calls.{making_settled, changing_settled}
use Rattle.answer.proofs.Said.{block_tells}
use Rattle.answer.specs.Block.{Block}
use Rattle.karplus_strong.specs.Step.{Ticking}
use Rattle.karplus_strong.specs.KarplusStrong.{karplus_strong_cells_of, karplus_strong_tick_of, karplus_strong_block_of}
use Rattle.karplus_strong.specs.Calls.{unstrung}
use Rattle.karplus_strong.specs.KarplusStrong.{Strung}
use Rattle.karplus_strong.specs.Promises.{StrungTells, Settled}
use Rattle.karplus_strong.specs.declared.KarplusStrong.{KarplusStrong}
use Rattle.laws.proofs.Settled as laws

ticking : (t : Ticking) → Settles (λ (r : Ticking). (r.out ≡ t.out) × (r.line ≡ t.line))
ticking t x y p q = (λ i. record { out = (p.0 ∙ sym q.0) i; line = (p.1 ∙ sym q.1) i })

-- an answer that a contract settles, and the line
lent : {A : Type 0} (P : A → Type 0) → Settles P → (l : List Float) → Settles (λ (r : A × List Float). P r.0 × (r.1 ≡ l))
lent P w l x y p q = (λ i. (w x.0 y.0 p.0 q.0 i, (p.1 ∙ sym q.1) i))

pub strung_tells : StrungTells
strung_tells s t b x y p q =
    let same = p ∙ sym q in
    let said = block_tells KarplusStrong s t _ (x.0, x.1, x.2) (y.0, y.1, y.2) (ap unstrung same) refl in
    let line = ap (λ (z : Block Strung). z.state.line) same in
    λ i. ((said i).0, (said i).1, (said i).2, line i)

pub settled : Settled
settled =
    record {
      cells = λ rate. laws.settled (karplus_strong_cells_of rate);
      new = λ rate threshold l. lent _ (making_settled _) _;
      tick = λ s c draws l. ticking (karplus_strong_tick_of s c draws l);
      block = λ x c draws t o m. laws.settled (karplus_strong_block_of x c draws t o m);
      reset = λ s l. lent _ (changing_settled s _) _;
      set_sample_rate = λ s rate l. lent _ (changing_settled s _) _;
    }
