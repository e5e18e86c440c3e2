-- What is stored is read back, the counters settle the draws, and each contract, being one equation, settles what it speaks of.
use mathlib.Core.List.{List, [], ◌∷◌, ◌++◌}
use mathlib.Core.Path.{◌≡◌, refl, sym, ap, ◌∙◌}
use Prim.Native.Nat.{ℕ, ◌+◌, ◌<◌}
use native.Mathlib.Omega.{arith}
use lib.Ieee.{Float, nan}
use lib.ListN.{get_or-append, length, length-append, get_or}
use lib.Seq.{append_snoc, get_or-append-add}
use borrow.Author.Tests.{eq-eqb}
use Rattle.laws.proofs.Over.{by_cells}
use Rattle.laws.proofs.Settled as laws
use Rattle.noise_generator.specs.NoiseGenerator.{needed_of, needed_by}
use Rattle.exports_noise_generator.specs.Calls.{noise_generator_new_at, noise_generator_with_correlation_at, noise_generator_needed_at}
use Rattle.exports_noise_generator.specs.Calls.{noise_generator_needed_by_at}
use Rattle.exports_noise_generator.specs.Calls.{noise_generator_tick_at, noise_generator_block_at, noise_generator_reset_at, noise_generator_set_sample_rate_at}
use Rattle.exports_noise_generator.specs.Promises.{ReadBack, NeededTold, Settled}
use Rattle.exports_noise_generator.specs.State.{n_wholes, rows_at, counter_of, state_of, floats_of, wholes_of}

-- cells past the first run
later : (a b : List Float) (n at i : ℕ) → length a ≡ n → at ≡ n + i → get_or (a ++ b) at nan ≡ get_or b i nan
later a b n at i h e = rw (e, ← h) (get_or-append-add a b i nan)

-- rows between two runs
rows_between : (a rows b : List Float) (at : ℕ) → length a ≡ at → length rows ≡ 16 → rows_at (a ++ (rows ++ b)) at ≡ rows
unfolding rows_at
rows_between a rows b at h k =
    sym (by_cells nan (λ i. get_or (a ++ (rows ++ b)) (at + i) nan) 16 rows k
    (λ i l. sym (later a (rows ++ b) at (at + i) i h refl ∙ get_or-append rows b nan i (omega arith))))

-- what stands in the second rows and past them
second_rows : (a b rest : List Float) (x : Float) → length a ≡ 16 → length b ≡ 16 → rows_at (a ++ (x ∷ b ++ rest)) 17 ≡ b
second_rows a b rest x h k =
    ap (λ (l : List Float). rows_at l 17) (sym (append_snoc a x (b ++ rest)))
    ∙ rows_between (a ++ (x ∷ [])) b rest 17 (length-append a (x ∷ []) ∙ omega arith) k

second_run : (a b rest : List Float) (x : Float) (at i : ℕ) → length a ≡ 16 → length b ≡ 16 → at ≡ 33 + i
    → get_or (a ++ (x ∷ b ++ rest)) at nan ≡ get_or rest i nan
second_run a b rest x at i h k e = later a (x ∷ b ++ rest) 16 at (17 + i) h (omega arith) ∙ later (x ∷ b) rest 17 (17 + i) i (omega arith) refl

counter_kept : (w : ℕ) → w < 4294967296 → counter_of w ≡ w
unfolding counter_of
counter_kept w h = omega arith

pub read_back : ReadBack
unfolding state_of floats_of wholes_of
read_back s p q =
    let a = s.pink.rows in
    let b = s.pink2.rows in
    let rest : List Float = s.pink2.running_sum ∷ s.correlation ∷ s.last_white ∷ [] in
    let x = s.pink.running_sum in
    let later-on : List Float = x ∷ b ++ rest in
    simp (
      rows_between [] a later-on 0 refl p.0,
      later a later-on 16 16 0 p.0 refl,
      second_rows a b rest x p.0 q.0,
      second_run a b rest x 33 0 p.0 q.0 refl,
      second_run a b rest x 34 1 p.0 q.0 refl,
      second_run a b rest x 35 2 p.0 q.0 refl,
      counter_kept s.pink.index p.1,
      counter_kept s.pink2.index q.1,
    )

pub needed_told : NeededTold
unfolding noise_generator_needed_at noise_generator_needed_by_at needed_of needed_by state_of
needed_told f w h = record { one = simp (eq-eqb (length w) n_wholes h); many = λ ticks. simp (eq-eqb (length w) n_wholes h) }

pub settled : Settled
settled =
    record {
      new = λ f w. laws.settled (noise_generator_new_at f w);
      with_correlation = λ c f w. laws.settled (noise_generator_with_correlation_at c f w);
      needed = λ w. laws.settled (noise_generator_needed_at w);
      needed_by = λ ticks w. laws.settled (noise_generator_needed_by_at ticks w);
      tick = λ given c wanted f w draws o. laws.settled (noise_generator_tick_at given c wanted f w draws o);
      block = λ given c wanted f w draws k o m. laws.settled (noise_generator_block_at given c wanted f w draws k o m);
      reset = λ f w. laws.settled (noise_generator_reset_at f w);
      set_sample_rate = λ rate f w. laws.settled (noise_generator_set_sample_rate_at rate f w);
    }
