use Rattle.std.proofs.Common.{◌≡◌, ◌+◌, ◌-◌, ◌*◌, ◌≤◌}
use Rattle.noise_generator.specs.Shortcuts.{climbed_of}
use Rattle.noise_generator.proofs.climbed.Given as goal

abbrev pub invariant-loop : goal.invariant-loop
invariant-loop l = (l.sum + climbed_of (16 - l.counter) l.rest ≡ climbed_of 16 l.n) × (l.sum + 2 * l.rest ≤ 2 * l.n)
