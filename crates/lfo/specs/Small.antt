-- A depth at which no output can overflow. It is not of the Rust: it spares the test of each output.
use Rattle.std.specs.Prelude.{Bool, ◌&&◌, Float}
use Rattle.std.specs.Float.{binary64}
use Rattle.std.specs.Float.Ieee.{le, of_bits, neg}

-- 2 ^ 30
abbrev pub most : Float
most = of_bits binary64 0x41d0000000000000

-- |depth| is at most 2 ^ 30
unfoldable pub is_small : Float → Bool
is_small depth = le depth most && le (neg most) depth
