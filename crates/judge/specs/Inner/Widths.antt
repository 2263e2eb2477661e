-- No promise rests on this file: it is here for the contracts of inner functions.
-- Bounds that keep sums and products within their types.
use Rattle.std.specs.Prelude.{ℕ, ◌^◌}

-- The greatest number that a place of the table can hold, in 32 bits.
abbrev pub most_at_place : ℕ
most_at_place = 4_294_967_295

-- Above every sum of units and every capacity here; the difference of
-- two numbers below it fits 64 signed bits.
abbrev pub most_side : ℕ
most_side = 2 ^ 62
