-- The part of a total that falls to a weight, in whole cents, and what is left of it. Assumes nothing.
use Rattle.std.specs.Prelude.{ℕ, ◌*◌, ◌/◌, ◌%◌}

-- the whole cents of total × part / all
abbrev pub whole_cents : (total part all : ℕ) → ℕ
whole_cents total part all = total * part / all

-- the remainder of that division
abbrev pub remainder : (total part all : ℕ) → ℕ
remainder total part all = total * part % all
