-- The worked cases, by computation. Assumes nothing.
use Rattle.std.proofs.Common.{refl, arith}
use Rattle.std.proofs.lemmas.Int.{ints}
use Rattle.splitting.specs.Largest.{handed_out}
use Rattle.splitting.specs.Places.{sum_over}
use Rattle.splitting.specs.Running.{running}
use Rattle.cases.specs.Cases.{SumsOfPrices, HalfCents, OneCent}

pub sums_of_prices : SumsOfPrices
sums_of_prices = record {
  half_down = refl;
  left_over = record { exact = refl; low = omega (arith, ints); high = omega (arith, ints) };
  half_up = refl;
  short_of = record { exact = refl; low = omega (arith, ints); high = omega (arith, ints) };
}

pub half_cents : HalfCents
half_cents = record { below = refl; half = refl }

pub one_cent : OneCent
unfolding handed_out running sum_over
one_cent = record { by_largest = refl; by_running = refl }
