use Rattle.std.proofs.Common.{[], ◌∷◌, refl, arith}
use Rattle.splitting.specs.Figures.{Figures, loaded, rounded_alone}
use Rattle.splitting.specs.Largest.{handed_out}
use Rattle.splitting.specs.Places.{sum_over}
use Rattle.splitting.specs.Rule.{Lawful}
use Rattle.splitting.specs.Running.{running}
use Rattle.splitting.specs.Weights.{Accepted}
use Rattle.splitting.proofs.figures.worked_figures.Goals as goal

worked : Figures
unfolding handed_out running sum_over
worked = record { cent_by_largest = refl; cent_by_running = refl; charge_by_largest = refl; charge_by_running = refl }

two_cents : Accepted 2 (1 ∷ 1 ∷ [])
two_cents = record { limits = record { few = omega arith; light = omega arith; small = omega arith }; weighs = λ _. omega arith }

charge : Accepted 45000 (110000 ∷ 50000 ∷ [])
charge = record { limits = record { few = omega arith; light = omega arith; small = omega arith }; weighs = λ _. omega arith }

not_loaded : Lawful loaded → ⊥
not_loaded law = omega (arith, ((law 2 (1 ∷ 1 ∷ []) two_cents).near (omega arith) 0 (omega arith)).not_over)

not_rounded : Lawful rounded_alone → ⊥
not_rounded law = omega (arith, (law 45000 (110000 ∷ 50000 ∷ []) charge).adds_up)

pub returns : goal.returns
returns c = record { figures = worked; excluded = record { loading = not_loaded; rounding_alone = not_rounded } }
