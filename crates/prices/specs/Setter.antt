-- The asset that sets the system price of a minute, and how many minutes each asset sets. Assumes nothing.
use Rattle.std.specs.Prelude.{◌≡◌, ℕ, suc, ◌+◌, ◌<◌, Bool, false, cond, Some, None, Option, ◌==◌, refl}
use Rattle.std.specs.Option.{option_map}
use Rattle.prices.specs.declared.schedule.Schedule.{Schedule}
use Rattle.prices.specs.Range.{count, first_place}
use Rattle.prices.specs.Schedule.{marked_in, proposed, system_price}

-- whether an optional number is there and is the one given
abbrev pub is_number : Option ℕ → ℕ → Bool
is_number None n = false
is_number (Some m) n = m == n

-- whether the asset at a place proposes the system price
abbrev pub sets_price : Schedule → ℕ → ℕ → Bool
sets_price s minute place = is_number (proposed s minute place) (system_price s minute)

-- The setter of a minute: the number of a generator whose marginal price is the system's. Which of several
-- equals it is cannot be read off this name: no proof outside this file sees through it.
pub setter_of : Schedule → ℕ → Option ℕ
setter_of s minute = cond (marked_in s minute) None (option_map suc (first_place (sets_price s minute) 64))

-- what joins the name to the code
pub setter_is : (s : Schedule) (minute : ℕ) → setter_of s minute ≡ cond (marked_in s minute) None (option_map suc (first_place (sets_price s minute) 64))
unfolding setter_of
setter_is s minute = refl

-- the asset of this number is a generator that proposes the system price of a minute that is not marked
pub record Names (s : Schedule) (minute number : ℕ) : Type 0 where
  pub place : ℕ
  pub numbered : number ≡ place + 1
  pub within : place < 64
  pub unmarked : marked_in s minute ≡ false
  pub priced : proposed s minute place ≡ Some (system_price s minute)

-- none is named only if the minute is marked or no generator is dispatched
abbrev pub Sets : Schedule → ℕ → Option ℕ → Type 0
Sets s minute None = marked_in s minute ≡ false → (k : ℕ) → k < 64 → proposed s minute k ≡ None
Sets s minute (Some number) = Names s minute number

-- for how many minutes the setter is the asset of this number
abbrev pub minutes_set : Schedule → ℕ → ℕ
minutes_set s number = count (λ minute. is_number (setter_of s minute) number) 60
