-- What settling a file answers to callers in other languages. Assumes nothing.
use Rattle.std.specs.Prelude.{◌≡◌, ℕ, List, Ok, Err, Result}
use Rattle.hourfile.specs.Outcome.{Settles}
use Rattle.hourfile.specs.declared.fault.Fault.{Fault}

-- how many bytes of the text are filled
abbrev pub filled : Result ℕ Fault → ℕ
filled (Ok count) = count
filled (Err fault) = 0

-- the file is settled, and the answer tells how many bytes of the text are filled
pub record SettlesFor (file old : List ℕ) (r : ℕ) (new : List ℕ) : Type 0 where
  pub said : Result ℕ Fault
  pub settles : Settles file old said new
  pub count : r ≡ filled said
