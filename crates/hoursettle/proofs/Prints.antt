-- A print that fills the front of a text is no longer than the text. Assumes nothing.
use Rattle.std.proofs.Common.{◌≡◌, ℕ, ◌≤◌, List, ◌++◌, length, drop, ap, ◌∙◌, arith}
use Rattle.std.proofs.lemmas.List.{length-append}

pub within : (print old new : List ℕ) (count : ℕ) → count ≡ length print → new ≡ print ++ drop (length print) old → count ≤ length new
within print old new count is fills =
    let long = ap length fills ∙ length-append print (drop (length print) old) in
    omega arith
