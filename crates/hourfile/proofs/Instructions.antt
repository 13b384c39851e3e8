-- An instruction that has just been proposed is confirmed by the owner of its sink. Assumes nothing.
use Rattle.std.proofs.Common.{◌≡◌, ℕ, Bool, true, false, cond, ◌||◌, List, [], ◌∷◌, Some, None, Ok, Err, refl, ◌∙◌, arith}
use Rattle.std.proofs.lemmas.Bool.{cond-false}
use Rattle.hour.specs.declared.market.Market.{Market}
use Rattle.hour.specs.Reason.{Reason, answer, outside}
use Rattle.hour.specs.Market.{missing}
use Rattle.hour.specs.Book.{owner_of}
use Rattle.hour.specs.Question.{enrolled_owner}
use Rattle.hour.proofs.Outcomes.{NoneFits}

-- a call is accepted if no reason fits
pub none_refuse : (reasons : List Reason) → NoneFits reasons → answer reasons ≡ Ok tt
none_refuse [] none = refl
none_refuse (reason ∷ rest) none = cond-false reason.fits (Err reason.fault) (answer rest) none.0 ∙ none_refuse rest none.1

-- an owner that is named is the owner of the asset
pub owner_is : (m : Market) (asset owner : ℕ) → Some owner ≡ enrolled_owner m asset → owner ≡ owner_of m asset
owner_is m asset owner e = at (outside 1 64 asset || missing m asset) e
  where
    at : (b : Bool) → Some owner ≡ cond b None (Some (owner_of m asset)) → owner ≡ owner_of m asset
    at true h = let z : ◌≡◌ {A = ℕ} 0 1 = cc in absurd (omega arith)
    at false h = cc
