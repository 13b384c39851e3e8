use Rattle.std.proofs.Common.{◌≡◌, ◌-◌}
use Rattle.hour.specs.Listing.{listing_to}
use Rattle.hour.proofs.listing.list_participants.Given as goal

abbrev pub invariant-loop-participant : goal.invariant-loop-participant
invariant-loop-participant l = l.participants.items ≡ listing_to l.market (l.participant - 1)
