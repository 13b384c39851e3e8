use Rattle.std.proofs.Common.{◌≡◌, ◌+◌, ◌-◌, [], ◌∷◌, ◌++◌, true, false, length, sym, ap, ◌∙◌, arith}
use Rattle.hour.specs.Figure.{listed}
use Rattle.hour.specs.Listing.{listing_to}
use Rattle.hour.proofs.Listings.{listing_none, listing_yes, listing_no, listing_short}
use Rattle.hour.proofs.listing.list_participants.Goals as goal
use Rattle.hour.proofs.listing.list_participants.Goals.{then-is_listed, else-is_listed}

pub loop-participant-init : goal.loop-participant-init
loop-participant-init c = c.new-participants.ensures ∙ sym (listing_none c.args.market.now)

pub push-requires : goal.push-requires
push-requires c = (omega arith, omega (arith, ap length c.loop-participant.invariant, listing_short c.args.market.now (c.loop-participant.participant - 1), c.loop-participant-test.true, c.loop-participant.auto.participant))

pub loop-participant-preserved : goal.loop-participant-preserved
loop-participant-preserved c =
    let m = c.args.market.now in
    let p = c.loop-participant.participant in
    let n = p - 1 in
    let next : n + 1 ≡ p = omega (arith, c.loop-participant.auto.participant) in
    let after : n + 1 ≡ p + 1 - 1 = omega (arith, c.loop-participant.auto.participant) in
    elim c.if-is_listed.branch [
      | then-is_listed w ↦
          let on : listed m (n + 1) ≡ true = ap (λ k. listed m k) next ∙ sym c.is_listed.ensures ∙ w.if-is_listed.true in
          ap (λ v. v.items) w.participants-is ∙ w.push.ensures.items ∙ ap (λ xs. xs ++ p ∷ []) c.loop-participant.invariant
          ∙ ap (λ k. listing_to m n ++ k ∷ []) (sym next) ∙ sym (listing_yes m n on) ∙ ap (λ k. listing_to m k) after
      | else-is_listed w ↦
          let off : listed m (n + 1) ≡ false = ap (λ k. listed m k) next ∙ sym c.is_listed.ensures ∙ w.if-is_listed.false in
          ap (λ v. v.items) w.participants-is ∙ c.loop-participant.invariant ∙ sym (listing_no m n off) ∙ ap (λ k. listing_to m k) after
    ]
