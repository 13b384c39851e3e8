use Rattle.std.proofs.Common.{◌≡◌, Ok, sym, ap, ◌∙◌, subst}
use Rattle.hour.specs.Book.{owner_of}
use Rattle.hour.specs.Priced.{Confirmation}
use Rattle.hourfile.proofs.Instructions.{owner_is}
use Rattle.hourfile.proofs.call.instruct.Goals as goal

pub returns : goal.returns
returns c =
    let before = c.args.hour.now.book in
    let between = c.propose.new.self.book in
    let p = c.in_ok-propose.ensures in
    let own : c.unwrap-owner.result ≡ owner_of before.market c.args.sink =
    owner_is between.market c.args.sink c.unwrap-owner.result (sym c.unwrap-owner.ensures ∙ c.owner.ensures) ∙ ap (λ m. owner_of m c.args.sink) p.others.market in
    record {
      between = between;
      proposal = p;
      confirmation = subst (λ o. Confirmation between c.args.number o (Ok tt) c.confirm.new.self.book) own c.in-Ok.ensures;
    }
