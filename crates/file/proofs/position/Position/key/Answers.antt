use Rattle.std.proofs.Common.{◌≡◌, ap, ◌∙◌, rules, tests}
use Rattle.std.proofs.lemmas.Iterator.{YieldsList-from_slice, first_from_find}
use Rattle.std.proofs.lemmas.Iterator.Consumers.{YieldsList-from_copied}
use Rattle.file.specs.Key.{FoundKey}
use Rattle.file.specs.declared.key.Key.{Key}
use Rattle.file.proofs.Keys.{keys, key_found}
use Rattle.file.proofs.position.Position.key.Goals as goal

pub returns : goal.returns
returns c =
    let here = c.args.self in
    let all : c.copied.result.iter.rest.now ≡ keys = ap (λ source. source.rest.now) c.copied.ensures.source ∙ c.iter.ensures.rest in
    key_found here.file.now here.at c.args.last c.find.result
    (first_from_find _ _ c.find.result (λ (key : Key). FoundKey here.file.now here.at c.args.last key) (λ (key : Key). FoundKey here.file.now here.at c.args.last key → ⊥) c.find.ensures.ran
    (YieldsList-from_copied (YieldsList-from_slice keys all))
    (λ x q k. search (rules, tests)) (λ x q k. search (rules, tests)))
