use Rattle.std.proofs.Common.{ℕ, ◌<◌, List, length, subst, sym, ◌∙◌, ap}
use Rattle.file.specs.Body.{Body}
use Rattle.file.specs.Literal.{Agrees}
use Rattle.file.specs.Place.{BreaksAt}
use Rattle.file.specs.declared.broken.BrokenForm.{BrokenForm}
use Rattle.file.specs.declared.key.Key.TheVariants.{Rule}
use Rattle.file.proofs.Names.{name_breaks}
use Rattle.file.proofs.Shapes.{body_breaks}
use Rattle.file.proofs.position.Position.rule.Goals as goal

pub returns-then-count-text : goal.returns-then-count-text
returns-then-count-text c =
    let self = c.args.self in
    let count = c.agreement-count.result in
    subst (λ (place : ℕ). BreaksAt (Body Rule) self.file.now self.at place) (sym (ap (λ (b : BrokenForm). b.place) c.broken.ensures ∙ c.behind-end.ensures.at_is))
    (body_breaks Rule _ _ _
    (name_breaks self.file.now self.at c.rule_name-name.result count self.within c.rule_name-name.ensures
    (subst (λ (t : List ℕ). Agrees self.file.now self.at t count) c.name_line-text.ensures c.agreement-count.ensures)
    (subst (λ (t : List ℕ). count < length t) c.name_line-text.ensures c.if-count-text.true)))
