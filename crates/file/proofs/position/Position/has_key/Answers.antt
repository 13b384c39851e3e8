use Rattle.std.proofs.Common.{◌≡◌, ℕ, List, length, sym, ap, ◌∙◌, subst}
use Rattle.std.proofs.lemmas.Bool.{eqb-true, eq-eqb}
use Rattle.file.specs.Key.{key_text}
use Rattle.file.specs.Literal.{Agrees}
use Rattle.file.proofs.Keys.{agrees_whole, whole_agrees}
use Rattle.file.proofs.position.Position.has_key.Goals as goal

pub returns-then-follows : goal.returns-then-follows
returns-then-follows c =
    let text = key_text c.args.key in
    let long : length c.text-text.result.now ≡ length text = ap length c.text-text.ensures in
    let agrees = subst (λ (t : List ℕ). Agrees c.args.self.file.now c.args.self.at t c.agreement.result) c.text-text.ensures c.agreement.ensures in (
      λ whole. record { allowed = sym c.follows.ensures ∙ c.if-follows.true; stands = agrees_whole c.args.self.file.now c.args.self.at text c.agreement.result agrees (eqb-true _ _ whole ∙ long) },
      λ found. eq-eqb _ _ (whole_agrees c.args.self.file.now c.args.self.at text c.agreement.result agrees found.stands ∙ sym long),
    )
