use Rattle.std.proofs.Common.{[], length, sym, ap, ◌∙◌}
use Rattle.std.proofs.lemmas.List.{append-nil}
use Rattle.hourbill.proofs.Letter.{not_empty, not_two}
use Rattle.hourbill.proofs.field.letter.Goals as goal

pub returns-in_default : goal.returns-in_default
returns-in_default c e whole =
    not_two c.args.text.now _ _ c.in_default.field-0-0 c.in_default.field-0-1 e (sym c.chars-characters.ensures.rest ∙ c.in_default.ensures.steps.0) c.in_default.ensures'.steps.0 whole

pub returns-in_default-2 : goal.returns-in_default-2
returns-in_default-2 c e whole =
    let steps = rw c.in_default.is-0 at c.next.ensures.steps in
    not_empty c.args.text.now [] e (ap length (sym c.chars-characters.ensures.rest) ∙ steps.0.0) (whole ∙ sym (append-nil _))
