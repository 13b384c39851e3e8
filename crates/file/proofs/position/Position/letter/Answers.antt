use Rattle.std.proofs.Common.{ℕ, refl, sym, ◌∙◌, subst}
use Rattle.std.proofs.lemmas.Bool.{both_ways}
use Rattle.file.specs.Field.{Capital}
use Rattle.file.proofs.Fields.{is_capital, no_capital, letter_missing, comma_missing}
use Rattle.file.proofs.Places.{byte_read}
use Rattle.file.proofs.position.Position.letter.Goals as goal
use Rattle.file.proofs.position.Position.letter.Goals.{in_default-via-in-None-1, in_default-via-in-Some+else-is_ascii_uppercase}

pub returns-2 : goal.returns-2
returns-2 c =
    letter_missing _ c.args.self _ refl c.broken-2.ensures (λ byte here capital. elim c.in_default.branch [
      | in_default-via-in-None-1 w ↦ cc (byte_read _ _ _ _ c.byte.ensures here)
      | in_default-via-in-Some+else-is_ascii_uppercase w ↦ no_capital _ w.if-is_ascii_uppercase.ensures.value (subst (λ (b : ℕ). Capital b) (sym here.same ∙ w.in-Some.ensures.same) capital)
    ])

pub returns : goal.returns
returns c =
    comma_missing _ _ _ c.behind-comma.result _ c.in-Some.ensures (is_capital _ c.if-is_ascii_uppercase.ensures.value) c.behind-comma.ensures c.broken.ensures (λ here. both_ways _ c.if-has.false (c.has.ensures.1 here))
