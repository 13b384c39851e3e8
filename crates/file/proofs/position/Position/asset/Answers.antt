use Rattle.std.proofs.Common.{refl}
use Rattle.file.specs.declared.key.Key.TheVariants.{Asset}
use Rattle.file.proofs.Shapes.{passed_on, some_cons, number_first, number_later, letter_first, letter_later, lettered_stand, calls_line, calls_n1, calls_ln, End_of_row, LN}
use Rattle.file.proofs.Rows.{NumberText}
use Rattle.file.proofs.position.Position.asset.Goals as goal

pub returns-in_err-asset : goal.returns-in_err-asset
returns-in_err-asset c =
    passed_on Asset _ _ _ _ c.from_residual.ensures.1
    (number_first _ _ _ _ _ calls_ln c.in_err-asset.ensures)

pub returns-in_err-letter : goal.returns-in_err-letter
returns-in_err-letter c =
    passed_on Asset _ _ _ _ c.from_residual-in_err-letter.ensures.1
    (number_later LN _ _ _ c.in_ok-asset.asset some_cons c.in_ok-asset.ensures (letter_first _ _ _ _ calls_n1 c.in_err-letter.ensures))

pub returns-in_err-owner : goal.returns-in_err-owner
returns-in_err-owner c =
    passed_on Asset _ _ _ _ c.from_residual-in_err-owner.ensures.1
    (number_later LN _ _ _ c.in_ok-asset.asset some_cons c.in_ok-asset.ensures
    (letter_later NumberText End_of_row _ _ _ _ c.in_ok-letter.next c.in_ok-letter.ensures (number_first _ _ _ _ _ calls_line c.in_err-owner.ensures)))

pub returns : goal.returns
returns c =
    record {
      sound = (c.in_ok-asset.ensures.word, c.in_ok-letter.ensures.capital, c.in_ok-owner.ensures.word);
      keyed = refl;
      stands = lettered_stand _ _ c.in_ok-asset.asset _ c.in_ok-letter.next c.in_ok-owner.owner c.in_ok-asset.ensures c.in_ok-letter.ensures c.in_ok-owner.ensures;
    }
