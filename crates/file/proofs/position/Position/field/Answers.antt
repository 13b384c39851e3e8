use Rattle.std.proofs.Common.{◌≡◌, refl, arith, rules}
use Rattle.file.specs.Field.{NoEnd, EndAt, NumberField, ReadNumber}
use Rattle.file.specs.Number.{StandsLongest, Longest}
use Rattle.file.specs.Place.{BreaksAt}
use Rattle.file.proofs.Fields.{field_stands, field_broken}
use Rattle.file.proofs.Places.{err_passed}
use Rattle.file.proofs.position.Position.field.Goals as goal

pub returns-in_err-number : goal.returns-in_err-number
returns-in_err-number c =
    let here = c.args.self in
    let none : Longest here.file.now here.at 0 here.at = search rules in
    let broken : c.in_err-number.field-0.0 ≡ record { place = here.at } = search rules in
    err_passed (λ field. ReadNumber c.args.end here.file.now here.at field) (λ broken. BreaksAt (NumberField c.args.end) here.file.now here.at broken.place) _ _ c.from_residual.ensures.1
    (field_broken _ _ _ _ here _ none refl broken (λ byte some here allows. omega arith))

pub returns-in_err-byte : goal.returns-in_err-byte
returns-in_err-byte c =
    let here = c.args.self in
    let n : StandsLongest here.file.now here.at c.in_ok-number.number = search rules in
    let next = c.in_ok-number.number.next in
    let none : NoEnd c.args.end next.file.now next.at = search rules in
    let broken : c.in_err-byte.field-0.0 ≡ record { place = next.at } = search rules in
    err_passed (λ field. ReadNumber c.args.end here.file.now here.at field) (λ broken. BreaksAt (NumberField c.args.end) here.file.now here.at broken.place) _ _ c.from_residual-in_err-byte.ensures.1
    (field_broken _ _ _ _ next _ n.longest n.same broken (λ byte some here allows. none byte (record { here = here; ends = allows })))

pub returns : goal.returns
returns c =
    let here = c.args.self in
    let n : StandsLongest here.file.now here.at c.in_ok-number.number = search rules in
    let next = c.in_ok-number.number.next in
    let end : EndAt c.args.end next.file.now next.at c.in_ok-byte.byte = search rules in
    record {
      word = n.longest.small;
      byte = c.in_ok-byte.byte;
      ends = end.ends;
      line = search rules;
      stands = field_stands _ _ _ _ next c.behind.result n.longest n.same n.some end.here c.behind.ensures;
    }
