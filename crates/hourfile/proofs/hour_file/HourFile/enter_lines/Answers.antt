use Rattle.std.proofs.Common.{Some, None, Ok, sym, ap, subst, arith}
use Rattle.hourfile.specs.Call.{Entered}
use Rattle.hourfile.specs.Cursor.{Entering, Ruled}
use Rattle.hourfile.specs.Outcome.{FirstFault}
use Rattle.hourfile.specs.declared.cursor.Cursor.{Cursor}
use Rattle.hourfile.proofs.Passing.{handed_on, line_small, moves}
use Rattle.hourfile.proofs.Entries.{broken_on, entered_on, refused_on}
use Rattle.hourfile.proofs.hour_file.HourFile.enter_lines.Goals as goal

pub returns-in_err-read : goal.returns-in_err-read
returns-in_err-read c =
    handed_on _ _ _ _ c.from_residual.ensures.1
    (broken_on c.args.self.bytes.now c.args.self.few c.loop-read.hour.book c.loop-read.hour.book c.loop-read.cursor c.loop-read.invariant _ c.in_err-read.ensures)

pub behind-cursor-requires : goal.behind-cursor-requires
behind-cursor-requires c = line_small c.args.self.bytes.now _ c.loop-read.cursor c.loop-read.invariant.through.behind c.args.self.few

pub behind-requires : goal.behind-requires
behind-requires c = line_small c.args.self.bytes.now _ c.loop-read.cursor c.loop-read.invariant.through.behind c.args.self.few

pub loop-read-preserved : goal.loop-read-preserved
loop-read-preserved c =
    let read = c.in_ok-read.read in
    subst (Entering c.args.self.bytes.now c.enter.new.hour.book) (sym c.behind-cursor.ensures)
    (entered_on c.args.self.bytes.now c.args.self.few c.loop-read.hour.book c.enter.new.hour.book c.loop-read.cursor c.loop-read.invariant None read.item read.next c.in_ok-read.ensures
    (subst (λ rule. Entered read.item c.loop-read.hour.book (Ok rule) c.enter.new.hour.book) c.in-Ok-None.field-0-is c.in-Ok-None.ensures)).1

pub returns-in-Ok-Some : goal.returns-in-Ok-Some
returns-in-Ok-Some c =
    let read = c.in_ok-read.read in
    subst (λ next. Ruled c.args.self.bytes.now c.enter.new.hour.book next c.in-Ok-Some.name) (sym c.behind.ensures)
    (entered_on c.args.self.bytes.now c.args.self.few c.loop-read.hour.book c.enter.new.hour.book c.loop-read.cursor c.loop-read.invariant (Some c.in-Ok-Some.name) read.item read.next c.in_ok-read.ensures
    (subst (λ rule. Entered read.item c.loop-read.hour.book (Ok rule) c.enter.new.hour.book) c.in-Ok-Some.field-0-is c.in-Ok-Some.ensures))

pub returns-in-Err : goal.returns-in-Err
returns-in-Err c =
    let read = c.in_ok-read.read in
    subst (FirstFault c.args.self.bytes.now) (sym c.fault.ensures)
    (refused_on c.args.self.bytes.now c.args.self.few c.loop-read.hour.book c.enter.new.hour.book c.loop-read.cursor c.loop-read.invariant c.in-Err.fault read.item read.next c.in_ok-read.ensures c.in-Err.ensures)

pub loop-read-smaller : goal.loop-read-smaller
loop-read-smaller c =
    let read = c.in_ok-read.read in
    let r = c.in_ok-read.ensures in
    let on = moves c.args.self.bytes.now c.loop-read.cursor.start c.loop-read.cursor.last read r in
    let within = r.stands.within in
    let next = ap (λ (x : Cursor). x.start) c.behind-cursor.ensures in
    omega (arith, on, within, next)
