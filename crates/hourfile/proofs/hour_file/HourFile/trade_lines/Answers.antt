use Rattle.std.proofs.Common.{Some, sym, ap, subst, arith}
use Rattle.hourfile.specs.Call.{Traded}
use Rattle.hourfile.specs.Cursor.{Trading}
use Rattle.hourfile.specs.Outcome.{FirstFault}
use Rattle.hourfile.specs.declared.cursor.Cursor.{Cursor}
use Rattle.hourfile.proofs.Passing.{handed_on, line_small, moves}
use Rattle.hourfile.proofs.Trades.{broken_on, made_on, refused_on, entry_on}
use Rattle.hourfile.proofs.hour_file.HourFile.trade_lines.Goals as goal

pub returns-in_err-read : goal.returns-in_err-read
returns-in_err-read c =
    handed_on _ _ _ _ c.from_residual.ensures.1
    (broken_on c.args.self.bytes.now c.args.self.few c.loop-read.hour.market c.loop-read.hour.market c.loop-read.cursor c.loop-read.invariant _ c.in_err-read.ensures)

pub behind-cursor-requires : goal.behind-cursor-requires
behind-cursor-requires c = line_small c.args.self.bytes.now _ c.loop-read.cursor c.loop-read.invariant.through.behind c.args.self.few

pub loop-read-preserved : goal.loop-read-preserved
loop-read-preserved c =
    let read = c.in_ok-read.read in
    subst (Trading c.args.self.bytes.now c.trade.new.hour.market) (sym c.behind-cursor.ensures)
    (made_on c.args.self.bytes.now c.args.self.few c.loop-read.hour.market c.trade.new.hour.market c.loop-read.cursor c.loop-read.invariant read.item read.next c.in_ok-read.ensures
    (subst (λ said. Traded read.item c.loop-read.hour.market (Some said) c.trade.new.hour.market) c.in-Some-Ok.field-0-is c.in-Some-Ok.ensures))

pub returns-in-Some-Err : goal.returns-in-Some-Err
returns-in-Some-Err c =
    let read = c.in_ok-read.read in
    subst (FirstFault c.args.self.bytes.now) (sym c.fault.ensures)
    (refused_on c.args.self.bytes.now c.args.self.few c.loop-read.hour.market c.trade.new.hour.market c.loop-read.cursor c.loop-read.invariant c.in-Some-Err.fault read.item read.next c.in_ok-read.ensures
    (subst (λ said. Traded read.item c.loop-read.hour.market (Some said) c.trade.new.hour.market) c.in-Some-Err.field-0-is c.in-Some-Err.ensures))

pub returns-in-None : goal.returns-in-None
returns-in-None c =
    let here = entry_on c.args.self.bytes.now c.args.self.few c.loop-read.hour.market c.trade.new.hour.market c.loop-read.cursor c.loop-read.invariant c.in_ok-read.read c.in_ok-read.ensures c.in-None.ensures in
    (subst (λ m. Trading c.args.self.bytes.now m c.loop-read.cursor) (sym here.0) c.loop-read.invariant, here.1)

pub loop-read-smaller : goal.loop-read-smaller
loop-read-smaller c =
    let read = c.in_ok-read.read in
    let r = c.in_ok-read.ensures in
    let on = moves c.args.self.bytes.now c.loop-read.cursor.start c.loop-read.cursor.last read r in
    let within = r.stands.within in
    let next = ap (λ (x : Cursor). x.start) c.behind-cursor.ensures in
    omega (arith, on, within, next)
