use Rattle.hourfile.proofs.Openings.{closed, surplus}
use Rattle.hourfile.proofs.Passing.{handed_on}
use Rattle.hourfile.proofs.hour_file.HourFile.read_hour.Goals as goal

pub enter_lines-requires : goal.enter_lines-requires
enter_lines-requires c =
    let stop = c.in_ok-entries.ensures in
    closed c.args.self.bytes.now c.trade_lines.new.hour.market c.close-hour.result.book c.in_ok-entries.entries stop.0 stop.1 c.close-hour.ensures.state

pub returns-in_err-check_end : goal.returns-in_err-check_end
returns-in_err-check_end c =
    handed_on _ _ _ _ c.from_residual-in_err-check_end.ensures.1
    (surplus c.args.self.bytes.now c.args.self.few c.enter_lines.new.hour.book c.in_ok-end.end c.in_ok-end.rule c.in_ok-end.ensures _ c.in_err-check_end.ensures)
