use Rattle.hourfile.proofs.Openings.{broken_first}
use Rattle.hourfile.proofs.Passing.{handed_on}
use Rattle.hourfile.proofs.hour_file.HourFile.read_label.Goals as goal

pub returns-in_err-read : goal.returns-in_err-read
returns-in_err-read c =
    handed_on _ _ _ _ c.from_residual.ensures.1
    (broken_first c.args.self.bytes.now c.args.self.few c.first-cursor.result c.first-cursor.ensures _ c.in_err-read.ensures)
