use Rattle.std.proofs.Common.{arith}
use Rattle.std.proofs.lemmas.Grind.{common_steps}
use Rattle.file.specs.declared.figure.Figure.TheVariants.{Natural}
use Rattle.file.proofs.Printing.{row_more}
use Rattle.file.proofs.print.line_text.Goals as goal

pub loop-i-preserved : goal.loop-i-preserved
loop-i-preserved c =
    let more = row_more c.args.figures.now c.loop-i.i (Natural 0) c.loop-i.text.items c.row_end.result c.loop-i-test.true c.row_end.ensures in
    record { short = grind (arith, common_steps); left = grind (arith, common_steps, more) }
