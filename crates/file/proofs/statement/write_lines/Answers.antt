use Rattle.std.proofs.Common.{arith}
use Rattle.std.proofs.lemmas.Grind.{common_steps}
use Rattle.std.proofs.lemmas.List.Folds.{length-flat_map-take}
use Rattle.std.proofs.lemmas.Slice.{take-put_mid, drop-put_mid}
use Rattle.file.specs.Statement.{print_text}
use Rattle.file.specs.declared.statement.PrintLine.TheVariants.{Hour}
use Rattle.file.proofs.Printing.{printed_next}
use Rattle.file.proofs.statement.write_lines.Goals as goal

pub slice_bounds-copy_from_slice-end : goal.slice_bounds-copy_from_slice-end
slice_bounds-copy_from_slice-end c =
    let fits = length-flat_map-take print_text c.args.lines.now c.loop-line.line-index (Hour 0) c.loop-line-test.true in
    grind (arith, common_steps, fits, c.len.ensures.fits)

pub loop-line-preserved : goal.loop-line-preserved
loop-line-preserved c =
    let next = printed_next c.args.lines.now c.loop-line.line-index (Hour 0) c.loop-line-test.true in
    record {
      place = grind (arith, common_steps, next);
      within = omega (arith, c.len.ensures.fits);
      front = grind (arith, common_steps, next, take-put_mid);
      behind = grind (arith, common_steps, drop-put_mid);
    }
