use Rattle.std.proofs.Common.{◌≡◌, ◌+◌, ◌*◌, ◌≤◌, ◌++◌, map, length, drop}
use Rattle.file.specs.Figure.{figure_text}
use Rattle.file.specs.Row.{row}
use Rattle.file.proofs.print.line_text.Given as goal

abbrev pub invariant-loop-i : goal.invariant-loop-i
invariant-loop-i l = record {
  short : length l.text.items ≤ 6 + 21 * l.i;
  left : l.text.items ++ row (map figure_text (drop l.i l.figures)) ≡ l.key ++ row (map figure_text l.figures);
}
