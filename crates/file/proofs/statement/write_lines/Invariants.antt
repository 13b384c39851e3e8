use Rattle.std.proofs.Common.{◌≡◌, ◌*◌, ◌≤◌, length, take, drop}
use Rattle.file.specs.Statement.{printed}
use Rattle.file.proofs.statement.write_lines.Given as goal

abbrev pub invariant-loop-line : goal.invariant-loop-line
invariant-loop-line l = record {
  place : l.next ≡ length (printed (take l.line-index l.lines));
  within : l.next ≤ 153 * l.line-index;
  front : take l.next l.text ≡ printed (take l.line-index l.lines);
  behind : drop l.next l.text ≡ drop l.next l.initial.text;
}
