use Rattle.std.proofs.Common.{sym, ◌∙◌, rules}
use Rattle.std.proofs.lemmas.List.Concat.{length-flat_map}
use Rattle.file.specs.Statement.{print_text}
use Rattle.file.proofs.statement.print_length.Goals as goal

pub returns : goal.returns
returns c = search rules ∙ sym (length-flat_map print_text c.args.lines.now)
