use Rattle.ledger.proofs.Existence.{every_list}
use Rattle.ledger.proofs.history.every_list_has_a_history.Goals as goal

pub returns : goal.returns
returns c = every_list
