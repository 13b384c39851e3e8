use Rattle.file.proofs.Agreements.{common_agrees}
use Rattle.file.proofs.position.Position.agreement.Goals as goal

pub returns : goal.returns
returns c = common_agrees _ _ _ _ _ c.args.self.within c.rest.ensures c.common_length.ensures
