use Rattle.std.proofs.Common.{rules}
use Rattle.prices.specs.Asset.{price_in}
use Rattle.prices.proofs.asset.Asset.marginal_price.Goals as goal

pub returns : goal.returns
unfolding price_in
returns c = search rules
