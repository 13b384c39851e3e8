use Rattle.hoursettle.proofs.Prints.{within}
use Rattle.hoursettle.proofs.settle_input.Goals as goal

pub slice_bounds-write_all-end : goal.slice_bounds-write_all-end
slice_bounds-write_all-end c = let fills = c.in-Ok.ensures.fills in within _ _ c.settle.new.text c.in-Ok.count fills.0 fills.1
