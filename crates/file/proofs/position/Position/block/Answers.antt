use Rattle.file.specs.Offer.{BlockField, ReadBlock}
use Rattle.file.specs.Place.{BreaksAt}
use Rattle.file.proofs.BlockRows.{size_breaks, price_breaks, block_stands}
use Rattle.file.proofs.Places.{err_passed}
use Rattle.file.proofs.position.Position.block.Goals as goal

pub returns-in_err-size : goal.returns-in_err-size
returns-in_err-size c =
    err_passed (λ read. ReadBlock c.args.end c.args.self.file.now c.args.self.at read) (λ broken. BreaksAt (BlockField c.args.end) c.args.self.file.now c.args.self.at broken.place) _ _ c.from_residual.ensures.1
    (size_breaks _ _ _ _ c.in_err-size.ensures)

pub returns-in_err-price : goal.returns-in_err-price
returns-in_err-price c =
    err_passed (λ read. ReadBlock c.args.end c.args.self.file.now c.args.self.at read) (λ broken. BreaksAt (BlockField c.args.end) c.args.self.file.now c.args.self.at broken.place) _ _ c.from_residual-in_err-price.ensures.1
    (price_breaks _ _ _ _ c.in_ok-size.size c.in_ok-size.ensures c.in_err-price.ensures)

pub returns : goal.returns
returns c =
    record {
      size = c.in_ok-size.ensures.word;
      price = c.in_ok-price.ensures.word;
      byte = c.in_ok-price.ensures.byte;
      line = c.in_ok-price.ensures.line;
      ends = c.in_ok-price.ensures.ends;
      stands = block_stands _ _ _ c.in_ok-size.size c.in_ok-price.price c.in_ok-size.ensures c.in_ok-price.ensures;
    }
