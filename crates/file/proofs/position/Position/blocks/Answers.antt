use Rattle.std.proofs.Common.{ap, ◌∙◌, subst}
use Rattle.file.specs.Offer.{BlockRow, ReadBlock, ReadBlocks, block_end}
use Rattle.file.specs.Place.{BreaksAt}
use Rattle.file.specs.declared.field.End.{End}
use Rattle.file.proofs.BlockRows.{reading_none, reading_breaks, reading_more, reading_done, block_row}
use Rattle.file.proofs.Places.{err_passed}
use Rattle.file.proofs.position.Position.blocks.Goals as goal

pub loop-read-init : goal.loop-read-init
loop-read-init c = rw c.new-blocks.ensures (reading_none c.args.self)

pub returns-in_err-read : goal.returns-in_err-read
returns-in_err-read c =
    err_passed (λ read. ReadBlocks c.args.self.file.now c.args.self.at read.0.items read.1) (λ broken. BreaksAt (BlockRow 7) c.args.self.file.now c.args.self.at broken.place) _ _ c.from_residual.ensures.1
    (block_row _ _ _ (reading_breaks _ _ c.loop-read.next _ c.loop-read.invariant c.block_end.result _ (c.block_end.ensures ∙ ap block_end c.len.ensures.value) c.in_err-read.ensures))

pub returns-then-read : goal.returns-then-read
returns-then-read c =
    let read = subst (λ (e : End). ReadBlock e c.loop-read.next.file.now c.loop-read.next.at c.in_ok-read.read) (c.block_end.ensures ∙ ap block_end c.len.ensures.value) c.in_ok-read.ensures in
    rw c.push.ensures.items (reading_done _ _ c.loop-read.next _ c.loop-read.invariant c.in_ok-read.read read c.if-read.true)

pub loop-read-preserved : goal.loop-read-preserved
loop-read-preserved c =
    let read = subst (λ (e : End). ReadBlock e c.loop-read.next.file.now c.loop-read.next.at c.in_ok-read.read) (c.block_end.ensures ∙ ap block_end c.len.ensures.value) c.in_ok-read.ensures in
    rw c.push.ensures.items (reading_more _ _ c.loop-read.next _ c.loop-read.invariant c.in_ok-read.read read c.if-read.false)
