use Rattle.std.proofs.Common.{◌≡◌, ℕ, ◌+◌, ◌-◌, List, length, ap, inr, ◌∙◌, subst, sym, rules}
use Rattle.file.specs.Line.{BrokenLine}
use Rattle.file.specs.Key.{FoundKey}
use Rattle.file.proofs.Lines.{line_read, line_broken}
use Rattle.file.proofs.Places.{error_mapped}
use Rattle.file.proofs.line.scan_line.Goals as goal

pub returns : goal.returns
returns c =
    let at = c.behind.ensures.at_is ∙ ap (λ (t : List ℕ). c.args.start + length t) c.text.ensures in
    let found : FoundKey c.args.file.now c.args.start c.args.last c.in_ok-key.key = search rules in
    error_mapped _ _ _ _ _ c.body.result c.map_err.result c.body.ensures c.map_err.ensures.cases
    (λ read ok. line_read _ c.args.start _ c.in_ok-key.key read c.behind.result c.behind.ensures.same at found ok)
    (λ broken mapped breaks learnt.
    let place : mapped.place ≡ broken.place - c.args.start + 1 = search rules in
    subst (λ (p : ℕ). BrokenLine c.args.file.now c.args.start c.args.last p) (sym place)
    (inr (line_broken _ c.args.start _ c.in_ok-key.key _ c.behind.result c.behind.ensures.same at found breaks)))
