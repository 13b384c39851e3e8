use Rattle.std.proofs.Common.{◌≡◌, ◌<◌, ◌++◌, ap, ◌∙◌, string_bytes, slice_index_or, arith}
use Rattle.hourbill.specs.Report.{minutes_lines}
use Rattle.hourbill.proofs.Counts.{line_more}
use Rattle.hourbill.proofs.report.report.Goals as goal

pub loop-place-preserved : goal.loop-place-preserved
loop-place-preserved c =
    let s = c.args.hour.now.book.market.schedule in
    let said = c.loop-place.invariant in
    let within : c.loop-place.place < 64 = omega arith in
    let written = c.as_str.ensures.value ∙ c.in_ok-minutes_line.ensures in (
      said.0,
      said.1,
      (
        said.2.0,
        said.2.1,
        line_more s c.loop-place.place (slice_index_or c.setters.result c.loop-place.place 0) said.2.0 (string_bytes c.loop-place.text) c.as_str.result.now _ (said.0 c.loop-place.place within) said.2.2 written c.in_ok-push_str.ensures.bytes,
      ),
    )

pub returns : goal.returns
returns c =
    let said = c.loop-place.invariant in
    let done : c.loop-place.place ≡ 64 = omega arith in
    record {
      head = said.2.0;
      is_head = said.2.1;
      text = said.2.2 ∙ ap (λ n. said.2.0 ++ minutes_lines c.args.hour.now.book.market.schedule n) done;
    }
