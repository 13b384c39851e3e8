-- A text whose lines are read one after another. Assumes nothing.
use Rattle.std.proofs.Common.{◌≡◌, ℕ, List, ◌++◌, Option, sym, ap, ◌∙◌, subst}
use Rattle.std.proofs.lemmas.List.{append_assoc}
use Rattle.hour.specs.declared.market.Market.{Market}
use Rattle.hourbill.specs.declared.key.Key.{Key}
use Rattle.hourbill.specs.Line.{ReadLine, Reads, line, line_text}

pub read_more : (whole read rest next left : List ℕ) (previous latest : Option Key) (before after : Market) → whole ≡ read ++ rest → rest ≡ next ++ left → Reads read previous before →
    ReadLine next previous before latest after → (t : List ℕ) × (whole ≡ t ++ left) × Reads t latest after
read_more whole read rest next left previous latest before after so_far cut reads one = (
  read ++ next,
  so_far ∙ ap (λ t. read ++ t) cut ∙ sym (append_assoc read next left),
  subst (λ t. Reads (read ++ t) latest after) (sym one.written_so)
      (subst (λ k. Reads (read ++ line_text one.key one.fields) k after) (sym one.this) (line read one.fields previous one.key before after reads one.in_order one.leads)),
)
