-- A row of figures field by field, and a print line by line. Assumes nothing.
use Rattle.std.proofs.Common.{◌≡◌, ℕ, ◌+◌, ◌-◌, ◌<◌, cond, ltb, List, [], ◌∷◌, ◌++◌, map, length, get_or, take, drop, sym, ap, ◌∙◌, arith}
use Rattle.std.proofs.lemmas.List.{append_assoc, append-nil, length-drop, take_more, drop_more}
use Rattle.std.proofs.lemmas.Bool.{cond-true, cond-false, lt-ltb, le-ltb}
use Rattle.std.proofs.lemmas.Grind.{flat_map-append}
use Rattle.file.specs.Figure.{figure_text}
use Rattle.file.specs.Row.{row, ending}
use Rattle.file.specs.Statement.{print_text, printed}
use Rattle.file.specs.declared.figure.Figure.{Figure}
use Rattle.file.specs.declared.statement.PrintLine.{PrintLine}

ending_rest : (rest : List Figure) (i n : ℕ) → length rest ≡ n - i → ending (map figure_text rest) ≡ cond (ltb i n) 44 10
ending_rest [] i n e = sym (cond-false (ltb i n) 44 10 (le-ltb i n (omega arith)))
ending_rest (f ∷ fs) i n e = sym (cond-true (ltb i n) 44 10 (lt-ltb i n (omega arith)))

-- what is left of a row from a place on is its field there, the byte behind it, and what is left from the next
row_step : (fs : List Figure) (i : ℕ) (d : Figure) → i < length fs →
    row (map figure_text (drop i fs)) ≡ figure_text (get_or fs i d) ++ cond (ltb (i + 1) (length fs)) 44 10 ∷ row (map figure_text (drop (i + 1) fs))
row_step fs i d lt =
    ap (λ (t : List Figure). row (map figure_text t)) (drop_more fs i d lt)
    ∙ ap (λ (b : ℕ). figure_text (get_or fs i d) ++ b ∷ row (map figure_text (drop (i + 1) fs))) (ending_rest (drop (i + 1) fs) (i + 1) (length fs) (length-drop (i + 1) fs))

-- a row is written field by field
pub row_more : (fs : List Figure) (i : ℕ) (d : Figure) (done : List ℕ) (end : ℕ) → i < length fs → end ≡ cond (ltb (i + 1) (length fs)) 44 10 →
    ((done ++ figure_text (get_or fs i d)) ++ end ∷ []) ++ row (map figure_text (drop (i + 1) fs)) ≡ done ++ row (map figure_text (drop i fs))
row_more fs i d done end lt is =
    let rest = row (map figure_text (drop (i + 1) fs)) in
    let field = figure_text (get_or fs i d) in
    append_assoc (done ++ field) (end ∷ []) rest
    ∙ append_assoc done field (end ∷ rest)
    ∙ ap (λ (t : List ℕ). done ++ t) (ap (λ (b : ℕ). field ++ b ∷ rest) is ∙ sym (row_step fs i d lt))

-- the lines up to the next are those up to here and the text of this one
pub printed_next : (lines : List PrintLine) (i : ℕ) (d : PrintLine) → i < length lines → printed (take (i + 1) lines) ≡ printed (take i lines) ++ print_text (get_or lines i d)
printed_next lines i d lt =
    ap printed (take_more lines i d lt)
    ∙ flat_map-append print_text (take i lines) (get_or lines i d ∷ [])
    ∙ ap (λ (t : List ℕ). printed (take i lines) ++ t) (append-nil (print_text (get_or lines i d)))
