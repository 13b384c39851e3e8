-- A text cut at a character: its first part, and what is left. Assumes nothing.
use Rattle.std.proofs.Common.{◌≡◌, ℕ, ◌+◌, ◌<◌, Bool, List, ◌∷◌, ◌++◌, take, drop, MatchBool, MatchOption, Option, Some, None, true, false, sym, ap, ◌∙◌, subst, arith}
use Rattle.std.specs.Str.Pattern.{FindsChar, IsSplitAtFirstMatch}
use Rattle.std.proofs.lemmas.List.{take-append-drop}
use Rattle.std.proofs.lemmas.Str.{len_utf8_ascii}
use Rattle.std.proofs.lemmas.Str.Pattern.{drop_at_char}

pub first_part : (c : ℕ) (text part rest : List ℕ) (more : Bool) → c < 128 → IsSplitAtFirstMatch (FindsChar c) text part more rest → MatchBool more (text ≡ part ++ (c ∷ rest)) (text ≡ part)
first_part c text part rest more low cut = at cut.1.0 cut.1.1 cut.1.2
  where
    at : (o : Option (ℕ × ℕ)) → FindsChar c text o → MatchOption o ((part ≡ text) × (more ≡ false)) (λ q. 0 < q.1 → (part ≡ take q.0 text) × (more ≡ true) × (rest ≡ drop q.1 text)) → MatchBool more (text ≡ part ++ (c ∷ rest)) (text ≡ part)
    at None found said = subst (λ m. MatchBool m (text ≡ part ++ (c ∷ rest)) (text ≡ part)) (sym said.1) (sym said.0)
    at (Some q) found said =
        let ends : q.1 ≡ q.0 + 1 = found.1.ends ∙ ap (λ n. q.0 + n) (len_utf8_ascii c low) in
        let facts = said (omega (arith, ends)) in
        let behind : drop q.0 text ≡ c ∷ rest = drop_at_char c text q.0 q.1 found.1 low ∙ ap (λ t. c ∷ t) (sym facts.2) in
        let whole : text ≡ part ++ (c ∷ rest) = sym (take-append-drop q.0 text) ∙ ap (λ t. t ++ drop q.0 text) (sym facts.0) ∙ ap (λ t. part ++ t) behind in
        subst (λ m. MatchBool m (text ≡ part ++ (c ∷ rest)) (text ≡ part)) (sym facts.1) whole
