-- A text of no character, or of two and more, is not one character. Assumes nothing.
use Rattle.std.proofs.Common.{◌≡◌, ℕ, List, [], ◌++◌, length, sym, ap, ◌∙◌, arith}
use Rattle.std.specs.Char.{encode_utf8}
use Rattle.std.proofs.lemmas.List.{append-nil, length-append}
use Rattle.std.proofs.lemmas.Str.{encode_same, length-encode, len_utf8_bounds}

pub not_empty : (text rest : List ℕ) (c : ℕ) → length text ≡ 0 → text ≡ encode_utf8 c ++ rest → ⊥
not_empty text rest c none e =
    let whole = ap length e ∙ length-append (encode_utf8 c) rest in
    omega (arith, none, whole, length-encode c, (len_utf8_bounds c).0)

pub not_two : (text more rest : List ℕ) (c d e : ℕ) → text ≡ encode_utf8 c ++ more → more ≡ encode_utf8 d ++ rest → text ≡ encode_utf8 e → ⊥
not_two text more rest c d e first second whole =
    let same = encode_same c e more [] (sym first ∙ whole ∙ sym (append-nil (encode_utf8 e))) in
    not_empty more rest d (ap length same.1) second
