-- What holds of a list made from a function of the place. Assumes nothing.
use Rattle.std.proofs.Common.{◌≡◌, ℕ, ◌<◌, List, length, get_or, zero-add}
use Rattle.std.proofs.lemmas.List.FromFn.{length-map-range_with_len, get_or-map-range_with_len, fill_by_all}
use Rattle.hour.specs.Table.{table}

module _ {A : Type 0} where
  pub length_table : (f : ℕ → A) (n : ℕ) → length (table f n) ≡ n
  unfolding table
  length_table f n = length-map-range_with_len f 0 n

  pub getD_table : (f : ℕ → A) (n k : ℕ) (d : A) → k < n → get_or (table f n) k d ≡ f k
  unfolding table
  getD_table f n k d lt = get_or-map-range_with_len f 0 n k k d lt (zero-add k)

  -- a list with the right length and elements is the table
  pub table_all : (f : ℕ → A) (xs : List A) (n : ℕ) (d : A) → length xs ≡ n → ((k : ℕ) → k < n → get_or xs k d ≡ f k) → xs ≡ table f n
  unfolding table
  table_all f xs n d len each = fill_by_all f xs n d len each
