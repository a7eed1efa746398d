-- The columns of one more word.
use Rattle.std.proofs.Common.{◌≡◌, ℕ, ◌+◌, List, [], ◌∷◌, ◌++◌, Some, take, append-nil, refl}
use Rattle.std.specs.List.{slice_get}
use Rattle.std.proofs.lemmas.Grind.{flat_map-append}
use Rattle.std.proofs.lemmas.List.{take_more}
use Rattle.std.proofs.lemmas.Option.{get_or_from_slice_get, slice_get_within}
use Rattle.data_rows.specs.Rows.{WordEntry}
use Rattle.check_tables.specs.Words.{word_column, word_columns}

pub columns_more : (number : ℕ) (words : List WordEntry) (index : ℕ) (entry : WordEntry)
    → slice_get words index ≡ Some entry
    → word_columns number (take (index + 1) words)
    ≡ word_columns number (take index words) ++ word_column number entry
columns_more number words index entry is =
    rw (
      take_more words index entry (slice_get_within words index entry is),
      get_or_from_slice_get words index entry entry is,
      flat_map-append (word_column number) (take index words) (entry ∷ []),
      append-nil (word_column number entry),
    )
    refl
