-- The list of a row as it is read: a fault in its numbers is reported only after the faults of the
-- numbers before it.
use Rattle.std.specs.Prelude.{ℕ, List, [], ◌∷◌, ◌++◌, Result, Ok, Err}
use Rattle.arrayvec.specs.ArrayVec.{ArrayVec}
use Rattle.data_rows.specs.declared.error.Cause.{Cause}
use Rattle.data_rows.specs.declared.error.Cause.TheVariants.{BadNumber}
use Rattle.data_rows.specs.declared.number.Number.{Number}
use Rattle.data_rows.specs.Rows.{◌>>=◌, all_within, few_of, list_in}

abbrev pub list_or_cause : Result (ArrayVec ℕ) Cause → Result (List ℕ) Cause
list_or_cause (Ok numbers) = Ok numbers.items
list_or_cause (Err cause) = Err cause

-- the list with one more number
abbrev pub with_number : Result (List ℕ) Cause → Result ℕ Cause → Result (List ℕ) Cause
with_number list number = number >>= λ n. list >>= λ ns. few_of (ns ++ n ∷ [])

-- all numbers in the range, at most forty
abbrev pub few_within : ℕ → ℕ → List Number → Result (List ℕ) Cause
few_within low high ns = all_within low high ns >>= few_of

-- the list in these bytes
abbrev pub list_within : ℕ → ℕ → List ℕ → Result (Result (List ℕ) Cause) Cause
list_within low high bytes = list_in bytes >>= λ ns. Ok (few_within low high ns)

-- the list, if it has any number
abbrev pub some_listed : Result (List ℕ) Cause → Result (Result (List ℕ) Cause) Cause
some_listed (Ok []) = Err BadNumber
some_listed list = Ok list
