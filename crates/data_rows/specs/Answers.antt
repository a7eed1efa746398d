-- What a call returns is the reading that the definitions give.
use Rattle.std.specs.Prelude.{◌≡◌, Result, Ok, Err}
use Rattle.data_rows.specs.declared.error.Cause.{Cause}
use Rattle.data_rows.specs.declared.error.Cause.TheVariants.{Memory}

-- what a call that asks for no memory returns, as its view, is what reading gives
abbrev pub Answers : {X Y : Type 0} → (X → Y) → Result X Cause → Result Y Cause → Type 0
Answers view (Ok x) read = read ≡ Ok (view x)
Answers view (Err cause) read = read ≡ Err cause

-- the cause is the one that reading gives, or there isn't enough memory
abbrev pub Fails : {Y : Type 0} → Cause → Result Y Cause → Type 0
Fails Memory read = Unit {0}
Fails cause read = read ≡ Err cause

-- the value that a call leaves is what reading gives, unless memory ran out
abbrev pub Leaves : {Y : Type 0} → Result (Unit {0}) Cause → Y → Result Y Cause → Type 0
Leaves (Ok _) left read = read ≡ Ok left
Leaves (Err cause) left read = Fails cause read
