-- What is known of a fault of a cave beyond its cause.
use Rattle.std.specs.Prelude.{ℕ, Bool, false, not, nat_lt, ◌||◌, ◌==◌, ◌-◌, if◌then◌else◌}
use Rattle.std.specs.Prelude.{List, [], ◌∷◌, Option, None, Some, option_map}
use Rattle.std.specs.Option.{option_or}
use Rattle.std.specs.Str.Lines.{lines}
use Rattle.base_lines.specs.Bytes.{is_digit}
use Rattle.base_lines.specs.Mark.{has_byte_order_mark}
use Rattle.data_rows.specs.Fields.{after_blanks, field}
use Rattle.data_rows.specs.declared.error.Cause.{Cause}
use Rattle.data_rows.specs.declared.error.Cause.TheVariants.{BadSection, UnknownRole}
use Rattle.data_rows.specs.declared.error.CaveError.{CaveError}
use Rattle.data_rows.specs.declared.error.FaultSite.{FaultSite}
use Rattle.data_rows.specs.declared.error.FaultSite.TheVariants.{Bindings}
use Rattle.check_tables.specs.NearKey.{near_key}
use Rattle.check_tables.specs.declared.clue.Clue.{Clue}
use Rattle.check_tables.specs.declared.clue.Clue.TheVariants.{ByteOrderMark, MaybeLog, NearKey}

-- the line with this number, from 1
abbrev pub line_at_number : ℕ → List (List ℕ) → List ℕ
line_at_number number [] = []
line_at_number number (line ∷ lines) =
    if nat_lt 1 number then line_at_number (number - 1) lines else line

-- the input of a database and bindings that a fault is in
abbrev pub faulty_text : FaultSite → List ℕ → List ℕ → List ℕ
faulty_text Bindings database bindings = bindings
faulty_text _ database bindings = database

-- the key of a line of bindings
abbrev pub key_in : List ℕ → List ℕ
key_in line = field (after_blanks line)

abbrev pub if_near : Cause → List ℕ → Option Clue
if_near UnknownRole key = option_map NearKey (near_key key)
if_near _ key = None

-- there is text, and neither a digit nor a minus sign begins it
abbrev pub begins_no_number : List ℕ → Bool
begins_no_number [] = false
begins_no_number (byte ∷ bytes) = not (is_digit byte || byte == 45)

abbrev pub log_for : Cause → List ℕ → Option Clue
log_for BadSection line = if begins_no_number (after_blanks line) then Some MaybeLog else None
log_for _ line = None

-- the first line of a database opens no section, and no number begins it
abbrev pub if_log : CaveError → List ℕ → Option Clue
if_log error database = log_for error.cause (line_at_number 1 (lines database))

-- a faulty first line has a byte order mark before it, or looks like the first line of a log
abbrev pub clue_at_first : CaveError → List ℕ → List ℕ → Option Clue
clue_at_first error database bindings =
    if has_byte_order_mark (faulty_text error.site database bindings) then Some ByteOrderMark
    else if_log error database

-- what is known of a faulty first line, or otherwise of an unknown key: it is near to a known one
abbrev pub clue_of : CaveError → List ℕ → List ℕ → Option Clue
clue_of error database bindings =
    option_or (if error.line == 1 then clue_at_first error database bindings else None)
    (if_near error.cause (key_in (line_at_number error.line (lines bindings))))
