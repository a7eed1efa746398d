-- Hints that ask by no message or give none, and actions without a word.
use Rattle.std.specs.Prelude.{ℕ, ◌+◌, Bool, ◌==◌, ◌&&◌, not, nat_le, is_some, if◌then◌else◌}
use Rattle.std.specs.Prelude.{Option, Some, None}
use Rattle.cave_data.specs.CaveView.{CaveView, first_word}
use Rattle.base_lines.specs.Numbers.{LAST_ACTION}
use Rattle.data_rows.specs.Rows.{ACTION_WORDS}
use Rattle.check_doubts.specs.Messages.{lacks_text}
use Rattle.check_doubts.specs.declared.flaw.CaveFlaw.{CaveFlaw}
use Rattle.check_doubts.specs.declared.flaw.Subject.TheVariants as subject

-- hints from 4 on are given at places, and the others by rules of their own
abbrev pub is_placed_hint : ℕ → Bool
is_placed_hint hint = nat_le 4 hint

-- such a hint has no message
abbrev pub lacks_message : ℕ → ℕ → Bool
lacks_message hint message = is_placed_hint hint && message == 0

abbrev pub question_flaw : CaveView → ℕ → ℕ → Option CaveFlaw
question_flaw cave hint question =
    if lacks_text cave question then Some (CaveFlaw.Textless (subject.Asking hint) question)
    else (if lacks_message hint question then Some (CaveFlaw.AsksNothing hint) else None)

abbrev pub gift_flaw : CaveView → ℕ → ℕ → Option CaveFlaw
gift_flaw cave hint text =
    if lacks_text cave text then Some (CaveFlaw.Textless (subject.Giving hint) text)
    else (if lacks_message hint text then Some (CaveFlaw.GivesNothing hint) else None)

-- the action is possible, and no word means it
abbrev pub is_wordless : CaveView → ℕ → Bool
is_wordless cave action =
    nat_le action LAST_ACTION && not (is_some (first_word cave.words (ACTION_WORDS + action)))
