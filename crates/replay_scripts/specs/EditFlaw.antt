-- What is wrong with a line of a script that isn't an edit: the first of these that holds.
use Rattle.std.specs.Prelude.{ℕ, ◌+◌, Bool, false, not, ◌&&◌, ◌||◌, ◌==◌, nat_lt, bytes_eq, List, []}
use Rattle.std.specs.Prelude.{◌∷◌, length, drop, Option, None, Some, codes, if◌then◌else◌}
use Rattle.std.specs.Option.{option_and_then}
use Rattle.base_lines.specs.Bytes.{after_prefix, is_all_blank, is_blank, is_digit, is_nonblank}
use Rattle.base_lines.specs.Bytes.{prefix_while}
use Rattle.base_lines.specs.Mark.{has_byte_order_mark}
use Rattle.base_lines.specs.Nearest.{near_name}
use Rattle.replay_scripts.specs.declared.edit_flaw.EditFlaw.{EditFlaw}
use Rattle.replay_scripts.specs.declared.edit_flaw.EditFlaw.TheVariants.{ByteOrderMark, Indented}
use Rattle.replay_scripts.specs.declared.edit_flaw.EditFlaw.TheVariants.{NearWord, NoWord, NoNumber}
use Rattle.replay_scripts.specs.declared.edit_flaw.EditFlaw.TheVariants.{TwoBlanks, Signed, Range}
use Rattle.replay_scripts.specs.declared.edit_flaw.EditFlaw.TheVariants.{LongNumber, NoDigit, Guard}
use Rattle.replay_scripts.specs.declared.edit_flaw.EditFlaw.TheVariants.{MoreText, NoBlank}
use Rattle.replay_scripts.specs.declared.edit_flaw.ScriptWord.{ScriptWord}

abbrev pub script_word_text : ScriptWord → List ℕ
script_word_text ScriptWord.Insert = codes "insert"
script_word_text ScriptWord.Delete = codes "delete"
script_word_text ScriptWord.Replace = codes "replace"
script_word_text ScriptWord.Seed = codes "seed"
script_word_text ScriptWord.Begin = codes "begin"
script_word_text ScriptWord.End = codes "end"
script_word_text ScriptWord.Expect = codes "expect"

abbrev pub script_word_named : List ℕ → Option ScriptWord
script_word_named text =
    if bytes_eq text (codes "insert") then Some ScriptWord.Insert
    else (if bytes_eq text (codes "delete") then Some ScriptWord.Delete
    else (if bytes_eq text (codes "replace") then Some ScriptWord.Replace
    else (if bytes_eq text (codes "seed") then Some ScriptWord.Seed
    else (if bytes_eq text (codes "begin") then Some ScriptWord.Begin
    else (if bytes_eq text (codes "end") then Some ScriptWord.End
    else (if bytes_eq text (codes "expect") then Some ScriptWord.Expect else None))))))

abbrev pub is_no_digit : ℕ → Bool
is_no_digit byte = not (is_digit byte)

-- the word of scripts that stands before the first digit of a text, if one does
abbrev pub joined_script_word : List ℕ → Option ScriptWord
joined_script_word text = script_word_named (prefix_while is_no_digit text)

-- the only word of scripts that a text is near to, if just one is
abbrev pub near_script_word : List ℕ → Option ScriptWord
near_script_word text = option_and_then script_word_named
    (near_name text (codes "insert" ∷ codes "delete" ∷ codes "replace" ∷ codes "seed"
    ∷ codes "begin" ∷ codes "end" ∷ codes "expect" ∷ []))

abbrev pub begins_blank : List ℕ → Bool
begins_blank [] = false
begins_blank (byte ∷ bytes) = is_blank byte

-- a plus or a minus
abbrev pub is_sign : ℕ → Bool
is_sign byte = byte == 43 || byte == 45

-- the word and the number are right: the line is a guard in a script in which none may be, or has a
-- text, which its word doesn't take
abbrev pub flaw_after_number : ScriptWord → EditFlaw
flaw_after_number ScriptWord.Expect = Guard
flaw_after_number named = MoreText named

-- what follows the leading digits of the number
abbrev pub flaw_after_digits : ScriptWord → List ℕ → List ℕ → EditFlaw
flaw_after_digits named digits [] = flaw_after_number named
flaw_after_digits named digits (byte ∷ bytes) =
    if is_blank byte then flaw_after_number named
    else (if length digits == 0 && is_sign byte then Signed
    else (if byte == 45 then Range
    else NoDigit byte (length (script_word_text named) + length digits + 2)))

-- what follows the word and one blank
abbrev pub number_flaw : ScriptWord → List ℕ → EditFlaw
number_flaw named text =
    let digits = prefix_while is_digit text in
    if nat_lt 10 (length digits) then LongNumber (length digits)
    else flaw_after_digits named digits (after_prefix is_digit text)

-- what follows a word that has a number
abbrev pub flaw_before_number : ScriptWord → List ℕ → EditFlaw
flaw_before_number named rest =
    if is_all_blank rest then NoNumber named
    else (if begins_blank (drop 1 rest) then TwoBlanks named else number_flaw named (drop 1 rest))

abbrev pub flaw_after_word : ScriptWord → List ℕ → EditFlaw
flaw_after_word ScriptWord.Begin rest = MoreText ScriptWord.Begin
flaw_after_word ScriptWord.End rest = MoreText ScriptWord.End
flaw_after_word named rest = flaw_before_number named rest

-- a word that a digit follows, with no blank between them
abbrev pub flaw_of_joined : ScriptWord → EditFlaw
flaw_of_joined ScriptWord.Begin = MoreText ScriptWord.Begin
flaw_of_joined ScriptWord.End = MoreText ScriptWord.End
flaw_of_joined named = NoBlank named

-- the line begins with a word, with one that a digit follows, with one slip in a word, or with none
abbrev pub flaw_by_word : Option ScriptWord → Option ScriptWord → Option ScriptWord → List ℕ
    → EditFlaw
flaw_by_word (Some named) joined near rest = flaw_after_word named rest
flaw_by_word None (Some joined) near rest = flaw_of_joined joined
flaw_by_word None None (Some near) rest = NearWord near
flaw_by_word None None None rest = NoWord

-- the first word of the line, and what follows it
abbrev pub flaw_of_word : List ℕ → List ℕ → EditFlaw
flaw_of_word text rest =
    flaw_by_word (script_word_named text) (joined_script_word text) (near_script_word text) rest

unfoldable pub edit_flaw_of : List ℕ → EditFlaw
edit_flaw_of line =
    if has_byte_order_mark line then ByteOrderMark
    else (if begins_blank line then Indented
    else flaw_of_word (prefix_while is_nonblank line) (after_prefix is_nonblank line))
