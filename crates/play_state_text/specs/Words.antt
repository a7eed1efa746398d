-- The words of facts, and those that stand beside numbers.
use Rattle.std.specs.Prelude.{ℕ, ◌+◌, nat_lt, if◌then◌else◌, Bool, true, false, List, [], ◌++◌, codes}
use Rattle.std.specs.Prelude.{decimal, Option, Some, None}
use Rattle.base_lines.specs.Numbers.{LAST_ACTION}
use Rattle.data_rows.specs.Rows.{OBJECT_WORDS, ACTION_WORDS}
use Rattle.cave_data.specs.CaveView.{CaveView, first_word}
use Rattle.cave_world.specs.declared.dwarves.Knife.{Knife}
use Rattle.cave_world.specs.declared.dwarves.Knife.TheVariants.{Unthrown, At, Vanished}
use Rattle.cave_world.specs.declared.ending.Ending.{Ending}
use Rattle.cave_world.specs.declared.ending.Question.{Question}

-- a line: a name, a blank, and words
unfoldable pub named_line : List ℕ → List ℕ → List ℕ
named_line name words = name ++ (codes " " ++ (words ++ codes "\n"))

abbrev pub yes_or_no : Bool → List ℕ
yes_or_no true = codes "yes"
yes_or_no false = codes "no"

abbrev pub question_word : Question → List ℕ
question_word Question.Welcome = codes "welcome"
question_word Question.Quit = codes "quit"
question_word Question.ScoreQuit = codes "score, quit"
question_word Question.Die = codes "revive"
question_word (Question.Hint number) = codes "hint " ++ decimal number
question_word (Question.Take number) = codes "take hint " ++ decimal number
question_word Question.Oyster = codes "oyster"
question_word Question.Dragon = codes "dragon"

-- the question that is open
abbrev pub question_text : Option Question → List ℕ
question_text None = codes "none"
question_text (Some question) = question_word question

abbrev pub ending_word : Ending → List ℕ
ending_word Ending.Quit = codes "quit"
ending_word Ending.Killed = codes "killed"
ending_word Ending.Klutz = codes "klutz"
ending_word Ending.WrongWay = codes "wrong way"
ending_word Ending.Success = codes "success"

-- how the game has ended
abbrev pub end_words : Option Ending → List ℕ
end_words None = codes "no"
end_words (Some ended) = ending_word ended

-- the knife that a dwarf threw
abbrev pub knife_text : Knife → List ℕ
knife_text Unthrown = codes "none"
knife_text (At place) = codes "at " ++ decimal place
knife_text Vanished = codes "vanished"

-- ---- with words of a cave

-- a word after a blank, or nothing if there is none
abbrev pub after_blank : Option (List ℕ) → List ℕ
after_blank None = []
after_blank (Some word) = codes " " ++ word

-- the first word of an object in the cave
unfoldable pub word_of_object : CaveView → ℕ → List ℕ
word_of_object cave x = after_blank (first_word cave.words (OBJECT_WORDS + x))

-- the first word of a verb, which is one of the actions
unfoldable pub word_of_verb : CaveView → ℕ → List ℕ
word_of_verb cave verb =
    if nat_lt LAST_ACTION verb then []
    else after_blank (first_word cave.words (ACTION_WORDS + verb))

-- an object by its number and its word
unfoldable pub named_object : CaveView → ℕ → List ℕ
named_object cave x = decimal x ++ word_of_object cave x

-- the verb of half a command
abbrev pub verb_line : CaveView → Option ℕ → List ℕ
verb_line cave None = named_line (codes "half command") (codes "none")
verb_line cave (Some verb) = named_line (codes "half verb") (decimal verb ++ word_of_verb cave verb)
