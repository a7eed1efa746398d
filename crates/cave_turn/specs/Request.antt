-- What the words of a line say, with what was said before.
use Rattle.std.specs.Prelude.{ℕ, Bool, true, false, ◌==◌, codes, List, [], ◌∷◌, Option, Some, None}
use Rattle.std.specs.Prelude.{is_some, option_map, unwrap_or}
use Rattle.data_rows.specs.declared.role.Role.{Role}
use Rattle.data_rows.specs.declared.role.Role.TheVariants as role
use Rattle.cave_data.specs.CaveView.{CaveView}
use Rattle.cave_words.specs.Meanings.{meaning, same_class}
use Rattle.cave_words.specs.Words.{is_written, word_of}
use Rattle.cave_words.specs.declared.meaning.Class.{Class}
use Rattle.cave_words.specs.declared.meaning.Meaning.{Meaning}
use Rattle.cave_words.specs.declared.named.Named.TheVariants as name
use Rattle.cave_world.specs.declared.motion.Motion.{Motion as NamedMotion}
use Rattle.cave_world.specs.Motions.{motion_number}
use Rattle.cave_world.specs.declared.motion.Motion.TheVariants as motion
use Rattle.cave_world.specs.declared.part.Part.TheVariants as part
use Rattle.cave_world.specs.declared.part.WordLine.TheVariants as line
use Rattle.cave_world.specs.declared.talk.Talk.{Talk}
use Rattle.cave_world.specs.Called.{or_no_object}
use Rattle.turn_scene.specs.Scene.{Scene}
use Rattle.cave_world.specs.declared.tables.Table.TheVariants as table
use Rattle.turn_scene.specs.Rows.{Deed, Test, Effect, deed, row_then, answer_row, otherwise_row}
use Rattle.turn_scene.specs.Rows.{Act, Row, act_of, answer_by_table}
use Rattle.turn_scene.specs.Tests.{the, no, either, both, is_here, in_lake}
use Rattle.cave_verbs.specs.Verbs.{verb_number}
use Rattle.cave_verbs.specs.declared.verb.Verb.{Verb}
use Rattle.turn_scene.specs.Effects.{in_scene}
use Rattle.cave_turn.specs.ObjectWords.{is_verb_of, object_word}
use Rattle.cave_turn.specs.declared.object_words.ObjectWord.{ObjectWord}
use Rattle.cave_turn.specs.declared.half_command.HalfCommand.{HalfCommand}
use Rattle.cave_turn.specs.declared.said_word.SaidWord.{SaidWord}
use Rattle.cave_turn.specs.declared.request.Understood.{Understood}
use Rattle.cave_turn.specs.declared.request.Request.{Request}

-- the words that are read, and the half command before them
pub record Phrase : Type 0 where
  pub half : HalfCommand
  pub word : SaidWord
  pub next : Option SaidWord

abbrev pub phrase : HalfCommand → SaidWord → Option SaidWord → Phrase
phrase half word next = record { half = half; word = word; next = next }

-- the half command that the game remembers
abbrev pub half_command_of : Talk → HalfCommand
half_command_of talk = record { verb = talk.verb; object = talk.object }

abbrev pub said_word : CaveView → List ℕ → SaidWord
said_word cave word = record { word = word; meaning = meaning cave word }

-- a word follows
abbrev pub has_next : Test Phrase
has_next d = is_some d.about.next

-- SAY was said before
abbrev pub after_say : Test Phrase
after_say d = is_verb_of Verb.Say d.about.half.verb

-- the word is this one
abbrev pub word_is : List ℕ → Test Phrase
word_is letters d = is_written letters d.about.word.word

-- the word after it is this one
abbrev pub next_word_is : List ℕ → Test Phrase
next_word_is letters d = is_written letters (unwrap_or d.about.next d.about.word).word

-- the cave has the word
abbrev pub has_meaning : Test Phrase
has_meaning d = is_some d.about.word.meaning

abbrev pub is_of : Class → SaidWord → Bool
is_of c word = unwrap_or (option_map (λ (m : Meaning). same_class m.class c) word.meaning) false

-- the word is of a class
abbrev pub means : Class → Test Phrase
means c d = is_of c d.about.word

abbrev pub number_of : SaidWord → ℕ
number_of word = unwrap_or (option_map (λ (m : Meaning). m.number) word.meaning) 0

-- the number of the word in its class
abbrev pub number : Deed Phrase → ℕ
number d = number_of d.about.word

abbrev pub of_motion : NamedMotion → Test Phrase
of_motion m d = number d == motion_number m

abbrev pub of_action : Verb → Test Phrase
of_action v d = number d == verb_number v

abbrev pub in_half : HalfCommand → Effect Phrase
in_half half d = record d { about = record (d.about) { half = half } }

-- the verb that was said before is forgotten
abbrev pub forget_verb : Effect Phrase
forget_verb d = in_half (record (d.about.half) { verb = None }) d

-- the word is the verb
abbrev pub take_verb : Effect Phrase
take_verb d = in_half (record (d.about.half) { verb = Some (number d) }) d

-- an object is that of the command
abbrev pub take_object : ℕ → Effect Phrase
take_object x d = in_half (record (d.about.half) { object = x }) d

-- the next word is read in place of the word
abbrev pub read_next : Effect Phrase
read_next d =
    record d { about = phrase d.about.half (unwrap_or d.about.next d.about.word) None }

-- POUR, regardless of what the cave's words say
abbrev pub pour_in : CaveView → SaidWord
pour_in cave =
    record {
      word = word_of cave.letters (codes "POUR");
      meaning = Some (record { class = Class.Action; number = verb_number Verb.Pour });
    }

-- the next word is POUR
abbrev pub put_pour : Effect Phrase
put_pour d = record d { about = record (d.about) { next = Some (pour_in d.cave) } }

-- what is asked for, with the half command as it is after that
abbrev pub asks_for : Request → Deed Phrase → Act Understood
asks_for asked d = act_of d.scene (record { half = d.about.half; request = asked })

abbrev pub travels : Deed Phrase → Act Understood
travels d = asks_for (Request.Motion (number d)) d

abbrev pub says : Role → Deed Phrase → Act Understood
says r d = asks_for (Request.Tell (part.Role r)) d

abbrev pub tells_message : Deed Phrase → Act Understood
tells_message d = asks_for (Request.Tell (part.Message (number d))) d

-- the word is said aloud
abbrev pub echoes : Deed Phrase → Act Understood
echoes d = asks_for (Request.Tell (part.Word line.Okay d.about.word.word)) d

-- the verb is done to no object
abbrev pub acts_alone : Deed Phrase → Act Understood
acts_alone d = asks_for (Request.Act (number d) 0 d.about.word.word) d

-- the verb is done to the object, if there is one; without a verb the player is asked what to do
abbrev pub act_or_ask : Option ℕ → ℕ → List ℕ → Request
act_or_ask (Some v) x word = Request.Act v x word
act_or_ask None x word = Request.WhatToDo word

abbrev pub acts_by : Option ℕ → Deed Phrase → Act Understood
acts_by v d = asks_for (act_or_ask v d.about.half.object d.about.word.word) d

abbrev pub acts_by_verb : Deed Phrase → Act Understood
acts_by_verb d = acts_by d.about.half.verb d

-- what the word of an object asks for
abbrev pub object_comes_to : Bool → Deed Phrase → Act ObjectWord
object_comes_to is_alone d =
    let x = or_no_object (Some (number d)) in let v = d.about.half.verb in
    object_word (deed d.cave (record { object = x; verb = v; is_alone = is_alone }) d.scene)

abbrev pub by_object_alone : ObjectWord → Deed Phrase → Act Understood
by_object_alone (ObjectWord.Is x) d = acts_by_verb (take_object x d)
by_object_alone (ObjectWord.Leads motion) d = asks_for (Request.Motion motion) d
by_object_alone ObjectWord.Knives d = asks_for Request.Knives d
by_object_alone ObjectWord.Unseen d =
    asks_for (Request.Tell (part.Word line.NotSeen d.about.word.word)) d

abbrev pub object_alone : Deed Phrase → Act Understood
object_alone d =
    let found = object_comes_to true d in by_object_alone found.step (in_scene found.scene d)

-- a word that no other word follows
abbrev pub word_alone_rows : List (Row Phrase (Act Understood))
word_alone_rows =
    answer_row (no has_meaning ∷ []) (asks_for Request.Unknown)
    ∷ answer_row (means Class.Motion ∷ []) travels
    ∷ answer_row (means Class.Special ∷ []) tells_message
    ∷ answer_row (means Class.Object ∷ []) object_alone
    ∷ answer_row (means Class.Action ∷ of_action Verb.Say ∷ []) acts_alone ∷ []

unfoldable pub word_alone : Deed Phrase → Act Understood
word_alone d = answer_by_table table.WordAlone word_alone_rows
    (otherwise_row (take_verb ∷ []) acts_by_verb) d

-- into water
abbrev pub into_water : Test Phrase
into_water = either (next_word_is (codes "STREA")) (next_word_is (codes "WATER"))

-- the word after ENTER
abbrev pub word_entered_rows : List (Row Phrase (Act Understood))
word_entered_rows =
    answer_row (into_water ∷ in_lake (the name.Water) ∷ []) (says role.FeetWet)
    ∷ answer_row (into_water ∷ []) (says role.Where) ∷ []

unfoldable pub word_entered : Deed Phrase → Act Understood
word_entered d = answer_by_table table.WordEntered word_entered_rows
    (otherwise_row (read_next ∷ []) word_alone) d

-- a word that is said aloud
abbrev pub word_aloud_rows : List (Row Phrase (Act Understood))
word_aloud_rows =
    answer_row (means Class.Motion ∷ either (of_motion motion.Xyzzy)
    (either (of_motion motion.Plugh) (of_motion motion.Plover)) ∷ []) word_alone
    ∷ answer_row (means Class.Action ∷ of_action Verb.Foo ∷ []) word_alone ∷ []

unfoldable pub word_aloud : Deed Phrase → Act Understood
word_aloud d = answer_by_table table.WordAloud word_aloud_rows
    (otherwise_row [] echoes) d

abbrev pub by_object_before : ObjectWord → Deed Phrase → Act Understood
by_object_before (ObjectWord.Is x) d = word_alone (read_next (take_object x d))
by_object_before word d = by_object_alone word d

abbrev pub object_before : Deed Phrase → Act Understood
object_before d =
    let found = object_comes_to false d in by_object_before found.step (in_scene found.scene d)

-- a word that another word follows
abbrev pub word_before_rows : List (Row Phrase (Act Understood))
word_before_rows =
    answer_row (no has_meaning ∷ []) (asks_for Request.Unknown)
    ∷ answer_row (means Class.Motion ∷ []) travels
    ∷ answer_row (means Class.Special ∷ []) tells_message
    ∷ answer_row (means Class.Object ∷ []) object_before
    ∷ row_then (means Class.Action ∷ of_action Verb.Say ∷ []) (read_next ∷ []) word_aloud ∷ []

unfoldable pub word_before : Deed Phrase → Act Understood
word_before d = answer_by_table table.WordBefore word_before_rows
    (otherwise_row (take_verb ∷ read_next ∷ []) word_alone) d

-- water or oil is poured over a plant or a door that is here
unfoldable pub pours_over : Test Phrase
pours_over d =
    both (either (word_is (codes "WATER")) (word_is (codes "OIL")))
    (either (both (next_word_is (codes "PLANT")) (is_here (the name.Plant)))
    (both (next_word_is (codes "DOOR")) (is_here (the name.Door)))) d

-- two words together
abbrev pub two_words_rows : List (Row Phrase (Act Understood))
two_words_rows =
    answer_row (word_is (codes "ENTER") ∷ []) word_entered
    ∷ row_then (pours_over ∷ []) (put_pour ∷ []) word_before ∷ []

unfoldable pub two_words : Deed Phrase → Act Understood
two_words d = answer_by_table table.TwoWords two_words_rows
    (otherwise_row [] word_before) d

-- after just SAY one word is said aloud; if there are two, SAY is forgotten
abbrev pub line_rows : List (Row Phrase (Act Understood))
line_rows =
    row_then (after_say ∷ has_next ∷ []) (forget_verb ∷ []) two_words
    ∷ answer_row (after_say ∷ []) word_aloud
    ∷ answer_row (has_next ∷ []) two_words ∷ []

unfoldable pub words_of_line : Deed Phrase → Act Understood
words_of_line d = answer_by_table table.Words line_rows
    (otherwise_row [] word_alone) d

-- the words of a line, with the half command that the game remembers
abbrev pub read_words : CaveView → List ℕ → Option (List ℕ) → Scene → Act Understood
read_words cave word next p =
    words_of_line (deed cave (phrase (half_command_of p.state.talk) (said_word cave word)
    (option_map (said_word cave) next)) p)
