-- What a command does.
use Rattle.std.specs.Prelude.{ℕ, pos, ◌-ℤ◌, Bool, true, false, ◌==◌, not, List, [], ◌∷◌, Option}
use Rattle.std.specs.Prelude.{Some, None, is_some}
use Rattle.std.specs.Int.{int_min}
use Rattle.data_rows.specs.declared.role.Role.TheVariants as role
use Rattle.cave_data.specs.CaveView.{CaveView}
use Rattle.cave_words.specs.Words.{words_of}
use Rattle.cave_words.specs.declared.named.Named.TheVariants as name
use Rattle.cave_words.specs.declared.words.Words.{Words}
use Rattle.cave_world.specs.Sight.{dark}
use Rattle.cave_world.specs.declared.dwarves.Knife.{Knife}
use Rattle.cave_world.specs.declared.state.State.{State}
use Rattle.cave_world.specs.declared.ending.Ending.TheVariants.{Quit}
use Rattle.cave_world.specs.declared.part.Part.TheVariants as part
use Rattle.cave_world.specs.declared.part.WordLine.TheVariants as line
use Rattle.turn_ends.specs.Endings.{after_end}
use Rattle.turn_ends.specs.Questions.{after_ask}
use Rattle.turn_moves.specs.Arrival.{after_arrival, after_description}
use Rattle.turn_moves.specs.Journeys.{journey_by_request}
use Rattle.turn_scene.specs.Scene.{Scene, scene_at_start, after_telling, after_saying, with_state}
use Rattle.turn_scene.specs.Scene.{after_draw, happens, thing}
use Rattle.turn_scene.specs.Parts.{with_talk, with_dwarves}
use Rattle.cave_world.specs.declared.tables.Table.TheVariants as table
use Rattle.turn_scene.specs.Rows.{Deed, Act, Test, Row, act_of, deed, plain_row, chance_row}
use Rattle.turn_scene.specs.Rows.{otherwise, answer_row, otherwise_row, always, by_table}
use Rattle.turn_scene.specs.Rows.{act_by_table}
use Rattle.turn_scene.specs.Tests.{percent}
use Rattle.turn_scene.specs.Effects.{say, change}
use Rattle.cave_verbs.specs.Rows.{task_of}
use Rattle.cave_verbs.specs.Effects.{after_default}
use Rattle.cave_verbs.specs.Verbs.{verb_of}
use Rattle.cave_verbs.specs.declared.next.Next.{Next}
use Rattle.cave_verbs.specs.declared.task.Task.{Task}
use Rattle.cave_verbs.specs.declared.verb.Verb.{Verb}
use Rattle.cave_verbs.specs.Acting.{act, next_of_step}
use Rattle.turn_clocks.specs.Clocks.{run_clocks}
use Rattle.turn_clocks.specs.declared.clocks.Clocks.{Clocks}
use Rattle.cave_turn.specs.Finish.{after_end_of_turn}
use Rattle.cave_turn.specs.Request.{read_words}
use Rattle.cave_turn.specs.declared.half_command.HalfCommand.{HalfCommand}
use Rattle.cave_turn.specs.declared.request.Request.{Request}
use Rattle.cave_turn.specs.declared.request.Understood.{Understood}

-- a magic word waits for the command after it, and if that says none, the words begin again
abbrev pub with_magic_waiting : State → State
with_magic_waiting s =
    with_talk (record (s.talk) { magic = int_min (pos 0) (pos 0 -ℤ s.talk.magic) }) s

abbrev pub with_knife : Knife → State → State
with_knife k s = with_dwarves (record (s.dwarves) { knife = k }) s

-- a knife lies at another place than this
abbrev pub is_elsewhere : ℕ → Knife → Bool
is_elsewhere here (Knife.At place) = not (place == here)
is_elsewhere here _ = false

abbrev pub knife_elsewhere : Test (Unit {0})
knife_elsewhere d = is_elsewhere d.scene.state.trail.here d.scene.state.dwarves.knife

-- a knife that was thrown elsewhere is forgotten
unfoldable pub forget_knife_rows : List (Row (Unit {0}) (Unit {0}))
forget_knife_rows =
    plain_row (knife_elsewhere ∷ []) (change (with_knife Knife.Unthrown) ∷ [])
    ∷ []

-- magic words wait, the game remembers whether it is dark, and a knife elsewhere is forgotten
unfoldable pub begin_command : CaveView → State → Scene
begin_command cave s =
    let t = with_magic_waiting s in
    let p = scene_at_start (dark cave (thing cave name.Lamp) t) t in
    (by_table table.KnifeForgotten forget_knife_rows (deed cave tt p)).scene

unfoldable pub after_travel : CaveView → ℕ → Scene → Scene
after_travel cave motion p =
    let j = journey_by_request cave motion p in after_arrival cave j.step j.scene

-- what is said of a word that the cave doesn't have, by two draws, the first of which was made
unfoldable pub unknown_word_rows : List (Row Bool (Unit {0}))
unknown_word_rows =
    chance_row [] (percent 20) (say role.NoWord3 ∷ [])
    ∷ plain_row ((λ d. d.about) ∷ []) (say role.NoWord2 ∷ [])
    ∷ otherwise (say role.NoWord ∷ [])

-- the first draw is made before the rows are tried, and moves the stream on whichever way it falls
unfoldable pub after_unknown_word : CaveView → Scene → Scene
after_unknown_word cave p =
    (by_table table.UnknownWord unknown_word_rows (deed cave (happens 20 p) (after_draw p))).scene

abbrev pub after_vanished_knives : Scene → Scene
after_vanished_knives p = after_saying role.Knife (with_state (with_knife Knife.Vanished p.state) p)

-- what follows what a verb did
abbrev pub after_next : CaveView → Next → Scene → Scene
after_next cave Next.Describe p = after_description cave p
after_next cave (Next.Arrive place) p = after_arrival cave place p
after_next cave (Next.Ask question) p = after_ask cave question p
after_next cave (Next.End how) p = after_end cave how p
after_next cave _ p = p

-- a verb is done by the first of its rows that fits, and then what follows
unfoldable pub do_verb : CaveView → Task → Scene → Act Next
do_verb cave task p =
    let a = act cave task p in let next = next_of_step a.step in
    act_of (after_next cave next a.scene) next

-- an action is done by its rules, if it has any; otherwise the game says what the cave says of it
abbrev pub do_action : CaveView → Option Verb → ℕ → ℕ → List ℕ → Scene → Act Next
do_action cave (Some v) number x word p = do_verb cave (task_of v x word) p
do_action cave None number x word p = act_of (after_default cave number p) Next.Stay

-- what was read is done
abbrev pub do_request : CaveView → Request → Scene → Act Next
do_request cave Request.Unknown p = act_of (after_unknown_word cave p) Next.Stay
do_request cave (Request.Motion motion) p = act_of (after_travel cave motion p) Next.Stay
do_request cave (Request.Tell told) p = act_of (after_telling told p) Next.Stay
do_request cave Request.Knives p = act_of (after_vanished_knives p) Next.Stay
do_request cave (Request.Act number x word) p =
    do_action cave (verb_of number) number x word p
do_request cave (Request.WhatToDo word) p =
    act_of (after_telling (part.Word line.WhatToDo word) p) Next.Stay

-- what was read, and what followed
pub record Followed : Type 0 where
  pub understood : Understood
  pub next : Next

abbrev pub followed : Understood → Next → Followed
followed understood next = record { understood = understood; next = next }

-- the verb that asks for its object, if one does
abbrev pub verb_that_asks : Request → Next → Option ℕ
verb_that_asks (Request.Act number x word) Next.Keep = Some number
verb_that_asks _ _ = None

abbrev pub asking_verb : Deed Followed → Option ℕ
asking_verb d = verb_that_asks d.about.understood.request d.about.next

abbrev pub asks_for_object : Test Followed
asks_for_object d = is_some (asking_verb d)

abbrev pub is_what_to_do : Request → Bool
is_what_to_do (Request.WhatToDo word) = true
is_what_to_do _ = false

-- the player is asked for the verb
abbrev pub asks_for_verb : Test Followed
asks_for_verb d = is_what_to_do d.about.understood.request

abbrev pub is_unknown : Request → Bool
is_unknown Request.Unknown = true
is_unknown _ = false

-- the cave doesn't have the word
abbrev pub unknown_word : Test Followed
unknown_word d = is_unknown d.about.understood.request

-- just the verb, or what was said so far
abbrev pub verb_alone : Deed Followed → Option HalfCommand
verb_alone d = Some (record { verb = asking_verb d; object = 0 })

abbrev pub said_so_far : Deed Followed → Option HalfCommand
said_so_far d = Some d.about.understood.half

-- what is kept for the next command
abbrev pub half_command_rows : List (Row Followed (Option HalfCommand))
half_command_rows =
    answer_row (asks_for_object ∷ []) verb_alone
    ∷ answer_row (asks_for_verb ∷ []) said_so_far
    ∷ answer_row (unknown_word ∷ []) said_so_far ∷ []

unfoldable pub keep_half_command : Deed Followed → Act (Option HalfCommand)
keep_half_command d = act_by_table table.HalfCommand half_command_rows
    (otherwise_row [] (always None)) d

-- what is kept is remembered; if nothing is, the object that was read becomes the last object
abbrev pub after_remembering : Option HalfCommand → ℕ → State → State
after_remembering None x s = with_talk (record (s.talk) { verb = None; object = 0; last = x }) s
after_remembering (Some half) x s =
    with_talk (record (s.talk) { verb = half.verb; object = half.object }) s

unfoldable pub after_keeping : Option HalfCommand → ℕ → Scene → Scene
after_keeping kept x p = with_state (after_remembering kept x p.state) p

unfoldable pub after_understood : CaveView → Understood → Scene → Scene
after_understood cave u p =
    let a = do_request cave u.request p in
    let kept = keep_half_command (deed cave (followed u a.step) a.scene) in
    after_keeping kept.step u.half.object kept.scene

-- an input line has a first word
abbrev pub after_words : CaveView → Option (List ℕ) → Option (List ℕ) → Scene → Scene
after_words cave None next p = p
after_words cave (Some word) next p =
    let read = read_words cave word next p in after_understood cave read.step read.scene

-- a command that isn't read leaves nothing for the next line
abbrev pub after_unread : Scene → Scene
after_unread p = after_keeping None 0 p

-- what the clocks leave of a command: it is read, or the player gave up, or is where the cave
-- closed
abbrev pub after_clocks : CaveView → Words → Clocks → Scene → Scene
after_clocks cave words Clocks.GoOn p = after_words cave words.first words.second p
after_clocks cave words Clocks.GaveUp p = after_unread (after_end cave Quit p)
after_clocks cave words (Clocks.Closed place) p = after_unread (after_arrival cave place p)

unfoldable pub after_timed_words : CaveView → Words → Scene → Scene
after_timed_words cave words p = let t = run_clocks cave p in after_clocks cave words t.step t.scene

-- a command begins, the clocks run, its words are done, and the turn ends
unfoldable pub after_command : CaveView → List ℕ → State → Scene
after_command cave line s =
    after_end_of_turn cave
    (after_timed_words cave (words_of cave.letters line) (begin_command cave s))
