-- FOO, the first of the magic words that are said one after another.
use Rattle.std.specs.Prelude.{ℕ, ℤ, pos, ◌-ℤ◌, ◌==◌, not, List, [], ◌∷◌}
use Rattle.std.specs.Ordering.{int_eq}
use Rattle.data_rows.specs.declared.role.Role.TheVariants as role
use Rattle.cave_world.specs.declared.state.State.{State}
use Rattle.turn_scene.specs.SpecialWords.{special}
use Rattle.turn_scene.specs.Props.{EGGS_APPEARING, EGGS_ELSEWHERE, EGGS_VANISHING, TROLL_CALM}
use Rattle.turn_scene.specs.Props.{TROLL_RETURNING}
use Rattle.turn_scene.specs.Parts.{with_talk}
use Rattle.turn_scene.specs.Rows.{Deed, Test, Effect, Row, plain_row, otherwise, otherwise_then}
use Rattle.turn_scene.specs.Rows.{by_table}
use Rattle.turn_scene.specs.Effects.{in_state, say, set_prop, look, move}
use Rattle.turn_scene.specs.Tests.{no, either, there_is, carried, prop, nowhere, at_home}
use Rattle.turn_scene.specs.Tests.{player_at_home, home_of, near}
use Rattle.cave_verbs.specs.Rows.{VerbRow, row, stays}
use Rattle.cave_verbs.specs.declared.task.Task.{Task}
use Rattle.cave_world.specs.declared.tables.Table.TheVariants as table
use Rattle.cave_verbs.specs.Things.{eggs, troll}

-- the number of the word that was just read among the special words; 0 if it isn't one of them
abbrev pub k : Deed Task → ℕ
k d = special d.cave d.about.word

-- how far the player has come with the magic words
abbrev pub foo : Deed Task → ℤ
foo d = d.scene.state.talk.magic

-- the word isn't a special one
abbrev pub is_plain : Test Task
is_plain d = k d == 0

abbrev pub is_out_of_turn : Test Task
is_out_of_turn d = not (int_eq (foo d) (pos 1 -ℤ pos (k d)))

-- no magic word was said
abbrev pub is_unbegun : Test Task
is_unbegun d = int_eq (foo d) (pos 0)

-- how many magic words there are
abbrev pub LAST_MAGIC_WORD : ℕ
LAST_MAGIC_WORD = 4

abbrev pub is_last : Test Task
is_last d = k d == LAST_MAGIC_WORD

abbrev pub with_magic : ℤ → State → State
with_magic v s = with_talk (record (s.talk) { magic = v }) s

-- the word is remembered as the last that was said
abbrev pub remember : Effect Task
remember d = in_state (with_magic (pos (k d)) d.scene.state) d

abbrev pub begin_anew : Effect Task
begin_anew d = in_state (with_magic (pos 0) d.scene.state) d

-- which text of the eggs is printed as they go home
unfoldable pub eggs_rows : List (Row Task (Unit {0}))
eggs_rows =
    plain_row (player_at_home eggs ∷ []) (look eggs EGGS_APPEARING ∷ [])
    ∷ plain_row (near eggs ∷ []) (look eggs EGGS_VANISHING ∷ [])
    ∷ otherwise (look eggs EGGS_ELSEWHERE ∷ [])

abbrev pub send_eggs_home : List (Effect Task)
send_eggs_home = by_table table.Eggs eggs_rows ∷ move eggs (home_of eggs) ∷ []

unfoldable pub bare_foo_rows : List VerbRow
bare_foo_rows =
    row (either is_plain is_out_of_turn ∷ is_unbegun ∷ []) (say role.Magic ∷ [])
    ∷ row (either is_plain is_out_of_turn ∷ []) (say role.FooOrder ∷ [])
    ∷ row (no is_last ∷ []) (remember ∷ say role.Ok ∷ [])
    ∷ row (no (there_is eggs) ∷ []) (begin_anew ∷ say role.Magic ∷ [])
    ∷ row (at_home eggs ∷ []) (begin_anew ∷ say role.Magic ∷ [])
    ∷ row (carried eggs ∷ player_at_home eggs ∷ []) (begin_anew ∷ say role.Magic ∷ [])
    ∷ row (nowhere eggs ∷ nowhere troll ∷ prop troll TROLL_CALM ∷ [])
    (begin_anew ∷ set_prop troll TROLL_RETURNING ∷ send_eggs_home)
    ∷ otherwise_then (begin_anew ∷ send_eggs_home) stays
