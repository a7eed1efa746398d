-- Hints: one is offered to a player who stays for long where it helps, and who needs it.
use Rattle.std.specs.Prelude.{ℕ, ℤ, pos, ◌+◌, ◌-◌, ◌*◌, ◌+ℤ◌, ◌==◌, nat_le, nat_lt}
use Rattle.std.specs.Prelude.{int_lt, min, length, List, [], ◌∷◌, is_some, unwrap_or, slice_set}
use Rattle.std.specs.FinMap as map
use Rattle.std.specs.Int.{int_min}
use Rattle.data_rows.specs.declared.rows.Hint.{Hint}
use Rattle.cave_data.specs.CaveView.{CaveView}
use Rattle.cave_words.specs.declared.named.Named.TheVariants as name
use Rattle.world_objects.specs.Lists.{halves_at}
use Rattle.cave_world.specs.Limits.{LOW_CHARGE, MAX_LAMP_TURNS}
use Rattle.cave_world.specs.Sight.{has_condition}
use Rattle.cave_world.specs.State.{turns_in_area, MAX_TURNS_IN_AREA}
use Rattle.cave_world.specs.declared.ending.Question.TheVariants as question
use Rattle.cave_world.specs.declared.part.NumberLine.TheVariants.{HintCosts}
use Rattle.cave_world.specs.declared.part.Part.TheVariants as part
use Rattle.cave_world.specs.declared.state.State.{State}
use Rattle.turn_scene.specs.Scene.{Scene}
use Rattle.turn_scene.specs.Props.{GRATE_LOCKED, UNSEEN}
use Rattle.turn_scene.specs.Rows.{Deed, Test, Effect, Row, deed, plain_row, otherwise, by_table}
use Rattle.turn_scene.specs.Tests.{the, no, carried, near, prop, other_prop, over, last_object}
use Rattle.turn_scene.specs.Tests.{held, here, old, older, has_hint, it}
use Rattle.turn_scene.specs.Effects.{in_state, tell, tell_message, take_hint, set_charge}
use Rattle.turn_scene.specs.Effects.{for_each_from}
use Rattle.turn_ends.specs.Questions.{ask}
use Rattle.cave_world.specs.declared.tables.Table.TheVariants as table

-- the first hint that is offered
abbrev pub FIRST_HINT : ℕ
FIRST_HINT = 4

abbrev pub OFFERED_HINTS : ℕ
OFFERED_HINTS = 17

-- the first hint without a guard
abbrev pub FIRST_UNGUARDED_HINT : ℕ
FIRST_UNGUARDED_HINT = 9

-- those that are offered only if they help
abbrev pub GRATE_HINT : ℕ
GRATE_HINT = 4

abbrev pub BIRD_HINT : ℕ
BIRD_HINT = 5

abbrev pub SNAKE_HINT : ℕ
SNAKE_HINT = 6

abbrev pub MAZE_HINT : ℕ
MAZE_HINT = 7

abbrev pub PYRAMID_HINT : ℕ
PYRAMID_HINT = 8

-- the hint has this number
abbrev pub hint_is : ℕ → Test ℕ
hint_is h d = d.about == h

-- the hint has this number, or a higher one
abbrev pub hint_from : ℕ → Test ℕ
hint_from h d = nat_le h d.about

-- stands for a hint that the cave lacks
abbrev pub no_hint : Hint
no_hint = record { turns = 0; points = 0; question = 0; text = 0 }

-- the hint with the number, as the cave has it
abbrev pub hint_of : Deed ℕ → Hint
hint_of d = unwrap_or (map.get d.cave.hints d.about) no_hint

abbrev pub cave_has_it : Test ℕ
cave_has_it d = is_some (map.get d.cave.hints d.about)

-- a place is in the area of a hint by the bit of the hint's number
abbrev pub in_area : Test ℕ
in_area d = has_condition d.cave (here d) d.about

-- the player has stayed for as long as the row of the hint says
abbrev pub has_stayed : Test ℕ
has_stayed d = nat_le (hint_of d).turns (turns_in_area d.scene.state d.about)

-- nothing is at a place
abbrev pub nothing_at : (Deed ℕ → ℕ) → Test ℕ
nothing_at place d = length (halves_at (place d) d.scene.state.objects.lists) == 0

abbrev pub two_in_hands : Test ℕ
two_in_hands d = nat_lt 1 (held d)

abbrev pub with_turns_in_area : ℕ → ℕ → State → State
with_turns_in_area h n s =
    let hints = s.hints in
    record s { hints = record hints { turns = slice_set hints.turns (h - 1) n } }

-- some turns in the area of the hint count
abbrev pub has_turns : Test ℕ
has_turns d = nat_lt 0 (turns_in_area d.scene.state d.about)

-- the turns in the area of the hint are counted from 0 again
abbrev pub restart : Effect ℕ
restart d = in_state (with_turns_in_area d.about 0 d.scene.state) d

-- one turn more
abbrev pub count_turn : Effect ℕ
count_turn d =
    let s = d.scene.state in
    let turns = min (turns_in_area s d.about + 1) MAX_TURNS_IN_AREA in
    in_state (with_turns_in_area d.about turns s) d

abbrev pub ask_offer : Effect ℕ
ask_offer d = ask (question.Hint d.about) d

-- the hint is offered, and its turns are counted from 0 again
abbrev pub offer : List (Effect ℕ)
offer = restart ∷ ask_offer ∷ []

-- a hint is offered if its guard says that it helps, or if it has no guard; without an offer its
-- turns are counted from 0 again, but those of the bird's hint go on counting
unfoldable pub guard_rows : List (Row ℕ (Unit {0}))
guard_rows =
    plain_row (hint_is GRATE_HINT ∷ prop (the name.Grate) GRATE_LOCKED
    ∷ no (near (the name.Keys)) ∷ []) offer
    ∷ plain_row (hint_is BIRD_HINT ∷ near (the name.Bird) ∷ last_object name.Bird
    ∷ carried (the name.Rod) ∷ []) offer
    ∷ plain_row (hint_is SNAKE_HINT ∷ near (the name.Snake) ∷ no (near (the name.Bird)) ∷ []) offer
    ∷ plain_row (hint_is MAZE_HINT ∷ nothing_at here ∷ nothing_at old ∷ nothing_at older
    ∷ two_in_hands ∷ []) offer
    ∷ plain_row (hint_is PYRAMID_HINT ∷ other_prop (the name.Emerald) UNSEEN
    ∷ prop (the name.Pyramid) UNSEEN ∷ []) offer
    ∷ plain_row (hint_from FIRST_UNGUARDED_HINT ∷ []) offer
    ∷ plain_row (hint_is BIRD_HINT ∷ []) []
    ∷ otherwise (restart ∷ [])

-- a hint for which the player has stayed long enough waits while a question is open
unfoldable pub offer_rows : List (Row ℕ (Unit {0}))
offer_rows =
    plain_row (has_stayed ∷ over ∷ []) []
    ∷ plain_row (has_stayed ∷ []) (by_table table.HintGuards guard_rows ∷ [])
    ∷ []

-- a hint that the cave has and that wasn't taken counts its turns, from 0 again outside its area, and
-- is offered
unfoldable pub hint_rows : List (Row ℕ (Unit {0}))
hint_rows =
    plain_row (cave_has_it ∷ no (has_hint it) ∷ has_turns ∷ no in_area ∷ []) (restart ∷ [])
    ∷ plain_row (cave_has_it ∷ no (has_hint it) ∷ in_area ∷ [])
    (count_turn ∷ by_table table.Offers offer_rows ∷ [])
    ∷ []

-- what a turn does to a hint
unfoldable pub after_consider : CaveView → ℕ → Scene → Scene
after_consider cave h p = (by_table table.HintTurns hint_rows (deed cave h p)).scene

-- each hint from 4 to 20 is considered
abbrev pub after_hints : CaveView → Scene → Scene
after_hints cave p = for_each_from FIRST_HINT OFFERED_HINTS (after_consider cave) p

abbrev pub tell_price : Effect ℕ
tell_price d = tell (part.Number HintCosts (hint_of d).points 0) d

abbrev pub ask_take : Effect ℕ
ask_take d = ask (question.Take d.about) d

-- what a hint costs, and whether it is worth that
unfoldable pub price_rows : List (Row ℕ (Unit {0}))
price_rows = plain_row (cave_has_it ∷ []) (tell_price ∷ ask_take ∷ []) ∷ []

-- the text of the hint's row
abbrev pub hint_message : Deed ℕ → ℕ
hint_message d = (hint_of d).text

-- the lamp isn't low
abbrev pub bright : Test ℕ
bright d = int_lt (pos LOW_CHARGE) d.scene.state.lamp.charge

-- the lamp burns this many more turns for each point that the hint costs, up to the most
abbrev pub TURNS_A_POINT : ℕ
TURNS_A_POINT = 30

abbrev pub longer_charge : ℕ → ℤ → ℤ
longer_charge points charge = int_min (charge +ℤ pos (TURNS_A_POINT * points)) (pos MAX_LAMP_TURNS)

-- the lamp burns longer by what the hint costs
abbrev pub prolong : Effect ℕ
prolong d = set_charge (longer_charge (hint_of d).points d.scene.state.lamp.charge) d

-- what a player who takes a hint gets
unfoldable pub give_rows : List (Row ℕ (Unit {0}))
give_rows =
    plain_row (cave_has_it ∷ bright ∷ []) (tell_message hint_message ∷ take_hint it ∷ prolong ∷ [])
    ∷ plain_row (cave_has_it ∷ []) (tell_message hint_message ∷ take_hint it ∷ [])
    ∷ []
