-- What is said about ways: the names of motions and objects, and conditions.
use Rattle.std.specs.Prelude.{ℕ, Bool, ◌==◌, List, [], ◌∷◌, ◌++◌, codes, ◌+◌, ◌%◌, if◌then◌else◌}
use Rattle.std.specs.Prelude.{length, unwrap_or, false, Option, None, Some}
use Rattle.std.specs.Fmt.{decimal}
use Rattle.std.specs.List.{filter, flat_map, range_with_len, slice_get}
use Rattle.base_lines.specs.Numbers.{LAST_PLACE}
use Rattle.data_lines.specs.declared.by_line.WayLine.{WayLine}
use Rattle.cave_data.specs.CaveView.{CaveView, first_word, ways_from}
use Rattle.data_rows.specs.Rows.{WORDS_PER_CLASS, Going}
use Rattle.data_rows.specs.declared.targets.Condition.{Condition}
use Rattle.cave_world.specs.Motions.{any_motion}
use Rattle.data_rows.specs.declared.targets.Destination.{Destination}
use Rattle.data_rows.specs.declared.targets.Special.TheVariants as special
use Rattle.cave_world.specs.Travel.{row_condition, row_destination}

abbrev pub is_from : ℕ → WayLine → Bool
is_from place way = way.place == place

abbrev pub ways_at : List WayLine → ℕ → List WayLine
ways_at ways place = filter (is_from place) ways

-- rows by their places in ascending order, and those of a place in the order of their lines
unfoldable pub by_place : List WayLine → List WayLine
by_place ways = flat_map (ways_at ways) (range_with_len 1 LAST_PLACE)

abbrev pub line_names : List WayLine → List ℕ
line_names ways = flat_map (λ way. codes " " ++ decimal way.line) ways

abbrev pub never_taken : List WayLine → List ℕ
never_taken [] = []
never_taken (first ∷ others) = codes ", never line" ++ line_names (first ∷ others)

abbrev pub number_of_object : ℕ → ℕ
number_of_object object = WORDS_PER_CLASS + object

-- the first word of a number after a blank, or the number of the motion or the object if it has no
-- word
unfoldable pub word_or_number : CaveView → ℕ → List ℕ
word_or_number cave number =
    codes " " ++ unwrap_or (first_word cave.words number) (decimal (number % WORDS_PER_CLASS))

-- the name of a motion
abbrev pub motion_name : CaveView → ℕ → List ℕ
motion_name cave motion =
    if motion == any_motion then codes " any motion" else word_or_number cave motion

abbrev pub object_mark : CaveView → List ℕ → ℕ → List ℕ
object_mark cave asked object = asked ++ word_or_number cave (number_of_object object)

abbrev pub other_prop_text : ℕ → List ℕ
other_prop_text prop = codes " isn't " ++ decimal prop

-- what a condition asks: a chance, an object that is in the hands or is here, or a prop that the
-- object must not have
abbrev pub condition_text : CaveView → Condition → List ℕ
condition_text cave Condition.Always = []
condition_text cave Condition.NotForDwarves = []
condition_text cave (Condition.Chance percent) = decimal percent ++ codes " %"
condition_text cave (Condition.InHands object) = object_mark cave (codes "with") object
condition_text cave (Condition.AtHand object) = object_mark cave (codes "near") object
condition_text cave (Condition.OtherProp object prop) =
    object_mark cave (codes "if prop of") object ++ other_prop_text prop

-- a way that always holds is marked if others have to fail, and any other has its condition
unfoldable pub mark_of_text : Bool → List ℕ → List ℕ
mark_of_text later text =
    if length text == 0 then (if later then codes " (else)" else [])
    else (if later then codes " (else " else codes " (") ++ (text ++ codes ")")

abbrev pub condition_mark : CaveView → Bool → Condition → List ℕ
condition_mark cave later condition = mark_of_text later (condition_text cave condition)

-- where a row leads: to a place, a message or a rule of its own
abbrev pub end_words : Destination → List ℕ
end_words (Destination.Place place) = codes " to " ++ decimal place
end_words (Destination.Message message) = codes " to message " ++ decimal message
end_words (Destination.Special special.Squeeze) = codes " to the narrow passage"
end_words (Destination.Special special.Bridge) = codes " to the troll's bridge"
end_words Destination.PutsEmeraldDown = codes " to put EMERALD down"
end_words Destination.NoWay = codes " to no rule"

-- from where a row leads by which motions, where it leads, and on which condition
abbrev pub row_words : CaveView → ℕ → Going → List ℕ
row_words cave place row =
    codes "from " ++ (decimal place ++ (codes " by" ++ (flat_map (motion_name cave) row.motions
    ++ (end_words (row_destination row) ++ condition_mark cave false (row_condition row)))))

abbrev pub words_of_way : CaveView → ℕ → Option Going → List ℕ
words_of_way cave place None = []
words_of_way cave place (Some row) = row_words cave place row

-- the words of the row at a line of the database
abbrev pub way_words : CaveView → WayLine → List ℕ
way_words cave way = words_of_way cave way.place (slice_get (ways_from cave way.place) way.index)
