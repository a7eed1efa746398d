-- Lines for what a state has more than once: objects, places, dwarves, hints.
use Rattle.std.specs.Prelude.{ℕ, ◌+◌, ◌-◌, Bool, false, ◌==◌, ◌&&◌, not, List, [], ◌∷◌, ◌++◌, codes}
use Rattle.std.specs.Prelude.{slice_index_or, zero, suc, if◌then◌else◌, decimal}
use Rattle.std.specs.Fmt.{signed_decimal}
use Rattle.std.specs.Ordering.{int_eq}
use Rattle.std.specs.Cmp.Lexicographic.{pointwise}
use Rattle.cave_data.specs.CaveView.{CaveView}
use Rattle.world_objects.specs.Objects.{Layout, spot_of, anchor_of, prop_of}
use Rattle.world_objects.specs.Lists.{halves_at}
use Rattle.world_objects.specs.declared.object.Half.{Half}
use Rattle.world_objects.specs.declared.object.Half.TheVariants.{First, Second}
use Rattle.world_objects.specs.declared.spot.Spot.{Spot}
use Rattle.world_objects.specs.declared.spot.Anchor.{Anchor}
use Rattle.world_objects.specs.contracts.object.HalfPartialEq.TheImpl as half_eq
use Rattle.world_objects.specs.contracts.spot.SpotPartialEq.TheImpl as spot_eq
use Rattle.world_objects.specs.contracts.spot.AnchorPartialEq.TheImpl as anchor_eq
use Rattle.cave_world.specs.State.{no_dwarf}
use Rattle.cave_world.specs.declared.dwarves.Dwarf.{Dwarf}
use Rattle.cave_world.specs.declared.hints.Hints.{Hints}
use Rattle.play_state_text.specs.Words.{named_line, named_object, word_of_object, yes_or_no}

-- what a list has at a number, where numbers begin with 1
abbrev pub item_at : {A : Type 0} → A → List A → ℕ → A
item_at other items number = slice_index_or items (number - 1) other

-- the line of a number, or nothing if it is left out
abbrev pub entry : List ℕ → Bool → ℕ → List ℕ → List ℕ
entry name is_left_out number rest =
    if is_left_out then [] else name ++ (decimal number ++ rest)

-- what is written for each number from 1 to the last
unfoldable pub text_up_to : (ℕ → List ℕ) → ℕ → List ℕ
text_up_to text zero = []
text_up_to text (suc last) = text_up_to text last ++ text (suc last)

-- ---- objects

abbrev pub spot_text : Spot → List ℕ
spot_text Spot.Away = codes " away"
spot_text Spot.InHands = codes " carried"
spot_text (Spot.At place) = codes " at " ++ decimal place

abbrev pub anchor_text : Anchor → List ℕ
anchor_text Anchor.Loose = []
anchor_text Anchor.Fixed = codes ", fixed"
anchor_text (Anchor.At place) = codes ", also at " ++ decimal place

-- an object is as it is in another layout
abbrev pub is_as_in : Layout → Layout → ℕ → Bool
is_as_in begun o x =
    spot_eq.eq-value.it (spot_of o x) (spot_of begun x)
    && (anchor_eq.eq-value.it (anchor_of o x) (anchor_of begun x)
    && int_eq (prop_of o x) (prop_of begun x))

unfoldable pub thing_text : CaveView → Layout → ℕ → List ℕ
thing_text cave o x =
    word_of_object cave x ++ (codes ":" ++ (spot_text (spot_of o x)
    ++ (anchor_text (anchor_of o x) ++ named_line (codes ", prop") (signed_decimal (prop_of o x)))))

-- an object, if it isn't as it was when the game began
unfoldable pub thing_line : CaveView → Layout → Layout → ℕ → List ℕ
thing_line cave begun o x =
    entry (codes "object ") (is_as_in begun o x) x (thing_text cave o x)

-- ---- what is at places

abbrev pub half_text : CaveView → Half → List ℕ
half_text cave (First x) = codes " " ++ named_object cave x
half_text cave (Second x) = codes " also " ++ named_object cave x

-- each after a comma
abbrev pub more_halves_text : CaveView → List Half → List ℕ
more_halves_text cave [] = []
more_halves_text cave (half ∷ halves) =
    (codes "," ++ half_text cave half) ++ more_halves_text cave halves

abbrev pub halves_text : CaveView → List Half → List ℕ
halves_text cave [] = codes ": nothing\n"
halves_text cave (half ∷ halves) =
    codes ":" ++ (half_text cave half ++ (more_halves_text cave halves ++ codes "\n"))

-- the list of a place, latest first, if it isn't as it was when the game began
unfoldable pub place_line : CaveView → Layout → Layout → ℕ → List ℕ
place_line cave begun o place =
    entry (codes "place ")
    (pointwise half_eq.eq-value.it (halves_at place o.lists) (halves_at place begun.lists)) place
    (halves_text cave (halves_at place o.lists))

-- how often a place was described, if it was
unfoldable pub visits_line : List ℕ → ℕ → List ℕ
visits_line visits place =
    let count = item_at 0 visits place in
    entry (codes "visits ") (count == 0) place (named_line (codes ":") (decimal count))

-- ---- dwarves and hints

unfoldable pub dwarf_text : Dwarf → List ℕ
dwarf_text dwarf =
    codes ": at " ++ (decimal dwarf.place ++ (codes ", was at " ++ (decimal dwarf.last
    ++ (codes ", has seen the player " ++ (yes_or_no dwarf.has_seen ++ codes "\n")))))

unfoldable pub dwarf_line : List Dwarf → ℕ → List ℕ
dwarf_line dwarves number =
    entry (codes "dwarf ") false number (dwarf_text (item_at no_dwarf dwarves number))

unfoldable pub hint_text : ℕ → Bool → List ℕ
hint_text turns is_taken =
    codes ": waited " ++ (decimal turns
    ++ (codes ", taken " ++ (yes_or_no is_taken ++ codes "\n")))

-- a hint that was waited for or taken
unfoldable pub hint_line : Hints → ℕ → List ℕ
hint_line hints hint =
    let turns = item_at 0 hints.turns hint in
    let is_taken = item_at false hints.is_taken hint in
    entry (codes "hint ") (turns == 0 && not is_taken) hint (hint_text turns is_taken)
