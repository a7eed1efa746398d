-- What the bytes of a row of each section are.
use Rattle.std.specs.Prelude.{◌≡◌, ◌⊎◌, ℕ, ℤ, pos, negsuc, ◌+◌, ◌*◌, ◌≤◌, List, [], ◌∷◌, length}
use Rattle.std.specs.Prelude.{map}
use Rattle.std.specs.List.{All}
use Rattle.data_rows.specs.declared.error.Section.{Section}
use Rattle.data_rows.specs.declared.number.Number.{Number}
use Rattle.data_rows.specs.declared.number.Number.TheVariants.{Natural, Negative}
use Rattle.data_rows.specs.declared.rows.Placement.{Placement}
use Rattle.data_rows.specs.declared.rows.Hint.{Hint}
use Rattle.data_rows.specs.Rows.{Entry, TextLine, Going, WordEntry, LongLine, ShortLine, Way, Word}
use Rattle.data_rows.specs.Rows.{ObjectLine, MessageLine, PlacementRow, DefaultRow, ConditionRow}
use Rattle.data_rows.specs.Rows.{ClassLine, HintRow, MagicLine}
use Rattle.data_rows.specs.RowParts.{BeginsWithField, BeginsWithNumber, BeginsWithNumbers}
use Rattle.data_rows.specs.RowParts.{MayBeginWithNumber, IsNumberList, IsTextAfter}
use Rattle.base_lines.specs.Numbers.{LAST_PLACE, LAST_OBJECT, LAST_NAMED, LAST_ACTION, LAST_HINT}
use Rattle.base_lines.specs.Numbers.{LAST_MESSAGE, LAST_PROP}

abbrev pub IsBetween : ℕ → ℕ → ℕ → Type 0
IsBetween first last n = (first ≤ n) × (n ≤ last)

-- a number of that kind, and a text of at most 255 bytes
pub record IsTextRow (IsOfKind : ℕ → Type 0) (line : List ℕ) (row : TextLine) : Type 0 where
  pub rest : List ℕ
  pub number : BeginsWithNumber line (Natural row.number) rest
  pub text : IsTextAfter rest row.text
  pub number_in_range : IsOfKind row.number
  pub short : length row.text ≤ 255

-- a place, a target, and at least one motion; what follows the motions' 0 is ignored
pub record IsWayRow (line : List ℕ) (place : ℕ) (going : Going) : Type 0 where
  pub rest : List ℕ
  pub numbers : BeginsWithNumbers line (Natural place ∷ Natural going.target ∷ []) rest
  pub motions : IsNumberList rest (map Natural going.motions)
  pub some : 1 ≤ length going.motions
  pub place_in_range : IsBetween 1 LAST_PLACE place
  pub target_in_range : IsBetween 0 999999 going.target
  pub motions_in_range : All (IsBetween 1 999) going.motions

-- motions, objects, actions and special words, each class from its own thousand on
abbrev pub IsWordNumber : ℕ → Type 0
IsWordNumber n = IsBetween 1 999 n
    ⊎ (IsBetween 1001 (1000 + LAST_OBJECT) n
    ⊎ (IsBetween 2001 (2000 + LAST_ACTION) n
    ⊎ IsBetween 3001 (3000 + LAST_MESSAGE) n))

-- a number and a word, which is the next field; what follows it is ignored
pub record IsWordRow (line : List ℕ) (entry : WordEntry) : Type 0 where
  pub rest : List ℕ
  pub ignored : List ℕ
  pub number : BeginsWithNumber line (Natural entry.number) rest
  pub word : BeginsWithField rest entry.word ignored
  pub number_in_range : IsWordNumber entry.number

-- the number of the line that names an object
abbrev pub IsOfObject : ℕ → Type 0
IsOfObject n = IsBetween 1 LAST_NAMED n

-- the number of a line that describes an object at a prop: a hundred times the prop
abbrev pub IsOfProp : ℕ → Type 0
IsOfProp n = (prop : ℕ) × (prop ≤ LAST_PROP) × (n ≡ 100 * prop)

abbrev pub IsObjectOrProp : ℕ → Type 0
IsObjectOrProp n = IsOfObject n ⊎ IsOfProp n

-- a second place, or 0, or -1
pub data IsSecondPlace : Number → ℤ → Type 0 where
  is_place : {n : ℕ} → n ≤ LAST_PLACE → IsSecondPlace (Natural n) (pos n)
  is_immovable : IsSecondPlace (Negative 1) (negsuc 0)

-- an object, its first place and its second; each place is 0 if the line ends before it
pub record IsPlacementRow (line : List ℕ) (object : ℕ) (placement : Placement) : Type 0 where
  pub after_object : List ℕ
  pub after_first : List ℕ
  pub second : Number
  pub ignored : List ℕ
  pub begins : BeginsWithNumber line (Natural object) after_object
  pub has_first : MayBeginWithNumber after_object (Natural placement.first) after_first
  pub has_second : MayBeginWithNumber after_first second ignored
  pub object_in_range : IsBetween 1 LAST_OBJECT object
  pub first_in_range : IsBetween 0 LAST_PLACE placement.first
  pub second_in_range : IsSecondPlace second placement.second

-- an action and its message; what follows is ignored
pub record IsDefaultRow (line : List ℕ) (action message : ℕ) : Type 0 where
  pub ignored : List ℕ
  pub numbers : BeginsWithNumbers line (Natural action ∷ Natural message ∷ []) ignored
  pub action_in_range : IsBetween 1 LAST_ACTION action
  pub message_in_range : IsBetween 0 LAST_MESSAGE message

-- a bit, and the places that have it; what follows the places' 0 is ignored
pub record IsConditionRow (line : List ℕ) (bit : ℕ) (places : List ℕ) : Type 0 where
  pub rest : List ℕ
  pub number : BeginsWithNumber line (Natural bit) rest
  pub has_places : IsNumberList rest (map Natural places)
  pub bit_in_range : IsBetween 0 LAST_HINT bit
  pub places_in_range : All (IsBetween 1 LAST_PLACE) places

-- a hint, its turns, its points, its question and its text; what follows is ignored
pub record IsHintRow (line : List ℕ) (number : ℕ) (hint : Hint) : Type 0 where
  pub ignored : List ℕ
  pub numbers : BeginsWithNumbers line
      (Natural number ∷ Natural hint.turns ∷ Natural hint.points ∷ Natural hint.question
      ∷ Natural hint.text ∷ []) ignored
  pub hint_in_range : IsBetween 1 LAST_HINT number
  pub turns_in_range : IsBetween 0 9999 hint.turns
  pub points_in_range : IsBetween 0 100 hint.points
  pub question_in_range : IsBetween 0 LAST_MESSAGE hint.question
  pub text_in_range : IsBetween 0 LAST_MESSAGE hint.text

-- The line is a row of the section, and says this.
pub data IsRow : Section → List ℕ → Entry → Type 0 where
  in_1 : {line : List ℕ} {row : TextLine} → IsTextRow (IsBetween 1 LAST_PLACE) line row
      → IsRow Section.LongTexts line (LongLine row)
  in_2 : {line : List ℕ} {row : TextLine} → IsTextRow (IsBetween 1 LAST_PLACE) line row
      → IsRow Section.ShortTexts line (ShortLine row)
  in_3 : {line : List ℕ} {place : ℕ} {going : Going} → IsWayRow line place going
      → length going.motions ≤ 40 → IsRow Section.Travel line (Way place going)
  in_4 : {line : List ℕ} {entry : WordEntry} → IsWordRow line entry
      → IsRow Section.Words line (Word entry)
  in_5 : {line : List ℕ} {row : TextLine} → IsTextRow IsObjectOrProp line row
      → IsRow Section.Objects line (ObjectLine row)
  in_6 : {line : List ℕ} {row : TextLine} → IsTextRow (IsBetween 1 LAST_MESSAGE) line row
      → IsRow Section.Messages line (MessageLine row)
  in_7 : {line : List ℕ} {object : ℕ} {placement : Placement}
      → IsPlacementRow line object placement
      → IsRow Section.Placements line (PlacementRow object placement)
  in_8 : {line : List ℕ} {action message : ℕ} → IsDefaultRow line action message
      → IsRow Section.Defaults line (DefaultRow action message)
  in_9 : {line : List ℕ} {bit : ℕ} {places : List ℕ} → IsConditionRow line bit places
      → length places ≤ 40 → IsRow Section.Conditions line (ConditionRow bit places)
  in_10 : {line : List ℕ} {row : TextLine} → IsTextRow (IsBetween 0 9999) line row
      → IsRow Section.Classes line (ClassLine row)
  in_11 : {line : List ℕ} {number : ℕ} {hint : Hint} → IsHintRow line number hint
      → IsRow Section.Hints line (HintRow number hint)
  in_12 : {line : List ℕ} {row : TextLine} → IsTextRow (IsBetween 1 LAST_MESSAGE) line row
      → IsRow Section.Magic line (MagicLine row)
