-- What a cave is to those who use one: finite maps by number, and rows in the order of the file.
use Rattle.std.specs.Prelude.{ℕ, ℤ, pos, ◌+◌, ◌*◌, Bool, ◌==◌, ◌&&◌, nat_lt, nat_le, if◌then◌else◌}
use Rattle.std.specs.Prelude.{List, [], ◌∷◌, length, Option, Some, None, refl, option_map}
use Rattle.std.specs.Prelude.{unwrap_or}
use Rattle.std.specs.Coded.{Coded, code_by, coded×, coded_ℕ, coded_ℤ, coded_list}
use Rattle.std.specs.Ordering.{nat_cmp}
use Rattle.std.specs.FinMap as map
use Rattle.std.specs.List.{find}
use Rattle.data_rows.specs.declared.rows.Placement.{Placement}
use Rattle.data_rows.specs.declared.rows.Hint.{Hint}
use Rattle.data_rows.specs.Rows.{Going, WordEntry}
use Rattle.base_lines.specs.Numbers.{LAST_NAMED, LAST_PROP}

-- a class of players: its greatest score and its text
pub record ClassEntry : Type 0 where
  pub bound : ℕ
  pub text : List ℕ

-- texts by number
abbrev pub Texts : Type 0
Texts = map.FinMap nat_cmp (List ℕ)

-- `objects` has the inventory text of object x at x and its text for prop p at 100 x + p
pub record CaveView : Type 0 where
  pub long : Texts
  pub short : Texts
  pub travel : map.FinMap nat_cmp (List Going)
  pub words : List WordEntry
  pub objects : Texts
  pub messages : Texts
  pub placements : map.FinMap nat_cmp Placement
  pub defaults : map.FinMap nat_cmp ℕ
  pub conditions : map.FinMap nat_cmp ℕ
  pub classes : List ClassEntry
  pub hints : map.FinMap nat_cmp Hint
  pub roles : map.FinMap nat_cmp ℕ
  pub places : map.FinMap nat_cmp ℕ
  pub letters : ℕ

abbrev pub going_code : Coded Going
going_code =
    code_by (ℕ × List ℕ) (coded× coded_ℕ (coded_list coded_ℕ)) (λ x. (x.target, x.motions))
    (λ p. record { target = p.0; motions = p.1 }) (λ _. refl)

abbrev pub word_code : Coded WordEntry
word_code =
    code_by (ℕ × List ℕ) (coded× coded_ℕ (coded_list coded_ℕ)) (λ x. (x.number, x.word))
    (λ p. record { number = p.0; word = p.1 }) (λ _. refl)

abbrev pub placement_code : Coded Placement
placement_code =
    code_by (ℕ × ℤ) (coded× coded_ℕ coded_ℤ) (λ x. (x.first, x.second))
    (λ p. record { first = p.0; second = p.1 }) (λ _. refl)

abbrev pub class_code : Coded ClassEntry
class_code =
    code_by (ℕ × List ℕ) (coded× coded_ℕ (coded_list coded_ℕ)) (λ x. (x.bound, x.text))
    (λ p. record { bound = p.0; text = p.1 }) (λ _. refl)

abbrev pub hint_code : Coded Hint
hint_code =
    code_by ((ℕ × ℕ) × (ℕ × ℕ)) (coded× (coded× coded_ℕ coded_ℕ) (coded× coded_ℕ coded_ℕ))
    (λ x. ((x.turns, x.points), (x.question, x.text)))
    (λ p. record { turns = p.0.0; points = p.0.1; question = p.1.0; text = p.1.1 }) (λ _. refl)

abbrev pub texts_code : Coded Texts
texts_code = map.code coded_ℕ (coded_list coded_ℕ)

abbrev pub numbers_code : Coded (map.FinMap nat_cmp ℕ)
numbers_code = map.code coded_ℕ coded_ℕ

-- the parts of a cave, in pairs
abbrev pub Parts : Type 0
Parts = ((Texts × Texts) × (map.FinMap nat_cmp (List Going) × List WordEntry))
    × (((Texts × Texts) × (map.FinMap nat_cmp Placement × map.FinMap nat_cmp ℕ))
    × (((map.FinMap nat_cmp ℕ × List ClassEntry) × map.FinMap nat_cmp Hint)
    × ((map.FinMap nat_cmp ℕ × map.FinMap nat_cmp ℕ) × ℕ)))

abbrev pub parts_code : Coded Parts
parts_code =
    coded× (coded× (coded× texts_code texts_code)
    (coded× (map.code coded_ℕ (coded_list going_code)) (coded_list word_code)))
    (coded× (coded× (coded× texts_code texts_code)
    (coded× (map.code coded_ℕ placement_code) numbers_code))
    (coded× (coded× (coded× numbers_code (coded_list class_code)) (map.code coded_ℕ hint_code))
    (coded× (coded× numbers_code numbers_code) coded_ℕ)))

abbrev pub cave_code : Coded CaveView
cave_code =
    code_by Parts parts_code
    (λ c. (
      ((c.long, c.short), (c.travel, c.words)),
      (
        ((c.objects, c.messages), (c.placements, c.defaults)),
        (((c.conditions, c.classes), c.hints), ((c.roles, c.places), c.letters)),
      ),
    ))
    (λ p. record {
      long = p.0.0.0;
      short = p.0.0.1;
      travel = p.0.1.0;
      words = p.0.1.1;
      objects = p.1.0.0.0;
      messages = p.1.0.0.1;
      placements = p.1.0.1.0;
      defaults = p.1.0.1.1;
      conditions = p.1.1.0.0.0;
      classes = p.1.1.0.0.1;
      hints = p.1.1.0.1;
      roles = p.1.1.1.0.0;
      places = p.1.1.1.0.1;
      letters = p.1.1.1.1;
    })
    (λ _. refl)

-- the inventory text of an object
abbrev pub name_of : CaveView → ℕ → Option (List ℕ)
name_of c object = if nat_le object LAST_NAMED then map.get c.objects object else None

-- the text of an object as it lies there with that prop
abbrev pub look_of : CaveView → ℕ → ℕ → Option (List ℕ)
look_of c object prop = if nat_lt 0 object && nat_le object LAST_NAMED && nat_le prop LAST_PROP
    then map.get c.objects (100 * object + prop) else None

-- the ways out of a place, in the order of the file
abbrev pub ways_from : CaveView → ℕ → List Going
ways_from c place = unwrap_or (map.get c.travel place) []

-- the first of some words that has a number
abbrev pub first_word : List WordEntry → ℕ → Option (List ℕ)
first_word words number =
    option_map (λ entry. entry.word) (find (λ entry. entry.number == number) words)

-- the bits of a place, as the bits of a number
abbrev pub cond_of : CaveView → ℕ → ℕ
cond_of c place = unwrap_or (map.get c.conditions place) 0

-- where both halves of an object are at first: nowhere, if no row says
abbrev pub placement_of : CaveView → ℕ → Placement
placement_of c object =
    unwrap_or (map.get c.placements object) (record { first = 0; second = pos 0 })

-- the message that an action prints if no rule says more, or 0
abbrev pub default_message : CaveView → ℕ → ℕ
default_message c action = unwrap_or (map.get c.defaults action) 0

-- the class of a score: the number of its row from 1, its bound, its text, and whether a row
-- follows
pub record Rated : Type 0 where
  pub row : ℕ
  pub bound : ℕ
  pub text : List ℕ
  pub is_followed : Bool

abbrev pub rating_at_row : ℕ → ClassEntry → List ClassEntry → Rated
rating_at_row row class classes =
    record {
      row = row;
      bound = class.bound;
      text = class.text;
      is_followed = nat_lt 0 (length classes);
    }

-- the first row from this one on whose bound isn't below the score
abbrev pub class_from : ℕ → ℕ → List ClassEntry → Option Rated
class_from row score [] = None
class_from row score (class ∷ classes) = if nat_le score class.bound
    then Some (rating_at_row row class classes) else class_from (row + 1) score classes

abbrev pub class_of : CaveView → ℕ → Option Rated
class_of c score = class_from 1 score c.classes
