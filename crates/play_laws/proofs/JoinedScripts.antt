-- Lines of a script are read as they are by themselves, further on.
use Rattle.std.proofs.Common.{◌≡◌, ◌∙◌, ℕ, ◌+◌, Bool, true, false, cond, List, [], ◌∷◌, ◌++◌}
use Rattle.std.proofs.Common.{length, map, take, Option, Some, None, Ok, Err, option_map, bytes_eq}
use Rattle.std.proofs.Common.{refl, sym, ap, ap₂, subst, arith, append_assoc}
use Rattle.std.specs.Prelude.{Result, is_none, slice_get}
use Rattle.std.specs.Option.{option_or}
use Rattle.std.specs.Str.Lines.{lines}
use Rattle.std.proofs.lemmas.List.{map-append}
use Rattle.play_edits.specs.Items.{game_after_item, game_after_items, game_left}
use Rattle.play_edits.specs.Laws.{ScriptsRunInTurn}
use Rattle.play_edits.specs.Refusal.{edit_refusal, expected_line, first_unmet, group_refusal}
use Rattle.play_edits.specs.Refusal.{item_refusal, line_copy, other_line, other_line_in, unmet}
use Rattle.play_edits.specs.declared.refusal.ExpectedLine.{ExpectedLine}
use Rattle.play_edits.specs.declared.refusal.Refusal.{Refusal}
use Rattle.play_edits.specs.declared.refusal.Refusal.TheVariants.{OtherLine}
use Rattle.replay_edits.specs.Edit.{Change, Game}
use Rattle.replay_edits.specs.Faults.{fault_of_all, log_after_all}
use Rattle.replay_edits.specs.declared.fault.GroupFault.{GroupFault}
use Rattle.replay_scripts.specs.Guards.{expectation_of, read_guarded_from, script_by}
use Rattle.replay_scripts.specs.Guards.{unguarded_line, with_expected}
use Rattle.replay_scripts.specs.Line.{LineKind, nothing, begin, end, edit, nonsense, expected_in}
use Rattle.replay_scripts.specs.Line.{kind_of_script_line}
use Rattle.replay_scripts.specs.Script.{Applied, Expectation, ScriptReading, group_with_change}
use Rattle.replay_scripts.specs.Script.{guarded_by, items_at_end, onward, read_from}
use Rattle.replay_scripts.specs.Script.{reading_after_line, single}
use Rattle.replay_scripts.specs.declared.fault.ScriptRefusal.{ScriptRefusal}
use Rattle.play_laws.specs.JoinedScripts.{guard_further, item_further, ScriptsJoin}

abbrev Reading : Type 0
Reading = Result (List Applied) ScriptRefusal

-- ---- reading on

module _ (kind_of : List ℕ → LineKind) (expected_on : List ℕ → Option (ℕ × List ℕ)) where
  -- what lines give, whether or not they may be guards
  abbrev read_by : ℕ → List (List ℕ) → List Applied → Option Applied → List Expectation → Reading
  read_by number [] items group guards = items_at_end items group guards
  read_by number (line ∷ rest) items group guards =
      onward (reading_after_line number (kind_of line) items group
      (with_expected number (expected_on line) group guards)) (read_by (number + 1) rest)

  at_end : (number : ℕ) (rest : List (List ℕ)) (items one : List Applied) (group : Option Applied)
      (guards : List Expectation) → items_at_end items group guards ≡ Ok one
      → read_by number rest items group guards ≡ read_by (number + 0) rest one None []
  at_end number rest items one (Some group) guards is = cc
  at_end number rest items one None (guard ∷ guards) is = cc
  at_end number rest items one None [] is =
      let same : items ≡ one = cc in
      let there : number ≡ number + 0 = omega arith in
      ap₂ (λ n some. read_by n rest some None []) there same

  -- lines that give items, and then others
  reads_on : (number : ℕ) (first rest : List (List ℕ)) (items one : List Applied)
      (group : Option Applied) (guards : List Expectation)
      → read_by number first items group guards ≡ Ok one
      → read_by number (first ++ rest) items group guards
      ≡ read_by (number + length first) rest one None []
  reads_on number [] rest items one group guards is = at_end number rest items one group guards is
  reads_on number (line ∷ first) rest items one group guards is =
      by_reading (reading_after_line number (kind_of line) items group
      (with_expected number (expected_on line) group guards))
      (λ some group guards. reads_on (number + 1) first rest some one group guards) is
    where
      by_reading : (reading : Result ScriptReading ScriptRefusal)
          → ((some : List Applied) (group : Option Applied) (guards : List Expectation)
          → read_by (number + 1) first some group guards ≡ Ok one
          → read_by (number + 1) (first ++ rest) some group guards
          ≡ read_by (number + 1 + length first) rest one None [])
          → onward reading (read_by (number + 1) first) ≡ Ok one
          → onward reading (read_by (number + 1) (first ++ rest))
          ≡ read_by (number + length (line ∷ first)) rest one None []
      by_reading (Err fault) next read = cc
      by_reading (Ok now) next read =
          let further : number + 1 + length first ≡ number + length (line ∷ first) =
          omega arith in
          next now.items now.open_group now.guards read
          ∙ ap (λ n. read_by n rest one None []) further

  -- ---- further on

  module _ (by : ℕ) (before : List Applied) where
    abbrev later : List Applied → List Applied
    later items = before ++ map (item_further by) items

    abbrev reads_so : ℕ → List (List ℕ) → List Applied → Option Applied → List Expectation
        → List Applied → Type 0
    reads_so number all items group guards other =
        read_by number all items group guards ≡ Ok other
        → read_by (number + by) all (later items) (option_map (item_further by) group)
        (map (guard_further by) guards) ≡ Ok (later other)

    end_further : (items other : List Applied) (group : Option Applied) (guards : List Expectation)
        → items_at_end items group guards ≡ Ok other
        → items_at_end (later items) (option_map (item_further by) group)
        (map (guard_further by) guards) ≡ Ok (later other)
    end_further items other (Some group) guards is = cc
    end_further items other None (guard ∷ guards) is = cc
    end_further items other None [] is =
        let same : items ≡ other = cc in
        ap (λ some. Ok (later some)) same

    expected_further : (number : ℕ) (expected : ℕ × List ℕ) (group : Option Applied)
        → guard_further by (expectation_of number expected group)
        ≡ expectation_of (number + by) expected (option_map (item_further by) group)
    expected_further number expected None = refl
    expected_further number expected (Some group) = refl

    guards_further : (number : ℕ) (found : Option (ℕ × List ℕ)) (group : Option Applied)
        (guards : List Expectation)
        → map (guard_further by) (with_expected number found group guards)
        ≡ with_expected (number + by) found (option_map (item_further by) group)
        (map (guard_further by) guards)
    guards_further number None group guards = refl
    guards_further number (Some expected) group guards =
        map-append (guard_further by) guards (expectation_of number expected group ∷ [])
        ∙ ap (λ guard. map (guard_further by) guards ++ guard ∷ [])
        (expected_further number expected group)

    item_later : (items : List Applied) (item : Applied)
        → later (items ++ item ∷ []) ≡ later items ++ item_further by item ∷ []
    item_later items item =
        ap (λ some. before ++ some) (map-append (item_further by) items (item ∷ []))
        ∙ sym (append_assoc before (map (item_further by) items) (item_further by item ∷ []))

    change_further : (group : Applied) (number : ℕ) (change : Change)
        → item_further by (group_with_change group number change)
        ≡ group_with_change (item_further by group) (number + by) change
    change_further group number change =
        ap (λ all. record {
          line = group.line + by;
          changes = group.changes ++ change ∷ [];
          lines = all;
          guards = map (guard_further by) group.guards;
        }) (map-append (λ line. line + by) group.lines (number ∷ []))

    module _ (number : ℕ) (rest : List (List ℕ)) (other : List Applied)
        (next : (items : List Applied) (group : Option Applied) (guards : List Expectation)
        → reads_so (number + 1) rest items group guards other) where
      here : (items : List Applied) (group : Option Applied) (guards : List Expectation)
          → read_by (number + 1) rest items group guards ≡ Ok other
          → read_by (number + by + 1) rest (later items) (option_map (item_further by) group)
          (map (guard_further by) guards) ≡ Ok (later other)
      here items group guards is =
          let same : number + 1 + by ≡ number + by + 1 = omega arith in
          subst (λ n. read_by n rest (later items) (option_map (item_further by) group)
          (map (guard_further by) guards) ≡ Ok (later other)) same (next items group guards is)

      whole_item : (items : List Applied) (item : Applied) (guards : List Expectation)
          → read_by (number + 1) rest (items ++ guarded_by guards item ∷ []) None [] ≡ Ok other
          → read_by (number + by + 1) rest
          (later items ++ item_further by (guarded_by guards item) ∷ []) None [] ≡ Ok (later other)
      whole_item items item guards is =
          subst (λ some. read_by (number + by + 1) rest some None [] ≡ Ok (later other))
          (item_later items (guarded_by guards item))
          (here (items ++ guarded_by guards item ∷ []) None [] is)

      by_kind : (kind : LineKind) (items : List Applied) (group : Option Applied)
          (guards : List Expectation)
          → onward (reading_after_line number kind items group guards) (read_by (number + 1) rest)
          ≡ Ok other
          → onward (reading_after_line (number + by) kind (later items)
          (option_map (item_further by) group) (map (guard_further by) guards))
          (read_by (number + by + 1) rest) ≡ Ok (later other)
      by_kind nothing items None guards is = here items None guards is
      by_kind begin items None guards is = here items (Some _) guards is
      by_kind end items None guards is = cc
      by_kind (edit change) items None guards is = whole_item items (single number change) guards is
      by_kind (nonsense flaw) items None guards is = cc
      by_kind nothing items (Some group) guards is = here items (Some group) guards is
      by_kind begin items (Some group) guards is = cc
      by_kind end items (Some group) guards is = whole_item items group guards is
      by_kind (edit change) items (Some group) guards is =
          subst (λ some. read_by (number + by + 1) rest (later items) (Some some)
          (map (guard_further by) guards) ≡ Ok (later other)) (change_further group number change)
          (here items (Some (group_with_change group number change)) guards is)
      by_kind (nonsense flaw) items (Some group) guards is = cc

    reads_further : (number : ℕ) (all : List (List ℕ)) (items other : List Applied)
        (group : Option Applied) (guards : List Expectation)
        → reads_so number all items group guards other
    reads_further number [] items other group guards is = end_further items other group guards is
    reads_further number (line ∷ rest) items other group guards is =
        let now = with_expected number (expected_on line) group guards in
        subst (λ some. onward (reading_after_line (number + by) (kind_of line) (later items)
        (option_map (item_further by) group) some) (read_by (number + by + 1) rest)
        ≡ Ok (later other)) (guards_further number (expected_on line) group guards)
        (by_kind number rest other
        (λ items group guards. reads_further (number + 1) rest items other group guards)
        (kind_of line) items group now is)

  -- lines that give items, and then lines that give others
  reads_joined : (first second : List (List ℕ)) (one other : List Applied)
      → read_by 1 first [] None [] ≡ Ok one → read_by 1 second [] None [] ≡ Ok other
      → read_by 1 (first ++ second) [] None []
      ≡ Ok (one ++ map (item_further (length first)) other)
  reads_joined first second one other is also =
      reads_on 1 first second [] one None [] is
      ∙ ap (λ some. read_by (1 + length first) second some None []) (sym (append_nil one))
      ∙ reads_further (length first) one 1 second [] other None [] also
    where
      append_nil : (some : List Applied) → some ++ [] ≡ some
      append_nil [] = refl
      append_nil (item ∷ items) = ap (λ rest. item ∷ rest) (append_nil items)

abbrev guarded_kind : List ℕ → LineKind
guarded_kind line = kind_of_script_line (unguarded_line (expected_in line) line)

abbrev never_expected : List ℕ → Option (ℕ × List ℕ)
never_expected line = None

onward_same : (first second : List Applied → Option Applied → List Expectation → Reading)
    (reading : Result ScriptReading ScriptRefusal)
    → ((items : List Applied) (group : Option Applied) (guards : List Expectation)
    → first items group guards ≡ second items group guards)
    → onward reading first ≡ onward reading second
onward_same first second (Ok now) same = same now.items now.open_group now.guards
onward_same first second (Err fault) same = refl

guarded_so : (number : ℕ) (all : List (List ℕ)) (items : List Applied) (group : Option Applied)
    (guards : List Expectation)
    → read_guarded_from number all items group guards
    ≡ read_by guarded_kind expected_in number all items group guards
guarded_so number [] items group guards = refl
guarded_so number (line ∷ rest) items group guards =
    onward_same (read_guarded_from (number + 1) rest)
    (read_by guarded_kind expected_in (number + 1) rest)
    (reading_after_line number (guarded_kind line) items group
    (with_expected number (expected_in line) group guards))
    (λ some group guards. guarded_so (number + 1) rest some group guards)

plain_so : (number : ℕ) (all : List (List ℕ)) (items : List Applied) (group : Option Applied)
    (guards : List Expectation)
    → read_from number all items group guards
    ≡ read_by kind_of_script_line never_expected number all items group guards
plain_so number [] items group guards = refl
plain_so number (line ∷ rest) items group guards =
    onward_same (read_from (number + 1) rest)
    (read_by kind_of_script_line never_expected (number + 1) rest)
    (reading_after_line number (kind_of_script_line line) items group guards)
    (λ some group guards. plain_so (number + 1) rest some group guards)

read_joined : (guarded : Bool) (first second joined : List ℕ) (one other : List Applied)
    → lines joined ≡ lines first ++ lines second
    → script_by guarded first ≡ Ok one → script_by guarded second ≡ Ok other
    → script_by guarded joined ≡ Ok (one ++ map (item_further (length (lines first))) other)
read_joined true first second joined one other are is also =
    ap (λ all. read_guarded_from 1 all [] None []) are
    ∙ guarded_so 1 (lines first ++ lines second) [] None []
    ∙ reads_joined guarded_kind expected_in (lines first) (lines second) one other
    (sym (guarded_so 1 (lines first) [] None []) ∙ is)
    (sym (guarded_so 1 (lines second) [] None []) ∙ also)
read_joined false first second joined one other are is also =
    ap (λ all. read_from 1 all [] None []) are
    ∙ plain_so 1 (lines first ++ lines second) [] None []
    ∙ reads_joined kind_of_script_line never_expected (lines first) (lines second) one other
    (sym (plain_so 1 (lines first) [] None []) ∙ is)
    (sym (plain_so 1 (lines second) [] None []) ∙ also)

-- ---- lines of a script are nothing to a game

module _ (by : ℕ) where
  none_alike : (guard : Expectation) (expected other : ExpectedLine) (count : ℕ)
      (found : Option (List ℕ))
      → is_none (other_line (guard_further by guard) expected count found)
      ≡ is_none (other_line guard other count found)
  none_alike guard expected other count None = refl
  none_alike guard expected other count (Some line) = by_line (bytes_eq line guard.text)
    where
      by_line : (same : Bool)
          → is_none (cond {A = Option Refusal} same None
          (Some (OtherLine (guard.line + by) (line_copy line) expected)))
          ≡ is_none (cond {A = Option Refusal} same None
          (Some (OtherLine guard.line (line_copy line) other)))
      by_line true = refl
      by_line false = refl

  unmet_alike : (changes : List Change) (guard : Expectation) (log : List (List ℕ))
      → is_none (unmet changes (guard_further by guard) log) ≡ is_none (unmet changes guard log)
  unfolding unmet
  unmet_alike changes guard log =
      by_fault (log_after_all (take guard.after changes) log)
      (is_none (fault_of_all (take guard.after changes) log 0))
    where
      by_fault : (before : List (List ℕ)) (free : Bool)
          → is_none (cond free (other_line_in (guard_further by guard) before) None)
          ≡ is_none (cond free (other_line_in guard before) None)
      by_fault before true =
          none_alike guard (expected_line (guard_further by guard) before)
          (expected_line guard before) (length before) (slice_get before guard.place)
      by_fault before false = refl

  either_alike : (one other one_later other_later : Option Refusal)
      → is_none one ≡ is_none other → is_none one_later ≡ is_none other_later
      → is_none (option_or one one_later) ≡ is_none (option_or other other_later)
  either_alike None None one_later other_later same also = also
  either_alike (Some first) (Some second) one_later other_later same also = refl
  either_alike None (Some second) one_later other_later same also = cc
  either_alike (Some first) None one_later other_later same also = cc

  first_alike : (changes : List Change) (guards : List Expectation) (log : List (List ℕ))
      → is_none (first_unmet changes (map (guard_further by) guards) log)
      ≡ is_none (first_unmet changes guards log)
  first_alike changes [] log = refl
  first_alike changes (guard ∷ guards) log =
      either_alike (unmet changes (guard_further by guard) log) (unmet changes guard log)
      (first_unmet changes (map (guard_further by) guards) log) (first_unmet changes guards log)
      (unmet_alike changes guard log) (first_alike changes guards log)

  fault_alike : (item : Applied) (log : List (List ℕ)) (found : Option GroupFault)
      → is_none (option_map (edit_refusal (item_further by item)) found)
      ≡ is_none (option_map (edit_refusal item) found)
  fault_alike item log None = refl
  fault_alike item log (Some fault) = refl

  left_alike : (item : Applied) (game : Game) (one other : Option Refusal)
      → is_none one ≡ is_none other
      → game_left (item_further by item) one game ≡ game_left item other game
  left_alike item game None None same = refl
  left_alike item game (Some first) (Some second) same = refl
  left_alike item game None (Some second) same = cc
  left_alike item game (Some first) None same = cc

  item_alike : (item : Applied) (game : Game)
      → game_after_item (item_further by item) game ≡ game_after_item item game
  unfolding game_after_item item_refusal
  item_alike item game =
      let log = game.log in
      let faults = group_refusal item.changes log in
      left_alike item game (item_refusal (item_further by item) log) (item_refusal item log)
      (either_alike (first_unmet item.changes (map (guard_further by) item.guards) log)
      (first_unmet item.changes item.guards log)
      (option_map (edit_refusal (item_further by item)) faults)
      (option_map (edit_refusal item) faults)
      (first_alike item.changes item.guards log) (fault_alike item log faults))

  items_alike : (items : List Applied) (game : Game)
      → game_after_items (map (item_further by) items) game ≡ game_after_items items game
  items_alike [] game = refl
  items_alike (item ∷ items) game =
      ap (game_after_items (map (item_further by) items)) (item_alike item game)
      ∙ items_alike items (game_after_item item game)

pub scripts_join : ScriptsRunInTurn → ScriptsJoin
scripts_join in_turn guarded first second joined one other are is also =
    let by = length (lines first) in record {
      read = read_joined guarded first second joined one other are is also;
      does = λ game. (in_turn one (map (item_further by) other) game).0
          ∙ items_alike by other (game_after_items one game);
    }
