-- The report on things of several groups, some of which are covered.
use Rattle.std.specs.Prelude.{ℕ, ◌==◌, Bool, not, if◌then◌else◌, List, [], ◌∷◌, ◌++◌, length, codes}
use Rattle.std.specs.Fmt.{decimal}
use Rattle.std.specs.List.{filter, flat_map, sum_by}
use Rattle.check_tables.specs.Known.{KnownEntries, entry_lines, unknown, unmet_text}
use Rattle.check_tables.specs.Marks.{mark}
use Rattle.play_cover.specs.declared.coverage.Detail.{Detail}
use Rattle.play_cover.specs.declared.coverage.Detail.TheVariants.{Both, Counts, Missing}
use Rattle.check_tables.specs.declared.marks.Mark.{Mark}

-- the groups, in the order of the report: for each its number, how its line begins, and the numbers
-- of its things; for each of these its name, and the entry that says of it that it isn't covered.
-- The line of an entry begins with the indent
pub record Catalogue (Group : Type 0) : Type 0 where
  pub groups : List Group
  pub number : Group → ℕ
  pub heading : Group → List ℕ
  pub present : Group → List ℕ
  pub name : Group → ℕ → List ℕ
  pub indent : List ℕ
  pub words : Group → ℕ → List ℕ

-- the word for this many logs
abbrev pub logs_word : ℕ → List ℕ
logs_word logs = if logs == 1 then codes "log" else codes "logs"

-- how the last line of a report on this many logs ends
abbrev pub in_logs : ℕ → List ℕ
in_logs logs = codes " in " ++ (decimal logs ++ (codes " " ++ (logs_word logs ++ codes "\n")))

-- a line for each line of a list that says something and is none of these entries
abbrev pub unmet_entries : KnownEntries → List ℕ → List ℕ
unmet_entries known entries =
    unmet_text known (codes "nothing that is never shown says this") entries

module _ {Group : Type 0} (of : Catalogue Group) where
  -- the names of those that were never covered, if there are any
  abbrev pub names : Group → List ℕ → List ℕ
  names group numbers = flat_map (λ number. codes " " ++ of.name group number) numbers

  abbrev pub never : Group → List ℕ → List ℕ
  never group [] = []
  never group (first ∷ others) = codes ", never" ++ names group (first ∷ others)

  -- the line of a group, of whose things this many are covered, and these are missing
  abbrev pub line_with : Group → ℕ → ℕ → List ℕ → List ℕ
  line_with group covered present missing =
      of.heading group ++ (codes ": " ++ (decimal covered
      ++ (codes " of " ++ (decimal present ++ (never group missing ++ codes "\n")))))

  -- what is written about a group that has this line, some of whose things are left
  abbrev pub detail_text : Detail → Group → List ℕ → List ℕ → List ℕ
  detail_text Counts group line left = line
  detail_text Missing group line left = entry_lines (of.words group) of.indent left
  detail_text Both group line left = line ++ entry_lines (of.words group) of.indent left

  -- how many things there are
  abbrev pub present_count : ℕ
  present_count = sum_by (λ group. length (of.present group)) of.groups

  module _ (is_covered : Mark → Bool) where
    unfoldable pub covered : Group → List ℕ
    covered group = filter (λ n. is_covered (mark (of.number group) n)) (of.present group)

    unfoldable pub missing : Group → List ℕ
    missing group = filter (λ n. not (is_covered (mark (of.number group) n))) (of.present group)

    -- the line of a group
    abbrev pub line : Group → List ℕ
    line group =
        line_with group (length (covered group)) (length (of.present group)) (missing group)

    -- how many things are covered
    abbrev pub covered_count : ℕ
    covered_count = sum_by (λ group. length (covered group)) of.groups

    -- the entries of all things that aren't covered
    abbrev pub all_entries : List ℕ
    all_entries = flat_map (λ group. entry_lines (of.words group) [] (missing group)) of.groups

    module _ (known : KnownEntries) where
      -- what is missing, and isn't known
      abbrev pub left : Group → List ℕ
      left group = unknown (of.words group) known (missing group)

      -- what is written about a group
      abbrev pub group_text : Detail → Group → List ℕ
      group_text detail group = detail_text detail group (line group) (left group)

      abbrev pub groups_text : Detail → List ℕ
      groups_text detail = flat_map (group_text detail) of.groups

      -- how many things are left
      abbrev pub left_count : ℕ
      left_count = sum_by (λ group. length (left group)) of.groups
