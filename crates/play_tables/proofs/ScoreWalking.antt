-- The rows of the treasures and of the hints one after another.
use Rattle.std.proofs.Common.{◌≡◌, ℕ, suc, ◌+◌, ◌-◌, ◌<◌, ◌≤◌, Bool, cond, true, false, List, []}
use Rattle.std.proofs.Common.{◌∷◌, ◌++◌, map, refl, sym, ap, ◌∙◌, append_assoc, append-nil, arith}
use Rattle.std.proofs.Common.{if◌then◌else◌}
use Rattle.std.specs.List.{filter, flat_map, range_with_len}
use Rattle.std.proofs.lemmas.List.Concat.{flat_map-cons}
use Rattle.cave_data.specs.CaveView.{CaveView}
use Rattle.cave_world.specs.declared.state.State.{State}
use Rattle.turn_scene.specs.Treasures.{is_known, treasures, known_treasures}
use Rattle.play_tables.specs.ScoreRows.{TableRow, treasure_row, treasure_rows_of, cave_has_hint}
use Rattle.play_tables.specs.ScoreRows.{hints_in, hint_score_row, hint_rows_of}
use Rattle.play_tables.specs.ScoreTable.{row_text}

-- the rows of those numbers from one on, up to an end, of which something holds
abbrev rows_from : (ℕ → Bool) → (ℕ → TableRow) → ℕ → ℕ → List ℕ
rows_from holds row first end =
    flat_map row_text (map row (filter holds (range_with_len first (end - first))))

rows_more : (holds : ℕ → Bool) (row : ℕ → TableRow) (n end : ℕ) → n < end
    → rows_from holds row n end
    ≡ cond (holds n) (row_text (row n)) [] ++ rows_from holds row (n + 1) end
rows_more holds row n end h =
    let more : end - n ≡ suc (end - (n + 1)) = omega arith in
    rw more (chosen (holds n) (filter holds (range_with_len (n + 1) (end - (n + 1)))))
  where
    chosen : (b : Bool) (xs : List ℕ)
        → flat_map row_text (map row (cond b (n ∷ xs) xs))
        ≡ cond b (row_text (row n)) [] ++ flat_map row_text (map row xs)
    chosen true xs = flat_map-cons row_text (row n) (map row xs)
    chosen false xs = refl

module _ (holds : ℕ → Bool) (row : ℕ → TableRow) (n end : ℕ) (text : List ℕ) where
  rows_told : n < end
      → text ++ rows_from holds row n end
      ≡ (text ++ (if holds n then row_text (row n) else [])) ++ rows_from holds row (n + 1) end
  rows_told h =
      ap (λ t. text ++ t) (rows_more holds row n end h)
      ∙ sym (append_assoc text (cond (holds n) (row_text (row n)) [])
      (rows_from holds row (n + 1) end))

  rows_none : end ≤ n → text ++ rows_from holds row n end ≡ text
  rows_none h =
      let none : end - n ≡ 0 = omega arith in rw none (append-nil text)

-- the rows of the known treasures from a number on
unfoldable pub treasures_from : CaveView → State → ℕ → List ℕ
treasures_from cave s n = rows_from (is_known cave) (treasure_row cave s) n 80

pub treasures_all : (cave : CaveView) (s : State)
    → treasures_from cave s 50 ≡ flat_map row_text (treasure_rows_of cave s)
unfolding treasures_from known_treasures treasures
treasures_all cave s = refl

module _ (cave : CaveView) (s : State) (n : ℕ) (text : List ℕ) where
  pub treasures_none : 80 ≤ n → text ++ treasures_from cave s n ≡ text
  unfolding treasures_from
  treasures_none h = rows_none (is_known cave) (treasure_row cave s) n 80 text h

  pub treasure_told : n < 80
      → text ++ treasures_from cave s n
      ≡ (text ++ (if is_known cave n then row_text (treasure_row cave s n) else []))
      ++ treasures_from cave s (n + 1)
  unfolding treasures_from
  treasure_told h = rows_told (is_known cave) (treasure_row cave s) n 80 text h

pub ruleset treasures_walked = (treasures_all, treasures_none, treasure_told)

-- the rows of the cave's hints from a number on
unfoldable pub hints_from : CaveView → State → ℕ → List ℕ
hints_from cave s n = rows_from (cave_has_hint cave) (hint_score_row cave s) n 21

pub hints_all : (cave : CaveView) (s : State)
    → hints_from cave s 1 ≡ flat_map row_text (hint_rows_of cave s)
unfolding hints_from hints_in
hints_all cave s = refl

module _ (cave : CaveView) (s : State) (n : ℕ) (text : List ℕ) where
  pub hints_none : 21 ≤ n → text ++ hints_from cave s n ≡ text
  unfolding hints_from
  hints_none h = rows_none (cave_has_hint cave) (hint_score_row cave s) n 21 text h

  pub hint_told : n < 21
      → text ++ hints_from cave s n
      ≡ (text ++ (if cave_has_hint cave n then row_text (hint_score_row cave s n) else []))
      ++ hints_from cave s (n + 1)
  unfolding hints_from
  hint_told h = rows_told (cave_has_hint cave) (hint_score_row cave s) n 21 text h

pub ruleset hints_walked = (hints_all, hints_none, hint_told)
