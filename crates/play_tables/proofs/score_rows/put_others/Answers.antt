use Rattle.std.proofs.Common.{◌≡◌, List, [], ℕ, ◌++◌, codes, sym, ap, ◌∙◌, append_assoc, append-nil}
use Rattle.std.specs.List.{flat_map}
use Rattle.turn_scene.specs.Scene.{cave_of}
use Rattle.play_tables.specs.ScoreRows.{other_rows_of}
use Rattle.play_tables.specs.ScoreTable.{row_text, other_text}
use Rattle.play_tables.proofs.Others.{other_rows_shown}
use Rattle.play_tables.proofs.score_rows.put_others.Goals as goal

-- what is written before a rest, as one more row
next : (text more row rest : List ℕ) → more ≡ text ++ row → more ++ rest ≡ text ++ (row ++ rest)
next text more row rest is = ap (λ t. t ++ rest) is ∙ append_assoc text row rest

pub returns : goal.returns
returns c =
    let shown = other_rows_shown (cave_of c.args.rules.now) c.args.state.now in
    let rows : other_text (codes "lives") c.life_points.result c.most_life_points.result
    ++ (other_text (codes "ending") c.ending_points.result 4
    ++ (other_text (codes "dwarves") c.dwarf_points.result 25
    ++ (other_text (codes "closing") c.closing_points.result 25
    ++ (other_text (codes "closed") c.closed_points.result 45
    ++ (other_text (codes "magazine") c.magazine_points-magazine.result 1
    ++ (other_text (codes "playing") 2 2 ++ []))))))
    ≡ flat_map row_text (other_rows_of (cave_of c.args.rules.now) c.args.state.now) =
    rw (
      c.life_points.ensures.value,
      c.most_life_points.ensures,
      c.ending_points.ensures.value,
      c.dwarf_points.ensures.value,
      c.closing_points.ensures.value,
      c.closed_points.ensures.value,
      c.magazine_points-magazine.ensures.value,
      c.of.ensures,
    ) (sym shown) in
    λ enough.
    let playing = c.put_other-7.ensures enough in
    let magazine = c.put_other-6.ensures playing.0 in
    let closed = c.put_other-5.ensures magazine.0 in
    let closing = c.put_other-4.ensures closed.0 in
    let dwarves = c.put_other-3.ensures closing.0 in
    let ending = c.put_other-2.ensures dwarves.0 in
    let lives = c.put_other.ensures ending.0 in (
      lives.0,
      sym (append-nil c.put_other-7.new.text.bytes.items)
          ∙ next c.put_other-6.new.text.bytes.items _ _ _ playing.1
          ∙ next c.put_other-5.new.text.bytes.items _ _ _ magazine.1
          ∙ next c.put_other-4.new.text.bytes.items _ _ _ closed.1
          ∙ next c.put_other-3.new.text.bytes.items _ _ _ closing.1
          ∙ next c.put_other-2.new.text.bytes.items _ _ _ dwarves.1
          ∙ next c.put_other.new.text.bytes.items _ _ _ ending.1
          ∙ next c.args.text.now.bytes.items _ _ _ lives.1
          ∙ ap (λ rows. c.args.text.now.bytes.items ++ rows) rows,
    )
