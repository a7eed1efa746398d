-- A transcript, line by line.
use Rattle.std.proofs.Common.{◌≡◌, ℕ, suc, ◌+◌, ◌<◌, ◌≤◌, Bool, List, [], ◌∷◌, ◌++◌, length, map}
use Rattle.std.proofs.Common.{get_or, drop, append_assoc, subst, sym, ap, ◌∙◌, refl, arith}
use Rattle.std.specs.Prelude.{slice_index}
use Rattle.std.specs.List.{enumerate_from, flat_map, zip}
use Rattle.std.proofs.lemmas.List.{drop_more, drop_all, get_or-map, length-map}
use Rattle.cave_data.specs.CaveView.{CaveView}
use Rattle.cave_replay.specs.Play.{IsPlay}
use Rattle.cave_world.specs.declared.part.Part.{Part}
use Rattle.cave_world.specs.declared.state.State.{State}
use Rattle.replay_edits.specs.Edit.{Game}
use Rattle.turn_ends.specs.Score.{max_score_of, score_of}
use Rattle.play_machine.specs.Machine.{cave_rules, rendering_of}
use Rattle.play_machine.specs.Transcript.{play_text, shown_line, ticks, transcript, transcript_line}

module _ {Piece : Type 0} (show : Piece → ℕ → List ℕ) (ticked : List Bool) where
  -- what is written from a place on
  abbrev pub told_from : ℕ → List (List ℕ) → List Piece → List ℕ
  told_from place log pieces =
      flat_map (transcript_line show ticked)
      (enumerate_from place (zip (drop place log) (drop place pieces)))

  -- from a place on: the line there, and then from the next place on
  pub told_from-more : (place : ℕ) (log : List (List ℕ)) (pieces : List Piece) (line : List ℕ)
      (piece : Piece) → place < length log → place < length pieces
      → told_from place log pieces
      ≡ shown_line show (get_or log place line) (get_or pieces place piece)
      (ticks ticked (place + 1)) ++ told_from (place + 1) log pieces
  told_from-more place log pieces line piece in_log in_pieces =
      rw (drop_more log place line in_log, drop_more pieces place piece in_pieces) refl

  -- from the end on nothing is written
  pub told_from-end : (place : ℕ) (log : List (List ℕ)) (pieces : List Piece) → length log ≤ place
      → told_from place log pieces ≡ []
  told_from-end place log pieces past = rw (drop_all place log past) refl

-- what was written and what is still to be written are the whole, and still are after one more line
pub transcript_line-more : {Held Piece : Type 0} (show : Piece → ℕ → List ℕ) (items : Held → Piece)
    (place turns : ℕ) (log : List (List ℕ)) (pieces : List Held) (ticked : List Bool)
    (line : List ℕ) (piece : Held) (text text' end whole : List ℕ) → place < length log
    → length pieces ≡ length log
    → line ≡ get_or log place [] → piece ≡ get_or pieces place piece
    → turns ≡ ticks ticked (place + 1)
    → text ++ (told_from show ticked place log (map items pieces) ++ end) ≡ whole
    → text' ≡ text ++ shown_line show line (items piece) turns
    → text' ++ (told_from show ticked (place + 1) log (map items pieces) ++ end) ≡ whole
transcript_line-more show items place turns log pieces ticked line piece text text' end whole inside
    many line_is piece_is turns_are transcript_line grown =
    let in_pieces : place < length pieces = omega arith in
    let in_items : place < length (map items pieces) = simp length-map in_pieces in
    let said : get_or (map items pieces) place (items piece) ≡ items piece =
    get_or-map items pieces place piece (items piece) in_pieces ∙ ap items (sym piece_is) in
    let this = shown_line show line (items piece) turns in
    let rest = told_from show ticked (place + 1) log (map items pieces) in
    let more : told_from show ticked place log (map items pieces) ≡ this ++ rest =
    rw (turns_are, line_is, ← said)
    (told_from-more show ticked place log (map items pieces) [] (items piece) inside
    in_items) in
    ap (λ t. t ++ (rest ++ end)) grown ∙ append_assoc text this (rest ++ end)
    ∙ ap (λ t. text ++ t) (sym (append_assoc this rest end) ∙ ap (λ t. t ++ end) (sym more))
    ∙ transcript_line

-- counts of turns, from a place on: the first, and the others, from the next place on
module _ (counts others : List ℕ) (first : ℕ) (total : ℕ → ℕ) (place : ℕ)
    (parts : counts ≡ first ∷ others) (each : (k : ℕ) → k < length counts
    → slice_index counts k ≡ total (place + k + 1)) where
  pub counts-first : first ≡ total (place + 1)
  counts-first =
      let some = ap length parts in
      let here : slice_index counts 0 ≡ total (place + 0 + 1) = each 0 (omega arith) in
      let head : slice_index counts 0 ≡ first = ap (λ cs. slice_index cs 0) parts in
      let same : place + 0 + 1 ≡ place + 1 = omega arith in
      sym head ∙ here ∙ ap total same

  pub counts-others : (next k : ℕ) → next ≡ place + 1 → k < length others
      → slice_index others k ≡ total (next + k + 1)
  counts-others next k later below =
      let some = ap length parts in
      let there : slice_index counts (suc k) ≡ total (place + suc k + 1) =
      each (suc k) (omega arith) in
      let moved : slice_index counts (suc k) ≡ slice_index others k =
      ap (λ cs. slice_index cs (suc k)) parts in
      let same : place + suc k + 1 ≡ next + k + 1 = omega arith in
      sym moved ∙ there ∙ ap total same

-- what is written of a play of the game is what playing the game prints
pub transcript-played : (cave kept : CaveView) (game : Game) (opening : List Part)
    (pieces : List (List Part)) (ticks : List Bool) (state : State)
    → kept ≡ cave → IsPlay (cave_rules kept) game opening pieces ticks state
    → transcript (rendering_of cave) opening game.log pieces ticks (score_of cave state)
    (max_score_of cave) ≡ play_text cave game
unfolding play_text
transcript-played cave kept game opening pieces ticks state same played =
    let here = subst (λ k. IsPlay (cave_rules k) game opening pieces ticks state) same played in
    rw (here.opening_is, here.pieces_are, here.ticks_are, here.state_is) refl
