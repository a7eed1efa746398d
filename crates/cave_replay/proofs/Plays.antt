-- The play of a log, one line and several lines further.
use Rattle.std.proofs.Common.{◌≡◌, ℕ, suc, ◌+◌, ◌<◌, get_or, take, Bool, List, [], ◌∷◌, ◌++◌}
use Rattle.std.proofs.Common.{length, refl, ap, ◌∙◌}
use Rattle.replay_edits.specs.LineText.{LineText}
use Rattle.cave_replay.specs.Play.{MachineRules, state_after, texts_of, ticks_of, IsPlay}
use Rattle.replay_edits.specs.Edit.{log_of, Game, game_of}
use Rattle.replay_edits.proofs.Lines.{take-log_of_more}

pub length-texts_of : {S T : Type 0} (rules : MachineRules S T) (state : S) (lines : List (List ℕ))
    → length (texts_of rules state lines) ≡ length lines
length-texts_of rules state [] = refl
length-texts_of rules state (line ∷ lines) =
    ap suc (length-texts_of rules (rules.after state line) lines)

pub length-ticks_of : {S T : Type 0} (rules : MachineRules S T) (state : S) (lines : List (List ℕ))
    → length (ticks_of rules state lines) ≡ length lines
length-ticks_of rules state [] = refl
length-ticks_of rules state (line ∷ lines) =
    ap suc (length-ticks_of rules (rules.after state line) lines)

pub state_after-append : {S T : Type 0} (rules : MachineRules S T) (state : S)
    (xs ys : List (List ℕ))
    → state_after rules state (xs ++ ys) ≡ state_after rules (state_after rules state xs) ys
state_after-append rules state [] ys = refl
state_after-append rules state (x ∷ xs) ys = state_after-append rules (rules.after state x) xs ys

pub texts_of-append : {S T : Type 0} (rules : MachineRules S T) (state : S) (xs ys : List (List ℕ))
    → texts_of rules state (xs ++ ys) ≡ texts_of rules state xs
    ++ texts_of rules (state_after rules state xs) ys
texts_of-append rules state [] ys = refl
texts_of-append rules state (x ∷ xs) ys =
    ap (λ rest. rules.said state x ∷ rest) (texts_of-append rules (rules.after state x) xs ys)

pub ticks_of-append : {S T : Type 0} (rules : MachineRules S T) (state : S) (xs ys : List (List ℕ))
    → ticks_of rules state (xs ++ ys) ≡ ticks_of rules state xs
    ++ ticks_of rules (state_after rules state xs) ys
ticks_of-append rules state [] ys = refl
ticks_of-append rules state (x ∷ xs) ys =
    ap (λ rest. rules.ticked state x ∷ rest) (ticks_of-append rules (rules.after state x) xs ys)

-- a play has one piece and one tick for each line
pub length-pieces : {S T : Type 0} {rules : MachineRules S T} {game : Game} {opening : T}
    {pieces : List T} {ticks : List Bool} {state : S}
    → IsPlay rules game opening pieces ticks state → length pieces ≡ length game.log
length-pieces {rules = rules} {game = game} played =
    ap length played.pieces_are ∙ length-texts_of rules (rules.begun game.seed) game.log

pub length-ticks : {S T : Type 0} {rules : MachineRules S T} {game : Game} {opening : T}
    {pieces : List T} {ticks : List Bool} {state : S}
    → IsPlay rules game opening pieces ticks state → length ticks ≡ length game.log
length-ticks {rules = rules} {game = game} played =
    ap length played.ticks_are ∙ length-ticks_of rules (rules.begun game.seed) game.log

-- one more line
pub IsPlay-push : {S T : Type 0} (rules : MachineRules S T) (seed : ℕ) (log : List (List ℕ))
    (line : List ℕ) (opening : T) (pieces : List T) (ticks : List Bool) (state : S)
    → IsPlay rules (game_of seed log) opening pieces ticks state
    → IsPlay rules (game_of seed (log ++ line ∷ [])) opening (pieces ++ rules.said state line ∷ [])
    (ticks ++ rules.ticked state line ∷ []) (rules.after state line)
IsPlay-push rules seed log line opening pieces ticks state played =
    let s = played.state_is in
    let p = played.pieces_are in
    let t = played.ticks_are in
    record {
      opening_is = played.opening_is;
      pieces_are = rw (texts_of-append rules (rules.begun seed) log (line ∷ []), ← s, ← p) refl;
      ticks_are = rw (ticks_of-append rules (rules.begun seed) log (line ∷ []), ← s, ← t) refl;
      state_is = rw (state_after-append rules (rules.begun seed) log (line ∷ []), ← s) refl;
    }

-- one more line of a log that is played from its prefix on
pub IsPlay-more : {S T : Type 0} (rules : MachineRules S T) (seed : ℕ) (log : List LineText) (i : ℕ)
    (line : LineText) (opening : T) (pieces pieces' : List T) (ticks ticks' : List Bool)
    (state state' : S)
    → i < length log → line ≡ get_or log i line
    → IsPlay rules (game_of seed (take i (log_of log))) opening pieces ticks state
    → pieces' ≡ pieces ++ rules.said state line.items ∷ []
    → ticks' ≡ ticks ++ rules.ticked state line.items ∷ []
    → state' ≡ rules.after state line.items
    → IsPlay rules (game_of seed (take (i + 1) (log_of log))) opening pieces' ticks' state'
IsPlay-more rules seed log i line opening pieces pieces' ticks ticks' state state' below read played
    more_pieces more_ticks next =
    rw (take-log_of_more log i line below read, more_pieces, more_ticks, next)
    (IsPlay-push rules seed (take i (log_of log)) line.items opening pieces ticks state played)
