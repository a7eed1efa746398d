-- Two games whose logs have the same prefix and the same end: what their plays share.
use Rattle.std.proofs.Common.{◌≡◌, ℕ, ◌+◌, ◌-◌, ◌<◌, ◌≤◌, Bool, List, [], ◌∷◌, ◌++◌, length, take}
use Rattle.std.proofs.Common.{drop, refl, sym, ap, ◌∙◌, arith}
use Rattle.std.proofs.Math.Seq.{take-add}
use Rattle.std.proofs.lemmas.List.{take-append-drop, take-take, drop-drop, length-take-le, take_at}
use Rattle.std.proofs.lemmas.List.{drop_at, take_more, append_assoc}
use Rattle.cave_replay.specs.Play.{MachineRules, state_after, texts_of, ticks_of}
use Rattle.replay_edits.specs.Edit.{Game, line_at}
use Rattle.cave_replay.specs.Agreement.{state_at, image, AgreesAt}
use Rattle.cave_replay.specs.Replay.{IsShift, texts_at, ticks_at}
use Rattle.cave_replay.proofs.Plays.{state_after-append, texts_of-append, ticks_of-append}
use Rattle.cave_replay.proofs.Plays.{length-texts_of, length-ticks_of}

-- after a place of the unchanged end the logs are the same
pub rest_at : {old new : Game} {head tail : ℕ} → IsShift old new head tail → (place : ℕ)
    → length old.log - tail ≤ place → place ≤ length old.log
    → drop (image old new place) new.log ≡ drop place old.log
rest_at {old} {new} {head} {tail} shift place late within =
    let inside = shift.within_old in
    let inside_new = shift.within_new in
    let e : (length new.log - tail) + (place - (length old.log - tail)) ≡ image old new place =
    omega arith in
    let e' : (length old.log - tail) + (place - (length old.log - tail)) ≡ place = omega arith in
    ap (λ k. drop k new.log) (sym e)
    ∙ sym (drop-drop (place - (length old.log - tail)) (length new.log - tail) new.log)
    ∙ ap (drop (place - (length old.log - tail))) shift.rest
    ∙ drop-drop (place - (length old.log - tail)) (length old.log - tail) old.log
    ∙ ap (λ k. drop k old.log) e'

-- up to a place of the unchanged prefix they are the same
pub prefix_at : {old new : Game} {head tail : ℕ} → IsShift old new head tail → (place : ℕ)
    → place ≤ head → take place new.log ≡ take place old.log
prefix_at {old} {new} {head} shift place within =
    sym (take-take place head new.log within) ∙ ap (take place) shift.prefix
    ∙ take-take place head old.log within

-- a play goes on from any place
pub last_state_from : {S T : Type 0} (rules : MachineRules S T) (game : Game) (place : ℕ)
    → state_after rules (rules.begun game.seed) game.log
    ≡ state_after rules (state_at rules game place) (drop place game.log)
last_state_from rules game place =
    ap (state_after rules (rules.begun game.seed)) (sym (take-append-drop place game.log))
    ∙ state_after-append rules (rules.begun game.seed) (take place game.log)
    (drop place game.log)

pub texts_from : {S T : Type 0} (rules : MachineRules S T) (game : Game) (place : ℕ)
    → texts_of rules (rules.begun game.seed) game.log ≡ texts_at rules game place
    ++ texts_of rules (state_at rules game place) (drop place game.log)
texts_from rules game place =
    ap (texts_of rules (rules.begun game.seed)) (sym (take-append-drop place game.log))
    ∙ texts_of-append rules (rules.begun game.seed) (take place game.log) (drop place game.log)

pub ticks_from : {S T : Type 0} (rules : MachineRules S T) (game : Game) (place : ℕ)
    → ticks_of rules (rules.begun game.seed) game.log ≡ ticks_at rules game place
    ++ ticks_of rules (state_at rules game place) (drop place game.log)
ticks_from rules game place =
    ap (ticks_of rules (rules.begun game.seed)) (sym (take-append-drop place game.log))
    ∙ ticks_of-append rules (rules.begun game.seed) (take place game.log) (drop place game.log)

-- the prefix and the rest of what is said in a whole play
pub take-texts : {S T : Type 0} (rules : MachineRules S T) (game : Game) (place : ℕ)
    → place ≤ length game.log
    → take place (texts_of rules (rules.begun game.seed) game.log) ≡ texts_at rules game place
take-texts rules game place within =
    ap (take place) (texts_from rules game place)
    ∙ take_at (texts_at rules game place)
    (texts_of rules (state_at rules game place) (drop place game.log)) place
    (length-texts_of rules (rules.begun game.seed) (take place game.log)
    ∙ length-take-le place game.log within)

pub drop-texts : {S T : Type 0} (rules : MachineRules S T) (game : Game) (place : ℕ)
    → place ≤ length game.log
    → drop place (texts_of rules (rules.begun game.seed) game.log)
    ≡ texts_of rules (state_at rules game place) (drop place game.log)
drop-texts rules game place within =
    ap (drop place) (texts_from rules game place)
    ∙ drop_at (texts_at rules game place)
    (texts_of rules (state_at rules game place) (drop place game.log)) place
    (length-texts_of rules (rules.begun game.seed) (take place game.log)
    ∙ length-take-le place game.log within)

pub take-ticks : {S T : Type 0} (rules : MachineRules S T) (game : Game) (place : ℕ)
    → place ≤ length game.log
    → take place (ticks_of rules (rules.begun game.seed) game.log) ≡ ticks_at rules game place
take-ticks rules game place within =
    ap (take place) (ticks_from rules game place)
    ∙ take_at (ticks_at rules game place)
    (ticks_of rules (state_at rules game place) (drop place game.log)) place
    (length-ticks_of rules (rules.begun game.seed) (take place game.log)
    ∙ length-take-le place game.log within)

pub drop-ticks : {S T : Type 0} (rules : MachineRules S T) (game : Game) (place : ℕ)
    → place ≤ length game.log
    → drop place (ticks_of rules (rules.begun game.seed) game.log)
    ≡ ticks_of rules (state_at rules game place) (drop place game.log)
drop-ticks rules game place within =
    ap (drop place) (ticks_from rules game place)
    ∙ drop_at (ticks_at rules game place)
    (ticks_of rules (state_at rules game place) (drop place game.log)) place
    (length-ticks_of rules (rules.begun game.seed) (take place game.log)
    ∙ length-take-le place game.log within)

-- in the unchanged prefix the plays are the same
pub state_at-prefix : {S T : Type 0} (rules : MachineRules S T) {old new : Game} {head tail : ℕ}
    → IsShift old new head tail → new.seed ≡ old.seed → (place : ℕ) → place ≤ head
    → state_at rules new place ≡ state_at rules old place
state_at-prefix rules shift seed place within = rw (seed, prefix_at shift place within) refl

pub texts_at-prefix : {S T : Type 0} (rules : MachineRules S T) {old new : Game} {head tail : ℕ}
    → IsShift old new head tail → new.seed ≡ old.seed → (place : ℕ) → place ≤ head
    → texts_at rules new place ≡ texts_at rules old place
texts_at-prefix rules shift seed place within = rw (seed, prefix_at shift place within) refl

pub ticks_at-prefix : {S T : Type 0} (rules : MachineRules S T) {old new : Game} {head tail : ℕ}
    → IsShift old new head tail → new.seed ≡ old.seed → (place : ℕ) → place ≤ head
    → ticks_at rules new place ≡ ticks_at rules old place
ticks_at-prefix rules shift seed place within = rw (seed, prefix_at shift place within) refl

-- the state at a later place follows from an earlier one
state_at-later : {S T : Type 0} (rules : MachineRules S T) (game : Game) (place more : ℕ)
    → place + more ≤ length game.log
    → state_at rules game (place + more)
    ≡ state_after rules (state_at rules game place) (take more (drop place game.log))
state_at-later rules game place more within =
    ap (state_after rules (rules.begun game.seed)) (take-add place more game.log)
    ∙ state_after-append rules (rules.begun game.seed) (take place game.log)
    (take more (drop place game.log))

-- if the plays agree at a place, they agree at each later place
pub agrees_later : {S T : Type 0} {rules : MachineRules S T} {old new : Game} {head tail : ℕ}
    {place : ℕ} → IsShift old new head tail → AgreesAt rules old new tail place → (later : ℕ)
    → place ≤ later → later ≤ length old.log → AgreesAt rules old new tail later
agrees_later {rules} {old} {new} {place} shift agrees later after within =
    let inside = shift.within_old in
    let inside_new = shift.within_new in
    let late = agrees.late in
    let e : image old new place + (later - place) ≡ image old new later = omega arith in
    let e' : place + (later - place) ≡ later = omega arith in
    let rest = rest_at shift place late (omega arith) in
    record {
      late = omega arith;
      within = within;
      same =
          ap (state_at rules new) (sym e)
          ∙ state_at-later rules new (image old new place) (later - place) (omega arith)
          ∙ rw (agrees.same, rest)
          (sym (state_at-later rules old place (later - place) (omega arith)))
          ∙ ap (state_at rules old) e';
    }

-- one more line
pub state_at-more : {S T : Type 0} (rules : MachineRules S T) (game : Game) (place : ℕ)
    → place < length game.log
    → state_at rules game (place + 1)
    ≡ rules.after (state_at rules game place) (line_at game.log place)
state_at-more rules game place below =
    ap (state_after rules (rules.begun game.seed)) (take_more game.log place [] below)
    ∙ state_after-append rules (rules.begun game.seed) (take place game.log)
    (line_at game.log place ∷ [])

pub texts_at-more : {S T : Type 0} (rules : MachineRules S T) (game : Game) (place : ℕ)
    → place < length game.log → texts_at rules game (place + 1) ≡ texts_at rules game place
    ++ rules.said (state_at rules game place) (line_at game.log place) ∷ []
texts_at-more rules game place below =
    ap (texts_of rules (rules.begun game.seed)) (take_more game.log place [] below)
    ∙ texts_of-append rules (rules.begun game.seed) (take place game.log)
    (line_at game.log place ∷ [])

pub ticks_at-more : {S T : Type 0} (rules : MachineRules S T) (game : Game) (place : ℕ)
    → place < length game.log → ticks_at rules game (place + 1) ≡ ticks_at rules game place
    ++ rules.ticked (state_at rules game place) (line_at game.log place) ∷ []
ticks_at-more rules game place below =
    ap (ticks_of rules (rules.begun game.seed)) (take_more game.log place [] below)
    ∙ ticks_of-append rules (rules.begun game.seed) (take place game.log)
    (line_at game.log place ∷ [])

-- what was said from a place on, with one more line
pub texts_on : {S T : Type 0} (rules : MachineRules S T) (game : Game) (from place place' : ℕ)
    (state : S)
    (line : List ℕ) (pieces pieces' : List T) → place < length game.log
    → texts_at rules game from ++ pieces ≡ texts_at rules game place
    → pieces' ≡ pieces ++ rules.said state line ∷ [] → state ≡ state_at rules game place
    → line ≡ line_at game.log place → place' ≡ place + 1
    → texts_at rules game from ++ pieces' ≡ texts_at rules game place'
texts_on rules game from place place' state line pieces pieces' below said more here is_line next =
    ap (λ x. texts_at rules game from ++ x) more
    ∙ sym (append_assoc (texts_at rules game from) pieces (rules.said state line ∷ []))
    ∙ ap (λ x. x ++ rules.said state line ∷ []) said
    ∙ rw (here, is_line, next) (sym (texts_at-more rules game place below))

pub ticks_on : {S T : Type 0} (rules : MachineRules S T) (game : Game) (from place place' : ℕ)
    (state : S)
    (line : List ℕ) (ticks ticks' : List Bool) → place < length game.log
    → ticks_at rules game from ++ ticks ≡ ticks_at rules game place
    → ticks' ≡ ticks ++ rules.ticked state line ∷ [] → state ≡ state_at rules game place
    → line ≡ line_at game.log place → place' ≡ place + 1
    → ticks_at rules game from ++ ticks' ≡ ticks_at rules game place'
ticks_on rules game from place place' state line ticks ticks' below said more here is_line next =
    ap (λ x. ticks_at rules game from ++ x) more
    ∙ sym (append_assoc (ticks_at rules game from) ticks (rules.ticked state line ∷ []))
    ∙ ap (λ x. x ++ rules.ticked state line ∷ []) said
    ∙ rw (here, is_line, next) (sym (ticks_at-more rules game place below))
