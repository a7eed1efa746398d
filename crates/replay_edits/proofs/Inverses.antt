-- What takes changes back, and that it meets no fault.
use Rattle.std.proofs.Common.{◌≡◌, ℕ, ◌+◌, ◌<◌, ◌≤◌, List, [], ◌∷◌, ◌++◌, length, get_or, take}
use Rattle.std.proofs.Common.{drop, insert, remove, set, refl, ap, ◌∙◌, arith, Option, Some, None}
use Rattle.std.proofs.Common.{Bool, true, false, not, cond, suc, IsTrue, ltb, leb, add-one}
use Rattle.std.proofs.lemmas.List.{take-append-drop, take_at, drop_at, length-take-le, set-set}
use Rattle.std.proofs.lemmas.List.{set-get_or, drop_more, length-set, length-append, append_assoc}
use Rattle.std.proofs.lemmas.List.{reverse-append}
use Rattle.std.proofs.lemmas.List.Edits.{length-insert, length-remove}
use Rattle.std.proofs.lemmas.List.Elements.{All-append, All-cons, All-take, All-drop, All-set}
use Rattle.std.proofs.lemmas.List.Elements.{All-get_or}
use Rattle.std.proofs.lemmas.Bool.{ltb-false, leb-false, le-ltb, lt-leb}
use Rattle.base_lines.specs.Line.{flaw_of, is_line}
use Rattle.replay_edits.specs.declared.fault.EditFault.{EditFault}
use Rattle.replay_edits.specs.declared.fault.EditFault.TheVariants.{NoSuchPlace, BadLine, LogFull}
use Rattle.replay_edits.specs.declared.fault.EditFault.TheVariants.{BadSeed, MeterFull}
use Rattle.replay_edits.specs.declared.fault.GroupFault.{GroupFault}
use Rattle.base_lines.specs.Limits.{MAX_LOG_LINES, MAX_SEED}
use Rattle.replay_edits.specs.Edit.{Game, game_of, IsGame, Change, inserts, deletes, replaces}
use Rattle.replay_edits.specs.Edit.{reseeds, line_at, log_after, apply}
use Rattle.replay_edits.specs.Edit.{apply_all, inverse_of, inverse_of_each, inverses_of}
use Rattle.replay_edits.specs.Faults.{fault_of, added_fault, replaced_fault, fault_of_all}
use Rattle.replay_edits.specs.Faults.{or_group_meter_full, group_fault, log_after_all}
use Rattle.replay_edits.proofs.Groups.{first_is_free}

abbrev full_meter : GroupFault
full_meter = record { cause = MeterFull; at = 0 }

-- if a choice gives no fault, the test failed and the rest gives none
free_choice : (b : Bool) (fault : EditFault) (rest : Option EditFault)
    → cond b (Some fault) rest ≡ None → (b ≡ false) × (rest ≡ None)
free_choice true fault rest free = cc
free_choice false fault rest free = (refl, free)

good_line : (b : Bool) → not b ≡ false → b ≡ true
good_line true h = refl
good_line false h = cc

good_choice : (b : Bool) (fault : EditFault) → cond b None (Some fault) ≡ None → b ≡ true
good_choice true fault free = refl
good_choice false fault free = cc

meter_choice : (b : Bool) → cond b (Some full_meter) None ≡ None → b ≡ false
meter_choice true free = cc
meter_choice false free = refl

-- a group none of whose changes meets a fault
abbrev pub IsFree : List Change → List (List ℕ) → Type 0
IsFree [] log = Unit {0}
IsFree (change ∷ changes) log = (fault_of change log ≡ None) × IsFree changes (log_after change log)

pub IsFree-from_none : (changes : List Change) (log : List (List ℕ)) (number : ℕ)
    → fault_of_all changes log number ≡ None → IsFree changes log
IsFree-from_none [] log number free = tt
IsFree-from_none (change ∷ changes) log number free =
    let both =
    first_is_free (fault_of change log) number
    (fault_of_all changes (log_after change log) (number + 1)) free in
    (both.0, IsFree-from_none changes (log_after change log) (number + 1) both.1)

pub none_from_IsFree : (changes : List Change) (log : List (List ℕ)) (number : ℕ)
    → IsFree changes log → fault_of_all changes log number ≡ None
none_from_IsFree [] log number free = refl
none_from_IsFree (change ∷ changes) log number free =
    rw free.0 (none_from_IsFree changes (log_after change log) (number + 1) free.1)

IsFree-append : (xs ys : List Change) (log : List (List ℕ)) → IsFree xs log
    → IsFree ys (log_after_all xs log) → IsFree (xs ++ ys) log
IsFree-append [] ys log first second = second
IsFree-append (x ∷ xs) ys log first second =
    (first.0, IsFree-append xs ys (log_after x log) first.1 second)

apply_all-append : (xs ys : List Change) (game : Game)
    → apply_all (xs ++ ys) game ≡ apply_all ys (apply_all xs game)
apply_all-append [] ys game = refl
apply_all-append (x ∷ xs) ys game = apply_all-append xs ys (apply x game)

-- the log of a game after changes
pub log-apply_all : (changes : List Change) (game : Game)
    → (apply_all changes game).log ≡ log_after_all changes game.log
log-apply_all [] game = refl
log-apply_all (change ∷ changes) game = log-apply_all changes (apply change game)

remove-insert : (log : List (List ℕ)) (place : ℕ) (line : List ℕ) → place ≤ length log
    → remove (insert log place line) place ≡ log
remove-insert log place line within =
    let n : length (take place log) ≡ place = length-take-le place log within in
    let prefix : take place (insert log place line) ≡ take place log =
    take_at (take place log) (line ∷ drop place log) place n in
    let n' : length (take place log ++ line ∷ []) ≡ suc place =
    length-append (take place log) (line ∷ [])
    ∙ omega arith in
    let split : insert log place line ≡ (take place log ++ line ∷ []) ++ drop place log =
    simp append_assoc in
    let back : drop (suc place) (insert log place line) ≡ drop place log =
    rw split (drop_at (take place log ++ line ∷ []) (drop place log) (suc place) n') in
    rw (prefix, back) (take-append-drop place log)

insert-remove : (log : List (List ℕ)) (place : ℕ) → place < length log
    → insert (remove log place) place (get_or log place []) ≡ log
insert-remove log place below =
    let n : length (take place log) ≡ place = length-take-le place log (omega arith) in
    let prefix : take place (remove log place) ≡ take place log =
    take_at (take place log) (drop (suc place) log) place n in
    let back : drop place (remove log place) ≡ drop (suc place) log =
    drop_at (take place log) (drop (suc place) log) place n in
    let more : drop place log ≡ get_or log place [] ∷ drop (suc place) log =
    drop_more log place [] below
    ∙ simp add-one in
    rw (prefix, back, ← more) (take-append-drop place log)

-- what a change's freedom of faults says
pub insert_within : (place : ℕ) (line : List ℕ) (log : List (List ℕ))
    → fault_of (inserts place line) log ≡ None
    → (place ≤ length log) × (is_line line ≡ true) × (length log < MAX_LOG_LINES)
insert_within place line log free =
    let first = free_choice (ltb (length log) place) (NoSuchPlace (length log))
    (added_fault line log) free in
    let second = free_choice (not (is_line line)) (BadLine (flaw_of line)) _ first.1 in
    let third = free_choice (leb MAX_LOG_LINES (length log)) LogFull None second.1 in
    (ltb-false _ _ first.0, good_line _ second.0, leb-false _ _ third.0)

pub delete_within : (place : ℕ) (log : List (List ℕ)) → fault_of (deletes place) log ≡ None
    → place < length log
delete_within place log free =
    leb-false _ _ (free_choice (leb (length log) place) (NoSuchPlace (length log)) None free).0

pub replace_within : (place : ℕ) (line : List ℕ) (log : List (List ℕ))
    → fault_of (replaces place line) log ≡ None → (place < length log) × (is_line line ≡ true)
replace_within place line log free =
    let first = free_choice (leb (length log) place) (NoSuchPlace (length log))
    (replaced_fault line) free in
    (leb-false _ _ first.0, good_choice (is_line line) (BadLine (flaw_of line)) first.1)

reseed_within : (seed : ℕ) (log : List (List ℕ)) → fault_of (reseeds seed) log ≡ None
    → seed ≤ MAX_SEED
reseed_within seed log free = ltb-false _ _ (free_choice (ltb MAX_SEED seed) BadSeed None free).0

-- a change and its inverse leave the game
pub apply-inverse_of : (change : Change) (game : Game) → fault_of change game.log ≡ None
    → apply (inverse_of change game) (apply change game) ≡ game
apply-inverse_of (inserts place line) game free =
    ap (game_of game.seed)
    (remove-insert game.log place line (insert_within place line game.log free).0)
apply-inverse_of (deletes place) game free =
    ap (game_of game.seed) (insert-remove game.log place (delete_within place game.log free))
apply-inverse_of (replaces place line) game free =
    ap (game_of game.seed) (set-set game.log place line (line_at game.log place)
    ∙ set-get_or game.log place [])
apply-inverse_of (reseeds seed) game free = refl

-- so do changes and those that take them back
pub apply_all-inverses_of : (changes : List Change) (game : Game) → IsFree changes game.log
    → apply_all (inverses_of changes game) (apply_all changes game) ≡ game
apply_all-inverses_of [] game free = refl
apply_all-inverses_of (change ∷ changes) game free =
    let next = apply change game in
    rw (
      reverse-append (inverse_of change game ∷ []) (inverse_of_each changes next),
      apply_all-append (inverses_of changes next) (inverse_of change game ∷ [])
          (apply_all changes next),
      apply_all-inverses_of changes next free.1,
    )
    (apply-inverse_of change game free.0)

-- a change without a fault leaves a game that a session may hold
pub IsGame-apply : (change : Change) (game : Game) → IsGame game → fault_of change game.log ≡ None
    → IsGame (apply change game)
IsGame-apply (inserts place line) game good free =
    let P : List ℕ → Type 0 = λ l. IsTrue (is_line l) in
    let said = insert_within place line game.log free in
    let longer : length (insert game.log place line) ≡ length game.log + 1 =
    length-insert game.log place line said.0 in
    record {
      lines = All-append P (take place game.log) (line ∷ drop place game.log)
          (All-take P place game.log good.lines)
          (All-cons P line (drop place game.log) said.1 (All-drop P place game.log good.lines));
      few = let free_place = said.2 in omega arith;
      seed_fits = good.seed_fits;
    }
IsGame-apply (deletes place) game good free =
    let P : List ℕ → Type 0 = λ l. IsTrue (is_line l) in
    let below = delete_within place game.log free in
    let shorter = length-remove game.log place below in
    let few = good.few in
    record {
      lines = All-append P (take place game.log) (drop (suc place) game.log)
          (All-take P place game.log good.lines) (All-drop P (suc place) game.log good.lines);
      few = omega arith;
      seed_fits = good.seed_fits;
    }
IsGame-apply (replaces place line) game good free =
    let P : List ℕ → Type 0 = λ l. IsTrue (is_line l) in
    record {
      lines = All-set P game.log place line (replace_within place line game.log free).1 good.lines;
      few = rw (length-set game.log place line) good.few;
      seed_fits = good.seed_fits;
    }
IsGame-apply (reseeds seed) game good free = record {
  lines = good.lines;
  few = good.few;
  seed_fits = reseed_within seed game.log free;
}

pub IsGame-apply_all : (changes : List Change) (game : Game) → IsGame game → IsFree changes game.log
    → IsGame (apply_all changes game)
IsGame-apply_all [] game good free = good
IsGame-apply_all (change ∷ changes) game good free =
    IsGame-apply_all changes (apply change game) (IsGame-apply change game good free.0) free.1

-- the inverse of a change meets no fault
pub fault_of-inverse_of : (change : Change) (game : Game) → IsGame game
    → fault_of change game.log ≡ None
    → fault_of (inverse_of change game) (log_after change game.log) ≡ None
fault_of-inverse_of (inserts place line) game good free =
    let said = insert_within place line game.log free in
    let longer : length (insert game.log place line) ≡ length game.log + 1 =
    length-insert game.log place line said.0 in
    let within = said.0 in
    rw (lt-leb (length (insert game.log place line)) place (omega arith)) refl
fault_of-inverse_of (deletes place) game good free =
    let P : List ℕ → Type 0 = λ l. IsTrue (is_line l) in
    let below = delete_within place game.log free in
    let shorter : length (remove game.log place) + 1 ≡ length game.log =
    length-remove game.log place below in
    let few = good.few in
    rw (
      le-ltb (length (remove game.log place)) place (omega arith),
      All-get_or P game.log place [] below good.lines,
      lt-leb MAX_LOG_LINES (length (remove game.log place)) (omega arith),
    ) refl
fault_of-inverse_of (replaces place line) game good free =
    let P : List ℕ → Type 0 = λ l. IsTrue (is_line l) in
    let said = replace_within place line game.log free in
    let below = said.0 in
    rw (
      lt-leb (length (set game.log place line)) place (rw (length-set game.log place line) below),
      All-get_or P game.log place [] below good.lines,
    ) refl
fault_of-inverse_of (reseeds seed) game good free =
    rw (le-ltb MAX_SEED game.seed good.seed_fits) refl

pub IsFree-inverses_of : (changes : List Change) (game : Game) → IsGame game
    → IsFree changes game.log → IsFree (inverses_of changes game) (log_after_all changes game.log)
IsFree-inverses_of [] game good free = tt
IsFree-inverses_of (change ∷ changes) game good free =
    let next = apply change game in
    let last : log_after_all (inverses_of changes next) (log_after_all changes next.log)
    ≡ next.log =
    rw (
      ← log-apply_all changes next,
      ← log-apply_all (inverses_of changes next) (apply_all changes next),
      apply_all-inverses_of changes next free.1,
    ) refl in
    rw (reverse-append (inverse_of change game ∷ []) (inverse_of_each changes next))
    (IsFree-append (inverses_of changes next) (inverse_of change game ∷ [])
    (log_after_all changes next.log)
    (IsFree-inverses_of changes next (IsGame-apply change game good free.0) free.1)
    (rw last (fault_of-inverse_of change game good free.0, tt)))

meter_free : (fault : Option GroupFault) (log : List (List ℕ)) (left : ℕ)
    → or_group_meter_full fault log left ≡ None → (fault ≡ None) × (length log ≤ left)
meter_free None log left free =
    (refl, ltb-false left (length log) (meter_choice (ltb left (length log)) free))
meter_free (Some fault) log left free = cc

-- a group without a fault
pub group_free : (changes : List Change) (log : List (List ℕ)) (left : ℕ)
    → group_fault changes log left ≡ None
    → (fault_of_all changes log 0 ≡ None) × (length (log_after_all changes log) ≤ left)
group_free [] log left free = cc
group_free (change ∷ changes) log left free =
    meter_free (fault_of_all (change ∷ changes) log 0) (log_after_all (change ∷ changes) log) left
    free

-- it has a change
pub group_some : (changes : List Change) (log : List (List ℕ)) (left : ℕ)
    → group_fault changes log left ≡ None → 0 < length changes
group_some [] log left free = cc
group_some (change ∷ changes) log left free = omega arith
