-- How far several logs are read.
use Rattle.std.proofs.Common.{◌≡◌, ℕ, ◌+◌, ◌<◌, ◌≤◌, List, [], ◌∷◌, ◌++◌, drop, length, append-nil}
use Rattle.std.proofs.Common.{append_assoc, Option, None, inr, refl, sym, ap, ◌∙◌, subst, arith}
use Rattle.std.proofs.Common.{◌⊎◌, length-append}
use Rattle.std.proofs.lemmas.List.{map-append}
use Rattle.std.specs.List.{AllZip}
use Rattle.std.specs.Str.Lines.{lines}
use Rattle.std.proofs.lemmas.List.Concat.{flat_map-append}
use Rattle.cave_play.specs.Sources.{Says, next_log}
use Rattle.cave_play.specs.Stages.{first_decided, log_fault, log_stage}
use Rattle.cave_play.specs.Stages as stage
use Rattle.cave_play.specs.declared.fault.PlayFault.{PlayFault}
use Rattle.replay_edits.specs.Edit.{Game, game_of}
use Rattle.cave_data.specs.CaveView.{CaveView}
use Rattle.cave_world.specs.declared.part.Part.{Part}
use Rattle.cave_world.specs.declared.state.State.{State}
use Rattle.play_machine.specs.Moments.{Moment, noted_of}
use Rattle.play_machine.specs.Watch.{NotesMore}
use Rattle.cave_play.specs.Logs.{AreValidLogs, IsFoundFrom, games_of}
use Rattle.cave_play.specs.Logs.{noted_of_all}
use Rattle.cave_play.proofs.LogLemmas.{AllSay-some, AllZip-append, AllZip-length, AreValidLogs-more}
use Rattle.cave_play.proofs.LogLemmas.{IsFoundFrom-here, IsFoundFrom-later, at_log}

module _ {Fact N : Type 0} (HasNoted : List Fact → N → Type 0)
    (first : CaveView → State → List Part → List Fact) (facts : CaveView → Moment → List Fact)
    (cave : CaveView) where
  -- the plays of the games were noted
  abbrev pub AreNotesOn : List Game → N → Type 0
  AreNotesOn games notes = HasNoted (noted_of_all first facts cave games) notes

  -- one more play was noted
  pub AreNotesOn-more : (game : Game) (old new : N)
      → NotesMore HasNoted (noted_of first facts cave game) old new
      → (games : List Game) → AreNotesOn games old → AreNotesOn (games ++ game ∷ []) new
  AreNotesOn-more game old new more games noted =
      let noted_more : noted_of_all first facts cave games ++ noted_of first facts cave game
      ≡ noted_of_all first facts cave (games ++ game ∷ []) =
      sym (flat_map-append (noted_of first facts cave) games (game ∷ [])
      ∙ ap (λ more. noted_of_all first facts cave games ++ more)
      (append-nil (noted_of first facts cave game))) in
      subst (λ facts. HasNoted facts new) noted_more
      (more (noted_of_all first facts cave games) noted)

emptied : {A : Type 0} (list : List A) → length list ≡ 0 → list ≡ []
emptied [] none = refl
emptied (first ∷ list) none = absurd (omega arith)

-- of the logs that are known, those before a place were read, none of these has a fault, and their
-- plays were noted
pub record IsAt {N : Type 0} (known : List (Option (List ℕ))) (AreNotes : List Game → N → Type 0)
    (seed place : ℕ) (notes : N) (logs : List (Option (List ℕ))) : Type 0 where
  pub front : List (Option (List ℕ))
  pub parts : known ≡ front ++ logs
  pub many : length front ≡ place
  pub read : List (List ℕ)
  pub says : AllZip Says front read
  pub right : AreValidLogs read
  pub noted : AreNotes (games_of seed read) notes

module _ {N : Type 0} (known : List (Option (List ℕ))) (AreNotes : List Game → N → Type 0)
    (seed : ℕ) where
  -- none is read yet
  pub IsAt-first : (notes : N) → AreNotes [] notes → IsAt known AreNotes seed 0 notes known
  IsAt-first notes none = record {
    front = [];
    parts = refl;
    many = refl;
    read = [];
    says = tt;
    right = tt;
    noted = none;
  }

  -- all are read
  pub IsAt-all : (place : ℕ) (notes : N) (logs : List (Option (List ℕ))) → length known ≤ place
      → IsAt known AreNotes seed place notes logs
      → (read : List (List ℕ)) × AllZip Says known read × AreValidLogs read
      × AreNotes (games_of seed read) notes × (logs ≡ [])
  IsAt-all place notes logs past at =
      let none : length logs ≡ 0 =
      omega (arith, past, ap length at.parts, length-append at.front logs, at.many) in
      let empty = emptied logs none in
      let whole : at.front ≡ known =
      sym (append-nil at.front) ∙ ap (λ rest. at.front ++ rest) (sym empty) ∙ sym at.parts in
      (at.read, subst (λ k. AllZip Says k at.read) whole at.says, at.right, at.noted, empty)

  module _ (place : ℕ) (old : N) (moves : List ℕ) (inside : place < length known) where
    -- one more log is read
    pub IsAt-more : (logs : List (Option (List ℕ))) (new : N) → Says (next_log logs) moves
        → IsAt known AreNotes seed place old logs → log_fault moves ≡ None
        → ((games : List Game) → AreNotes games old
        → AreNotes (games ++ game_of seed (lines moves) ∷ []) new)
        → IsAt known AreNotes seed (place + 1) new (drop 1 logs)
    IsAt-more [] new said at none more =
        absurd (omega (arith, inside, ap length at.parts, length-append at.front [], at.many))
    IsAt-more (log ∷ logs) new said at none more =
        let games : games_of seed (at.read ++ moves ∷ []) ≡ games_of seed at.read
        ++ game_of seed (lines moves) ∷ [] =
        map-append (λ (log : List ℕ). game_of seed (lines log)) at.read (moves ∷ []) in
        record {
          front = at.front ++ log ∷ [];
          parts = at.parts ∙ sym (append_assoc at.front (log ∷ []) logs);
          many = omega (arith, length-append at.front (log ∷ []), at.many);
          read = at.read ++ moves ∷ [];
          says = AllZip-append Says at.front (log ∷ []) at.read (moves ∷ []) at.says (said, tt);
          right = AreValidLogs-more at.read moves at.right none;
          noted = subst (λ played. AreNotes played new) (sym games)
              (more (games_of seed at.read) at.noted);
        }

    -- one more log is refused
    pub IsAt-refused : (logs : List (Option (List ℕ))) (found : PlayFault)
        → Says (next_log logs) moves
        → IsAt known AreNotes seed place old logs → stage.IsFoundIn (log_stage moves ∷ []) found
        → (bytes : List (List ℕ)) × AllZip Says known bytes
        × ((((at_log place found).log ≡ None) × stage.IsFoundIn [] found)
        ⊎ ((first_decided [] ≡ None) × IsFoundFrom 0 bytes (at_log place found)))
    IsAt-refused [] found said at decided =
        absurd (omega (arith, inside, ap length at.parts, length-append at.front [], at.many))
    IsAt-refused (log ∷ logs) found said at decided =
        let rest = AllSay-some logs in
        let bytes = at.read ++ (moves ∷ rest.0) in
        let here : place ≡ 0 + length at.read =
        omega (arith, at.many, AllZip-length Says at.front at.read at.says) in
        let found_at =
        subst (λ n. IsFoundFrom n (moves ∷ rest.0) (at_log place found)) here
        (IsFoundFrom-here place moves rest.0 found decided) in (
          bytes,
          subst (λ k. AllZip Says k bytes) (sym at.parts)
              (AllZip-append Says at.front (log ∷ logs) at.read (moves ∷ rest.0) at.says
              (said, rest.1)),
          inr (
            refl,
            IsFoundFrom-later 0 at.read (moves ∷ rest.0) (at_log place found) at.right found_at,
          ),
        )
