-- What a run has of its inputs before it, and of several logs after it.
use Rattle.std.proofs.Common.{suc, ◌≡◌, ℕ, Bool, true, false, List, [], ◌∷◌, map, Option, None}
use Rattle.std.proofs.Common.{Some, ap, option_map, Result, Ok, Err, length, refl, subst, sym, ◌∙◌}
use Rattle.std.proofs.lemmas.List.{length-map}
use Rattle.std.specs.List.{AllZip, flat_map}
use Rattle.std.specs.Prelude.{MatchResult, if◌then◌else◌, unwrap_or}
use Rattle.cave_play.specs.Sources.{InputTexts, Says, AreHeld, Held, Leads}
use Rattle.std.specs.Borrow.{Bor}
use Rattle.cave_play.specs.declared.logs.LogsFault.{LogsFault}
use Rattle.play_command.specs.declared.line.Input.TheVariants as input
use Rattle.play_command.specs.declared.line.Request.{Request}
use Rattle.play_command.specs.declared.line.What.{What}
use Rattle.play_command.specs.declared.line.What.TheVariants.{Check, Cover, Doubts, Edit, Map, Play}
use Rattle.play_command.specs.declared.line.What.TheVariants.{Script}
use Rattle.play_program.specs.Calls.{Call, and_then, Told}
use Rattle.play_program.specs.Ends.{HasReadAll, IsMadeBy, MakesOpened, held_by, why_unmade}
use Rattle.std.specs.Result.{result_map_both}
use Rattle.play_program.specs.Files.{FileName, files_in, is_same_input, log_count}
use Rattle.play_program.specs.Sources.{entry_of, held_in, held_of, typed_text, Entry, ReadFile}
use Rattle.play_program.specs.Sources.{ReadsOne, calls_for, entries_by, entries_in, of_input}
use Rattle.play_program.specs.declared.make.Made.{Made}
use Rattle.play_program.specs.declared.sources.Files.{Files}
use Rattle.std.specs.declared.io.Error.{Error}
use Rattle.play_program.proofs.ReadLemmas.{Reads, reads_all}

-- ---- what was made

-- what was made of inputs that have this
abbrev pub IsJudged : What → Request → Held → Result Made LogsFault → Type 0
IsJudged what request held made = (texts : InputTexts) × (logs : List (List ℕ))
    × AreHeld held texts × AllZip Says held.logs logs
    × IsMadeBy what request texts logs made

-- the text of a name that may be missing
pub now_of_name : (name : Option (Bor (List ℕ))) (other : Bor (List ℕ))
    → (unwrap_or name other).now ≡ unwrap_or (option_map (λ s. s.now) name) other.now
now_of_name None other = refl
now_of_name (Some name) other = refl

-- ---- how many logs there are

module _ (what : What) (bytes_of : List ℕ → Option (List ℕ)) where
  counted_next : (here : Bool) (file : FileName) (logs : List Entry) (names : List FileName)
      → length logs ≡ length names
      → length (if here then entry_of what bytes_of file ∷ logs else logs)
      ≡ length (if here then file ∷ names else names)
  counted_next true file logs names same = ap (λ n. suc n) same
  counted_next false file logs names same = same

  counted : (files : List FileName)
      → length (of_input input.Log (map (entry_of what bytes_of) files)) ≡ log_count files
  counted [] = refl
  counted (file ∷ files) =
      counted_next (is_same_input file.0 input.Log) file _ _ (counted files)

-- a run has as many logs as are named
pub held_logs : (bytes_of : List ℕ → Option (List ℕ)) (request : Request)
    → length (held_by bytes_of request).logs ≡ log_count (files_in request)
held_logs bytes_of request =
    length-map (of_input input.Log (entries_by bytes_of request)) (λ (e : Entry). e.known)
    ∙ counted request.what bytes_of (files_in request)

none_mapped : {A B : Type 0} (f : A → B) (xs : List A) → map f xs ≡ [] → xs ≡ []
none_mapped f [] none = refl
none_mapped f (x ∷ xs) none = cc

-- once a run is done, none of several logs is left
none_left : (what : What) (logs : List Entry) → HasReadAll what (map (λ (e : Entry). e.known) logs)
    → HasReadAll what logs
none_left (Check view) logs all = tt
none_left (Doubts strict) logs all = tt
none_left (Play seed view) logs all = tt
none_left (Edit asked) logs all = tt
none_left (Script form) logs all = tt
none_left (Cover seed view strict) logs all = none_mapped (λ (e : Entry). e.known) logs all
none_left (Map seed part) logs all = none_mapped (λ (e : Entry). e.known) logs all

-- ---- what the run of a request made

module _ {S F : Type 0} (calls_of : S → Option (List Call))
    (bytes_of : S → List ℕ → Option (List ℕ)) (left : F → Option (List ℕ)) (request : Request)
    (known : List ℕ → Option (List ℕ)) (before : Option (List Call)) (files new : Files S F)
    (waiting : entries_in bytes_of left files ≡ entries_by known request)
    (asked : files.request.now ≡ request) (calls : calls_of files.system.now ≡ before)
    (leads : Leads (ReadsOne calls_of bytes_of left) files new) where
  pub reads : (read : List ReadFile) × Reads calls_of bytes_of left files new read
  reads = reads_all calls_of bytes_of left leads.0 files new leads.1

  held_is : held_in bytes_of left files ≡ held_by known request
  held_is = ap (held_of (typed_text files.request.now)) waiting
      ∙ ap (λ (r : Request). held_of (typed_text r) (entries_by known request)) asked

  all_left : (r : Result Made Told)
      → MatchResult r (λ _. HasReadAll request.what (held_in bytes_of left new).logs)
      (λ _. Unit {0})
      → MatchResult r (λ _. HasReadAll request.what
      (of_input input.Log (entries_in bytes_of left new))) (λ _. Unit {0})
  all_left (Ok some) all = none_left request.what _ all
  all_left (Err said) all = tt

  -- from the bytes of files that are open this was made
  pub MakesOpened-made : (called : Option (List Call)) → called ≡ calls_of new.system.now
      → (found : Result Made LogsFault) (reason : Option Error) (made : Result Made Told)
      → made ≡ result_map_both (λ is. is) (λ fault. why_unmade request fault reason) found
      → MatchResult made (λ _. HasReadAll request.what (held_in bytes_of left new).logs)
      (λ _. Unit {0})
      → IsJudged request.what request (held_in bytes_of left files) found
      → MakesOpened known request before called made
  MakesOpened-made called same found reason made is all (texts, logs, held, said, judged) = (
    (
      reads.0,
      (λ from. of_input from (entries_in bytes_of left new)),
      same ∙ reads.1.called
          ∙ ap (λ (r : Request). and_then (calls_of files.system.now)
          (flat_map (calls_for r) reads.0)) asked
          ∙ ap (λ k. and_then k (flat_map (calls_for request) reads.0)) calls,
      reads.1.texts,
      (λ from. ap (of_input from) (sym waiting) ∙ reads.1.first from),
      all_left made all,
    ),
    (
      found,
      reason,
      texts,
      logs,
      subst (λ h. AreHeld h texts) held_is held,
      subst (λ (h : Held). AllZip Says h.logs logs) held_is said,
      judged,
      is,
    ),
  )
