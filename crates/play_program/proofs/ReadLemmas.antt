-- What is asked of the system as files are read one after another.
use Rattle.std.proofs.Common.{◌≡◌, ℕ, Bool, true, false, List, [], ◌∷◌, ◌++◌, None, Some, Option}
use Rattle.std.proofs.Common.{All, ap, map, refl, subst, append_assoc, sym, ◌∙◌}
use Rattle.std.specs.List.{flat_map}
use Rattle.std.specs.Prelude.{if◌then◌else◌}
use Rattle.play_program.specs.Files.{is_same_input}
use Rattle.std.proofs.lemmas.List.Elements.{All-cons, All-nil}
use Rattle.cave_play.specs.Sources.{Says, AreRead}
use Rattle.play_command.specs.declared.line.Input.{Input}
use Rattle.play_command.specs.declared.line.Request.{Request}
use Rattle.play_program.specs.Calls.{Call, and_then}
use Rattle.play_program.specs.Sources.{AsksFor, Entry, ReadFile, ReadsOne, calls_for, entries_in}
use Rattle.play_program.specs.Sources.{first_among, of_input}
use Rattle.play_program.specs.declared.sources.Files.{Files}
use Rattle.play_program.proofs.CallLemmas.{and_then-more, and_then-none}
use Rattle.play_program.proofs.SourceLemmas.{of_input-parts, without_none}

module _ {S F : Type 0} (calls_of : S → Option (List Call))
    (bytes_of : S → List ℕ → Option (List ℕ)) (left : F → Option (List ℕ)) where
  -- these files were read, of each input the first ones
  pub record Reads (old new : Files S F) (read : List ReadFile) : Type 0 where
    pub request : new.request.now ≡ old.request.now
    pub system : new.system.ghost_name ≡ old.system.ghost_name
    pub bytes : bytes_of new.system.now ≡ bytes_of old.system.now
    pub called : calls_of new.system.now
        ≡ and_then (calls_of old.system.now) (flat_map (calls_for old.request.now) read)
    pub texts : All (λ file. Says file.entry.known file.text) read
    pub first : (from : Input) → of_input from (entries_in bytes_of left old)
        ≡ of_input from (map (λ file. file.entry) read)
        ++ of_input from (entries_in bytes_of left new)

  reads_none : (old : Files S F) → Reads old old []
  reads_none old = record {
    request = refl;
    system = refl;
    bytes = refl;
    called = and_then-none (calls_of old.system.now);
    texts = All-nil (λ (file : ReadFile). Says file.entry.known file.text);
    first = λ from. refl;
  }

  module _ (from : Input) (old next new : Files S F)
      (one : ReadsOne calls_of bytes_of left from old next) (read : List ReadFile) (more : Reads next new read) where
    abbrev entries : List Entry
    entries = entries_in bytes_of left old

    called_more : (calls : List Call)
        → calls_of next.system.now ≡ and_then (calls_of old.system.now) calls
        → calls_of new.system.now ≡ and_then (calls_of old.system.now)
        (calls ++ flat_map (calls_for old.request.now) read)
    called_more calls first =
        more.called
        ∙ ap (λ (r : Request). and_then (calls_of next.system.now) (flat_map (calls_for r) read))
        one.request
        ∙ ap (λ k. and_then k (flat_map (calls_for old.request.now) read)) first
        ∙ and_then-more (calls_of old.system.now) calls (flat_map (calls_for old.request.now) read)

    -- one file was read before them, or none
    reads_more : (taken : Option Entry) → first_among (of_input from entries) ≡ taken
        → AsksFor old.request.now taken (calls_of old.system.now) (calls_of next.system.now)
        → (all : List ReadFile) × Reads old new all
    reads_more None none asks = (
      read,
      record {
        request = more.request ∙ one.request;
        system = more.system ∙ one.system;
        bytes = more.bytes ∙ one.bytes;
        called = called_more [] (asks ∙ and_then-none (calls_of old.system.now));
        texts = more.texts;
        first = λ other. ap (of_input other)
            (sym (one.entries ∙ without_none from entries none)) ∙ more.first other;
      },
    )
    reads_more (Some entry) is (text, is_whole, said, asks) = (
      record { entry = entry; text = text; is_whole = is_whole } ∷ read,
      record {
        request = more.request ∙ one.request;
        system = more.system ∙ one.system;
        bytes = more.bytes ∙ one.bytes;
        called = called_more _ asks;
        texts = All-cons (λ (file : ReadFile). Says file.entry.known file.text) _ read said
            more.texts;
        first = λ other. of_input-parts from other entries entry is
            ∙ ap (λ l. of_input other (entry ∷ []) ++ l)
            (ap (of_input other) (sym one.entries) ∙ more.first other)
            ∙ sym (append_assoc (of_input other (entry ∷ [])) _ _)
            ∙ ap (λ l. l ++ of_input other (entries_in bytes_of left new))
            (sym (filtered other entry (map (λ file. file.entry) read)));
      },
    )
      where
        filtered : (other : Input) (first : Entry) (rest : List Entry)
            → of_input other (first ∷ rest)
            ≡ of_input other (first ∷ []) ++ of_input other rest
        filtered other first rest = go (is_same_input first.file.0 other)
          where
            go : (here : Bool) → (if here then first ∷ of_input other rest else of_input other rest)
                ≡ (if here then first ∷ [] else []) ++ of_input other rest
            go true = refl
            go false = refl

  -- all readings together
  pub reads_all : (inputs : List Input) (old new : Files S F)
      → AreRead (ReadsOne calls_of bytes_of left) inputs old new
      → (read : List ReadFile) × Reads old new read
  reads_all [] old new same =
      ([], subst (λ files. Reads old files []) (sym same) (reads_none old))
  reads_all (from ∷ inputs) old new (next, one, more) =
      let (read, rest) = reads_all inputs next new more in
      reads_more from old next new one read rest _ refl one.asks
