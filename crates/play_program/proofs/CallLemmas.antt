-- Calls of the system one after another, and files that are opened by them.
use Rattle.std.proofs.Common.{ap₂, Bool, ◌≡◌, ◌<◌, ◌+◌, ℕ, List, [], ◌∷◌, ◌++◌, None, Some, Option}
use Rattle.std.proofs.Common.{drop, take, append-nil, append_assoc, ap, get_or, length, map, refl}
use Rattle.std.proofs.Common.{subst, sym, ◌∙◌}
use Rattle.play_program.specs.Sources.{Stops, Entry, is_first, opening}
use Rattle.std.specs.Prelude.{Contains, if◌then◌else◌, true, ◌⊎◌}
use Rattle.std.proofs.lemmas.List.{drop_more, get_or-map, length-map, map-append, take-append-drop}
use Rattle.std.proofs.lemmas.List.{take_more}
use Rattle.std.proofs.lemmas.List.Concat.{flat_map-append}
use Rattle.std.proofs.lemmas.List.Elements.{Contains-get_or}
use Rattle.play_command.specs.Asked.{named_file}
use Rattle.play_command.specs.declared.line.Input.{Input}
use Rattle.play_command.specs.declared.line.NamedFile.{NamedFile}
use Rattle.play_command.specs.declared.line.What.{What}
use Rattle.play_program.specs.Calls.{Call, Told, and_then, out_of_memory}
use Rattle.play_program.specs.Calls.Told.{unopened}
use Rattle.std.specs.declared.io.Error.{Error}
use Rattle.play_program.specs.Files.{FileName}
use Rattle.play_program.specs.Calls.Call.{Opens}

-- a file that stands for one that isn't there
abbrev pub no_file : NamedFile
no_file = record { input = Input.Cave; name = record { ref_ptr = (0, 0); now = [] } }

-- no further call
pub and_then-none : (known : Option (List Call)) → known ≡ and_then known []
and_then-none None = refl
and_then-none (Some calls) = ap (λ l. Some l) (sym (append-nil calls))

-- calls after calls
pub and_then-more : (known : Option (List Call)) (first more : List Call)
    → and_then (and_then known first) more ≡ and_then known (first ++ more)
and_then-more None first more = refl
and_then-more (Some calls) first more = ap (λ l. Some l) (append_assoc calls first more)

-- a file among others is named among them
pub Contains-named : (files : List NamedFile) (i : ℕ) (d : NamedFile) → i < length files
    → Contains (map named_file files) (named_file (get_or files i d))
Contains-named files i d inside =
    subst (Contains (map named_file files)) (get_or-map named_file files i d (named_file d) inside)
    (Contains-get_or (map named_file files) i (named_file d)
    (subst (λ n. i < n) (sym (length-map files named_file)) inside))

abbrev entry_with : FileName → Option (List ℕ) → Bool → Entry
entry_with file known is_open = record { file = file; known = known; is_open = is_open }

pub same_entry : (file : FileName) (one other : Option (List ℕ)) (here there : Bool) → one ≡ other
    → here ≡ there → entry_with file one here ≡ entry_with file other there
same_entry file one other here there known is_open = ap₂ (entry_with file) known is_open

module _ (what : What) where
  -- one file can't be opened
  pub stopped-at : (file : FileName) (a c : Option (List Call)) (said : Told)
      → is_first what file.0 ≡ true → c ≡ and_then a (Opens file.1 ∷ [])
      → (said ≡ out_of_memory)
      ⊎ ((is_first what file.0 ≡ true) × ((reason : Error) × (said ≡ unopened file.1 reason)))
      → Stops what (file ∷ []) a c said
  stopped-at file a c said first calls stopped = (
    [],
    file,
    [],
    refl,
    calls ∙ ap (λ is. and_then a ((if is then Opens file.1 ∷ [] else []) ++ [])) (sym first),
    stopped,
  )

  -- some files were opened, and then others
  pub opened-more : (xs ys : List FileName) (a b c : Option (List Call))
      → b ≡ and_then a (opening what xs) → c ≡ and_then b (opening what ys)
      → c ≡ and_then a (opening what (xs ++ ys))
  opened-more xs ys a b c first second =
      second ∙ ap (λ k. and_then k (opening what ys)) first
      ∙ and_then-more a (opening what xs) (opening what ys)
      ∙ ap (and_then a) (sym (flat_map-append
      (λ (file : FileName). if is_first what file.0 then Opens file.1 ∷ [] else []) xs ys))

  -- some files were opened, and then one of others couldn't be
  stops-within : (done files rest : List FileName) (a b c : Option (List Call)) (said : Told)
      → b ≡ and_then a (opening what done) → Stops what files b c said
      → Stops what (done ++ (files ++ rest)) a c said
  stops-within done files rest a b c said first (before, last, after, files_are, calls, stopped) = (
    done ++ before,
    last,
    after ++ rest,
    ap (λ l. done ++ (l ++ rest)) files_are
        ∙ ap (λ l. done ++ l) (append_assoc before (last ∷ after) rest)
        ∙ sym (append_assoc done before (last ∷ (after ++ rest))),
    opened-more done (before ++ last ∷ []) a b c first calls
        ∙ ap (λ l. and_then a (opening what l)) (sym (append_assoc done before (last ∷ []))),
    stopped,
  )

  module _ (files : List NamedFile) (place : ℕ) (d : NamedFile) (inside : place < length files)
      (a b c : Option (List Call))
      (first : b ≡ and_then a (opening what (map named_file (take place files)))) where
    -- the files before a place were opened, and then the one at the place
    pub opened-next : c ≡ and_then b (opening what (named_file (get_or files place d) ∷ []))
        → c ≡ and_then a (opening what (map named_file (take (place + 1) files)))
    opened-next second =
        opened-more (map named_file (take place files)) (named_file (get_or files place d) ∷ [])
        a b c first second
        ∙ ap (λ l. and_then a (opening what l))
        (sym (map-append named_file (take place files) (get_or files place d ∷ []))
        ∙ ap (map named_file) (sym (take_more files place d inside)))

    -- or that one couldn't be
    pub stopped-next : (said : Told) → Stops what (named_file (get_or files place d) ∷ []) b c said
        → Stops what (map named_file files) a c said
    stopped-next said stops =
        let all = ap (map named_file) (sym (take-append-drop place files)
        ∙ ap (λ l. take place files ++ l) (drop_more files place d inside))
        ∙ map-append named_file (take place files)
        (get_or files place d ∷ drop (place + 1) files) in
        subst (λ l. Stops what l a c said) (sym all)
        (stops-within (map named_file (take place files))
        (named_file (get_or files place d) ∷ []) (map named_file (drop (place + 1) files)) a b c said
        first stops)
