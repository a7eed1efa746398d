-- What the inputs of a run still have after some of them were read.
use Rattle.std.proofs.Common.{◌≡◌, ℕ, List, [], ◌∷◌, None, Some, refl, ap, drop, subst, ◌∙◌}
use Rattle.std.specs.declared.option.Option.{Option}
use Rattle.cave_play.specs.Sources.{AreRead, AreReadersOf, Leads, held_of, held_by}
use Rattle.cave_play.specs.Sources.{AreHeld, Held, IsTaken, next_log, IsOneLogOf, held_by_one}
use Rattle.cave_play.specs.Sources.{AreTextsOf, InputTexts, Says, without_cave}
use Rattle.cave_play.specs.declared.inputs.CaveReaders.{CaveReaders}
use Rattle.cave_play.specs.declared.inputs.Inputs.{Inputs}
use Rattle.cave_play.specs.declared.inputs.OneLog.{OneLog}
use Rattle.cave_play.specs.declared.inputs.Readers.{Readers}
use Rattle.std.specs.Prelude.{if◌then◌else◌}
use Rattle.play_command.specs.declared.line.Input.{Input}

-- ---- the inputs that weren't read

pub after_database : (old mid : Held) → IsTaken Input.Cave old mid
    → without_cave mid ≡ without_cave old
after_database old mid taken = ap (λ (held : Held). record held { bindings = None }) taken.others

pub after_bindings : (old mid new : Held) → IsTaken Input.Cave old mid
    → IsTaken Input.Bindings mid new → without_cave new ≡ without_cave old
after_bindings old mid new first second =
    ap (λ (held : Held). record held { cave = None }) second.others
    ∙ after_database old mid first

-- what one of them says, once others were read
pub same_bindings : (old mid : Held) (bytes : List ℕ) → IsTaken Input.Cave old mid
    → Says mid.bindings bytes → Says old.bindings bytes
same_bindings old mid bytes taken said =
    subst (λ known. Says known bytes) (ap (λ (held : Held). held.bindings) taken.others) said

pub same_said : (old new : Option (List ℕ)) (bytes : List ℕ) → new ≡ old → Says new bytes
    → Says old bytes
same_said old new bytes same said = subst (λ known. Says known bytes) same said

pub same_script_after_log : (old new : Held) (bytes : List ℕ) → IsTaken Input.Log old new
    → Says new.script bytes → Says old.script bytes
same_script_after_log old new bytes taken said =
    subst (λ known. Says known bytes) (ap (λ (held : Held). held.script) taken.others) said

pub same_new_log : (old new : Held) (bytes : List ℕ) → IsTaken Input.Log old new
    → Says new.new_log bytes → Says old.new_log bytes
same_new_log old new bytes taken said =
    subst (λ known. Says known bytes) (ap (λ (held : Held). held.new_log) taken.others) said

-- two logs were read, and what is known of a cave is as before
pub same_cave : (old mid new : Held) → IsTaken Input.Log old mid → IsTaken Input.NewLog mid new
    → new.cave ≡ old.cave
same_cave old mid new first second =
    ap (λ (held : Held). held.cave) second.others ∙ ap (λ (held : Held). held.cave) first.others

pub same_cave_bindings : (old mid new : Held) → IsTaken Input.Log old mid
    → IsTaken Input.NewLog mid new → new.bindings ≡ old.bindings
same_cave_bindings old mid new first second =
    ap (λ (held : Held). held.bindings) second.others
    ∙ ap (λ (held : Held). held.bindings) first.others

-- ---- readings

pub stays : {I : Type 0} (reads : Input → I → I → Type 0) (one : I) → Leads reads one one
stays reads one = ([], refl)

pub once : {I : Type 0} (reads : Input → I → I → Type 0) (from : Input) (one next : I)
    → reads from one next → Leads reads one next
once reads from one next is = (from ∷ [], (next, is, refl))

pub ruleset readings = (stays, once)

after_all : {I : Type 0} (reads : Input → I → I → Type 0) (inputs : List Input) (one next last : I)
    → AreRead reads inputs one next → Leads reads next last → Leads reads one last
after_all reads [] one next last same rest = subst (λ i. Leads reads i last) same rest
after_all reads (input ∷ inputs) one next last (mid, is, more) rest =
    let later = after_all reads inputs mid next last more rest in
    (input ∷ later.0, (mid, is, later.1))

pub goes_on : {I : Type 0} (reads : Input → I → I → Type 0) (one next last : I)
    → Leads reads one next → Leads reads next last → Leads reads one last
goes_on reads one next last (inputs, first) rest = after_all reads inputs one next last first rest

-- ---- texts

-- some bytes that an input has
abbrev pub some_bytes : Option (List ℕ) → List ℕ
some_bytes None = []
some_bytes (Some known) = known

pub said : (known : Option (List ℕ)) → Says known (some_bytes known)
said None = tt
said (Some known) = refl

-- texts that the inputs have, if these are those of the cave
abbrev pub texts_by : Held → List ℕ → List ℕ → InputTexts
texts_by held database bindings = record {
  database = database;
  bindings = bindings;
  log = some_bytes (next_log held.logs);
  new_log = some_bytes held.new_log;
  script = some_bytes held.script;
  known = some_bytes held.known;
}

pub AreHeld-by : (held : Held) (database bindings : List ℕ)
    → Says held.cave database → Says held.bindings bindings
    → AreHeld held (texts_by held database bindings)
AreHeld-by held database bindings one two = record {
  database = one;
  bindings = two;
  log = said (next_log held.logs);
  new_log = said held.new_log;
  script = said held.script;
  known = said held.known;
}

-- some texts that the inputs have
abbrev pub some_texts : Held → InputTexts
some_texts held = texts_by held (some_bytes held.cave) (some_bytes held.bindings)

pub AreHeld-some : (held : Held) → AreHeld held (some_texts held)
AreHeld-some held = AreHeld-by held _ _ (said held.cave) (said held.bindings)

-- ---- readers before anything is read

module _ {C B L S : Type 0} (left_database : C → Option (List ℕ))
    (left_bindings : B → Option (List ℕ)) (left_log : L → Option (List ℕ))
    (left_script : S → Option (List ℕ)) where
  pub held_first : (cave : CaveReaders C B) (logs : List L) (script : S)
      (readers : Readers C B L S) → AreReadersOf cave logs script readers
      → held_by left_database left_bindings left_log left_script readers
      ≡ held_of left_database left_bindings left_log left_script cave logs script
  held_first cave logs script readers are =
      ap (λ n. held_of left_database left_bindings left_log left_script readers.cave.now
      (drop n readers.logs.now) readers.script.now) are.unread
      ∙ (λ i. held_of left_database left_bindings left_log left_script (are.cave_is i)
      (are.logs_are i) (are.script_is i))

  -- the texts of a run over one log
  pub AreTextsOf-held : (inputs : Inputs C B L S) (readers : OneLog C B L S)
      → IsOneLogOf inputs readers → (texts : InputTexts)
      → AreHeld (held_by_one left_database left_bindings left_log left_script readers) texts
      → AreTextsOf left_database left_bindings left_log left_script inputs texts
  AreTextsOf-held inputs readers (same_inputs, unread) texts are =
      let first = ap (λ n. held_of left_database left_bindings left_log left_script
      readers.inputs.now.cave (if n then [] else readers.inputs.now.log ∷ [])
      readers.inputs.now.script) unread
      ∙ ap (λ (i : Inputs C B L S). held_of left_database left_bindings left_log left_script i.cave
      (i.log ∷ []) i.script) same_inputs in
      subst (λ h. AreHeld h texts) first are
