-- The cave that tables and bindings make is the one that the inputs describe, and they describe no
-- other.
use Rattle.std.proofs.Common.{◌≡◌, inl, inr, ℕ, Bool, true, false, cond, ltb, List, [], ◌∷◌}
use Rattle.std.proofs.Common.{◌++◌, length, map, Option, Some, None, Result, Ok, Err}
use Rattle.std.proofs.Common.{unwrap_or, refl, sym, ap, subst, ◌∙◌}
use Rattle.std.specs.Option.{option_or}
use Rattle.std.specs.Result.{IfOk, IfErr, MatchResult}
use Rattle.std.specs.Str.Lines.{lines}
use Rattle.std.specs.Ordering.{nat_cmp}
use Rattle.std.specs.Cmp.{nat_cmp_total}
use Rattle.std.specs.FinMap as fin
use Rattle.std.proofs.lemmas.Bool.{ltb-false, le-ltb}
use Rattle.std.proofs.lemmas.List.{append_assoc, append-nil}
use Rattle.base_lines.specs.Limits.{MAX_INPUT_BYTES}
use Rattle.data_rows.specs.declared.error.FaultSite.TheVariants as site
use Rattle.data_rows.specs.declared.error.CaveError.{CaveError}
use Rattle.data_rows.specs.declared.position.Position.TheVariants.{Outside}
use Rattle.cave_data.specs.declared.reader.Tables.{Tables}
use Rattle.cave_data.specs.declared.bindings.Bindings.{Bindings}
use Rattle.cave_data.specs.CaveView.{CaveView}
use Rattle.cave_data.specs.Printing.{printed_class}
use Rattle.data_rows.specs.Rows.{Entry, TextLine}
use Rattle.data_rows.specs.Grammar.{entries}
use Rattle.cave_data.specs.Steps.{line_cause, fault_after, first_fault, bindings_from, tables_of}
use Rattle.cave_data.specs.Steps.{class_of_line}
use Rattle.cave_data.specs.Database.{printed_class_of_line, AreValidTogether, IsDatabase, Holds}
use Rattle.data_rows.specs.BindingLines.{bindings_of}
use Rattle.cave_data.specs.Bindings.{default_place}
use Rattle.cave_data.specs.Faults.{first_binding_fault, FaultIs, no_memory}
use Rattle.cave_data.specs.Cave.{Finished}
use Rattle.cave_data.specs.Reads.{AreBindings, AreValidInputs, IsDescribed, Reads, fault}
use Rattle.cave_data.specs.Reads.{too_large_input}
use Rattle.cave_data.proofs.PartLemmas.{long_after, short_after, messages_after, objects_after}
use Rattle.cave_data.proofs.PartLemmas.{travel_after, words_after, classes_after, placements_after}
use Rattle.cave_data.proofs.PartLemmas.{defaults_after, conditions_after, hints_after}
use Rattle.cave_data.proofs.BindingLemmas.{roles_bound, places_bound, letters_bound}
use Rattle.cave_data.proofs.CaveLemmas.{get-with_defaults}
use Rattle.cave_data.specs.Laws.{Laws, KeepsLaws}
use Rattle.cave_data.proofs.LawLemmas.{laws_hold}
use Rattle.cave_data.proofs.RightLemmas.{neither, line_together, none_together}
use Rattle.cave_data.proofs.GrammarLemmas.{rows_known, rows_faultless, no_cause, faultless_rows}
use Rattle.cave_data.proofs.BindingRows.{bindings_known, bindings_without_fault, faultless_bindings}
use Rattle.data_rows.specs.declared.binding.Binding.{Binding}

-- rows that are valid together stay valid if lines without a cause follow
together_after : (before ls : List (List ℕ)) → first_fault before ls ≡ None
    → AreValidTogether (entries before) → AreValidTogether (entries (before ++ ls))
together_after before [] e may =
    subst (λ b. AreValidTogether (entries b)) (sym (append-nil before)) may
together_after before (line ∷ ls) e may =
    let parts = no_cause (line_cause before line) (fault_after before) _ e in
    subst (λ b. AreValidTogether (entries b)) (append_assoc before (line ∷ []) ls)
    (together_after (before ++ line ∷ []) ls parts.1 (line_together before line parts.0 may))

database_right : (ls : List (List ℕ)) → first_fault [] ls ≡ None → IsDatabase ls
database_right ls e = record {
  rows = entries ls;
  has_rows = faultless_rows ls e;
  together = together_after [] ls e none_together;
}

database_faultless : (ls : List (List ℕ)) → IsDatabase ls → first_fault [] ls ≡ None
database_faultless ls is = rows_faultless Outside ls is.rows is.has_rows [] refl is.together

bindings_right : (ls : List (List ℕ)) → first_binding_fault [] ls ≡ None → AreBindings ls
bindings_right ls e =
    let found = faultless_bindings ls e in
    record { bindings = bindings_of ls; has_bindings = found.0; anew = found.1 }

bindings_faultless : (ls : List (List ℕ)) → AreBindings ls → first_binding_fault [] ls ≡ None
bindings_faultless ls are = bindings_without_fault ls are.bindings are.has_bindings [] are.anew

-- The cave that was made.

classes_shown : (ls : List TextLine)
    → map printed_class (map class_of_line ls) ≡ map printed_class_of_line ls
classes_shown [] = refl
classes_shown (line ∷ ls) = ap (λ cs. printed_class_of_line line ∷ cs) (classes_shown ls)

holds : (rows : List Entry) (b : Bindings) (c : CaveView) → Finished (tables_of rows) b c
    → Holds rows c
holds rows b c made = record {
  long = λ n. made.long n ∙ long_after rows n;
  short = λ n. made.short n ∙ short_after rows n;
  travel = λ n. made.travel n ∙ travel_after rows n;
  words = made.words ∙ words_after rows;
  objects = λ n. made.objects n ∙ objects_after rows n;
  messages = λ n. made.messages n ∙ messages_after rows n;
  placements = λ n. ap (λ m. fin.get m n) made.placements ∙ placements_after rows n;
  defaults = λ n. ap (λ m. fin.get m n) made.defaults ∙ defaults_after rows n;
  conditions = λ n. ap (λ m. fin.get m n) made.conditions ∙ conditions_after rows n;
  classes = made.classes ∙ ap (map printed_class) (classes_after rows) ∙ classes_shown _;
  hints = λ n. ap (λ m. fin.get m n) made.hints ∙ hints_after rows n;
}

pub made_reads : (database bindings : List ℕ) (t : Tables) (b : Bindings) (c : CaveView)
    → ltb MAX_INPUT_BYTES (length database) ≡ false → ltb MAX_INPUT_BYTES (length bindings) ≡ false
    → first_fault [] (lines database) ≡ None → t ≡ tables_of (entries (lines database))
    → first_binding_fault [] (lines bindings) ≡ None
    → b ≡ bindings_from (bindings_of (lines bindings)) → Finished t b c → Reads database bindings c
unfolding database_right bindings_right
made_reads database bindings t b c small bindings_small right tables bindings_are_right are made =
    let made_of = subst (λ t'. Finished t' b c) tables made in
    record {
      right = record {
        small = ltb-false _ _ small;
        bindings_small = ltb-false _ _ bindings_small;
        is_database = database_right (lines database) right;
        are_bindings = bindings_right (lines bindings) bindings_are_right;
      };
      described = record {
        holds = holds (entries (lines database)) b c made_of;
        roles = λ n. ap (λ m. fin.get m n) (made.roles ∙ ap (λ x. x.roles) are)
            ∙ roles_bound (bindings_of (lines bindings)) n;
        places = λ n. ap (λ m. fin.get m n) made.places ∙ get-with_defaults b.places n
            ∙ ap (λ m. option_or (fin.get m n) (default_place n)) (ap (λ x. x.places) are)
            ∙ ap (λ o. option_or o (default_place n))
            (places_bound (bindings_of (lines bindings)) n);
        letters =
            made.letters
            ∙ ap (λ o. unwrap_or o 5) (ap (λ x. x.letters) are
            ∙ letters_bound (bindings_of (lines bindings)));
      };
    }

-- At most one cave is described.

same : {X : Type 0} (m n : fin.FinMap nat_cmp X) → ((q : ℕ) → fin.get m q ≡ fin.get n q) → m ≡ n
same m n alike = fin.same_map nat_cmp_total fin.nat_cmp-IsAntisymmetric m n alike

same_described : (rows : List Entry) (bindings : List Binding) (c d : CaveView)
    → IsDescribed rows bindings c → IsDescribed rows bindings d → d ≡ c
same_described rows bindings c d rc rd =
    let long = same d.long c.long (λ n. rd.holds.long n ∙ sym (rc.holds.long n)) in
    let short = same d.short c.short (λ n. rd.holds.short n ∙ sym (rc.holds.short n)) in
    let travel = same d.travel c.travel (λ n. rd.holds.travel n ∙ sym (rc.holds.travel n)) in
    let words = rd.holds.words ∙ sym rc.holds.words in
    let objects = same d.objects c.objects (λ n. rd.holds.objects n ∙ sym (rc.holds.objects n)) in
    let messages =
    same d.messages c.messages (λ n. rd.holds.messages n ∙ sym (rc.holds.messages n)) in
    let placements =
    same d.placements c.placements (λ n. rd.holds.placements n ∙ sym (rc.holds.placements n)) in
    let defaults =
    same d.defaults c.defaults (λ n. rd.holds.defaults n ∙ sym (rc.holds.defaults n)) in
    let conditions =
    same d.conditions c.conditions (λ n. rd.holds.conditions n ∙ sym (rc.holds.conditions n)) in
    let classes = rd.holds.classes ∙ sym rc.holds.classes in
    let hints = same d.hints c.hints (λ n. rd.holds.hints n ∙ sym (rc.holds.hints n)) in
    let roles = same d.roles c.roles (λ n. rd.roles n ∙ sym (rc.roles n)) in
    let places = same d.places c.places (λ n. rd.places n ∙ sym (rc.places n)) in
    let letters = rd.letters ∙ sym rc.letters in
    λ i. record {
      long = long i;
      short = short i;
      travel = travel i;
      words = words i;
      objects = objects i;
      messages = messages i;
      placements = placements i;
      defaults = defaults i;
      conditions = conditions i;
      classes = classes i;
      hints = hints i;
      roles = roles i;
      places = places i;
      letters = letters i;
    }

-- the rows and the bindings that are described are those that are read
described_read : (database bindings : List ℕ) (c : CaveView) → Reads database bindings c
    → IsDescribed (entries (lines database)) (bindings_of (lines bindings)) c
described_read database bindings c reads =
    subst (λ rows. IsDescribed rows (bindings_of (lines bindings)) c)
    (sym (rows_known Outside (lines database) reads.right.is_database.rows
    reads.right.is_database.has_rows))
    (subst (λ bs. IsDescribed reads.right.is_database.rows bs c)
    (sym (bindings_known (lines bindings) reads.right.are_bindings.bindings
    reads.right.are_bindings.has_bindings)) reads.described)

pub same_cave : (database bindings : List ℕ) (c d : CaveView) → Reads database bindings c
    → Reads database bindings d → d ≡ c
same_cave database bindings c d rc rd =
    same_described (entries (lines database)) (bindings_of (lines bindings)) c d
    (described_read database bindings c rc) (described_read database bindings d rd)

-- Faults.

-- the first fault of lines, if both inputs are small enough
abbrev fault_of_lines : List ℕ → List ℕ → Option CaveError
fault_of_lines database bindings =
    option_or (first_fault [] (lines database)) (first_binding_fault [] (lines bindings))

abbrev bindings_size_fault : Bool → Option CaveError
bindings_size_fault large = cond large (Some (too_large_input site.Bindings)) None

pub fault_database_large : (database bindings : List ℕ)
    → ltb MAX_INPUT_BYTES (length database) ≡ true
    → fault database bindings ≡ Some (too_large_input site.Database)
unfolding fault
fault_database_large database bindings e =
    let later = bindings_size_fault (ltb MAX_INPUT_BYTES (length bindings)) in
    ap (λ b. option_or (cond b (Some (too_large_input site.Database)) later)
    (fault_of_lines database bindings)) e

small_fault : (database bindings : List ℕ) → ltb MAX_INPUT_BYTES (length database) ≡ false
    → fault database bindings
    ≡ option_or (bindings_size_fault (ltb MAX_INPUT_BYTES (length bindings)))
    (fault_of_lines database bindings)
unfolding fault
small_fault database bindings e =
    let later = bindings_size_fault (ltb MAX_INPUT_BYTES (length bindings)) in
    ap (λ b. option_or (cond b (Some (too_large_input site.Database)) later)
    (fault_of_lines database bindings)) e

pub fault_bindings_large : (database bindings : List ℕ)
    → ltb MAX_INPUT_BYTES (length database) ≡ false → ltb MAX_INPUT_BYTES (length bindings) ≡ true
    → fault database bindings ≡ Some (too_large_input site.Bindings)
fault_bindings_large database bindings e b =
    small_fault database bindings e
    ∙ ap (λ v. option_or (bindings_size_fault v) (fault_of_lines database bindings)) b

both_small : (database bindings : List ℕ) → ltb MAX_INPUT_BYTES (length database) ≡ false
    → ltb MAX_INPUT_BYTES (length bindings) ≡ false
    → fault database bindings
    ≡ option_or (first_fault [] (lines database)) (first_binding_fault [] (lines bindings))
both_small database bindings e b =
    small_fault database bindings e
    ∙ ap (λ v. option_or (bindings_size_fault v) (fault_of_lines database bindings)) b

pub fault_in_database : (database bindings : List ℕ) (e : CaveError)
    → ltb MAX_INPUT_BYTES (length database) ≡ false → ltb MAX_INPUT_BYTES (length bindings) ≡ false
    → FaultIs e (first_fault [] (lines database)) → FaultIs e (fault database bindings)
fault_in_database database bindings e s b (inl h) = inl h
fault_in_database database bindings e s b (inr h) =
    inr (both_small database bindings s b
    ∙ ap (λ o. option_or o (first_binding_fault [] (lines bindings))) h)

pub fault_in_bindings : (database bindings : List ℕ) (e : CaveError)
    → ltb MAX_INPUT_BYTES (length database) ≡ false → ltb MAX_INPUT_BYTES (length bindings) ≡ false
    → first_fault [] (lines database) ≡ None
    → FaultIs e (first_binding_fault [] (lines bindings)) → FaultIs e (fault database bindings)
fault_in_bindings database bindings e s b right (inl h) = inl h
fault_in_bindings database bindings e s b right (inr h) =
    inr (both_small database bindings s b
    ∙ ap (λ o. option_or o (first_binding_fault [] (lines bindings))) right ∙ h)

right_faultless : (database bindings : List ℕ) → AreValidInputs database bindings
    → fault database bindings ≡ None
right_faultless database bindings right =
    both_small database bindings (le-ltb _ _ right.small) (le-ltb _ _ right.bindings_small)
    ∙ ap (λ o. option_or o (first_binding_fault [] (lines bindings)))
    (database_faultless (lines database) right.is_database)
    ∙ bindings_faultless (lines bindings) right.are_bindings

faultless_right : (database bindings : List ℕ) → fault database bindings ≡ None
    → AreValidInputs database bindings
faultless_right database bindings e =
    large (ltb MAX_INPUT_BYTES (length database)) refl (ltb MAX_INPUT_BYTES (length bindings))
    refl where
      large : (v : Bool) → ltb MAX_INPUT_BYTES (length database) ≡ v → (w : Bool)
          → ltb MAX_INPUT_BYTES (length bindings) ≡ w → AreValidInputs database bindings
      large true is w are = let told = fault_database_large database bindings is in cc
      large false is true are = let told = fault_bindings_large database bindings is are in cc
      large false is false are =
          let parts =
          neither (first_fault [] (lines database)) (first_binding_fault [] (lines bindings))
          (sym (both_small database bindings is are) ∙ e) in
          record {
            small = ltb-false _ _ is;
            bindings_small = ltb-false _ _ are;
            is_database = database_right (lines database) parts.0;
            are_bindings = bindings_right (lines bindings) parts.1;
          }

-- the inputs are right exactly if no size and no line of theirs is at fault
pub right_exactly : (database bindings : List ℕ)
    → (AreValidInputs database bindings → fault database bindings ≡ None)
    × (fault database bindings ≡ None → AreValidInputs database bindings)
right_exactly database bindings =
    (right_faultless database bindings, faultless_right database bindings)

-- if the inputs describe a cave, only memory can fail
pub only_memory : (database bindings : List ℕ) (c : CaveView) (e : CaveError)
    → Reads database bindings c → FaultIs e (fault database bindings) → e ≡ no_memory
only_memory database bindings c e reads (inl h) = h
only_memory database bindings c e reads (inr h) =
    let none = right_faultless database bindings reads.right in cc

-- what reading reports is what the relation requires
pub read_decides : (database bindings : List ℕ) (r : Result CaveView CaveError) (c : CaveView)
    → IfOk r (λ d. Reads database bindings d) → IfErr r (λ e. FaultIs e (fault database bindings))
    → Reads database bindings c
    → MatchResult r (λ d. d ≡ c) (λ e. e ≡ no_memory)
read_decides database bindings (Ok d) c found told reads =
    same_cave database bindings c d reads found
read_decides database bindings (Err e) c found told reads =
    only_memory database bindings c e reads told

pub read_laws : (database bindings : List ℕ) (r : Result CaveView CaveError)
    → IfOk r (λ c. Reads database bindings c) → IfOk r (λ c. KeepsLaws database c)
read_laws database bindings (Ok c) reads =
    λ rows has.
    let is = reads.right.is_database in
    let same : is.rows ≡ rows =
    sym (rows_known Outside (lines database) is.rows is.has_rows)
    ∙ rows_known Outside (lines database) rows has in
    subst (λ xs. Laws xs c) same
    (laws_hold is.rows c is.together.objects reads.described.holds)
read_laws database bindings (Err e) reads = tt
