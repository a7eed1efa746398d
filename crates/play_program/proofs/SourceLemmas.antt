-- What the files of a run still have after one of them was read.
use Rattle.std.proofs.Common.{◌≡◌, ℕ, Bool, true, false, List, [], ◌∷◌, ◌++◌, None, Some, ap, drop}
use Rattle.std.proofs.Common.{map, refl, subst, sym, ◌∙◌}
use Rattle.std.proofs.lemmas.Bool.{false≢true}
use Rattle.std.specs.Prelude.{if◌then◌else◌}
use Rattle.cave_play.specs.Sources.{Says, IsTaken, held_for, next_log}
use Rattle.play_command.specs.declared.line.Input.{Input}
use Rattle.play_program.specs.Files.{is_same_input}
use Rattle.play_program.specs.Sources.{Entry, first_among, first_known, held_of, missing_text}
use Rattle.play_program.specs.Sources.{of_input, without_first}

-- ---- inputs

pub same_inputs : (one other : Input) → is_same_input one other ≡ true → one ≡ other
same_inputs Input.Cave Input.Cave same = refl
same_inputs Input.Bindings Input.Bindings same = refl
same_inputs Input.Log Input.Log same = refl
same_inputs Input.NewLog Input.NewLog same = refl
same_inputs Input.Script Input.Script same = refl
same_inputs Input.Known Input.Known same = refl
same_inputs _ _ same = absurd (false≢true same)

-- ---- the files of an input

some_same : {A : Type 0} {one other : A} → Some one ≡ Some other → one ≡ other
some_same is = cc

module _ (one other : Input) (apart : is_same_input one other ≡ false) where
  other_first : (here : Bool) (entry : Entry) (entries : List Entry)
      → is_same_input entry.file.0 one ≡ here
      → of_input other (without_first one entries) ≡ of_input other entries
      → of_input other (if here then entries else entry ∷ without_first one entries)
      ≡ of_input other (entry ∷ entries)
  other_first true entry entries same rest =
      let is_other = ap (λ (from : Input). is_same_input from other)
      (same_inputs entry.file.0 one same) ∙ apart in
      sym (ap (λ there. if there then entry ∷ of_input other entries else of_input other entries)
      is_other)
  other_first false entry entries same rest =
      ap (λ left. if is_same_input entry.file.0 other then entry ∷ left else left) rest

  -- those of another input stay
  pub of_input-other : (entries : List Entry)
      → of_input other (without_first one entries) ≡ of_input other entries
  of_input-other [] = refl
  of_input-other (entry ∷ entries) =
      other_first (is_same_input entry.file.0 one) entry entries refl (of_input-other entries)

module _ (from : Input) where
  first_taken : (here : Bool) (entry found : Entry) (entries : List Entry)
      → is_same_input entry.file.0 from ≡ here
      → first_among (if here then entry ∷ of_input from entries else of_input from entries)
      ≡ Some found
      → (first_among (of_input from entries) ≡ Some found
      → (is_same_input found.file.0 from ≡ true)
      × (of_input from entries ≡ found ∷ of_input from (without_first from entries)))
      → (is_same_input found.file.0 from ≡ true)
      × ((if here then entry ∷ of_input from entries else of_input from entries)
      ≡ found ∷ of_input from (if here then entries else entry ∷ without_first from entries))
  first_taken true entry found entries same is rest = (
    subst (λ (e : Entry). is_same_input e.file.0 from ≡ true) (some_same is) same,
    ap (λ e. e ∷ of_input from entries) (some_same is),
  )
  first_taken false entry found entries same is rest =
      let later = rest is in (
        later.0,
        later.1
            ∙ sym (ap (λ there. found ∷ (if there
            then entry ∷ of_input from (without_first from entries)
            else of_input from (without_first from entries))) same),
      )

  -- the first is the one that is taken
  pub of_input-taken : (entries : List Entry) (found : Entry)
      → first_among (of_input from entries) ≡ Some found
      → (is_same_input found.file.0 from ≡ true)
      × (of_input from entries ≡ found ∷ of_input from (without_first from entries))
  of_input-taken [] found is = cc
  of_input-taken (entry ∷ entries) found is =
      first_taken (is_same_input entry.file.0 from) entry found entries refl is
      (of_input-taken entries found)

  none_first : (here : Bool) (entry : Entry) (entries : List Entry)
      → first_among (if here then entry ∷ of_input from entries else of_input from entries) ≡ None
      → (first_among (of_input from entries) ≡ None → without_first from entries ≡ entries)
      → (if here then entries else entry ∷ without_first from entries) ≡ entry ∷ entries
  none_first true entry entries none rest = cc
  none_first false entry entries none rest = ap (λ l. entry ∷ l) (rest none)

  -- or there is none
  pub without_none : (entries : List Entry) → first_among (of_input from entries) ≡ None
      → without_first from entries ≡ entries
  without_none [] none = refl
  without_none (entry ∷ entries) none =
      none_first (is_same_input entry.file.0 from) entry entries none (without_none entries)

-- of each input the first files are those that were taken
pub of_input-parts : (from other : Input) (entries : List Entry) (found : Entry)
    → first_among (of_input from entries) ≡ Some found
    → of_input other entries
    ≡ of_input other (found ∷ []) ++ of_input other (without_first from entries)
of_input-parts from other entries found is = by_input (is_same_input from other) refl
  where
    taken : (is_same_input found.file.0 from ≡ true)
        × (of_input from entries ≡ found ∷ of_input from (without_first from entries))
    taken = of_input-taken from entries found is

    by_input : (same : Bool) → is_same_input from other ≡ same
        → of_input other entries
        ≡ of_input other (found ∷ []) ++ of_input other (without_first from entries)
    by_input true same =
        subst (λ (o : Input). of_input o entries
        ≡ of_input o (found ∷ []) ++ of_input o (without_first from entries))
        (same_inputs from other same)
        (taken.1 ∙ ap (λ here. (if here then found ∷ [] else [])
        ++ of_input from (without_first from entries)) (sym taken.0))
    by_input false apart =
        sym (of_input-other from other apart entries)
        ∙ ap (λ here. (if here then found ∷ [] else []) ++ of_input other (without_first from entries))
        (sym (ap (λ (o : Input). is_same_input o other) (same_inputs found.file.0 from taken.0)
        ∙ apart))

-- ---- what a run has

first_known-found : (missing : List ℕ) (entries : List Entry) (found : Entry)
    → first_among entries ≡ Some found → first_known missing entries ≡ found.known
first_known-found missing [] found is = cc
first_known-found missing (entry ∷ entries) found is =
    ap (λ (e : Entry). e.known) (some_same is)

next_log-found : (entries : List Entry) (found : Entry) → first_among entries ≡ Some found
    → next_log (map (λ (e : Entry). e.known) entries) ≡ found.known
next_log-found [] found is = cc
next_log-found (entry ∷ entries) found is = ap (λ (e : Entry). e.known) (some_same is)

emptied : (entries : List Entry) → first_among entries ≡ None → entries ≡ []
emptied [] none = refl
emptied (entry ∷ entries) none = cc

module _ (typed : List ℕ) (entries : List Entry) where
  -- the first file of an input has what is known of it
  pub held_for-first : (from : Input) (found : Entry)
      → first_among (of_input from entries) ≡ Some found
      → held_for from (held_of typed entries) ≡ found.known
  held_for-first Input.Cave found is = first_known-found [] _ found is
  held_for-first Input.Bindings found is = first_known-found [] _ found is
  held_for-first Input.Log found is = next_log-found _ found is
  held_for-first Input.NewLog found is = first_known-found [] _ found is
  held_for-first Input.Script found is = first_known-found typed _ found is
  held_for-first Input.Known found is = first_known-found [] _ found is

  module _ (from : Input) where
    -- what is known of another input is as before
    k : (missing : List ℕ) (other : Input) → is_same_input from other ≡ false
        → first_known missing (of_input other (without_first from entries))
        ≡ first_known missing (of_input other entries)
    k missing other apart = ap (first_known missing) (of_input-other from other apart entries)

    l : is_same_input from Input.Log ≡ false
        → map (λ (e : Entry). e.known) (of_input Input.Log (without_first from entries))
        ≡ map (λ (e : Entry). e.known) (of_input Input.Log entries)
    l apart = ap (map (λ (e : Entry). e.known)) (of_input-other from Input.Log apart entries)

  -- so are the others once one was read
  pub IsTaken-first : (from : Input) (found : Entry)
      → first_among (of_input from entries) ≡ Some found
      → IsTaken from (held_of typed entries) (held_of typed (without_first from entries))
  IsTaken-first Input.Cave found is = record {
    others = λ i. record {
      cave = None;
      bindings = k Input.Cave [] Input.Bindings refl i;
      logs = l Input.Cave refl i;
      new_log = k Input.Cave [] Input.NewLog refl i;
      script = k Input.Cave typed Input.Script refl i;
      known = k Input.Cave [] Input.Known refl i;
    };
    logs = l Input.Cave refl;
  }
  IsTaken-first Input.Bindings found is = record {
    others = λ i. record {
      cave = k Input.Bindings [] Input.Cave refl i;
      bindings = None;
      logs = l Input.Bindings refl i;
      new_log = k Input.Bindings [] Input.NewLog refl i;
      script = k Input.Bindings typed Input.Script refl i;
      known = k Input.Bindings [] Input.Known refl i;
    };
    logs = l Input.Bindings refl;
  }
  IsTaken-first Input.Log found is = record {
    others = λ i. record {
      cave = k Input.Log [] Input.Cave refl i;
      bindings = k Input.Log [] Input.Bindings refl i;
      logs = [];
      new_log = k Input.Log [] Input.NewLog refl i;
      script = k Input.Log typed Input.Script refl i;
      known = k Input.Log [] Input.Known refl i;
    };
    logs = sym (ap (λ logs. drop 1 (map (λ (e : Entry). e.known) logs))
        (of_input-taken Input.Log entries found is).1);
  }
  IsTaken-first Input.NewLog found is = record {
    others = λ i. record {
      cave = k Input.NewLog [] Input.Cave refl i;
      bindings = k Input.NewLog [] Input.Bindings refl i;
      logs = l Input.NewLog refl i;
      new_log = None;
      script = None;
      known = None;
    };
    logs = l Input.NewLog refl;
  }
  IsTaken-first Input.Script found is = record {
    others = λ i. record {
      cave = k Input.Script [] Input.Cave refl i;
      bindings = k Input.Script [] Input.Bindings refl i;
      logs = l Input.Script refl i;
      new_log = None;
      script = None;
      known = None;
    };
    logs = l Input.Script refl;
  }
  IsTaken-first Input.Known found is = record {
    others = λ i. record {
      cave = k Input.Known [] Input.Cave refl i;
      bindings = k Input.Known [] Input.Bindings refl i;
      logs = l Input.Known refl i;
      new_log = None;
      script = None;
      known = None;
    };
    logs = l Input.Known refl;
  }

  -- an input without a file
  pub Says-missing : (from : Input) (bytes : List ℕ) → first_among (of_input from entries) ≡ None
      → bytes ≡ missing_text typed from → Says (held_for from (held_of typed entries)) bytes
  Says-missing Input.Cave bytes none said =
      subst (λ l. Says (first_known [] l) bytes) (sym (emptied _ none)) said
  Says-missing Input.Bindings bytes none said =
      subst (λ l. Says (first_known [] l) bytes) (sym (emptied _ none)) said
  Says-missing Input.Log bytes none said =
      subst (λ l. Says (next_log (map (λ (e : Entry). e.known) l)) bytes) (sym (emptied _ none)) tt
  Says-missing Input.NewLog bytes none said =
      subst (λ l. Says (first_known [] l) bytes) (sym (emptied _ none)) said
  Says-missing Input.Script bytes none said =
      subst (λ l. Says (first_known typed l) bytes) (sym (emptied _ none)) said
  Says-missing Input.Known bytes none said =
      subst (λ l. Says (first_known [] l) bytes) (sym (emptied _ none)) said

  pub IsTaken-missing : (from : Input) → first_among (of_input from entries) ≡ None
      → IsTaken from (held_of typed entries) (held_of typed entries)
  IsTaken-missing Input.Log none = record {
    others = refl;
    logs = ap (map (λ (e : Entry). e.known)) (emptied _ none)
        ∙ sym (ap (λ l. drop 1 (map (λ (e : Entry). e.known) l)) (emptied _ none));
  }
  IsTaken-missing Input.Cave none = record { others = refl; logs = refl }
  IsTaken-missing Input.Bindings none = record { others = refl; logs = refl }
  IsTaken-missing Input.NewLog none = record { others = refl; logs = refl }
  IsTaken-missing Input.Script none = record { others = refl; logs = refl }
  IsTaken-missing Input.Known none = record { others = refl; logs = refl }
