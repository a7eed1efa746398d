-- Rules as rows: the first row that fits applies, and its effects follow one another.
use Rattle.std.specs.Prelude.{◌≡◌, ℕ, ◌+◌, Bool, true, ◌&&◌, if◌then◌else◌, List, [], ◌∷◌, Option}
use Rattle.std.specs.Prelude.{Some, None, length}
use Rattle.cave_data.specs.CaveView.{CaveView}
use Rattle.turn_scene.specs.declared.scene.Scene.{Scene as OpenScene}
use Rattle.turn_scene.specs.Bounds.{GoesOnSaying}
use Rattle.turn_scene.specs.Scene.{Scene, scene_of, cave_of, after_draw, after_row}
use Rattle.turn_scene.specs.declared.rules.Rules.{Rules}
use Rattle.cave_world.specs.declared.tables.RuleRow.{RuleRow}
use Rattle.cave_world.specs.declared.tables.Table.{Table}

-- what a rule is about, such as a command, in the scene in which it is played
pub record Deed (C : Type 0) : Type 0 where
  pub cave : CaveView
  pub about : C
  pub scene : Scene

-- the scene after a rule, and what follows
pub record Act (F : Type 0) : Type 0 where
  pub scene : Scene
  pub step : F

abbrev pub Test : Type 0 → Type 0
Test C = Deed C → Bool

abbrev pub Effect : Type 0 → Type 0
Effect C = Deed C → Deed C

-- an object by what it is in a deed; 0 is none
abbrev pub Thing : Type 0 → Type 0
Thing C = Deed C → ℕ

-- tests, a draw if there is one, effects, and what follows
pub record Row (C F : Type 0) : Type 0 where
  pub tests : List (Test C)
  pub draw : Option (Test C)
  pub effects : List (Effect C)
  pub end : Deed C → F

abbrev pub deed : {C : Type 0} → CaveView → C → Scene → Deed C
deed cave about p = record { cave = cave; about = about; scene = p }

abbrev pub act_of : {F : Type 0} → Scene → F → Act F
act_of p step = record { scene = p; step = step }

-- a row with what follows
abbrev pub row_then : {C F : Type 0} → List (Test C) → List (Effect C) → (Deed C → F) → Row C F
row_then tests effects end =
    record { tests = tests; draw = None; effects = effects; end = end }

-- a row with a draw, which is made if all tests hold, and decides whether the row applies
abbrev pub row_by_draw : {C F : Type 0} → List (Test C) → Test C → List (Effect C) → (Deed C → F)
    → Row C F
row_by_draw tests draw effects end =
    record { tests = tests; draw = Some draw; effects = effects; end = end }

-- the last row of a table, which applies if none before it does
abbrev pub otherwise_row : {C F : Type 0} → List (Effect C) → (Deed C → F) → Row C F
otherwise_row effects end = row_then [] effects end

abbrev pub otherwise_then : {C F : Type 0} → List (Effect C) → (Deed C → F) → List (Row C F)
otherwise_then effects end = otherwise_row effects end ∷ []

-- what follows, an object or a hint that is the same for any deed
abbrev pub always : {C F : Type 0} → F → Deed C → F
always step d = step

-- tests are made from the left, and none after one that fails
abbrev pub all_hold : {C : Type 0} → List (Test C) → Test C
all_hold [] d = true
all_hold (test ∷ tests) d = test d && all_hold tests d

abbrev pub fits_by : {C : Type 0} → List (Test C) → Option (Test C) → Test C
fits_by tests None d = all_hold tests d
fits_by tests (Some draw) d = all_hold tests d && draw d

-- all tests of a row hold, and then its draw does
abbrev pub fits : {C F : Type 0} → Row C F → Test C
fits r d = fits_by r.tests r.draw d

-- a draw moves the stream on, whichever way it falls
abbrev pub after_drawing : {C : Type 0} → Effect C
after_drawing d = record d { scene = after_draw d.scene }

abbrev pub after_trying_by : {C : Type 0} → List (Test C) → Option (Test C) → Effect C
after_trying_by tests None d = d
after_trying_by tests (Some draw) d = if all_hold tests d then after_drawing d else d

-- the deed after a row was tried
abbrev pub after_trying : {C F : Type 0} → Row C F → Effect C
after_trying r d = after_trying_by r.tests r.draw d

abbrev pub after_all : {C : Type 0} → List (Effect C) → Effect C
after_all [] d = d
after_all (effect ∷ effects) d = after_all effects (effect d)

abbrev pub act_of_row : {C F : Type 0} → Row C F → Deed C → Act F
act_of_row r d = let e = after_all r.effects d in act_of e.scene (r.end e)

-- it is noted that a row of a table applies
abbrev pub note_row : {C : Type 0} → Table → ℕ → Effect C
note_row table number d = record d { scene = after_row table number d.scene }

-- a row of a table that notes that it applies, before its effects
abbrev pub noted_row : {C F : Type 0} → Table → ℕ → Row C F → Row C F
noted_row table number r = record r { effects = note_row table number ∷ r.effects }

-- the rows of a table from a number on, each of which notes that it applies
abbrev pub noted_from : {C F : Type 0} → Table → ℕ → List (Row C F) → List (Row C F)
noted_from table number [] = []
noted_from table number (r ∷ rows) =
    noted_row table number r ∷ noted_from table (number + 1) rows

abbrev pub noted : {C F : Type 0} → Table → List (Row C F) → List (Row C F)
noted table rows = noted_from table 1 rows

-- what the first row that fits does, or what is done if none does
abbrev pub first_fitting_or : {C F : Type 0} → List (Row C F) → (Deed C → Act F) → Deed C → Act F
first_fitting_or [] or_else d = or_else d
first_fitting_or (r ∷ rows) or_else d =
    if fits r d then act_of_row r (after_trying r d)
    else first_fitting_or rows or_else (after_trying r d)

-- nothing is done, and anything may follow
abbrev pub nothing_but : {C F : Type 0} → (Deed C → F) → Deed C → Act F
nothing_but end d = act_of d.scene (end d)

-- a row that does nothing, and says what follows
abbrev pub answer_row : {C F : Type 0} → List (Test C) → (Deed C → F) → Row C F
answer_row tests end = row_then tests [] end

-- what the first row of a table that fits does, or the last row, with a note of which row it was
abbrev pub act_by_table : {C F : Type 0} → Table → List (Row C F) → Row C F → Deed C → Act F
act_by_table table rows last d =
    first_fitting_or (noted table rows) (act_of_row (noted_row table (length rows + 1) last)) d

-- the same, if what follows is itself an act
abbrev pub answer_by_table : {C F : Type 0} → Table → List (Row C (Act F)) → Row C (Act F)
    → Deed C → Act F
answer_by_table table rows last d = (act_by_table table rows last d).step

-- a row that only has effects
abbrev pub plain_row : {C : Type 0} → List (Test C) → List (Effect C) → Row C (Unit {0})
plain_row tests effects = row_then tests effects (always tt)

-- a row that only has effects and a draw
abbrev pub chance_row : {C : Type 0} → List (Test C) → Test C → List (Effect C)
    → Row C (Unit {0})
chance_row tests draw effects = row_by_draw tests draw effects (always tt)

-- the last row of a table of effects
abbrev pub otherwise : {C : Type 0} → List (Effect C) → List (Row C (Unit {0}))
otherwise effects = otherwise_then effects (always tt)

-- rows of effects as one effect
abbrev pub by_rows : {C : Type 0} → List (Row C (Unit {0})) → Effect C
by_rows rows d = record d { scene = (first_fitting_or rows (nothing_but (always tt)) d).scene }

-- the same for the rows of a table, with a note of which row applies
abbrev pub by_table : {C : Type 0} → Table → List (Row C (Unit {0})) → Effect C
by_table table rows = by_rows (noted table rows)

-- rows about something else as one effect
abbrev pub by_rows_about : {C D : Type 0} → (Deed C → D) → List (Row D (Unit {0})) → Effect C
by_rows_about what rows d =
    record d { scene = (by_rows rows (deed d.cave (what d) d.scene)).scene }

-- the code has done in the same turn what a rule says, and returns what follows; the turn has said
-- at most this many parts
abbrev pub PlaysBy : {C F N : Type 0} → (N → List RuleRow) → (Deed C → Act F) → ℕ → Rules → C
    → OpenScene N → OpenScene N → F → Type 0
PlaysBy noted_rows f parts rules about old new step =
    (act_of (scene_of noted_rows new) step
    ≡ f (deed (cave_of rules) about (scene_of noted_rows old)))
    × GoesOnSaying parts old new

-- effects are had one after another, and nothing follows
abbrev pub Does : {C N : Type 0} → (N → List RuleRow) → List (Effect C) → ℕ → Rules → C
    → OpenScene N → OpenScene N → Type 0
Does noted_rows effects parts rules about old new =
    (scene_of noted_rows new
    ≡ (after_all effects (deed (cave_of rules) about (scene_of noted_rows old))).scene)
    × GoesOnSaying parts old new
