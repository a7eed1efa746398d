-- `==` holds exactly if values are equal, field by field up to whole states.
use Rattle.std.proofs.Common.{◌≡◌, Bool, Option, Some, None, refl, sym, ap, rules}
use Rattle.std.specs.Prelude.{◌↔◌, IsTrue}
use Rattle.std.specs.Bool.{Decides}
use Rattle.std.specs.Option.{option_eq, is_some, unwrap_or}
use Rattle.std.specs.Cmp.{unsigned_Decides}
use Rattle.std.proofs.lemmas.Bool.{false≢true}
use Rattle.base_lines.specs.Equality.{TellsApart, told_apart, told_struct}
use Rattle.world_objects.proofs.SameObjects.{objects_decides}
use Rattle.world_objects.specs.Lists.{AreLists}
use Rattle.world_objects.specs.contracts.objects.ObjectsPartialEq.TheImpl as objects_eq
use Rattle.world_objects.specs.declared.objects.Objects.{Objects}
use Rattle.cave_world.proofs.SameGame.{same_state}
use Rattle.cave_world.specs.SameGame.{IsSameGame}
use Rattle.cave_world.specs.declared.dwarves.Knife.{Knife}
use Rattle.cave_world.specs.declared.ending.Question.{Question}
use Rattle.cave_world.specs.declared.ending.Ending.{Ending}
use Rattle.cave_world.specs.declared.state.Trail.{Trail}
use Rattle.cave_world.specs.declared.state.Tallies.{Tallies}
use Rattle.cave_world.specs.declared.lamp.Lamp.{Lamp}
use Rattle.cave_world.specs.declared.closing.Closing.{Closing}
use Rattle.cave_world.specs.declared.dwarves.Dwarf.{Dwarf}
use Rattle.cave_world.specs.declared.dwarves.Dwarves.{Dwarves}
use Rattle.cave_world.specs.declared.talk.Talk.{Talk}
use Rattle.cave_world.specs.declared.hints.Hints.{Hints}
use Rattle.cave_world.specs.declared.state.State.{State}
use Rattle.cave_world.specs.contracts.dwarves.KnifePartialEq.TheImpl as knife_eq
use Rattle.cave_world.specs.contracts.ending.QuestionPartialEq.TheImpl as question_eq
use Rattle.cave_world.specs.contracts.ending.EndingPartialEq.TheImpl as ending_eq
use Rattle.cave_world.specs.contracts.state.TrailPartialEq.TheImpl as trail_eq
use Rattle.cave_world.specs.contracts.state.TalliesPartialEq.TheImpl as tallies_eq
use Rattle.cave_world.specs.contracts.lamp.LampPartialEq.TheImpl as lamp_eq
use Rattle.cave_world.specs.contracts.closing.ClosingPartialEq.TheImpl as closing_eq
use Rattle.cave_world.specs.contracts.dwarves.DwarfPartialEq.TheImpl as dwarf_eq
use Rattle.cave_world.specs.contracts.dwarves.DwarvesPartialEq.TheImpl as dwarves_eq
use Rattle.cave_world.specs.contracts.talk.TalkPartialEq.TheImpl as talk_eq
use Rattle.cave_world.specs.contracts.hints.HintsPartialEq.TheImpl as hints_eq
use Rattle.cave_world.specs.contracts.state.StatePartialEq.TheImpl as state_eq
use Rattle.cave_world.specs.contracts.state.Trail as trail
use Rattle.cave_world.specs.contracts.state.Tallies as tallies
use Rattle.cave_world.specs.contracts.lamp.Lamp as lamp
use Rattle.cave_world.specs.contracts.closing.Closing as closing
use Rattle.cave_world.specs.contracts.dwarves.Dwarf as dwarf
use Rattle.cave_world.specs.contracts.dwarves.Dwarves as dwarves
use Rattle.cave_world.specs.contracts.talk.Talk as talk
use Rattle.cave_world.specs.contracts.hints.Hints as hints
use Rattle.cave_world.specs.contracts.state.State as state

pub option_decides : {K : Type 0} (E : K → K → Bool) → ((x y : K) → Decides (E x y) (x ≡ y))
    → (x y : Option K) → Decides (option_eq E x y) (x ≡ y)
option_decides E d None None = (λ _. refl, λ _. refl)
option_decides E d None (Some y) = (λ e. absurd (false≢true e), λ e. ap is_some e)
option_decides E d (Some x) None = (λ e. absurd (false≢true e), λ e. sym (ap is_some e))
option_decides E d (Some x) (Some y) =
    (λ e i. Some ((d x y).0 e i), λ e. (d x y).1 (ap (λ o. unwrap_or o x) e))

pub knife_decides : (a b : Knife) → Decides (knife_eq.eq-value.it a b) (a ≡ b)
knife_decides Knife.Unthrown Knife.Unthrown = (λ _. refl, λ _. refl)
knife_decides (Knife.At x) (Knife.At y) =
    (λ e i. Knife.At ((unsigned_Decides x y).0 e i), λ e. (unsigned_Decides x y).1 cc)
knife_decides Knife.Vanished Knife.Vanished = (λ _. refl, λ _. refl)
knife_decides _ _ = (λ e. absurd (false≢true e), λ e. cc)

pub question_decides : (a b : Question) → Decides (question_eq.eq-value.it a b) (a ≡ b)
question_decides Question.Welcome Question.Welcome = (λ _. refl, λ _. refl)
question_decides Question.Quit Question.Quit = (λ _. refl, λ _. refl)
question_decides Question.ScoreQuit Question.ScoreQuit = (λ _. refl, λ _. refl)
question_decides Question.Die Question.Die = (λ _. refl, λ _. refl)
question_decides (Question.Hint x) (Question.Hint y) =
    (λ e i. Question.Hint ((unsigned_Decides x y).0 e i), λ e. (unsigned_Decides x y).1 cc)
question_decides (Question.Take x) (Question.Take y) =
    (λ e i. Question.Take ((unsigned_Decides x y).0 e i), λ e. (unsigned_Decides x y).1 cc)
question_decides Question.Oyster Question.Oyster = (λ _. refl, λ _. refl)
question_decides Question.Dragon Question.Dragon = (λ _. refl, λ _. refl)
question_decides _ _ = (λ e. absurd (false≢true e), λ e. cc)

pub ending_decides : (a b : Ending) → Decides (ending_eq.eq-value.it a b) (a ≡ b)
ending_decides Ending.Quit Ending.Quit = (λ _. refl, λ _. refl)
ending_decides Ending.Killed Ending.Killed = (λ _. refl, λ _. refl)
ending_decides Ending.Klutz Ending.Klutz = (λ _. refl, λ _. refl)
ending_decides Ending.WrongWay Ending.WrongWay = (λ _. refl, λ _. refl)
ending_decides Ending.Success Ending.Success = (λ _. refl, λ _. refl)
ending_decides _ _ = (λ e. absurd (false≢true e), λ e. cc)

by_option : {A : Type 0} {E : A → A → Bool} → ((a b : A) → TellsApart (E a b) a b)
    → (a b : Option A) → TellsApart (option_eq E a b) a b
by_option each a b =
    record { decides = option_decides _ (λ x y. (each x y).decides) a b }

by_knife : (a b : Knife) → TellsApart (knife_eq.eq-value.it a b) a b
by_knife a b = record { decides = knife_decides a b }

by_question : (a b : Question) → TellsApart (question_eq.eq-value.it a b) a b
by_question a b = record { decides = question_decides a b }

by_ending : (a b : Ending) → TellsApart (ending_eq.eq-value.it a b) a b
by_ending a b = record { decides = ending_decides a b }

by_objects : (a b : Objects) → TellsApart (objects_eq.eq-value.it a b) a b
by_objects a b = record { decides = objects_decides a b }

ruleset parts = (told_apart, by_option, by_knife, by_question, by_ending, by_objects)

by_trail : (a b : Trail) → TellsApart (trail_eq.eq-value.it a b) a b
by_trail a b =
    told_struct trail.the_type {E = trail_eq.eq-value.it} (Prim.search (parts, rules) depth 40) a b

by_tallies : (a b : Tallies) → TellsApart (tallies_eq.eq-value.it a b) a b
by_tallies a b =
    told_struct tallies.the_type {E = tallies_eq.eq-value.it} (Prim.search (parts, rules) depth 40) a b

by_lamp : (a b : Lamp) → TellsApart (lamp_eq.eq-value.it a b) a b
by_lamp a b =
    told_struct lamp.the_type {E = lamp_eq.eq-value.it} (Prim.search (parts, rules) depth 40) a b

by_closing : (a b : Closing) → TellsApart (closing_eq.eq-value.it a b) a b
by_closing a b =
    told_struct closing.the_type {E = closing_eq.eq-value.it} (Prim.search (parts, rules) depth 40) a b

pub by_dwarf : (a b : Dwarf) → TellsApart (dwarf_eq.eq-value.it a b) a b
by_dwarf a b =
    told_struct dwarf.the_type {E = dwarf_eq.eq-value.it} (Prim.search (parts, rules) depth 40) a b

ruleset of_dwarves = (parts, by_dwarf)

by_dwarves : (a b : Dwarves) → TellsApart (dwarves_eq.eq-value.it a b) a b
by_dwarves a b =
    told_struct dwarves.the_type {E = dwarves_eq.eq-value.it} (Prim.search (of_dwarves, rules) depth 40) a b

by_talk : (a b : Talk) → TellsApart (talk_eq.eq-value.it a b) a b
by_talk a b =
    told_struct talk.the_type {E = talk_eq.eq-value.it} (Prim.search (parts, rules) depth 40) a b

pub by_hints : (a b : Hints) → TellsApart (hints_eq.eq-value.it a b) a b
by_hints a b =
    told_struct hints.the_type {E = hints_eq.eq-value.it} (Prim.search (parts, rules) depth 40) a b

ruleset of_a_state = (
  parts,
  by_trail,
  by_tallies,
  by_lamp,
  by_closing,
  by_dwarves,
  by_talk,
  by_hints,
)

by_state : (a b : State) → TellsApart (state_eq.eq-value.it a b) a b
by_state a b =
    told_struct state.the_type {E = state_eq.eq-value.it} (Prim.search (of_a_state, rules) depth 40) a b

-- `==` holds of two states exactly if they are equal in every field
pub state_equality : (a b : State) → IsTrue (state_eq.eq-value.it a b) ↔ (a ≡ b)
state_equality a b = (by_state a b).decides

-- `==` holds of two states exactly if everything but the lists of objects is equal, and so is the
-- list of each place; the lists of every state that a program makes are in order
pub same_game : (a b : State) → AreLists a.objects.lists → AreLists b.objects.lists
    → IsTrue (state_eq.eq-value.it a b) ↔ IsSameGame a b
same_game a b first second =
    let equal = state_equality a b in
    let same = same_state a b first second in
    (λ e. same.0 (equal.0 e), λ s. equal.1 (same.1 s))
