-- The parts of what is written of a line.
use Rattle.std.proofs.Common.{◌≡◌, ℕ, Bool, true, false, cond, List, [], ◌∷◌, ◌++◌, map, refl, sym}
use Rattle.std.proofs.Common.{ap, ap₂, ◌∙◌, append_assoc, append-nil}
use Rattle.std.specs.Prelude.{codes}
use Rattle.std.specs.List.{filter, flat_map}
use Rattle.std.proofs.lemmas.Grind.{flat_map-append}
use Rattle.cave_data.specs.CaveView.{CaveView}
use Rattle.cave_world.specs.declared.state.State.{State}
use Rattle.play_tables.specs.Events.{each_event, event_happens, event_name}
use Rattle.play_tables.specs.declared.events.Event.{Event}
use Rattle.play_walk.specs.Figures.{Figure, chance_figures, count_figures, figure_in, figure_member}
use Rattle.play_walk.specs.Figures.{figures, happened_words, next_event, outcome_figures}
use Rattle.play_walk.specs.Figures.{place_figures, value_in, word_in}
use Rattle.play_walk.specs.Json.{Member, next_member, next_value}
use Rattle.play_walk.specs.Step.{ColumnsHaveTheKeys, step_head_row}
use Rattle.play_walk.specs.declared.figures.Form.{Form}
use Rattle.play_walk.specs.declared.figures.Form.TheVariants.{Members}

-- ---- members

-- a figure of an object is a member after another one
as_member : (row : List ℕ × Figure) → next_member (figure_member row) ≡ figure_in Members row
unfolding figure_in
as_member (key, figure) =
    ap (λ t. codes ",\"" ++ t) (sym (append_assoc key (codes "\":") (value_in Members figure)))

figures_and_last : (rows : List (List ℕ × Figure)) (last : Member)
    → flat_map next_member (map figure_member rows ++ last ∷ [])
    ≡ flat_map (figure_in Members) rows ++ next_member last
figures_and_last [] last = append-nil (next_member last)
figures_and_last (row ∷ rows) last =
    ap₂ (λ (a b : List ℕ). a ++ b) (as_member row) (figures_and_last rows last)
    ∙ sym (append_assoc (figure_in Members row) (flat_map (figure_in Members) rows)
    (next_member last))

pub in_three : (start : List Member) (rows : List (List ℕ × Figure)) (last : Member)
    → flat_map next_member (start ++ (map figure_member rows ++ last ∷ []))
    ≡ flat_map next_member start ++ (flat_map (figure_in Members) rows ++ next_member last)
in_three start rows last =
    flat_map-append next_member start (map figure_member rows ++ last ∷ [])
    ∙ ap (λ t. flat_map next_member start ++ t) (figures_and_last rows last)

pub ruleset members_in_three = (in_three, append_assoc)

-- ---- figures

pub in_four : (form : Form) (cave : CaveView) (line : List ℕ) (turns : ℕ) (s t : State)
    → flat_map (figure_in form) (figures cave line turns s t)
    ≡ flat_map (figure_in form) (place_figures s t)
    ++ (flat_map (figure_in form) (count_figures cave turns t)
    ++ (flat_map (figure_in form) (chance_figures line s t)
    ++ flat_map (figure_in form) (outcome_figures cave s t)))
unfolding figures
in_four form cave line turns s t =
    let shown = figure_in form in
    let places = place_figures s t in
    let counts = count_figures cave turns t in
    let chance = chance_figures line s t in
    let outcome = outcome_figures cave s t in
    flat_map-append shown places (counts ++ (chance ++ outcome))
    ∙ ap (λ more. flat_map shown places ++ more)
    (flat_map-append shown counts (chance ++ outcome)
    ∙ ap (λ more. flat_map shown counts ++ more) (flat_map-append shown chance outcome))

pub ruleset figures_in_four = (in_four, append_assoc)

-- ---- events

module _ (form : Form) (cave : CaveView) (s t : State) where
  listed : (events : List Event)
      → flat_map (next_event form cave s t) events
      ≡ flat_map (next_value (word_in form)) (map event_name (filter (event_happens cave s t) events))
  unfolding next_event
  listed [] = refl
  listed (event ∷ events) =
      here (event_happens cave s t event) (flat_map (next_event form cave s t) events)
      (filter (event_happens cave s t) events) (listed events)
    where
      here : (b : Bool) (more : List ℕ) (left : List Event)
          → more ≡ flat_map (next_value (word_in form)) (map event_name left)
          → cond b (next_value (word_in form) (event_name event)) [] ++ more
          ≡ flat_map (next_value (word_in form)) (map event_name (cond b (event ∷ left) left))
      here true more left same = ap (λ t. next_value (word_in form) (event_name event) ++ t) same
      here false more left same = same

  pub events_listed : flat_map (next_event form cave s t) each_event
      ≡ flat_map (next_value (word_in form)) (happened_words cave s t)
  unfolding happened_words
  events_listed = listed each_event

pub ruleset listing_events = events_listed

-- ---- the table

pub columns_have_the_keys : ColumnsHaveTheKeys
unfolding step_head_row figures place_figures count_figures chance_figures outcome_figures
columns_have_the_keys cave line turns s t = refl
