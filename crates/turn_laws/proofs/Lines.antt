-- What a line does to a claim, which lines change nothing, and which are turns.
use Rattle.std.proofs.Common.{Bool, List, [], ap, arith, false, inr, pos, refl, subst, sym, true, ℕ}
use Rattle.std.proofs.Common.{ℤ, ◌∙◌, ◌∷◌, ◌≡◌}
use Rattle.std.proofs.lemmas.Bool.{false≢true, true≢false}
use Rattle.std.proofs.lemmas.Int.{ints}
use Rattle.std.specs.Prelude.{take as first_of, if◌then◌else◌, None, Option, Some, is_some, not}
use Rattle.std.specs.Prelude.{◌&&◌, ◌||◌}
use Rattle.cave_turn.specs.Answers.{is_of_hint, quit, reply_rows, after_reply, after_answer}
use Rattle.cave_turn.specs.Answers.{after_no, after_yes, give_instructions, answer_in, answers}
use Rattle.cave_turn.specs.Answers.{is_yes, without_question}
use Rattle.cave_turn.specs.Turns.{silent_turn, start_of_game, turn_of, turn_on_line, with_seed}
use Rattle.cave_turn.specs.Turns.{Turn, turn_of_input, turn_on_log_line}
use Rattle.base_lines.specs.LogLine.{IsLogLine, IsSeedLine, log_line}
use Rattle.base_lines.specs.declared.log_line.LogLine.{LogLine}
use Rattle.cave_data.specs.CaveView.{CaveView}
use Rattle.cave_world.specs.declared.ending.Ending.{Ending}
use Rattle.cave_world.specs.declared.ending.Question.{Question}
use Rattle.cave_world.specs.declared.state.State.{State}
use Rattle.turn_ends.specs.Questions.{with_question, is_dragon}
use Rattle.turn_scene.specs.Rows.{by_rows, Deed, after_all, by_table, deed, noted}
use Rattle.turn_scene.specs.Scene.{after_row, scene_at_start, Scene, after_look_at, thing}
use Rattle.turn_scene.specs.Scene.{with_state}
use Rattle.turn_scene.specs.Places.{start_place}
use Rattle.std.specs.FinMap as map
use Rattle.base_lines.proofs.LogLines.{IsLogLine-log_line, log_line-only}
use Rattle.cave_turn.specs.Commands.{begin_command, after_command}
use Rattle.cave_turn.specs.Dragon.{after_gather, after_settle, fight, gathering_rows, lair, settle}
use Rattle.cave_turn.specs.Finish.{after_end_of_turn}
use Rattle.cave_turn.specs.Revival.{bury}
use Rattle.cave_world.specs.State.{state_with_player_at}
use Rattle.cave_turn.specs.declared.answers.Answer.{Answer}
use Rattle.cave_turn.specs.declared.answers.Answer.TheVariants.{Neither, No, Yes}
use Rattle.turn_clocks.specs.Hints.{give_rows, price_rows}
use Rattle.turn_scene.specs.Props.{DRAGON_DEAD, RUG_FREE}
use Rattle.world_objects.specs.declared.spot.Anchor.TheVariants as anchor
use Rattle.cave_words.specs.declared.named.Named.TheVariants as name
use Rattle.turn_laws.specs.Courses.{is_lit}
use Rattle.turn_laws.specs.Laws.{HasEnded, IsQuiet, Lasts, before_lamp, is_changed}
use Rattle.turn_laws.specs.Laws.{is_command, is_input_kind, is_no_answer, is_priced, pays}
use Rattle.turn_laws.proofs.Effects.{by_guarded, each_kept, effects, holds_alone, look, moved}
use Rattle.turn_laws.proofs.Effects.{moved_all, paid_by, quiet}
use Rattle.turn_laws.proofs.Moves.{arriving_kept, arriving_open}
use Rattle.turn_laws.proofs.Places.{asking_kept, ended_kept, ending_kept, question_kept}
use Rattle.turn_laws.proofs.Turns.{commanded_kept, finished_kept, mourned, reborn_kept}
use Rattle.turn_laws.proofs.View.{Anywhere, Asks, Claim, Closes, Hints, Hold, IsCalm, IsChargeAfter}
use Rattle.turn_laws.proofs.View.{IsKept, IsMoved, Keeps, Line, Moves, On, Passes, Pays, Place}
use Rattle.turn_laws.proofs.View.{Prop, Puts, Ready, choose, is_die, lair_from, led, line_of, view}
use Rattle.cave_world.specs.declared.tables.Table.TheVariants as table
use Rattle.turn_scene.specs.Effects.{for_each_from}
use Rattle.turn_scene.specs.Parts.{with_objects}
use Rattle.world_objects.specs.Objects.{after_move_to}

-- all that is by the dragon is moved to a place
pub gathered_kept : (P : Claim) → IsMoved P → (cave : CaveView) (place : ℕ) (p : Scene) → On P p.state
    → On P (for_each_from 1 100 (after_gather cave place) p).state
unfolding after_gather gathering_rows
gathered_kept P moves cave place p h =
    each_kept (λ (q : Scene). On P q.state) 1 100 (after_gather cave place)
    (λ x q g. quiet P (noted table.Gathering (gathering_rows place)) (search placed parts 20)
    (deed cave x q) g) p h
  where
    placed : (x : ℕ) (s : State) → On P s
        → On P (with_objects (after_move_to s.objects x place) s)
    placed x s h = moves (view s) (Place x place) h

-- the lair is found by what is true, and changes nothing
pub lair_same : (d : Deed Question) → (lair d).scene.state ≡ d.scene.state
unfolding lair
lair_same d = grind arith

lair_is : (d : Deed Question) → (lair d).step ≡ lair_from d.cave d.scene.state.trail.here
unfolding lair
lair_is d = grind arith

-- the charge that the instructions and a hint give
full_charge : (b : ℤ) → IsChargeAfter b (pos 1000)
full_charge b = record { least = grind (arith, ints); most = grind (arith, ints) }

-- what answers a question is what doesn't leave it
pub leaves_is : (a b : Bool) → not (not a || b) ≡ a && not b
leaves_is a b = grind arith

-- a question that a line leaves is not whether to come back
unanswered : (cave : CaveView) (line : List ℕ) (q : Question) → answers cave line q ≡ false
    → is_die q ≡ false
unanswered cave line Question.Die h = absurd (true≢false h)
unanswered cave line _ h = refl

-- closing a question if none is open changes nothing
closed_same : (s : State) → s.question ≡ None → without_question s ≡ s
closed_same s none = ap (λ (q : Option Question). record s { question = q }) (sym none)

module _ {cave : CaveView} {l : Line} {Q P : Claim} (k : IsKept cave l Q P) where
  -- the price of a hint is said
  priced_kept : (i : ℕ) (p : Scene) → On (Ready Anywhere P) p.state
      → On P (by_rows price_rows (deed cave i p)).scene.state
  unfolding price_rows
  priced_kept i p h =
      by_guarded P (deed cave i p) price_rows
      (search (asking_kept P, asked, h.holds) parts 20)
    where
      asked : (is_some (map.get cave.hints i) && true) ≡ true
          → On P (with_question (Question.Take i) p.state)
      asked fit =
          k.keeps (Asks (Question.Take i)) (view p.state) (refl, h.calm, holds_alone _ fit) h.holds

  given_kept : l.is_paid ≡ true → (d : Deed ℕ) → On (Ready Anywhere P) d.scene.state
      → On (Ready Anywhere P) (by_table table.HintGiven give_rows d).scene.state
  unfolding give_rows
  given_kept paid d h =
      quiet (Ready Anywhere P) (noted table.HintGiven give_rows)
      (search (effects, paid_by) parts 20) d h

  -- the player is put where the dragon lies
  put_in_lair : (place : ℕ) (p : Scene) → place ≡ lair_from cave p.state.trail.here
      → On (Ready Anywhere P) p.state → On P (after_settle cave place p).state
  unfolding after_settle settle state_with_player_at
  put_in_lair place p is h =
      let dragon = thing cave name.Dragon in let rug = thing cave name.Rug in
      let here = p.state.trail.here in
      let Still : Claim = λ v. P (record v { here = here }) × IsCalm v in
      let still : IsMoved Still = λ v c g. (k.keeps (Moves c) _ tt g.0, g.1) in
      let q = (after_all (first_of 4 settle) (deed cave place p)).scene in
      let lies = moved_all Still still (
      Hold dragon anchor.Fixed ∷ Hold rug anchor.Loose ∷ Place dragon place ∷ Place rug place
      ∷ []) (view p.state) (h.holds, h.calm) in
      let all = gathered_kept Still still cave place q lies in
      arriving_open k here place (after_all (first_of 6 settle) (deed cave place p)).scene all.0
      all.1 (λ some. k.keeps (Puts place) _ (some, inr is) all.0)

  fought_kept : (p : Scene) → On (Ready Anywhere P) p.state
      → On P (after_all fight (deed cave Question.Dragon p)).scene.state
  unfolding fight
  fought_kept p h =
      let dragon = thing cave name.Dragon in let rug = thing cave name.Rug in
      let q = after_look_at dragon (pos 1) p in
      let looks : On (Ready Anywhere P) q.state = look k dragon (pos 1) p h in
      let d = after_all (first_of 3 fight) (deed cave Question.Dragon p) in
      let dead : On (Ready Anywhere P) d.scene.state =
      moved k _ (Prop rug RUG_FREE) (moved k (view q.state) (Prop dragon DRAGON_DEAD) looks) in
      let found = lair d in let same = sym (lair_same d) in
      put_in_lair found.step found.scene
      (subst (λ (s : State). found.step ≡ lair_from cave s.trail.here) same (lair_is d))
      (subst (On (Ready Anywhere P)) same dead)

  -- answers, which aren't commands, so the lamp doesn't burn
  module _ (unlit : l.is_lit ≡ false) where
    -- any question except whether to come back is answered, and is closed
    closed_kept : (q : Question) (s : State) → is_die q ≡ false → s.question ≡ Some q
        → s.ending ≡ None → On Q s → On (Ready Anywhere P) (without_question s)
    closed_kept q s other asked goes h =
        led k (view (without_question s)) unlit (record {
          holds = k.keeps (Closes q) (view s) (other, asked, goes) h;
          calm = (refl, goes);
          at = tt;
        })

    -- yes is said to a question, which is closed
    agreed_kept : (q : Question) (p : Scene) → (is_priced q ≡ true → l.is_paid ≡ true)
        → p.state.question ≡ Some q → p.state.ending ≡ None → On Q p.state
        → (is_die q ≡ false → On (Ready Anywhere P) (without_question p.state))
        → On P (after_yes cave q (with_state (without_question p.state) p)).state
    unfolding give_instructions quit
    agreed_kept Question.Welcome p paid asked goes h free =
        let taken = k.keeps (Hints 2) _ tt (free refl).holds in
        arriving_kept k (start_place cave) _
        (k.keeps (Pays (pos 1000)) _ (paid refl, full_charge p.state.lamp.charge) taken)
    agreed_kept Question.Quit p paid asked goes h free =
        ending_kept k cave Ending.Quit _ (free refl)
    agreed_kept Question.ScoreQuit p paid asked goes h free =
        ending_kept k cave Ending.Quit _ (free refl)
    agreed_kept Question.Die p paid asked goes h free =
        reborn_kept k _ (mourned k unlit p.state asked goes h)
    agreed_kept (Question.Hint i) p paid asked goes h free = priced_kept i _ (free refl)
    agreed_kept (Question.Take i) p paid asked goes h free =
        (given_kept (paid refl) (deed cave i _) (free refl)).holds
    agreed_kept Question.Oyster p paid asked goes h free = k.keeps (Hints 1) _ tt (free refl).holds
    agreed_kept Question.Dragon p paid asked goes h free = fought_kept _ (free refl)

    -- no is said to a question, which is closed
    declined_kept : (q : Question) (p : Scene) → p.state.question ≡ Some q
        → p.state.ending ≡ None → On Q p.state
        → (is_die q ≡ false → On (Ready Anywhere P) (without_question p.state))
        → On P (after_no cave q (with_state (without_question p.state) p)).state
    unfolding bury
    declined_kept Question.Welcome p asked goes h free =
        arriving_kept k (start_place cave) _ (free refl).holds
    declined_kept Question.Die p asked goes h free =
        ended_kept P cave Ending.Killed _ (mourned k unlit p.state asked goes h).1
    declined_kept _ p asked goes h free = (free refl).holds

    -- an open question is answered, or not
    asked_kept : (q : Question) (a : Answer) (p : Scene)
        → (is_yes a && is_priced q ≡ true → l.is_paid ≡ true)
        → p.state.question ≡ Some q → p.state.ending ≡ None → On Q p.state
        → On P (after_reply cave q a p).state
    unfolding reply_rows
    asked_kept q Yes p paid asked goes h =
        agreed_kept q (after_row table.Replies 1 p) paid asked goes h
        (λ other. closed_kept q p.state other asked goes h)
    asked_kept q No p paid asked goes h =
        declined_kept q (after_row table.Replies 2 p) asked goes h
        (λ other. closed_kept q p.state other asked goes h)
    asked_kept q Neither p paid asked goes h =
        question_kept P cave q _ (k.keeps Passes (view p.state) unlit h)

    answered_kept : (q : Question) (line : List ℕ) (s : State)
        → (pays cave line (Some q) ≡ true → l.is_paid ≡ true)
        → s.question ≡ Some q → s.ending ≡ None → On Q s
        → On P (after_answer cave q line s).state
    unfolding after_answer
    answered_kept q line s paid asked goes h =
        let r = after_reply cave q (answer_in cave line) (scene_at_start false s) in
        let a = asked_kept q (answer_in cave line) (scene_at_start false s) paid asked goes h in
        choose (λ (p : Scene). On P p.state) (is_of_hint q) r (after_end_of_turn cave r) (λ _. a)
        (λ _. finished_kept k r a)

-- a line of a log, if commands, and prices that are paid, are as laws say
module _ {cave : CaveView} {l : Line} {Q P : Claim} (k : IsKept cave l Q P) (line : List ℕ)
    (s : State) (does : l.is_command ≡ true → On (Ready Anywhere Q) (without_question s)
    → On P (after_command cave line (without_question s)).state)
    (unlit : l.is_command ≡ false → l.is_lit ≡ false) where
  played_kept : (e : Option Ending) (q : Option Question)
      → l.is_command ≡ (not (is_some e) && is_no_answer cave line q)
      → (pays cave line q ≡ true → l.is_paid ≡ true) → s.ending ≡ e → s.question ≡ q → On Q s
      → On P (turn_of_input cave line e q s).state
  played_kept (Some how) q is paid goes asked h = k.keeps Passes (view s) (unlit is) h
  played_kept None None is paid goes asked h =
      subst (λ (t : State). On P (after_command cave line t).state) (closed_same s asked)
      (does is (record {
        holds = subst (λ (o : Option Question). Q (record (view s) { question = o })) asked h;
        calm = (refl, goes);
        at = tt;
      }))
  played_kept None (Some q) is paid goes asked h =
      let leaves = is ∙ sym (leaves_is (is_dragon q) (is_yes (answer_in cave line))) in
      choose (λ (t : Turn). On P t.state) (answers cave line q)
      (turn_of false (after_answer cave q line s))
      (turn_of true (after_command cave line (without_question s)))
      (λ answered. answered_kept k (unlit (leaves ∙ ap not answered)) q line s paid asked goes h)
      (λ left. does (leaves ∙ ap not left) (record {
        holds = k.keeps (Closes q) (view s) (unanswered cave line q left, asked, goes) h;
        calm = (refl, goes);
        at = tt;
      }))

  as_kept : (kind : LogLine)
      → l.is_command ≡ (is_input_kind kind && not (is_some s.ending)
      && is_no_answer cave line s.question)
      → (pays cave line s.question ≡ true → l.is_paid ≡ true) → On Q s
      → On P (turn_on_log_line cave line kind s).state
  as_kept LogLine.Comment is paid h = k.keeps Passes (view s) (unlit is) h
  as_kept LogLine.Blank is paid h = k.keeps Passes (view s) (unlit is) h
  as_kept (LogLine.Seed seed) is paid h = k.keeps Passes (view s) (unlit is) h
  as_kept LogLine.Input is paid h = played_kept s.ending s.question is paid refl refl h

-- a line leads from a claim to another, if all that happens in it does
pub turned : (cave : CaveView) (Q P : Claim) (s : State) (line : List ℕ)
    → Keeps cave (line_of cave s line) Q P → On Q s → On P (turn_on_line cave s line).state
unfolding turn_on_line
turned cave Q P s line keeps h =
    let k : IsKept cave (line_of cave s line) Q P = record { keeps = keeps } in
    let t = without_question s in let o = before_lamp cave (begin_command cave t) in
    as_kept k line s
    (λ command r. commanded_kept k line t
    (record {
      lit = sym (ap (λ (b : Bool). b && is_lit cave o) command);
      changed = sym (ap (λ (b : Bool). b && is_changed cave o) command);
    })
    (record { holds = r.holds; calm = r.calm; at = λ found. found command }))
    (λ rests. ap (λ (b : Bool). b && is_lit cave o) rests) (log_line line) refl (λ paid. paid) h

-- a claim that a game begins with lasts, if all that happens in lines keeps it
pub lasts : (P : CaveView → Claim)
    → ((cave : CaveView) (seed : ℕ) → On (P cave) (start_of_game cave seed).state)
    → ((cave : CaveView) (l : Line) → Keeps cave l (P cave) (P cave))
    → Lasts (λ cave s. On (P cave) s)
lasts P start keeps = record {
  start = start;
  kept = λ cave s line h. turned cave (P cave) (P cave) s line (keeps cave (line_of cave s line)) h;
}

-- a line keeps a claim, if all that happens in lines does
pub lasting : (P : Claim) → ((cave : CaveView) (l : Line) → Keeps cave l P P)
    → (cave : CaveView) (s : State) (line : List ℕ) → On P s
    → On P (turn_on_line cave s line).state
lasting P keeps cave s line h = turned cave P P s line (keeps cave (line_of cave s line)) h

-- a line at which nothing happens is quiet
silent : (s : State) (line : List ℕ) → IsQuiet s line (silent_turn s)
silent s line = record { says_nothing = refl; no_turn = refl; same = refl; same_stream = λ _. refl }

-- after the end input is quiet
quiet_played : (cave : CaveView) (line : List ℕ) (e : Option Ending) (s : State)
    → is_some e ≡ true → IsQuiet s line (turn_of_input cave line e s.question s)
quiet_played cave line (Some how) s h = silent s line
quiet_played cave line None s h = absurd (false≢true h)

-- after the end a line of any kind is quiet
quiet_as : (cave : CaveView) (line : List ℕ) (k : LogLine) (s : State) → HasEnded s
    → IsLogLine line k → IsQuiet s line (turn_on_log_line cave line k s)
quiet_as cave line LogLine.Comment s h is = silent s line
quiet_as cave line LogLine.Blank s h is = silent s line
quiet_as cave line (LogLine.Seed seed) s h is =
    record {
      says_nothing = refl;
      no_turn = refl;
      same = refl;
      same_stream = λ no. absurd (no seed is);
    }
quiet_as cave line LogLine.Input s h is = quiet_played cave line s.ending s h

-- after the end every line is quiet
pub end_is_quiet : (cave : CaveView) (s : State) (line : List ℕ) → HasEnded s
    → IsQuiet s line (turn_on_line cave s line)
unfolding turn_on_line
end_is_quiet cave s line h = quiet_as cave line (log_line line) s h (IsLogLine-log_line line)

-- a seed line changes only the random stream
pub seeds_alone : (cave : CaveView) (s : State) (line : List ℕ) (seed : ℕ) → IsSeedLine line seed
    → turn_on_line cave s line ≡ silent_turn (with_seed s seed)
unfolding turn_on_line
seeds_alone cave s line seed is =
    ap (λ k. turn_on_log_line cave line k s) (sym (log_line-only line (LogLine.Seed seed) is))

-- one of two lines isn't a turn, and the other is
ticks_if : (b : Bool) (x y : Turn) → x.ticked ≡ false → y.ticked ≡ true
    → (if b then x else y).ticked ≡ not b
ticks_if true x y silence turn = silence
ticks_if false x y silence turn = turn

-- input is a turn if it is a command
ticks_played : (cave : CaveView) (line : List ℕ) (e : Option Ending) (q : Option Question)
    (s : State)
    → (turn_of_input cave line e q s).ticked ≡ not (is_some e) && is_no_answer cave line q
ticks_played cave line (Some how) q s = refl
ticks_played cave line None None s = refl
ticks_played cave line None (Some q) s =
    ticks_if (answers cave line q) _ _ refl refl
    ∙ leaves_is (is_dragon q) (is_yes (answer_in cave line))

-- a line of any kind is a turn if it is a command
ticks_as : (cave : CaveView) (line : List ℕ) (k : LogLine) (s : State)
    → (turn_on_log_line cave line k s).ticked
    ≡ is_input_kind k && not (is_some s.ending) && is_no_answer cave line s.question
ticks_as cave line LogLine.Comment s = refl
ticks_as cave line LogLine.Blank s = refl
ticks_as cave line (LogLine.Seed seed) s = refl
ticks_as cave line LogLine.Input s = ticks_played cave line s.ending s.question s

-- turns are counted for commands, and for nothing else
pub commands_tick : (cave : CaveView) (s : State) (line : List ℕ)
    → (turn_on_line cave s line).ticked ≡ is_command cave s line
unfolding turn_on_line
commands_tick cave s line = ticks_as cave line (log_line line) s
