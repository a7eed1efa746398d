-- What is noted of a play, line by line.
use Rattle.std.proofs.Common.{◌≡◌, ℕ, suc, ◌+◌, ◌≤◌, Bool, List, [], ◌∷◌, ◌++◌, length, append_assoc}
use Rattle.std.proofs.Common.{append-nil, count_by, subst, sym, ap, ◌∙◌, refl, true, false, arith}
use Rattle.std.specs.Prelude.{if◌then◌else◌}
use Rattle.std.specs.List.{flat_map}
use Rattle.std.proofs.lemmas.List.{take_all}
use Rattle.std.proofs.lemmas.List.Sums.{sum_by-cons}
use Rattle.replay_edits.specs.Edit.{game_of}
use Rattle.play_machine.specs.Machine.{cave_rules}
use Rattle.play_machine.specs.Moments.{Moment, moment_at, moments_from, noted_of}
use Rattle.cave_replay.specs.Play.{state_after, ticks_of}
use Rattle.play_machine.specs.Transcript.{ticks}
use Rattle.play_machine.specs.Watch.{IsEndOf, NotesMore}
use Rattle.cave_turn.specs.Turns.{turn_on_line}
use Rattle.cave_world.specs.declared.state.State.{State}
use Rattle.cave_world.specs.declared.part.Part.{Part}
use Rattle.cave_data.specs.CaveView.{CaveView}

module _ {F W : Type 0} (HasNoted : List F → W → Type 0) where
  pub NotesMore-none : (now : W) → NotesMore HasNoted [] now now
  NotesMore-none now noted has = subst (λ facts. HasNoted facts now) (sym (append-nil noted)) has

  pub NotesMore-append : (first later : List F) (old between new : W)
      → NotesMore HasNoted first old between → NotesMore HasNoted later between new
      → NotesMore HasNoted (first ++ later) old new
  NotesMore-append first later old between new one other noted has =
      subst (λ facts. HasNoted facts new) (append_assoc noted first later)
      (other (noted ++ first) (one noted has))

-- the turns that lines take
abbrev pub turns_of : CaveView → State → List (List ℕ) → ℕ
turns_of cave state lines = count_by (λ ticks. ticks) (ticks_of (cave_rules cave) state lines)

length-ticks_of : (cave : CaveView) (state : State) (lines : List (List ℕ))
    → length (ticks_of (cave_rules cave) state lines) ≡ length lines
length-ticks_of cave state [] = refl
length-ticks_of cave state (line ∷ lines) =
    ap (λ n. suc n) (length-ticks_of cave ((cave_rules cave).after state line) lines)

-- the ticks up to the end of the lines are the turns of all lines
ticks-all : (cave : CaveView) (state : State) (lines : List (List ℕ))
    → ticks (ticks_of (cave_rules cave) state lines) (length lines) ≡ turns_of cave state lines
ticks-all cave state lines =
    let many = length-ticks_of cave state lines in
    ap (count_by (λ ticks. ticks)) (take_all (length lines) (ticks_of (cave_rules cave) state lines)
    (omega (arith, many)))

turns-more : (turns : ℕ) (ticked : Bool) (ticks : List Bool)
    → turns + (if ticked then 1 else 0) + count_by (λ ticks. ticks) ticks
    ≡ turns + count_by (λ ticks. ticks) (ticked ∷ ticks)
turns-more turns ticked ticks =
    let more = sum_by-cons (λ (ticks : Bool). if ticks then 1 else 0) ticked ticks in
    omega (arith, more)

turns-few : (turns place : ℕ) (ticked : Bool) → turns ≤ place
    → turns + (if ticked then 1 else 0) ≤ place + 1
turns-few turns place true few = omega (arith, few)
turns-few turns place false few = omega (arith, few)

-- what was noted, with what is noted of the remaining lines, is what is noted of the play, and so
-- it is with its state and its turns
pub record IsOnCourse {F W : Type 0} (HasNoted : List F → W → Type 0)
    (first : CaveView → State → List Part → List F) (facts : CaveView → Moment → List F) (cave : CaveView)
    (seed : ℕ) (log : List (List ℕ)) (old now : W) (place turns : ℕ) (state : State)
    (left : List (List ℕ)) : Type 0 where
  pub noted : (new : W)
      → NotesMore HasNoted (flat_map (facts cave) (moments_from cave place turns state left)) now new
      → NotesMore HasNoted (noted_of first facts cave (game_of seed log)) old new
  pub leads : state_after (cave_rules cave) state left
      ≡ state_after (cave_rules cave) ((cave_rules cave).begun seed) log
  pub takes : turns + turns_of cave state left ≡ turns_of cave ((cave_rules cave).begun seed) log
  pub few : turns ≤ place

module _ {F W : Type 0} (HasNoted : List F → W → Type 0)
    (first : CaveView → State → List Part → List F) (facts : CaveView → Moment → List F) (cave : CaveView)
    (seed : ℕ) (log : List (List ℕ)) (old now : W) where
  pub IsOnCourse-begun :
      NotesMore HasNoted (first cave ((cave_rules cave).begun seed)
      ((cave_rules cave).greeting seed)) old now
      → IsOnCourse HasNoted first facts cave seed log old now 0 0 ((cave_rules cave).begun seed) log
  IsOnCourse-begun begun = record {
    noted = λ new rest. NotesMore-append HasNoted _ _ old now new begun rest;
    leads = refl;
    takes = omega arith;
    few = omega arith;
  }

  pub IsOnCourse-more : (next : W) (place turns : ℕ) (state : State) (line : List ℕ)
      (left : List (List ℕ))
      → IsOnCourse HasNoted first facts cave seed log old now place turns state (line ∷ left)
      → NotesMore HasNoted (facts cave (moment_at cave place turns state line)) now next
      → let here = moment_at cave place turns state line in
      IsOnCourse HasNoted first facts cave seed log old next (place + 1) here.turns here.after left
  IsOnCourse-more next place turns state line left on here =
      let turn = turn_on_line cave state line in record {
        noted = λ new rest. on.noted new (NotesMore-append HasNoted _ _ now next new here rest);
        leads = on.leads;
        takes = turns-more turns turn.ticked (ticks_of (cave_rules cave) turn.state left)
            ∙ on.takes;
        few = turns-few turns place turn.ticked on.few;
      }

  -- the same from equal values
  pub IsOnCourse-starts : (begins place turns : ℕ) (state : State) → begins ≡ seed
      → place ≡ 0 → turns ≡ 0 → state ≡ (cave_rules cave).begun begins
      → NotesMore HasNoted (first cave ((cave_rules cave).begun begins)
      ((cave_rules cave).greeting begins)) old now
      → IsOnCourse HasNoted first facts cave seed log old now place turns state log
  IsOnCourse-starts begins place turns state seed_is place_is turns_are state_is begun =
      rw (place_is, turns_are, state_is, seed_is) (IsOnCourse-begun
      (subst (λ s. NotesMore HasNoted (first cave ((cave_rules cave).begun s)
      ((cave_rules cave).greeting s)) old now) seed_is begun))

  pub IsOnCourse-line : (next : W) (place turns place' turns' : ℕ) (state state' : State)
      (line : List ℕ) (all left : List (List ℕ)) → all ≡ line ∷ left
      → IsOnCourse HasNoted first facts cave seed log old now place turns state all
      → NotesMore HasNoted (facts cave (moment_at cave place turns state line)) now next
      → let here = moment_at cave place turns state line in
      (place' ≡ place + 1) × (turns' ≡ here.turns) × (state' ≡ here.after)
      → IsOnCourse HasNoted first facts cave seed log old next place' turns' state' left
  IsOnCourse-line next place turns place' turns' state state' line all left is on noted
      (place_is, turns_are, state_is) =
      rw (place_is, turns_are, state_is) (IsOnCourse-more next place turns state line left
      (subst (IsOnCourse HasNoted first facts cave seed log old now place turns state) is on) noted)

  pub IsOnCourse-end : (place turns : ℕ) (state : State) (left : List (List ℕ)) → left ≡ []
      → IsOnCourse HasNoted first facts cave seed log old now place turns state left
      → NotesMore HasNoted (noted_of first facts cave (game_of seed log)) old now
      × IsEndOf cave (game_of seed log) (record { state = state; turns = turns })
  IsOnCourse-end place turns state left none on =
      let ended = subst (IsOnCourse HasNoted first facts cave seed log old now place turns state) none
      on in
      let taken : turns ≡ turns_of cave ((cave_rules cave).begun seed) log =
      omega (arith, ended.takes) in (
        ended.noted now (NotesMore-none HasNoted now),
        record {
          state_is = ended.leads;
          turns_are = taken ∙ sym (ticks-all cave ((cave_rules cave).begun seed) log);
        },
      )
