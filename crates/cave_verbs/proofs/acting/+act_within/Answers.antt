use Rattle.std.proofs.Common.{◌≡◌, ℕ, ◌<◌, ◌≤◌, ◌-◌, suc, zero, arith, sym, ◌∙◌, ap, subst}
use Rattle.turn_scene.specs.Scene.{scene_of, cave_of}
use Rattle.cave_verbs.specs.Rows.{going_on}
use Rattle.turn_scene.specs.Rows.{Deed, Act, deed, act_of}
use Rattle.cave_verbs.specs.declared.next.VerbStep.TheVariants.{Done, GoOn}
use Rattle.cave_verbs.specs.declared.verb.Verb.{Verb}
use Rattle.cave_verbs.specs.declared.task.Task.{Task}
use Rattle.cave_verbs.specs.declared.next.VerbStep.{VerbStep}
use Rattle.cave_verbs.specs.Acting.{act_within, act_once}
use Rattle.cave_verbs.proofs.acting.+act_within.Goals as goal

-- what a greater rank doesn't exceed isn't 0
above : (low high left : ℕ) → suc low ≤ high → high ≤ left → 0 < left
above low high left greater fits = omega arith

-- what goes on has one verb less left
going_within : (left : ℕ) (d : Deed Task) (v : Verb) (x : ℕ) → 0 < left
    → (act_once d).step ≡ GoOn v x
    → act_within left d
    ≡ act_within (left - 1) (deed d.cave (going_on d.about v x) (act_once d).scene)
unfolding act_within
going_within zero d v x some is = grind (arith, some)
going_within (suc left) d v x some is = grind (arith, is)

pub returns-in-GoOn-clause-rules : goal.returns-in-GoOn-clause-rules
returns-in-GoOn-clause-rules g t c =
    let deed_now = deed (cave_of c.args.rules.now) c.args.task
    (scene_of g.N.RowNotes.rows c.args.scene.now) in
    let once = c.act_once.ensures.rules.0 in
    let some = above _ _ c.args.left c.in-GoOn.ensures.ranks c.requires.rank in
    let step = sym (ap (λ (a : Act VerbStep). a.step) once) ∙ c.in-GoOn.is in
    let here =
    λ (a : Act VerbStep). act_of (scene_of g.N.RowNotes.rows c.act_within.new.scene)
    (Done c.act_within.result)
    ≡ act_within (c.args.left - 1)
    (deed (cave_of c.args.rules.now)
    (going_on c.args.task c.in-GoOn.verb c.in-GoOn.object) a.scene) in
    subst here once c.act_within.ensures.rules
    ∙ sym (going_within c.args.left deed_now c.in-GoOn.verb c.in-GoOn.object some step)
