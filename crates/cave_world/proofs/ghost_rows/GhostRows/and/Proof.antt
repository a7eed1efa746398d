use Rattle.std.proofs.Common.{[], ◌∷◌, ◌++◌, refl}
use Rattle.std.proofs.raw_atomic.Walks.{proved}
use mir.Syntax.{named}
use base.Fml.{ftrue}
use types.Kit.{‵, raw, ◌⊛◌, ◌$◌, ◌∵◌, !, qed, keep, move, split, join, suffices, done}
use types.Part.{agg}
use types.Run.{enter, returns, no_more}
use types.ByLocal.{alloc_all, pass_all, free_all, look_at, sets}
use denote.Exit.{yes}
use denote.RattleType.{owns}
use denote.Builtin.{RefOf}
use denote.Ref.{shr_vals, shr_Tells}
use denote.Signature.{plain, types_at}
use denote.Steps.{nothing}
use denote.Triple.Entry.{alive}
use denote.Triple.Walked.{Stays, stay_dropped, Goes-dropped, walk_of, says, ends_at}
use Rattle.cave_world.specs.contracts.tables.RuleRow.{the_row as Row}
use Rattle.cave_world.proofs.tables.RuleRow.TheLaws.{the_told, the_row_laws}
use Rattle.cave_world.specs.contracts.ghost_rows.GhostRows.{the_row}
use Rattle.cave_world.specs.contracts.ghost_rows.GhostRows.and as f
use Rattle.cave_world.proofs.Made.{none, made}
use Rattle.cave_world.proofs.ghost_rows.GhostRows.and.Statement.{statement}
use Rattle.cave_world.proofs.ghost_rows.GhostRows.and.Code as code

abbrev stayed : Stays f.ended.signature.params f.ended.kept
stayed = (stay_dropped _ yes, (stay_dropped _ yes, tt))

pub and_spec : {M : Type 1} → statement M
and_spec 𝓤 𝓛 𝓜 𝓡 wired =
    let c = f.clauses 𝓛 𝓜.mem 𝓡.returns in let W = walk_of 𝓛 f.ended stayed c in
    let self_slot = RefOf (0 ∷ []) tt (plain (λ _. the_row)) (λ _. tt) in
    let self_goes = Goes-dropped 𝓛 1 self_slot yes (λ κs x w. refl) in
    let row_goes = Goes-dropped 𝓛 1 (plain (λ _. Row)) yes (λ κs x w. refl) in
    proved 𝓛 f.ended stayed c 𝓜 𝓡 (self_goes, (row_goes, tt)) f.Key.name code.function
    (code.unfolded 𝓤 𝓛.H 𝓜 𝓡 wired) (λ κs. (shr_vals, ((λ r. the_told.val r ∷ []), tt)))
    (λ κs. (shr_Tells (named 0) κs.0 the_row, (the_told.tells, tt))) (λ κs qs bounds a n are.
    let self = a.0 in let row = a.1.0 in let vs = the_told.val row ∷ [] in
    let y : W.Ghost = ((κs, qs, bounds, a, (shr_vals self, (vs, tt))), n) in
    let more : the_row.Denot = record { rows = self.now.rows ++ row ∷ [] } in
    let tokens = alive 𝓛 f.signature κs qs in
    qed 𝓛 ((raw tokens ⊛ ‵ (owns (types_at f.signature.params κs) a y.0.4)) ∷ ‵ ftrue ∷ []) ∵
    keep ! (0 ∷ []) $ split ! $ keep ! (0 ∷ []) $
    enter ! _ _ _ _ _ $
    alloc_all ! (λ l. pass_all ! refl ((tt, tt), (the_row_laws.lawful 𝓛).typed row vs are.1.0) $
    sets ! (agg ! (no_more !)) refl (tt, tt) $
    returns ! (look_at ! 0 refl) $ free_all ! refl $
    suffices ! _ (ends_at 𝓛 f.ended stayed c y none more (tt, (tt, tt)) (tt, (tt, tt))) $
    says ! refl $
    -- only the tokens are left
    made ! more $ nothing ! $ nothing ! $ join ! $ nothing ! $ join ! $
    move ! (2 ∷ 0 ∷ 1 ∷ []) $ done !))
