-- Ghost rows have no data, so they are made from nothing.
use Rattle.std.proofs.Common.{List, [], ◌∷◌, refl}
use seplogic.Ra.Ura.{Ura}
use mir.Val.{Val, vstruct, vnil}
use types.Logic.{Logic}
use types.Kit.{Goal, Step, step, Item, ‵, ◌$◌, fjoin}
use denote.Laws.{Is}
use denote.Steps.{nothing, owned}
use denote.Struct.Laws.{makes}
use Rattle.cave_world.specs.contracts.ghost_rows.GhostRows.{the_row}
use Rattle.cave_world.specs.contracts.ghost_rows.GhostRows.TheFields as Fields

-- the machine value of all ghost rows
abbrev pub none : Val
none = vstruct vnil

module _ {M : Type 1} {𝓤 : Ura M} {𝓛 : Logic 𝓤} {K : Type 0} {Γ : List (Item 𝓤)}
    {G : Goal 𝓤 𝓛.H} where
  pub made : K → (x : the_row.Denot) → Step K 𝓛 (‵ (the_row.own_val x (none ∷ [])) ∷ Γ) G Γ G
  made t x = step (λ s.
      nothing t $
      owned t Fields.the_row (Is Fields.the_row) (makes Fields.the_type tt 𝓛) (record {})
      (none ∷ []) (tt, (refl, tt)) $
      fjoin t $ s)
