-- Where a script is first malformed: all lines before are well formed.
use Rattle.std.specs.Prelude.{◌≡◌, ◌⊎◌, ℕ, ◌+◌, List, ◌∷◌, ◌++◌, length, codes}
use Rattle.replay_edits.specs.Edit.{Change}
use Rattle.replay_scripts.specs.Line.{IsKind, IsWord, nonsense}
use Rattle.replay_scripts.specs.Script.{Applied, IsBody, IsScript}
use Rattle.replay_scripts.specs.declared.fault.ScriptFlaw.{ScriptFlaw}
use Rattle.replay_scripts.specs.declared.fault.ScriptRefusal.{ScriptRefusal}
use Rattle.replay_scripts.specs.declared.fault.ScriptRefusal.TheVariants.{Malformed, Memory}

-- the lines, numbered from `number` on, are whole items
pub record AreWholeItems (number : ℕ) (whole : List (List ℕ)) : Type 0 where
  pub items : List Applied
  pub is_script : IsScript number whole items

-- the lines are whole items, and then a group that begins on the line `begun` and isn't closed
pub record IsOpen (number : ℕ) (whole : List (List ℕ)) (begun : ℕ) : Type 0 where
  pub before : List (List ℕ)
  pub first : List ℕ
  pub inner : List (List ℕ)
  pub changes : List Change
  pub numbers : List ℕ
  pub parts : whole ≡ before ++ first ∷ inner
  pub here : begun ≡ number + length before
  pub is_whole : AreWholeItems number before
  pub begins : IsWord (codes "begin") first
  pub is_body : IsBody (begun + 1) inner changes numbers

-- this line has the number `at`, and these come before it
pub record IsLineAt (number : ℕ) (whole : List (List ℕ)) (at : ℕ) (before : List (List ℕ))
    (line : List ℕ) : Type 0 where
  pub rest : List (List ℕ)
  pub parts : whole ≡ before ++ line ∷ rest
  pub here : at ≡ number + length before

-- the line `at` is the first malformed one, and has this flaw
abbrev pub IsMalformedAt : ℕ → List (List ℕ) → ℕ → ScriptFlaw → Type 0
IsMalformedAt number whole at (ScriptFlaw.NoEdit flaw) =
    (before : List (List ℕ)) × (line : List ℕ) × IsLineAt number whole at before line
    × IsKind line (nonsense flaw)
    × (AreWholeItems number before ⊎ ((begun : ℕ) × IsOpen number before begun))
IsMalformedAt number whole at ScriptFlaw.BeginInGroup =
    (before : List (List ℕ)) × (line : List ℕ) × IsLineAt number whole at before line
    × IsWord (codes "begin") line
    × ((begun : ℕ) × IsOpen number before begun)
IsMalformedAt number whole at ScriptFlaw.EndOutsideGroup =
    (before : List (List ℕ)) × (line : List ℕ) × IsLineAt number whole at before line
    × IsWord (codes "end") line × AreWholeItems number before
IsMalformedAt number whole at ScriptFlaw.NoEnd = IsOpen number whole at
IsMalformedAt number whole at ScriptFlaw.NoneGuarded = ⊥

-- the fault is that of the first malformed line, unless memory ran out
abbrev pub IsFirstMalformed : List (List ℕ) → ScriptRefusal → Type 0
IsFirstMalformed whole Memory = Unit {0}
IsFirstMalformed whole (Malformed at flaw) = IsMalformedAt 1 whole at flaw
