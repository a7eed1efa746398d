-- READ.
use Rattle.std.specs.Prelude.{ℕ, List, [], ◌∷◌}
use Rattle.data_rows.specs.declared.role.Role.TheVariants as role
use Rattle.cave_words.specs.declared.named.Named.TheVariants as name
use Rattle.cave_world.specs.State.{CLUE_HINT}
use Rattle.cave_world.specs.declared.ending.Question.TheVariants as question
use Rattle.cave_world.specs.declared.part.Part.TheVariants as part
use Rattle.cave_world.specs.declared.part.WordLine.TheVariants as line
use Rattle.turn_scene.specs.Rows.{Deed, Effect, row_then, otherwise_then, always}
use Rattle.turn_scene.specs.Effects.{tell, say}
use Rattle.turn_scene.specs.Tests.{there_is, carried, near, cave_closed, in_the_dark, has_hint}
use Rattle.cave_verbs.specs.Choice.{candidate, objects_meant, only}
use Rattle.cave_verbs.specs.Rows.{VerbRow, row, keeps, poses, does, stays, x, is}
use Rattle.cave_verbs.specs.Effects.{default, ask_what}
use Rattle.cave_verbs.specs.declared.verb.Verb.TheVariants as verb
use Rattle.cave_verbs.specs.declared.task.Task.{Task}
use Rattle.cave_verbs.specs.Things.{magazine, message, oyster, tablet}

-- the game says that it doesn't see here what the word that was just read names
abbrev pub not_seen : Effect Task
not_seen d = tell (part.Word line.NotSeen d.about.word) d

abbrev pub papers : Deed Task → List ℕ
papers = objects_meant
    (candidate name.Magazine (near magazine)
    ∷ candidate name.Tablet (near tablet)
    ∷ candidate name.Message (near message)
    ∷ [])

unfoldable pub bare_read_rows : List VerbRow
bare_read_rows =
    row_then (in_the_dark ∷ []) (ask_what ∷ []) keeps
    ∷ row_then (cave_closed ∷ carried oyster ∷ []) [] (does verb.Read oyster)
    ∷ row_then (there_is (only papers) ∷ []) [] (does verb.Read (only papers))
    ∷ otherwise_then (ask_what ∷ []) keeps

unfoldable pub read_rows : List VerbRow
read_rows =
    row (in_the_dark ∷ []) (not_seen ∷ [])
    ∷ row (is name.Magazine ∷ []) (say role.ReadMagazine ∷ [])
    ∷ row (is name.Tablet ∷ []) (say role.ReadTablet ∷ [])
    ∷ row (is name.Message ∷ []) (say role.ReadMessage ∷ [])
    ∷ row (is name.Oyster ∷ carried x ∷ has_hint (always CLUE_HINT) ∷ []) (say role.ReadOyster ∷ [])
    ∷ row_then (is name.Oyster ∷ carried x ∷ cave_closed ∷ []) [] (poses question.Oyster)
    ∷ otherwise_then (default ∷ []) stays
