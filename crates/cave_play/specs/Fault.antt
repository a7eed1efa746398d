-- What a fault of a run says.
use Rattle.std.specs.Prelude.{ℕ, Option, None, Some, nat_lt, if◌then◌else◌}
use Rattle.data_rows.specs.declared.error.FaultSite.{FaultSite}
use Rattle.check_doubts.specs.declared.flaw.Source.{Source}
use Rattle.play_edits.specs.Refusal.{refusal_line}
use Rattle.play_command.specs.declared.line.Input.{Input}
use Rattle.cave_play.specs.declared.fault.LogFault.{LogFault}
use Rattle.cave_play.specs.declared.fault.PlayFault.{PlayFault}
use Rattle.cave_play.specs.declared.fault.ScriptFault.{ScriptFault}

-- the status with which the program ends at a fault
abbrev pub status_of : PlayFault → ℕ
status_of (PlayFault.Cave error clue) = 1
status_of (PlayFault.Doubt found) = 1
status_of PlayFault.LargeKnown = 1
status_of (PlayFault.Unshown count) = 1
status_of PlayFault.Seed = 2
status_of PlayFault.Every = 2
status_of (PlayFault.Unmapped place) = 2
status_of (PlayFault.Log refused) = 3
status_of (PlayFault.NewLog refused) = 3
status_of (PlayFault.Script refused) = 4
status_of (PlayFault.Refused refusal) = 4
status_of (PlayFault.Read from) = 5
status_of PlayFault.Write = 6
status_of PlayFault.LargeLog = 6
status_of PlayFault.LargeScript = 6
status_of PlayFault.Memory = 7

-- which of a cave's two inputs a place of a fault is in
abbrev pub input_at : FaultSite → Input
input_at FaultSite.Bindings = Input.Bindings
input_at _ = Input.Cave

-- the input that a doubt is about
abbrev pub input_from : Source → Input
input_from Source.Database = Input.Cave
input_from Source.Bindings = Input.Bindings

-- the input at fault
abbrev pub input_of : PlayFault → Option Input
input_of (PlayFault.Cave error clue) = Some (input_at error.site)
input_of (PlayFault.Doubt found) = Some (input_from found.source)
input_of (PlayFault.Unmapped place) = Some Input.Cave
input_of PlayFault.LargeKnown = Some Input.Known
input_of (PlayFault.Log refused) = Some Input.Log
input_of (PlayFault.NewLog refused) = Some Input.NewLog
input_of (PlayFault.Script refused) = Some Input.Script
input_of (PlayFault.Refused refusal) = Some Input.Script
input_of (PlayFault.Read from) = Some from
input_of _ = None

abbrev pub faulty_line : PlayFault → Option ℕ
faulty_line (PlayFault.Cave error clue) = if nat_lt 0 error.line then Some error.line else None
faulty_line (PlayFault.Doubt found) = Some found.line
faulty_line (PlayFault.Log (LogFault.BadLine line flaw)) = Some line
faulty_line (PlayFault.NewLog (LogFault.BadLine line flaw)) = Some line
faulty_line (PlayFault.Script (ScriptFault.Malformed line flaw)) = Some line
faulty_line (PlayFault.Refused refusal) = Some (refusal_line refusal)
faulty_line _ = None
