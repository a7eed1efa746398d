-- The halves so far are written.
use Rattle.std.proofs.Common.{drop}
use Rattle.base_text.specs.Text.{TellsUpTo}
use Rattle.play_state_text.specs.Things.{more_halves_text}
use Rattle.play_state_text.proofs.places.put_more_halves.Given as goal

abbrev pub invariant-loop-half : goal.invariant-loop-half
invariant-loop-half l =
    TellsUpTo (more_halves_text l.cave (drop l.half-index l.halves))
    (more_halves_text l.cave l.halves) l.initial.text l.text
