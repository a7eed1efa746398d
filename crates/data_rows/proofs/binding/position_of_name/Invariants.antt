use Rattle.std.proofs.Common.{◌≡◌, map, drop}
use Rattle.std.specs.List.{position_from}
use Rattle.std.specs.Str.{bytes_eq}
use Rattle.data_rows.specs.BindingGrammar.{position_of_name}
use Rattle.data_rows.proofs.binding.position_of_name.Given as goal

abbrev pub invariant-loop-number : goal.invariant-loop-number
invariant-loop-number l =
    position_from (λ known. bytes_eq known l.name) l.number
    (drop l.number (map (λ known. known.now) l.names))
    ≡ position_of_name (map (λ known. known.now) l.names) l.name
