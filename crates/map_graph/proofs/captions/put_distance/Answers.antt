use Rattle.std.proofs.Common.{◌++◌, codes, subst}
use Rattle.std.specs.Fmt.{decimal}
use Rattle.base_text.specs.Text.{Tells}
use Rattle.map_graph.proofs.captions.put_distance.Goals as goal

pub returns : goal.returns
returns c =
    subst (λ end. Tells (codes "<BR/>drawn: at most " ++ (decimal c.args.ways ++ (codes " way"
    ++ (end ++ (codes " from place " ++ decimal c.args.place))))) c.args.text.now c.write.new.self)
    c.plural.ensures c.write.ensures
