use Rattle.std.proofs.Common.{◌≡◌, ◌<◌, length, get_or, ◌∙◌, arith}
use Rattle.std.proofs.lemmas.List.{take_more, take_more_set, map-append, length-set}
use Rattle.cave_words.specs.Named.{object_named}
use Rattle.cave_words.specs.declared.named.TheConstants.{EACH_NAME}
use Rattle.cave_words.specs.declared.named.Named.TheVariants as name
use Rattle.cave_words.proofs.lexicon.objects_of_names.Goals as goal

pub loop-i-preserved : goal.loop-i-preserved
loop-i-preserved c =
    let i = c.loop-i.i in
    let objects = c.loop-i.objects in
    let object = c.object_named.result in
    let all : length objects ≡ 46 = c.loop-i.invariant.1 in
    let within : i < length objects = omega arith in
    let named : i < length EACH_NAME = omega arith in (
      λ cave is.
          let known : object ≡ object_named cave (get_or EACH_NAME i name.Keys) =
          c.object_named.ensures cave is in
          rw (take_more_set objects i object within, take_more EACH_NAME i name.Keys named)
          rw (map-append, c.loop-i.invariant.0 cave is, known),
      length-set objects i object ∙ all,
    )
