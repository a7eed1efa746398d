use Rattle.std.proofs.Common.{◌<◌, length, take, arith}
use Rattle.std.proofs.lemmas.List.{length-take}
use Rattle.cave_words.proofs.Padding.{padded_more}
use Rattle.cave_words.proofs.word.Word.word_of.Goals as goal

pub loop-i-preserved : goal.loop-i-preserved
loop-i-preserved c =
    let cut = take c.min.result c.args.bytes.now in
    let within : c.loop-i.i < length cut = omega arith in
    let short : c.loop-i.i < 8 = omega (arith, length-take c.min.result c.args.bytes.now) in
    rw (c.loop-i.invariant, c.to_ascii_uppercase.ensures.value)
    (padded_more cut c.loop-i.i within short)
