use Rattle.std.proofs.Common.{ap, map, sym, subst, ◌∙◌}
use Rattle.cave_play.specs.Sources.{IsReading, IsTaken}
use Rattle.play_program.specs.Sources.{entries_in, held_in, held_of, typed_text, waiting_entry}
use Rattle.play_program.proofs.SourceLemmas.{IsTaken-first, IsTaken-missing, Says-missing}
use Rattle.play_program.proofs.SourceLemmas.{held_for-first, of_input-taken, same_inputs}
use Rattle.play_program.proofs.SourceLemmas.{without_none}
use Rattle.play_program.proofs.sources.FilesFileSources.read.Goals as goal

pub returns-in-Some-clause-read : goal.returns-in-Some-clause-read
returns-in-Some-clause-read g c =
    let old = c.args.self.now in
    let bytes_of = g.S.System.bytes_of old.system.now in
    let left = g.S.File.Read.remaining in
    let entries = entries_in g.S.System.bytes_of left old in
    let entry = waiting_entry bytes_of left c.in-Some.file in
    let is = sym (c.in-Some.ensures bytes_of).0 in
    let here = same_inputs c.in-Some.file.input c.args.input
    (of_input-taken c.args.input entries entry is).0 in
    subst (λ k. IsReading k c.args.input c.read_file.result)
    (sym (held_for-first (typed_text old.request.now) entries c.args.input entry is))
    (subst (λ from. IsReading entry.known from c.read_file.result) here c.read_file.ensures.read)

pub returns-in-Some-clause-taken : goal.returns-in-Some-clause-taken
returns-in-Some-clause-taken g c =
    let old = c.args.self.now in
    let bytes_of = g.S.System.bytes_of old.system.now in
    let left = g.S.File.Read.remaining in
    let entries = entries_in g.S.System.bytes_of left old in
    let typed = typed_text old.request.now in
    let entry = waiting_entry bytes_of left c.in-Some.file in
    let (found, taken) = c.in-Some.ensures bytes_of in
    let same = ap (λ b. held_of typed (map (waiting_entry b left) c.take.new.waiting.items))
    c.read_file.ensures.kept ∙ ap (held_of typed) taken in
    subst (IsTaken c.args.input (held_in g.S.System.bytes_of left old)) (sym same)
    (IsTaken-first typed entries c.args.input entry (sym found))

pub returns-in-None-clause-read : goal.returns-in-None-clause-read
returns-in-None-clause-read g c =
    let old = c.args.self.now in
    let bytes_of = g.S.System.bytes_of old.system.now in
    let entries = entries_in g.S.System.bytes_of g.S.File.Read.remaining old in
    let (bytes, says, read) = c.read_missing.ensures in (
      bytes,
      Says-missing (typed_text old.request.now) entries c.args.input bytes
          (sym (c.in-None.ensures bytes_of).0) says,
      read,
    )

pub returns-in-None-clause-taken : goal.returns-in-None-clause-taken
returns-in-None-clause-taken g c =
    let old = c.args.self.now in
    let bytes_of = g.S.System.bytes_of old.system.now in
    let left = g.S.File.Read.remaining in
    let entries = entries_in g.S.System.bytes_of left old in
    let typed = typed_text old.request.now in
    let (found, taken) = c.in-None.ensures bytes_of in
    let none = sym found in
    let same = ap (held_of typed) (taken ∙ without_none c.args.input entries none) in
    subst (IsTaken c.args.input (held_in g.S.System.bytes_of left old)) (sym same)
    (IsTaken-missing typed entries c.args.input none)
