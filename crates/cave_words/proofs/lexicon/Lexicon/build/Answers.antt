use Rattle.std.proofs.Common.{◌≡◌, map, ◌∙◌, arith}
use Rattle.cave_words.proofs.Lexicons.{lexicon_of}
use Rattle.cave_words.specs.Lexicon.{IsIndexOf}
use Rattle.cave_words.specs.Named.{object_named}
use Rattle.cave_words.specs.Words.{NAME_LETTERS}
use Rattle.cave_words.specs.declared.named.TheConstants.{EACH_NAME}
use Rattle.cave_words.proofs.lexicon.Lexicon.build.Goals as goal
use Rattle.cave_words.proofs.lexicon.Lexicon.build.Goals.{then-letters-eq-NAME_LETTERS}
use Rattle.cave_words.proofs.lexicon.Lexicon.build.Goals.{else-letters-eq-NAME_LETTERS+in_ok-index}

pub returns : goal.returns
returns c =
    let cave = c.args.cave.now in
    let rows : c.words-rows.result.now ≡ cave.words = c.words-rows.ensures in
    let letters : c.letters-letters.result ≡ cave.letters = c.letters-letters.ensures.value in
    let words : IsIndexOf cave.letters cave.words c.in_ok-words.words.entries =
    λ word. rw (← rows, ← letters) (c.in_ok-words.ensures word) in
    let names : c.if-letters-eq-NAME_LETTERS.names ≡ map (object_named cave) EACH_NAME =
    elim c.if-letters-eq-NAME_LETTERS.branch [
      | then-letters-eq-NAME_LETTERS w ↦
          let five : c.letters-letters.result ≡ NAME_LETTERS = omega arith in
          w.names-is
          ∙ w.objects_of_names-names.ensures cave
          (λ word. rw (← rows, ← five) (c.in_ok-words.ensures word))
      | else-letters-eq-NAME_LETTERS+in_ok-index w ↦
          w.names-is
          ∙ w.objects_of_names-names-else-letters-eq-NAME_LETTERS.ensures cave
          (λ word. rw (← rows) (w.in_ok-index.ensures word))
    ] in
    lexicon_of cave _ letters words names
