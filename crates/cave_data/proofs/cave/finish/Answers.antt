use Rattle.std.proofs.Common.{refl}
use Rattle.cave_data.proofs.CaveLemmas.{get-printed_texts}
use Rattle.cave_data.proofs.cave.finish.Goals as goal

pub returns : goal.returns
returns c = record {
  long = get-printed_texts _;
  short = get-printed_texts _;
  travel = λ n. refl;
  words = refl;
  objects = get-printed_texts _;
  messages = get-printed_texts _;
  placements = refl;
  defaults = refl;
  conditions = refl;
  classes = refl;
  hints = refl;
  roles = refl;
  places = refl;
  letters = c.letters_of.ensures.value;
}
