-- States whose lists are in order are equal exactly if they are the same game.
use Rattle.std.proofs.Common.{◌≡◌, refl, subst}
use Rattle.std.specs.Prelude.{◌↔◌}
use Rattle.cave_world.specs.SameGame.{IsSameGame}
use Rattle.cave_world.specs.declared.state.State.{State}
use Rattle.world_objects.specs.Lists.{AreLists}
use Rattle.world_objects.proofs.SameLists.{Ascend-AreLists, same_lists}

itself : (a : State) → IsSameGame a a
itself a = record {
  trail = refl;
  spots = refl;
  anchors = refl;
  props = refl;
  lists = λ _. refl;
  visits = refl;
  lamp = refl;
  closing = refl;
  tallies = refl;
  talk = refl;
  dwarves = refl;
  hints = refl;
  question = refl;
  ending = refl;
  stream = refl;
}

joined : (a b : State) → AreLists a.objects.lists → AreLists b.objects.lists → IsSameGame a b
    → a ≡ b
joined a b first second s =
    let lists : a.objects.lists ≡ b.objects.lists =
    same_lists a.objects.lists b.objects.lists (Ascend-AreLists a.objects.lists first)
    (Ascend-AreLists b.objects.lists second) s.lists in
    λ i. record {
      trail = s.trail i;
      objects = record {
        first = s.spots i;
        second = s.anchors i;
        props = s.props i;
        lists = lists i;
      };
      visits = s.visits i;
      lamp = s.lamp i;
      closing = s.closing i;
      tallies = s.tallies i;
      talk = s.talk i;
      dwarves = s.dwarves i;
      hints = s.hints i;
      question = s.question i;
      ending = s.ending i;
      stream = s.stream i;
    }

pub same_state : (a b : State) → AreLists a.objects.lists → AreLists b.objects.lists
    → (a ≡ b) ↔ IsSameGame a b
same_state a b first second =
    (λ e. subst (λ s. IsSameGame a s) e (itself a), joined a b first second)
