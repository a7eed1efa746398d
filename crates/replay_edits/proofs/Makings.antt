-- Changes that are made one after another, and those that take them back.
use Rattle.std.proofs.Common.{◌≡◌, List, [], ◌∷◌, ◌++◌, refl, ◌∙◌, None}
use Rattle.std.proofs.lemmas.List.{append_assoc}
use Rattle.replay_edits.specs.Edit.{Game, Change, apply, apply_all, inverse_of, inverse_of_each}
use Rattle.replay_edits.specs.Faults.{fault_of}
use Rattle.replay_edits.proofs.Inverses.{IsFree}

-- `left` remains of all changes of a game, to be made in the game `now`; `back` takes the others
-- back
pub record IsMaking (all left : List Change) (game now : Game) (back : List Change) : Type 0 where
  pub free : IsFree left now.log
  pub ends : apply_all left now ≡ apply_all all game
  pub taken : back ++ inverse_of_each left now ≡ inverse_of_each all game

pub IsMaking-start : (all : List Change) (game : Game) → IsFree all game.log
    → IsMaking all all game game []
IsMaking-start all game free = record {
  free = free;
  ends = refl;
  taken = refl;
}

pub IsMaking-next : (all left : List Change) (change : Change) (game now : Game)
    (back : List Change) → IsMaking all (change ∷ left) game now back
    → fault_of change now.log ≡ None
IsMaking-next all left change game now back making = making.free.0

-- one more change
pub IsMaking-more : (all left : List Change) (change inverse : Change) (game now next : Game)
    (back back' : List Change) → IsMaking all (change ∷ left) game now back
    → next ≡ apply change now → inverse ≡ inverse_of change now → back' ≡ back ++ inverse ∷ []
    → IsMaking all left game next back'
IsMaking-more all left change inverse game now next back back' making made taken more = record {
  free = rw made making.free.1;
  ends = rw made making.ends;
  taken = rw (more, taken, made)
      (append_assoc back (inverse_of change now ∷ []) (inverse_of_each left (apply change now))
      ∙ making.taken);
}
