-- Reading words keeps each claim, as it changes no state.
use Rattle.std.proofs.Common.{Bool}
use Rattle.std.specs.Prelude.{if◌then◌else◌}
use Rattle.cave_data.specs.CaveView.{CaveView}
use Rattle.turn_scene.specs.Rows.{Act, Deed}
use Rattle.cave_turn.specs.ObjectWords.{object_word}
use Rattle.cave_turn.specs.Request.{by_object_alone, by_object_before, two_words}
use Rattle.cave_turn.specs.Request.{word_alone, word_aloud, word_before, word_entered}
use Rattle.cave_turn.specs.Request.{words_of_line}
use Rattle.cave_turn.specs.declared.object_words.ObjectWord.{ObjectWord}
use Rattle.turn_laws.proofs.Effects.{act_chosen}
use Rattle.turn_laws.proofs.View.{Claim, IsKept, Line, On, Ready, Somewhere, choose}

module _ {game : CaveView} {l : Line} {Q P : Claim} (k : IsKept game l Q P) where
  abbrev R : Claim
  R = Ready (Somewhere l) P

  abbrev Keep : {C F : Type 0} → (Deed C → Act F) → Type 0
  Keep {C} f = (d : Deed C) → On R d.scene.state → On R (f d).scene.state

  -- what follows one of two acts
  then_chosen : {F : Type 0} (b : Bool) (a c : Act (Act F)) → On R a.step.scene.state
      → On R c.step.scene.state → On R (if b then a else c).step.scene.state
  then_chosen b a c h g =
      choose (λ (one : Act (Act _)). On R one.step.scene.state) b a c (λ _. h) (λ _. g)

  object_kept : Keep object_word
  unfolding object_word
  object_kept d h = search act_chosen depth 14

  found_kept : (w : ObjectWord) → Keep (by_object_alone w)
  found_kept (ObjectWord.Is x) d h = h
  found_kept _ d h = h

  alone_kept : Keep word_alone
  unfolding word_alone
  alone_kept d h = search (then_chosen, found_kept, object_kept) depth 14

  before_kept : (w : ObjectWord) → Keep (by_object_before w)
  before_kept (ObjectWord.Is x) d h = alone_kept _ h
  before_kept _ d h = h

  pub read_kept : Keep words_of_line
  unfolding words_of_line two_words word_entered word_before word_aloud
  read_kept d h = search (then_chosen, before_kept, object_kept, alone_kept) depth 30
