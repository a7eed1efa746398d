-- Each verb is the one of its number.
use Rattle.std.proofs.Common.{refl}
use Rattle.cave_verbs.specs.declared.verb.Verb.TheVariants as verb
use Rattle.cave_verbs.specs.Verbs.{verb_of, verb_among, VerbsAreNumbered}

pub verbs_are_numbered : VerbsAreNumbered
unfolding verb_of verb_among
verbs_are_numbered verb.Take = refl
verbs_are_numbered verb.Drop = refl
verbs_are_numbered verb.Say = refl
verbs_are_numbered verb.Open = refl
verbs_are_numbered verb.Nothing = refl
verbs_are_numbered verb.Lock = refl
verbs_are_numbered verb.On = refl
verbs_are_numbered verb.Off = refl
verbs_are_numbered verb.Wave = refl
verbs_are_numbered verb.Calm = refl
verbs_are_numbered verb.Kill = refl
verbs_are_numbered verb.Pour = refl
verbs_are_numbered verb.Eat = refl
verbs_are_numbered verb.Drink = refl
verbs_are_numbered verb.Rub = refl
verbs_are_numbered verb.Throw = refl
verbs_are_numbered verb.Quit = refl
verbs_are_numbered verb.Find = refl
verbs_are_numbered verb.Inventory = refl
verbs_are_numbered verb.Feed = refl
verbs_are_numbered verb.Fill = refl
verbs_are_numbered verb.Blast = refl
verbs_are_numbered verb.Score = refl
verbs_are_numbered verb.Foo = refl
verbs_are_numbered verb.Brief = refl
verbs_are_numbered verb.Read = refl
verbs_are_numbered verb.Break = refl
verbs_are_numbered verb.Wake = refl
