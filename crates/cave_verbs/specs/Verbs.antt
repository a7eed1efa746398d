-- The actions that have rules of their own, and their numbers in a database.
use Rattle.std.specs.Prelude.{◌≡◌, ℕ, Bool, ◌==◌, List, [], ◌∷◌, Option, Some, None, Result}
use Rattle.std.specs.Prelude.{MatchResult}
use Rattle.std.specs.List.{find}
use Rattle.cave_verbs.specs.declared.verb.NoRules.{NoRules}
use Rattle.cave_verbs.specs.declared.verb.Verb.{Verb}

-- by its number a database knows it
abbrev pub verb_number : Verb → ℕ
verb_number Verb.Take = 1
verb_number Verb.Drop = 2
verb_number Verb.Say = 3
verb_number Verb.Open = 4
verb_number Verb.Nothing = 5
verb_number Verb.Lock = 6
verb_number Verb.On = 7
verb_number Verb.Off = 8
verb_number Verb.Wave = 9
verb_number Verb.Calm = 10
verb_number Verb.Kill = 12
verb_number Verb.Pour = 13
verb_number Verb.Eat = 14
verb_number Verb.Drink = 15
verb_number Verb.Rub = 16
verb_number Verb.Throw = 17
verb_number Verb.Quit = 18
verb_number Verb.Find = 19
verb_number Verb.Inventory = 20
verb_number Verb.Feed = 21
verb_number Verb.Fill = 22
verb_number Verb.Blast = 23
verb_number Verb.Score = 24
verb_number Verb.Foo = 25
verb_number Verb.Brief = 26
verb_number Verb.Read = 27
verb_number Verb.Break = 28
verb_number Verb.Wake = 29

-- each verb, once
abbrev pub EACH_VERB : List Verb
EACH_VERB =
    Verb.Take ∷ Verb.Drop ∷ Verb.Say ∷ Verb.Open ∷ Verb.Nothing ∷ Verb.Lock ∷ Verb.On ∷ Verb.Off ∷
    Verb.Wave ∷ Verb.Calm ∷ Verb.Kill ∷ Verb.Pour ∷ Verb.Eat ∷ Verb.Drink ∷ Verb.Rub ∷ Verb.Throw ∷
    Verb.Quit ∷ Verb.Find ∷ Verb.Inventory ∷ Verb.Feed ∷ Verb.Fill ∷ Verb.Blast ∷ Verb.Score ∷
    Verb.Foo ∷ Verb.Brief ∷ Verb.Read ∷ Verb.Break ∷ Verb.Wake ∷ []

abbrev pub is_verb : Verb → Verb → Bool
is_verb v other = verb_number v == verb_number other

unfoldable pub verb_among : List Verb → ℕ → Option Verb
verb_among verbs number = find (λ v. verb_number v == number) verbs

-- the verb of a number, if the action has rules of its own
unfoldable pub verb_of : ℕ → Option Verb
verb_of number = verb_among EACH_VERB number

abbrev pub IsVerbOf : ℕ → Result Verb NoRules → Type 0
IsVerbOf number r = MatchResult r (λ v. verb_of number ≡ Some v) (λ e. verb_of number ≡ None)

-- each verb is the one of its number
abbrev pub VerbsAreNumbered : Type 0
VerbsAreNumbered = (v : Verb) → verb_of (verb_number v) ≡ Some v
