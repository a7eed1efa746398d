-- The law `exact` of a machine, for states whose type has a derived `==`.
use Rattle.std.proofs.Common.{◌≡◌, Bool}
use Rattle.std.specs.Bool.{Decides}
use Rattle.base_lines.specs.Equality.{TellsApart, told_struct}
use denote.Struct.Declared.{Declared}

-- the law, if `==` distinguishes the values of the type
pub exact_value : {A : Type 0} {E : A → A → Bool} (P : A → Type 0)
    → ((a b : A) → TellsApart (E a b) a b) → (a b : A) → P a → P b → Decides (E a b) (a ≡ b)
exact_value P each a b _ _ = (each a b).decides

-- the law of a struct, if `==` distinguishes its fields
pub exact_struct : (T : Declared) {E : T.D → T.D → Bool} (P : T.D → Type 0)
    → ((a b : T.D) → TellsApart (E a b) (T.as_values a) (T.as_values b))
    → (a b : T.D) → P a → P b → Decides (E a b) (a ≡ b)
exact_struct T P each a b _ _ = (told_struct T each a b).decides
