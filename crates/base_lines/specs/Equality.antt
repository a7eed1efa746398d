-- When a derived `==` distinguishes the values of a type, field by field.
use Rattle.std.proofs.Common.{◌≡◌, ℕ, Bool, true, false, ◌&&◌, ◌==◌, List, refl, sym, ap, ◌∙◌}
use Rattle.std.specs.Prelude.{ℤ}
use Rattle.std.specs.Bool.{Decides}
use Rattle.std.specs.Ordering.{int_eq}
use Rattle.std.specs.Cmp.{booleans_Decides, signed_Decides, unsigned_Decides}
use Rattle.std.specs.Cmp.Lexicographic.{pointwise, pointwise_decides}
use Rattle.std.proofs.lemmas.Bool.Decides.{Decides-and, Decides-like}
use mathlib.Core.Bool.{beq}
use denote.Struct.Declared.{Declared}
use denote.Struct.Cover.{Cover-one}
use denote.Enum.Declared.{Declared as EnumDeclared}
use denote.Enum.Bare.{Bare, sameb, same_true, true_same}

-- the test is true exactly if the two are the same
pub record TellsApart {A : Type 0} (test : Bool) (a b : A) : Type 0 where
  pub decides : Decides test (a ≡ b)

-- ---- numbers, truth values, arrays, and enums without fields

pub by_number : (a b : ℕ) → TellsApart (a == b) a b
by_number a b = record { decides = unsigned_Decides a b }

pub by_signed : (a b : ℤ) → TellsApart (int_eq a b) a b
by_signed a b = record { decides = signed_Decides a b }

pub by_bool : (a b : Bool) → TellsApart (beq a b) a b
by_bool a b = record { decides = booleans_Decides a b }

pub by_array : {A : Type 0} {E : A → A → Bool} → ((a b : A) → TellsApart (E a b) a b)
    → (xs ys : List A) → TellsApart (pointwise E xs ys) xs ys
by_array each xs ys = record { decides = pointwise_decides (λ a b. (each a b).decides) xs ys }

pub by_variant : (D : EnumDeclared) → Bare D.parts → (a b : D.D) → TellsApart (sameb D a b) a b
by_variant D bare a b = record { decides = (same_true D bare a b, true_same D a b) }

-- ---- the fields of a struct, as a tuple, which are compared from the first to the last

pub by_no_field : (x y : Unit {0}) → TellsApart true x y
by_no_field x y = record { decides = (λ _. refl, λ _. refl) }

pub by_last_field : {A : Type 0} {test : Bool} (x y : A × Unit {0}) → TellsApart test x.0 y.0
    → TellsApart test x y
by_last_field x y one =
    record { decides = Decides-like _ (λ e i. (e i, tt)) (λ e i. (e i).0) one.decides }

pub by_field : {A B : Type 0} {test rest : Bool} (x y : A × B) → TellsApart test x.0 y.0
    → TellsApart rest x.1 y.1 → TellsApart (test && rest) x y
by_field x y one others = record {
  decides = Decides-like _ (λ h i. (h.0 i, h.1 i)) (λ e. (λ i. (e i).0, λ i. (e i).1))
      (Decides-and _ _ one.decides others.decides);
}

and_moved : (p q r : Bool) → (p && (q && r)) ≡ ((p && q) && r)
and_moved true q r = refl
and_moved false q r = refl

pub by_moved : {A : Type 0} (p q r : Bool) {a b : A} → TellsApart (p && (q && r)) a b
    → TellsApart ((p && q) && r) a b
by_moved p q r one = record {
  decides = (
    λ e. one.decides.0 (and_moved p q r ∙ e),
    λ e. sym (and_moved p q r) ∙ one.decides.1 e,
  );
}

-- the fields of a struct, as the tuple of its values
pub told_struct : (T : Declared) {E : T.D → T.D → Bool}
    → ((a b : T.D) → TellsApart (E a b) (T.as_values a) (T.as_values b))
    → (a b : T.D) → TellsApart (E a b) a b
told_struct T each a b = record {
  decides = Decides-like _ (Cover-one T.cover T.propositions a b) (λ e. ap T.as_values e)
      (each a b).decides;
}

pub ruleset told_apart = (
  by_number,
  by_signed,
  by_bool,
  by_array,
  by_variant,
  by_no_field,
  by_last_field,
  by_field,
  by_moved,
)
