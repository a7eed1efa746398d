-- Kinds of facts are listed as different exactly if the facts differ.
use Rattle.std.proofs.Common.{◌≡◌, ◌∙◌, Bool, true, false, cond, ◌==◌, ◌&&◌, not, ℕ, List, [], ◌∷◌}
use Rattle.std.proofs.Common.{◌++◌, refl, sym, ap, subst}
use Rattle.std.specs.Prelude.{codes, if◌then◌else◌}
use Rattle.std.specs.List.{filter, flat_map, list_all}
use Rattle.std.proofs.lemmas.Bool.{and_parts}
use Rattle.std.proofs.lemmas.Bool.Decides.{Decides-not}
use Rattle.cave_world.specs.declared.state.State.{State}
use Rattle.play_state_text.proofs.FactEquality.{fact_decides}
use Rattle.play_state_text.specs.Facts.{each_kind, fact_in, is_same_in, kind_name}
use Rattle.play_state_text.specs.declared.kind.FactKind.{FactKind}
use Rattle.play_tables.specs.Differences.{AreAlike, difference_text, differences_text}
use Rattle.play_tables.specs.Differences.{without_separator}
use Rattle.play_laws.specs.ListedDifferences.{DifferencesAreListed, NoDifferenceIsADash}
use Rattle.play_laws.specs.ListedDifferences.{names_of_kinds}

-- ---- what a row lists

abbrev named : FactKind → List ℕ
named kind = codes ", " ++ kind_name kind

by_test : (same : Bool) (kind : FactKind) (kinds : List FactKind) (rest : List ℕ)
    → rest ≡ flat_map named kinds
    → (if same then [] else named kind) ++ rest
    ≡ flat_map named (cond (not same) (kind ∷ kinds) kinds)
by_test true kind kinds rest is = is
by_test false kind kinds rest is = ap (λ text. named kind ++ text) is

names_listed : (s t : State) (kinds : List FactKind)
    → flat_map (difference_text s t) kinds
    ≡ flat_map named (filter (λ kind. not (is_same_in kind s t)) kinds)
unfolding difference_text
names_listed s t [] = refl
names_listed s t (kind ∷ kinds) =
    by_test (is_same_in kind s t) kind (filter (λ kind. not (is_same_in kind s t)) kinds)
    (flat_map (difference_text s t) kinds) (names_listed s t kinds)

text_listed : (s t : State) → differences_text s t
    ≡ names_of_kinds (filter (λ kind. not (is_same_in kind s t)) each_kind)
unfolding differences_text
text_listed s t = ap without_separator (names_listed s t each_kind)

pub differences_are_listed : DifferencesAreListed
differences_are_listed s t = record {
  differs = λ kind. not (is_same_in kind s t);
  exact = λ kind. Decides-not (is_same_in kind s t) (fact_decides (fact_in kind s) (fact_in kind t));
  listed = text_listed s t;
}

-- ---- a dash

-- a name doesn't begin with a dash
abbrev opens_otherwise : List ℕ → Bool
opens_otherwise [] = false
opens_otherwise (byte ∷ bytes) = not (byte == 45)

abbrev is_no_dash : FactKind → Bool
is_no_dash kind = opens_otherwise (kind_name kind)

no_dash : (name rest : List ℕ) → opens_otherwise name ≡ true → ¬ (name ++ rest ≡ codes "-")
no_dash [] rest other = cc
no_dash (byte ∷ name) rest other = λ same.
    let dash : byte ≡ 45 = cc in
    let closed : false ≡ true = sym (ap (λ n. not (n == 45)) dash) ∙ other in
    cc

-- no kinds are listed if a dash is
none_listed : (differs : FactKind → Bool) (kinds : List FactKind)
    → list_all is_no_dash kinds ≡ true
    → names_of_kinds (filter differs kinds) ≡ codes "-" → filter differs kinds ≡ []
none_listed differs [] passes dash = refl
none_listed differs (kind ∷ kinds) passes dash =
    let both = and_parts (is_no_dash kind) (list_all is_no_dash kinds) passes in
    by_difference (differs kind) both.0 (none_listed differs kinds both.1) dash
  where
    by_difference : (is : Bool) → is_no_dash kind ≡ true
        → (names_of_kinds (filter differs kinds) ≡ codes "-" → filter differs kinds ≡ [])
        → names_of_kinds (cond is (kind ∷ filter differs kinds) (filter differs kinds)) ≡ codes "-"
        → cond is (kind ∷ filter differs kinds) (filter differs kinds) ≡ []
    by_difference true name later same =
        absurd (no_dash (kind_name kind) (flat_map named (filter differs kinds)) name same)
    by_difference false name later same = later same

all_pass : (same : FactKind → Bool) (kinds : List FactKind)
    → filter (λ kind. not (same kind)) kinds ≡ [] → list_all same kinds ≡ true
all_pass same [] none = refl
all_pass same (kind ∷ kinds) none = by_same (same kind) (all_pass same kinds) none
  where
    by_same : (is : Bool)
        → (filter (λ kind. not (same kind)) kinds ≡ [] → list_all same kinds ≡ true)
        → cond (not is) (kind ∷ filter (λ kind. not (same kind)) kinds)
        (filter (λ kind. not (same kind)) kinds) ≡ []
        → (is && list_all same kinds) ≡ true
    by_same true later none = later none
    by_same false later none = cc

alike_pass : (s : State) (kinds : List FactKind)
    → filter (λ kind. not (is_same_in kind s s)) kinds ≡ []
alike_pass s [] = refl
alike_pass s (kind ∷ kinds) =
    ap (λ same. cond (not same) (kind ∷ filter (λ kind. not (is_same_in kind s s)) kinds)
    (filter (λ kind. not (is_same_in kind s s)) kinds)) ((fact_decides (fact_in kind s) (fact_in kind s)).1 refl)
    ∙ alike_pass s kinds

pub no_difference_is_a_dash : ((s t : State) → AreAlike s t → s ≡ t) → NoDifferenceIsADash
no_difference_is_a_dash alike s t = (
  λ dash. alike s t (all_pass (λ kind. is_same_in kind s t) each_kind
      (none_listed (λ kind. not (is_same_in kind s t)) each_kind refl
      (sym (text_listed s t) ∙ dash))),
  λ same. subst (λ other. differences_text s other ≡ codes "-") same
      (text_listed s s ∙ ap names_of_kinds (alike_pass s each_kind)),
)
