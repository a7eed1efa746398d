-- A script has no more items than lines, and no more lines than bytes.
use Rattle.replay_scripts.proofs.Grammar.{script_of-only}
use Rattle.std.proofs.Common.{Ok, ◌≡◌, ℕ, ◌+◌, ◌<◌, ◌≤◌, ◌^◌, Bool, true, false, List, [], ◌∷◌}
use Rattle.std.proofs.Common.{length, map, ap, arith, length-append}
use Rattle.replay_scripts.specs.Guards.{script_by, IsScriptBy, unguarded, unguarded_items}
use Rattle.std.specs.Prelude.{◌==◌, if◌then◌else◌}
use Rattle.std.specs.List.{slice_split}
use Rattle.std.specs.Str.Lines.{lines, lines_of_parts}
use Rattle.std.specs.Global.{Vec}
use Rattle.std.proofs.lemmas.List.{length-map}
use Rattle.std.proofs.lemmas.List.Sums.{count_by-le-length}
use Rattle.std.proofs.lemmas.List.Splits.{length-slice_split}
use Rattle.replay_scripts.specs.Script.{Applied, IsScript, done, skips, spells, groups}
use Rattle.replay_scripts.specs.Views.{applied_item, items_of}
use Rattle.replay_scripts.specs.declared.script.Item.{Item}

-- a script has no more items than lines
few_groups : {number : ℕ} {script : List (List ℕ)} {items : List Applied}
    → IsScript number script items → length items ≤ length script
few_groups done = omega arith
few_groups (skips skipped rest) = omega (arith, few_groups rest)
few_groups (spells spelled rest) = omega (arith, few_groups rest)
few_groups
    (groups {first = opens} {last = closes} {body = body} {rest = rest} first inside last later) =
    omega (arith, few_groups later, length-append body (closes ∷ rest))

length-lines_of_parts : (parts : List (List ℕ)) → length (lines_of_parts parts) ≤ length parts
length-lines_of_parts [] = omega arith
length-lines_of_parts (x ∷ []) = go (length x == 0)
  where
    go : (empty : Bool) → length (if empty then [] else x ∷ []) ≤ 1
    go true = omega arith
    go false = omega arith
length-lines_of_parts (x ∷ y ∷ more) = omega (arith, length-lines_of_parts (y ∷ more))

-- a text has few lines
length-lines : (text : List ℕ) → length (lines text) ≤ length text + 1
length-lines text =
    let newline : ℕ → Bool = λ byte. byte == 10 in
    omega (
      arith,
      length-lines_of_parts (slice_split newline text),
      length-slice_split newline text,
      count_by-le-length newline text,
    )

few_by : (guarded : Bool) (items : List Applied) (text : List ℕ) → IsScriptBy guarded text items
    → length items ≤ length text + 1
few_by false items text script = omega (arith, few_groups script, length-lines text)
few_by true items text (read, script) =
    let same : length (unguarded_items items) ≡ length items = simp length-map in
    let blank : length (unguarded (lines text)) ≡ length (lines text) = simp length-map in
    omega (arith, few_groups script, same, blank, length-lines text)

-- a script has few items
pub few_items : (guarded : Bool) (items : Vec Item) (text bytes : List ℕ)
    → IsScriptBy guarded text (items_of items)
    → text ≡ bytes → length bytes ≤ 1048576 → length items.items < 2 ^ 32
few_items guarded items text bytes script same fits =
    let shown : length (map applied_item items.items) ≡ length items.items = simp length-map in
    omega (arith, few_by guarded (items_of items) text script, shown, ap length same)

-- items that a script spells are what is read of it
pub script_by-spelled : (guarded : Bool) (script : List ℕ) (items : List Applied)
    → IsScriptBy guarded script items → script_by guarded script ≡ Ok items
script_by-spelled false script items spelled = script_of-only script items spelled
script_by-spelled true script items (read, spelled) = read

-- so it spells the same items each time it is read
pub same_items : (guarded : Bool) (script : List ℕ) (items others : List Applied)
    → IsScriptBy guarded script items → IsScriptBy guarded script others → items ≡ others
same_items guarded script items others spelled respelled =
    let first = script_by-spelled guarded script items spelled in
    let second = script_by-spelled guarded script others respelled in
    cc
