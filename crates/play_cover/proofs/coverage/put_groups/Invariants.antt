use Rattle.std.proofs.Common.{◌≡◌, ◌≤◌, ◌*◌, ◌^◌, length, take}
use Rattle.std.specs.List.{flat_map, sum_by}
use Rattle.base_text.specs.Text.{Tells}
use Rattle.play_cover.specs.Coverage.{covered, group_text, left}
use Rattle.check_tables.specs.Marks.{is_marked}
use Rattle.play_cover.proofs.coverage.put_groups.Given as goal

abbrev pub invariant-loop-group : goal.invariant-loop-group
invariant-loop-group g l =
    let of = g.T.Groups.catalogue l.of in
    let groups = take l.group-index of.groups in record {
      told : Tells (flat_map (group_text of (is_marked l.marks) l.known l.detail) groups)
          l.initial.text l.text;
      covered : l.totals.covered
          ≡ sum_by (λ group. length (covered of (is_marked l.marks) group)) groups;
      present : l.totals.present ≡ sum_by (λ group. length (of.present group)) groups;
      left : l.totals.left
          ≡ sum_by (λ group. length (left of (is_marked l.marks) l.known group)) groups;
      few : l.totals.present ≤ 2 ^ 16 * l.group-index;
      within : l.totals.covered ≤ l.totals.present;
      left_within : l.totals.left ≤ l.totals.present;
    }
