use Rattle.std.proofs.Common.{rules, tests}
use Rattle.std.proofs.lemmas.Iterator.{YieldsList-from_slice}
use Rattle.std.proofs.lemmas.Iterator.Search.{any_from_yields_List}
use Rattle.data_rows.specs.RowViews.{going}
use Rattle.data_rows.specs.Rows.{Going}
use Rattle.data_rows.specs.declared.rows.Row.{Row}
use Rattle.check_tables.proofs.Rows.{any_mapped}
use Rattle.check_doubts.specs.Needs.{leads_to}
use Rattle.check_doubts.proofs.places.any_leads_to.Goals as goal

pub returns : goal.returns
returns c =
    let test = λ (row : Going). leads_to c.args.place row in
    any_mapped test going c.args.rows.now _
    (any_from_yields_List (λ (row : Row). test (going row)) _ _ _ c.any.ensures.ran
    (YieldsList-from_slice c.args.rows.now cc) (λ x b q k. search (rules, tests)))
