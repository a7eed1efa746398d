-- The table of lines: of each its place, the line itself, and its figures.
use Rattle.std.specs.Prelude.{◌≡◌, ℕ, List, ◌++◌, codes}
use Rattle.std.specs.Fmt.{decimal}
use Rattle.std.specs.List.{flat_map}
use Rattle.cave_data.specs.CaveView.{CaveView}
use Rattle.cave_world.specs.declared.state.State.{State}
use Rattle.play_tables.specs.Columns.{without_tabs}
use Rattle.play_walk.specs.Figures.{Figure, figure_in, figures}
use Rattle.play_walk.specs.declared.figures.Form.TheVariants.{Columns}

-- the names of the columns
unfoldable pub step_head_row : List ℕ
step_head_row =
    codes "place\tline\tfrom\tto\tturns\tscore\tlamp\tcarried\tdraws\tstream\tquestion\tended\t"
    ++ codes "happened\n"

unfoldable pub step_row : CaveView → ℕ → List ℕ → ℕ → State → State → List ℕ
step_row cave place line turns s t =
    decimal place ++ (codes "\t" ++ (without_tabs line
    ++ (flat_map (figure_in Columns) (figures cave line turns s t) ++ codes "\n")))

abbrev pub tabbed_key : List ℕ × Figure → List ℕ
tabbed_key (key, figure) = codes "\t" ++ key

-- the names of the columns are place and line, and the keys of the figures
abbrev pub ColumnsHaveTheKeys : Type 0
ColumnsHaveTheKeys =
    (cave : CaveView) (line : List ℕ) (turns : ℕ) (s t : State)
    → step_head_row
    ≡ codes "place\tline" ++ (flat_map tabbed_key (figures cave line turns s t) ++ codes "\n")
