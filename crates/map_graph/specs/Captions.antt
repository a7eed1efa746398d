-- What stands above a map: how much of the cave plays saw, which part is drawn, and a legend.
use Rattle.std.specs.Prelude.{ℕ, Bool, ◌==◌, if◌then◌else◌, List, [], ◌++◌, codes, Option, None}
use Rattle.std.specs.Prelude.{Some}
use Rattle.std.specs.Fmt.{decimal}
use Rattle.map_graph.specs.declared.captions.SeenCounts.{SeenCounts}
use Rattle.map_graph.specs.declared.parts.DrawnPart.{DrawnPart}
use Rattle.map_ways.specs.declared.regions.Region.{Region}

-- the end of what there are this many of
abbrev pub plural : ℕ → List ℕ
plural count = if count == 1 then [] else codes "s"

-- how many of the places and ways plays of this many logs saw
abbrev pub seen_words : SeenCounts → ℕ → List ℕ
seen_words counts logs =
    decimal counts.visited ++ (codes " of " ++ (decimal counts.places ++ (codes " place"
    ++ (plural counts.places ++ (codes ", " ++ (decimal counts.taken ++ (codes " of "
    ++ (decimal counts.ways ++ (codes " way" ++ (plural counts.ways ++ (codes " in "
    ++ (decimal logs ++ (codes " log" ++ plural logs)))))))))))))

-- how many there are
abbrev pub count_words : SeenCounts → List ℕ
count_words counts =
    decimal counts.places ++ (codes " place" ++ (plural counts.places ++ (codes ", "
    ++ (decimal counts.ways ++ (codes " way" ++ plural counts.ways)))))

abbrev pub title_of_map : SeenCounts → ℕ → List ℕ
title_of_map counts logs = if logs == 0 then count_words counts else seen_words counts logs

-- places are drawn that are at most this many ways from one
abbrev pub distance_words : ℕ → ℕ → List ℕ
distance_words ways place =
    codes "<BR/>drawn: at most " ++ (decimal ways ++ (codes " way" ++ (plural ways
    ++ (codes " from place " ++ decimal place))))

-- which places are drawn, if not all are
abbrev pub around_words : Option Region → List ℕ
around_words None = []
around_words (Some around) = distance_words around.ways around.place

abbrev pub seen_only_words : Bool → List ℕ
seen_only_words seen = if seen then codes "<BR/>drawn: what was seen" else []

abbrev pub part_words : DrawnPart → List ℕ
part_words part = around_words part.around ++ seen_only_words part.seen

-- what lines and colours mean that show what plays saw
unfoldable pub seen_legend : Bool → List ℕ
seen_legend seen =
    codes "<TD BORDER=\"3\">a log was here</TD>"
    ++ ((if seen then []
    else
    codes "<TD BORDER=\"1\" COLOR=\"gray65\"><FONT COLOR=\"gray40\">no log was here</FONT></TD>")
    ++ codes "<TD>hollow head: no log went there</TD>")

abbrev pub logs_legend : ℕ → Bool → List ℕ
logs_legend logs seen = if logs == 0 then [] else seen_legend seen

-- what they mean on each map
unfoldable pub cave_legend : List ℕ
cave_legend =
    codes "<TD BORDER=\"1\" BGCOLOR=\"gray80\">dark</TD>"
    ++ codes "<TD BORDER=\"1\" STYLE=\"ROUNDED\">circle: leads on by itself</TD>"

-- what words and marks mean, and how the line of what stands above the map ends
unfoldable pub words_legend : List ℕ
words_legend =
    codes "</TR></TABLE></TD></TR><TR><TD>EAST / WEST: to the higher number / to the lower. "
    ++ codes "+ begins here, = is this to the rules</TD></TR></TABLE>>];\n"

-- how it begins
unfoldable pub caption_opening : List ℕ
caption_opening =
    codes "  graph [labelloc=t, fontname=\"Helvetica\", fontsize=10, label=<<TABLE BORDER=\"0\">"
    ++ codes "<TR><TD><FONT POINT-SIZE=\"16\">"

unfoldable pub legend_opening : List ℕ
legend_opening = codes "</FONT></TD></TR><TR><TD><TABLE BORDER=\"0\" CELLSPACING=\"6\"><TR>"

abbrev pub heading : SeenCounts → ℕ → DrawnPart → List ℕ
heading counts logs part =
    caption_opening ++ (title_of_map counts logs ++ (part_words part ++ legend_opening))

-- the line of what stands above the map
unfoldable pub caption : SeenCounts → ℕ → DrawnPart → List ℕ
caption counts logs part =
    heading counts logs part ++ ((logs_legend logs part.seen ++ cave_legend) ++ words_legend)
