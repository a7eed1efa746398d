-- A log as a file.
use Rattle.std.specs.Prelude.{ℕ, List, ◌++◌, codes}
use Rattle.std.specs.List.{flat_map}

-- a log as a file, each line with a line feed after it
abbrev pub log_text : List (List ℕ) → List ℕ
log_text log = flat_map (λ line. line ++ codes "\n") log
