-- What the head of a log says differently from a request.
use Rattle.std.specs.Prelude.{ℕ, ◌==◌, Bool, false, not, bytes_eq, List, [], ◌∷◌, Option, None}
use Rattle.std.specs.Prelude.{Some, codes, if◌then◌else◌, unwrap_or}
use Rattle.std.specs.Option.{option_and_then, option_map_or, option_or}
use Rattle.data_rows.specs.Fields.{fields}
use Rattle.play_command.specs.Asked.{number_written}
use Rattle.play_command.specs.declared.line.Input.{Input}
use Rattle.play_command.specs.declared.line.Request.{Request}
use Rattle.play_command.specs.declared.line.What.{What}
use Rattle.play_machine.specs.Head.{first_file, head_of, value_of}
use Rattle.play_program.specs.Files.{file_of}
use Rattle.play_program.specs.declared.head.HeadSaid.{HeadSaid}

-- the end of a path, after its last slash, if `name` is what follows the last one before the bytes
abbrev pub base_from : List ℕ → List ℕ → List ℕ
base_from name [] = name
base_from name (byte ∷ bytes) = if byte == 47 then base_from bytes bytes else base_from name bytes

abbrev pub base_name : List ℕ → List ℕ
base_name path = base_from path path

-- two paths whose files have the same name, perhaps in other folders
abbrev pub is_same_file : List ℕ → List ℕ → Bool
is_same_file said given = bytes_eq (base_name said) (base_name given)

-- 1 to 10 digits that write another number
abbrev pub is_other_seed : ℕ → List ℕ → Bool
is_other_seed seed said = option_map_or (λ number. not (number == seed)) (number_written said) false

-- what a head says, as an option with the blank after it, or as no option
abbrev pub Said : Type 0
Said = List ℕ × List ℕ

abbrev pub said_in : HeadSaid → Said
said_in said = (said.option.now, said.text.now)

-- what is said as this option, unless it is nothing or the same
abbrev pub said_unless : (List ℕ → Bool) → List ℕ → Option (List ℕ) → Option Said
said_unless is_same option None = None
said_unless is_same option (Some said) = if is_same said then None else Some (option, said)

-- the first of these that a head says differently: the database, its bindings, the seed; what it
-- doesn't say doesn't differ
abbrev pub other_said : Request → ℕ → List (List ℕ) → Option Said
other_said request seed head =
    let cave = unwrap_or (file_of request Input.Cave 0) [] in
    option_or (said_unless (λ said. is_same_file said cave) [] (first_file head))
    (option_or (said_unless
    (λ said. option_map_or (is_same_file said) (file_of request Input.Bindings 0) false)
    (codes "--bind ") (value_of (codes "--bind") (codes "-b") head))
    (said_unless (λ said. not (is_other_seed seed said)) (codes "--seed ")
    (value_of (codes "--seed") (codes "-s") head)))

-- the seed with which a request plays its logs, if it plays some and isn't quiet
abbrev pub seed_asked : What → Bool → Option ℕ
seed_asked (What.Edit asked) quiet = if quiet then None else Some asked.editing.seed
seed_asked (What.Play seed view) quiet = Some seed
seed_asked (What.Cover seed view strict) quiet = Some seed
seed_asked (What.Map seed part) quiet = Some seed
seed_asked _ quiet = None

-- what the head of a log says differently from a request, if it does; its words are its runs of
-- nonblanks
unfoldable pub head_notice : Request → List ℕ → Option Said
head_notice request log =
    option_and_then (λ seed. option_and_then (λ head. other_said request seed (fields head))
    (head_of log)) (seed_asked request.what request.quiet)
