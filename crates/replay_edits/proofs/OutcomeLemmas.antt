-- A log by numbers of lines, and changes that are made among these.
use Rattle.std.proofs.Common.{◌≡◌, ℕ, ◌+◌, ◌-◌, ◌<◌, ◌≤◌, List, [], ◌∷◌, ◌++◌, length, get_or, take}
use Rattle.std.proofs.Common.{drop, map, insert, remove, set, suc, refl, sym, ap, ◌∙◌, arith, All}
use Rattle.std.specs.Prelude.{slice_index}
use Rattle.std.proofs.lemmas.List.{length-append, length-drop, length-map, length-take-le}
use Rattle.std.proofs.lemmas.List.{map-append, take-map, drop-map, map-set, get_or-map}
use Rattle.std.proofs.lemmas.List.{map_push, take_more, get_or-drop, get_or-append_right, drop-drop}
use Rattle.std.proofs.lemmas.List.{get_or_append_left, take-append-drop}
use Rattle.std.proofs.lemmas.List.Elements.{All-append, All-cons, All-take, All-drop, All-set}
use Rattle.std.proofs.lemmas.List.Elements.{All-push, All-weaker}
use Rattle.replay_edits.specs.declared.stock.Stock.{Stock}
use Rattle.replay_edits.specs.declared.edit.Edit.{Edit}
use Rattle.replay_edits.specs.Edit.{log_of, line_at, own_line, change_of, changes_of}
use Rattle.replay_edits.specs.Outcome.{lines_of, lines_by, log_by, AreNumbers}
use Rattle.replay_edits.proofs.Betweens.{insert_between, remove_between, set_between, get_between}
use Rattle.replay_edits.proofs.Lines.{length-log_of}

-- ---- lists

map-insert : {X Y : Type 0} (f : X → Y) (xs : List X) (i : ℕ) (x : X)
    → map f (insert xs i x) ≡ insert (map f xs) i (f x)
map-insert f xs i x =
    map-append f (take i xs) (x ∷ drop i xs)
    ∙ rw (take-map f i xs, drop-map f i xs) refl

map-remove : {X Y : Type 0} (f : X → Y) (xs : List X) (i : ℕ)
    → map f (remove xs i) ≡ remove (map f xs) i
map-remove f xs i =
    map-append f (take i xs) (drop (suc i) xs)
    ∙ rw (take-map f i xs, drop-map f (suc i) xs) refl

-- ---- a log by numbers

-- lines of a log stay around others
pub record StaysIn (stock : Stock) : Type 0 where
  pub ordered : stock.head ≤ stock.rest
  pub within : stock.rest ≤ length stock.log.now.items

abbrev tail_of : Stock → ℕ
tail_of stock = length stock.log.now.items - stock.rest

abbrev line_by : Stock → ℕ → List ℕ
line_by stock = line_at (lines_of stock)

pub before_of : (stock : Stock) → StaysIn stock
    → length (take stock.head (log_of stock.log.now.items)) ≡ stock.head
before_of stock stays =
    let n = length-log_of stock.log.now.items in
    let ordered = stays.ordered in
    let within = stays.within in
    length-take-le stock.head (log_of stock.log.now.items) (omega arith)

pub length-log_by : (stock : Stock) (numbers : List ℕ) → StaysIn stock
    → length (log_by stock numbers) ≡ stock.head + length numbers + tail_of stock
length-log_by stock numbers stays =
    let log = log_of stock.log.now.items in
    let n = length-log_of stock.log.now.items in
    let a = before_of stock stays in
    let b = length-append (take stock.head log) (lines_by stock numbers ++ drop stock.rest log) in
    let c = length-append (lines_by stock numbers) (drop stock.rest log) in
    let d = length-map numbers (line_by stock) in
    let e = length-drop stock.rest log in
    omega arith

pub place_among : (stock : Stock) (numbers : List ℕ) (place : ℕ) → StaysIn stock
    → stock.head ≤ place → place + tail_of stock ≤ length (log_by stock numbers)
    → place - stock.head ≤ length numbers
place_among stock numbers place stays after before =
    let n = length-log_by stock numbers stays in omega arith

pub log_by-insert : (stock : Stock) (numbers : List ℕ) (place own : ℕ) (line : List ℕ)
    → StaysIn stock → stock.head ≤ place
    → place + tail_of stock ≤ length (log_by stock numbers) → line_by stock own ≡ line
    → log_by stock (insert numbers (place - stock.head) own)
    ≡ insert (log_by stock numbers) place line
log_by-insert stock numbers place own line stays after before named =
    let log = log_of stock.log.now.items in
    let a = before_of stock stays in
    let d = length-map numbers (line_by stock) in
    let fits = place_among stock numbers place stays after before in
    ap (λ l. take stock.head log ++ (l ++ drop stock.rest log))
    (map-insert (line_by stock) numbers (place - stock.head) own)
    ∙ ap (λ t. take stock.head log ++ (insert (lines_by stock numbers) (place - stock.head) t
    ++ drop stock.rest log)) named
    ∙ sym (insert_between (take stock.head log) (lines_by stock numbers) (drop stock.rest log)
    (place - stock.head) place line (omega arith) (omega arith))

pub log_by-remove : (stock : Stock) (numbers : List ℕ) (place : ℕ) → StaysIn stock
    → stock.head ≤ place → place + 1 + tail_of stock ≤ length (log_by stock numbers)
    → log_by stock (remove numbers (place - stock.head)) ≡ remove (log_by stock numbers) place
log_by-remove stock numbers place stays after before =
    let log = log_of stock.log.now.items in
    let a = before_of stock stays in
    let d = length-map numbers (line_by stock) in
    let n = length-log_by stock numbers stays in
    ap (λ l. take stock.head log ++ (l ++ drop stock.rest log))
    (map-remove (line_by stock) numbers (place - stock.head))
    ∙ sym (remove_between (take stock.head log) (lines_by stock numbers) (drop stock.rest log)
    (place - stock.head) place (omega arith) (omega arith))

pub log_by-replace : (stock : Stock) (numbers : List ℕ) (place own : ℕ) (line : List ℕ)
    → StaysIn stock → stock.head ≤ place
    → place + 1 + tail_of stock ≤ length (log_by stock numbers) → line_by stock own ≡ line
    → log_by stock (set numbers (place - stock.head) own) ≡ set (log_by stock numbers) place line
log_by-replace stock numbers place own line stays after before named =
    let log = log_of stock.log.now.items in
    let a = before_of stock stays in
    let d = length-map numbers (line_by stock) in
    let n = length-log_by stock numbers stays in
    ap (λ l. take stock.head log ++ (l ++ drop stock.rest log))
    (map-set (line_by stock) numbers (place - stock.head) own)
    ∙ ap (λ t. take stock.head log ++ (set (lines_by stock numbers) (place - stock.head) t
    ++ drop stock.rest log)) named
    ∙ sym (set_between (take stock.head log) (lines_by stock numbers) (drop stock.rest log)
    (place - stock.head) place line (omega arith) (omega arith))

-- the line at a place is that of the number there
pub line_at-log_by : (stock : Stock) (numbers : List ℕ) (place : ℕ) → StaysIn stock
    → stock.head ≤ place → place + 1 + tail_of stock ≤ length (log_by stock numbers)
    → line_at (log_by stock numbers) place
    ≡ line_by stock (slice_index numbers (place - stock.head))
line_at-log_by stock numbers place stays after before =
    let log = log_of stock.log.now.items in
    let a = before_of stock stays in
    let d = length-map numbers (line_by stock) in
    let n = length-log_by stock numbers stays in
    get_between (take stock.head log) (lines_by stock numbers) (drop stock.rest log)
    (place - stock.head) place [] (omega arith) (omega arith)
    ∙ get_or-map (line_by stock) numbers (place - stock.head) 0 [] (omega arith)

-- ---- the numbers of lines

pub AreNumbers-insert : (stock : Stock) (numbers : List ℕ) (place number : ℕ)
    → AreNumbers stock numbers → number < length stock.log.now.items + length stock.edits.now
    → AreNumbers stock (insert numbers place number)
AreNumbers-insert stock numbers place number known new =
    let P : ℕ → Type 0 = λ k. k < length stock.log.now.items + length stock.edits.now in
    All-append P (take place numbers) (number ∷ drop place numbers)
    (All-take P place numbers known)
    (All-cons P number (drop place numbers) new (All-drop P place numbers known))

pub AreNumbers-remove : (stock : Stock) (numbers : List ℕ) (place : ℕ)
    → AreNumbers stock numbers → AreNumbers stock (remove numbers place)
AreNumbers-remove stock numbers place known =
    let P : ℕ → Type 0 = λ k. k < length stock.log.now.items + length stock.edits.now in
    All-append P (take place numbers) (drop (suc place) numbers)
    (All-take P place numbers known) (All-drop P (suc place) numbers known)

pub AreNumbers-replace : (stock : Stock) (numbers : List ℕ) (place number : ℕ)
    → AreNumbers stock numbers → number < length stock.log.now.items + length stock.edits.now
    → AreNumbers stock (set numbers place number)
AreNumbers-replace stock numbers place number known new =
    All-set (λ k. k < length stock.log.now.items + length stock.edits.now) numbers place number new
    known

-- ---- the numbers with which a stock begins

pub numbered_start : (stock : Stock)
    → lines_by stock []
    ≡ take (stock.head - stock.head) (drop stock.head (log_of stock.log.now.items))
numbered_start stock =
    let e : 0 ≡ stock.head - stock.head = omega arith in
    ap (λ k. take k (drop stock.head (log_of stock.log.now.items))) e

pub numbered_more : (stock : Stock) (numbers : List ℕ) (number : ℕ) → StaysIn stock
    → stock.head ≤ number → number < stock.rest
    → lines_by stock numbers
    ≡ take (number - stock.head) (drop stock.head (log_of stock.log.now.items))
    → lines_by stock (numbers ++ number ∷ [])
    ≡ take (number + 1 - stock.head) (drop stock.head (log_of stock.log.now.items))
numbered_more stock numbers number stays after before so_far =
    let log = log_of stock.log.now.items in
    let n = length-log_of stock.log.now.items in
    let within = stays.within in
    let d = length-drop stock.head log in
    let e : stock.head + (number - stock.head) ≡ number = omega arith in
    let e' : number + 1 - stock.head ≡ number - stock.head + 1 = omega arith in
    let here : get_or (drop stock.head log) (number - stock.head) [] ≡ line_by stock number =
    get_or-drop stock.head log (number - stock.head) [] ∙ ap (line_at log) e
    ∙ sym (get_or_append_left log _ [] number (omega arith)) in
    map_push (line_by stock) numbers number
    ∙ ap (λ l. l ++ line_by stock number ∷ []) so_far
    ∙ sym (ap (λ k. take k (drop stock.head log)) e'
    ∙ take_more (drop stock.head log) (number - stock.head) [] (omega arith)
    ∙ ap (λ t. take (number - stock.head) (drop stock.head log) ++ t ∷ []) here)

pub numbered_end : (stock : Stock) (numbers : List ℕ) → StaysIn stock
    → lines_by stock numbers
    ≡ take (stock.rest - stock.head) (drop stock.head (log_of stock.log.now.items))
    → log_by stock numbers ≡ log_of stock.log.now.items
numbered_end stock numbers stays all =
    let log = log_of stock.log.now.items in
    let ordered = stays.ordered in
    let e : stock.head + (stock.rest - stock.head) ≡ stock.rest = omega arith in
    let rest : drop stock.rest log ≡ drop (stock.rest - stock.head) (drop stock.head log) =
    ap (λ k. drop k log) (sym e) ∙ sym (drop-drop (stock.rest - stock.head) stock.head log) in
    ap (λ l. take stock.head log ++ (l ++ drop stock.rest log)) all
    ∙ ap (λ l. take stock.head log
    ++ (take (stock.rest - stock.head) (drop stock.head log) ++ l)) rest
    ∙ ap (λ l. take stock.head log ++ l)
    (take-append-drop (stock.rest - stock.head) (drop stock.head log))
    ∙ take-append-drop stock.head log

pub below_more : (numbers : List ℕ) (number : ℕ) → All (λ k. k < number) numbers
    → All (λ k. k < number + 1) (numbers ++ number ∷ [])
below_more numbers number below =
    All-push (λ k. k < number + 1) numbers number
    (All-weaker (λ k. k < number) (λ k. k < number + 1) (λ k less. omega arith) numbers below)
    (omega arith)

pub below_all : (stock : Stock) (numbers : List ℕ) (number : ℕ) → All (λ k. k < number) numbers
    → number ≤ length stock.log.now.items + length stock.edits.now → AreNumbers stock numbers
below_all stock numbers number below within =
    All-weaker (λ k. k < number) (λ k. k < length stock.log.now.items + length stock.edits.now)
    (λ k less. omega arith) numbers below

-- ---- the own line of an edit

pub line_of-own : (stock : Stock) (number index : ℕ) (edit : Edit)
    → number ≡ length stock.log.now.items + index → index < length stock.edits.now
    → edit ≡ get_or stock.edits.now index edit
    → line_at (lines_of stock) number ≡ own_line (change_of edit)
line_of-own stock number index edit own below read =
    let edits = stock.edits.now in
    let n = length-log_of stock.log.now.items in
    let m = length-map edits change_of in
    let e : number - length stock.log.now.items ≡ index = omega arith in
    get_or-append_right (log_of stock.log.now.items) (map own_line (changes_of edits))
    (length stock.log.now.items) number [] n (omega arith)
    ∙ ap (λ k. get_or (map own_line (changes_of edits)) k []) e
    ∙ get_or-map own_line (changes_of edits) index (change_of edit) [] (omega arith)
    ∙ ap own_line (get_or-map change_of edits index edit (change_of edit) below)
    ∙ ap (λ x. own_line (change_of x)) (sym read)

pub lines_by-more : (stock : Stock) (numbers : List ℕ) (index : ℕ) → index < length numbers
    → lines_by stock (take (index + 1) numbers) ≡ lines_by stock (take index numbers)
    ++ line_at (lines_of stock) (slice_index numbers index) ∷ []
lines_by-more stock numbers index below =
    ap (map (line_by stock)) (take_more numbers index 0 below)
    ∙ map-append (line_by stock) (take index numbers) (get_or numbers index 0 ∷ [])
