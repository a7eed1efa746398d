use Rattle.std.proofs.Common.{◌≡◌, ℕ, ◌+◌, ◌-◌, ◌<◌, suc, List, [], ◌∷◌, ◌++◌, length, take, set}
use Rattle.std.proofs.Common.{get_or, replicate, sym, ◌∙◌, arith, append_assoc, length-append, ap}
use Rattle.std.proofs.Common.{ap₂}
use Rattle.std.proofs.lemmas.List.{take_more, length-take, take_all, take_min}
use Rattle.std.proofs.Math.Seq.{set-append_seam}
use Rattle.play_edits.specs.Refusal.{filled, MAX_KEPT}
use Rattle.play_edits.specs.declared.refusal.LineCopy.{LineCopy}
use Rattle.play_edits.proofs.refusal.LineCopy.of.Goals as goal

set-after : (text : List ℕ) (byte k : ℕ)
    → set (text ++ replicate (suc k) 0) (length text) byte ≡ (text ++ byte ∷ []) ++ replicate k 0
set-after text byte k = set-append_seam text 0 (replicate k 0) byte
    ∙ sym (append_assoc text (byte ∷ []) (replicate k 0))

-- a byte written over the first zero after the text is one more byte of it
set-filled : (text : List ℕ) (byte i : ℕ) → length text ≡ i → i < MAX_KEPT
    → set (filled text) i byte ≡ filled (text ++ byte ∷ [])
set-filled text byte i same short =
    let room : MAX_KEPT - length text ≡ suc (MAX_KEPT - (i + 1)) = omega arith in
    let less : MAX_KEPT - length (text ++ byte ∷ []) ≡ MAX_KEPT - (i + 1) =
    omega (arith, length-append text (byte ∷ [])) in
    rw (room, less, ← same) (set-after text byte _)

filled_more : (bytes : List ℕ) (i : ℕ) → i < length bytes → i < MAX_KEPT
    → set (filled (take i bytes)) i (get_or bytes i 0) ≡ filled (take (i + 1) bytes)
filled_more bytes i within short =
    let all : length (take i bytes) ≡ i = simp length-take (omega arith) in
    rw (take_more bytes i 0 within) (set-filled (take i bytes) (get_or bytes i 0) i all short)

pub loop-i-preserved : goal.loop-i-preserved
loop-i-preserved c =
    let cut = take c.min.result c.args.line.now in
    let within : c.loop-i.i < length cut = omega arith in
    let short : c.loop-i.i < 255 = omega (arith, length-take c.min.result c.args.line.now) in
    rw (c.loop-i.invariant) (filled_more cut c.loop-i.i within short)

pub returns : goal.returns
returns c =
    let line = c.args.line.now in
    let cut = take c.min.result line in
    let cut_is = ap (λ n. take n line) c.min.ensures ∙ take_min 255 line in
    let all = take_all c.loop-i.i cut (omega (arith, c.loop-i-test.false)) in
    let bytes = c.loop-i.invariant ∙ ap filled (all ∙ cut_is) in
    let made : List ℕ → ℕ → LineCopy = λ bytes len. record { bytes = bytes; len = len } in
    ap₂ made bytes (ap length cut_is)
