use Rattle.std.proofs.Common.{◌≡◌, ℕ, ◌-◌, List, [], ◌++◌, length, take, drop, refl, sym, ap, ◌∙◌}
use Rattle.std.proofs.Common.{subst, append-nil, append_assoc, take-append-drop}
use lib.Seq.{take-append_seam}
use Rattle.std.specs.declared.option.Option.{Option}
use Rattle.std.proofs.lemmas.List.{take_rest}
use Rattle.std.specs.Io.KnownBytes.{Appends, Keeps}
use Rattle.std.proofs.KnownBytes.{Appends-trans, Appends-kept, Appends-nil}
use Rattle.cave_play.proofs.output.write_output.Goals as goal

moves_front : (all done rest : List ℕ) (n : ℕ) → all ≡ done ++ rest
    → all ≡ (done ++ take n rest) ++ take (length rest - n) (drop n rest)
moves_front all done rest n e =
    e ∙ ap (λ l. done ++ l) (sym (take-append-drop n rest))
    ∙ sym (append_assoc done (take n rest) (drop n rest))
    ∙ ap (λ l. (done ++ take n rest) ++ l) (sym (take_rest rest n))

pub pieces-preserved : goal.pieces-preserved
pieces-preserved g c =
    let (done, split, appended) = c.pieces.invariant in
    let rest = c.pieces.rest.now in
    let n = c.in-Ok.count in (
      done ++ take n rest,
      moves_front _ done rest n split,
      Appends-trans _ _ _ _ _ appended c.in-Ok.ensures.bytes,
    )

-- what was appended before a write that took nothing is a prefix of the output
front : (old mid new : Option (List ℕ)) (all done rest : List ℕ) → all ≡ done ++ rest
    → Appends old mid done → Appends mid new [] → (n : ℕ) × Appends old new (take n all)
front old mid new all done rest split appended none = (
  length done,
  subst (Appends old new) (append-nil done
      ∙ sym (ap (take (length done)) split ∙ take-append_seam done rest))
      (Appends-trans old mid new done [] appended none),
)

-- what stays grew by nothing
Appends-keeps : (a b : Option (List ℕ)) → Keeps a b → Appends a b []
Appends-keeps a b kept = Appends-kept a a b [] (Appends-nil a) kept

pub returns-in-Ok-eq0 : goal.returns-in-Ok-eq0
returns-in-Ok-eq0 g c =
    let (done, split, appended) = c.pieces.invariant in
    let none =
    subst (λ n. Appends (g.W.Write.contents c.pieces.writer)
    (g.W.Write.contents c.write.new.self) (take n c.pieces.rest.now)) c.in-Ok-eq0.field-0-test
    c.in-Ok-eq0.ensures.bytes in
    record { written = (refl, front _ _ _ _ done _ split appended none) }

pub returns-in-Err : goal.returns-in-Err
returns-in-Err g c =
    let (done, split, appended) = c.pieces.invariant in
    record {
      written = (
        refl,
        front _ _ _ _ done _ split appended (Appends-keeps _ _ c.in-Err.ensures.bytes),
      );
    }
