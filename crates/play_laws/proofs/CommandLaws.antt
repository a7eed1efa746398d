-- The words of a command line ask for one run at most.
use Rattle.std.proofs.Common.{◌≡◌, ℕ, List, [], Err, Ok, Result, inl, inr}
use Rattle.clap.specs.Words.{Kinds, fault_of, subcommand_of}
use Rattle.play_command.specs.Line.{IsErrorAnswer, IsRunAnswer, MetCommand, run_in, run_of}
use Rattle.play_command.specs.declared.fault.CommandFault.{CommandFault}
use Rattle.play_command.specs.declared.line.Line.{Line}
use Rattle.play_command.specs.declared.line.Request.{Request}
use Rattle.play_laws.specs.CommandLaws.{IsThatRun, WordsAskForOneRun}

same_ok : {T E : Type 0} (found : Result T E) (one other : T) → found ≡ Ok one → found ≡ Ok other
    → one ≡ other
same_ok found one other is also = cc

both : {T E : Type 0} (found : Result T E) (one : T) (wrong : E) → found ≡ Ok one
    → found ≡ Err wrong → ⊥
both found one wrong is also = cc

-- an answer to words with which nothing is wrong
without_fault : (words : List (List ℕ)) (met : MetCommand) (kinds : Kinds) (one : Request)
    (other : Result Line CommandFault) → kinds ≡ [] → run_of met ≡ Ok (run_in one)
    → IsErrorAnswer words kinds other → IsThatRun one other
without_fault words met kinds one (Ok (Line.Run request)) none is wrong = absurd wrong
without_fault words met kinds one (Ok (Line.Text error)) none is (help, among) =
    absurd (rw none at among)
without_fault words met kinds one (Err CommandFault.Memory) none is wrong = tt
without_fault words met kinds one (Err (CommandFault.Usage error)) none is (help, among, other) =
    absurd (rw none at among)
without_fault words met kinds one (Err (CommandFault.OtherName word command)) none is
    (among, word_is, meant) = absurd (rw none at among)
without_fault words met kinds one (Err (CommandFault.Misuse found given)) none is wrong =
    absurd wrong

with_run : (met : MetCommand) (one : Request) (other : Result Line CommandFault)
    → run_of met ≡ Ok (run_in one) → IsRunAnswer met other → IsThatRun one other
with_run met one (Ok (Line.Run request)) is also =
    same_ok (run_of met) (run_in one) (run_in request) is also
with_run met one (Ok (Line.Text error)) is also = absurd also
with_run met one (Err CommandFault.Memory) is also = tt
with_run met one (Err (CommandFault.Usage error)) is also = absurd also
with_run met one (Err (CommandFault.OtherName word command)) is also = absurd also
with_run met one (Err (CommandFault.Misuse wrong given)) is (also, given_is) =
    absurd (both (run_of met) (run_in one) wrong is also)

pub one_run : WordsAskForOneRun
one_run app words one other (inl wrong) also = absurd wrong
one_run app words one other (inr (none, is)) (inl wrong) =
    without_fault words (subcommand_of app words) (fault_of app words) one other none is wrong
one_run app words one other (inr (none, is)) (inr (right, found)) =
    with_run (subcommand_of app words) one other is found
