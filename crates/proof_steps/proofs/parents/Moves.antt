-- A parent's moves keep the invariant, one after another: under either presumption, or under the one that
-- has the move.
use Rattle.std.proofs.Common.{◌≡◌, false}
use Rattle.protocol.specs.declared.names.Presumption.{Presumption}
use Rattle.protocol.specs.declared.names.Presumption.TheVariants.{PresumeAbort, PresumeCommit}
use Rattle.proof_pairs.specs.Reading.{Reading}
use Rattle.proof_pairs.specs.ParentMoves
use Rattle.proof_pairs.specs.RootMoves
use Rattle.proof_pairs.specs.CascadedMoves
use Rattle.proof_pairs.specs.ParentCrash
use Rattle.proof_pairs.proofs.ParentAbort
use Rattle.proof_pairs.proofs.ParentCommit
use Rattle.proof_pairs.proofs.RootAbort
use Rattle.proof_pairs.proofs.RootCommit
use Rattle.proof_pairs.proofs.CascadedAbort
use Rattle.proof_pairs.proofs.CascadedCommit
use Rattle.proof_pairs.proofs.ParentCrashAbort
use Rattle.proof_pairs.proofs.ParentCrashCommit
use Rattle.proof_processes.specs.WorldHolds.{InvariantOf}
use Rattle.proof_steps.proofs.children.Moves.{Fits}

abbrev Keeps : Presumption → (Reading → Type 0) → (Reading → Reading) → Type 0
Keeps pr May step = (r : Reading) → InvariantOf pr r → May r → Fits pr r (step r)

pub hardens : (pr : Presumption) (r : Reading) → InvariantOf pr r → r.failed ≡ false
    → Fits pr r (ParentMoves.hardens_parent r)
hardens PresumeAbort r h up = ParentAbort.hardens_parent r h (record { up = up })
hardens PresumeCommit r h up = ParentCommit.hardens_parent r h (record { up = up })

pub hardens_failed : (pr : Presumption) (front : ParentCrash.ParentFront) (r : Reading) → InvariantOf pr r
    → ParentCrash.MayHardenFailedParent front r → Fits pr r (ParentCrash.hardens_failed_parent front r)
hardens_failed PresumeAbort front r h g = ParentCrashAbort.hardens_failed_parent front r h g
hardens_failed PresumeCommit front r h g = ParentCrashCommit.hardens_failed_parent front r h g

pub accepts : (pr : Presumption) → Keeps pr ParentMoves.MayAccept ParentMoves.accepts
accepts PresumeAbort r h g = ParentAbort.accepts r h g
accepts PresumeCommit r h g = ParentCommit.accepts r h g

pub hears_yes : (pr : Presumption) → Keeps pr ParentMoves.MayHearYes ParentMoves.hears_yes
hears_yes PresumeAbort r h g = ParentAbort.hears_yes r h g
hears_yes PresumeCommit r h g = ParentCommit.hears_yes r h g

pub hears_read : (pr : Presumption) → Keeps pr ParentMoves.MayHearRead ParentMoves.hears_read
hears_read PresumeAbort r h g = ParentAbort.hears_read r h g
hears_read PresumeCommit r h g = ParentCommit.hears_read r h g

pub gives_up : (pr : Presumption) → Keeps pr ParentMoves.MayGiveUp ParentMoves.gives_up
gives_up PresumeAbort r h g = ParentAbort.gives_up r h g
gives_up PresumeCommit r h g = ParentCommit.gives_up r h g

pub hears_ack : (pr : Presumption) → Keeps pr ParentMoves.MayHearAck ParentMoves.hears_ack
hears_ack PresumeAbort r h g = ParentAbort.hears_ack r h g
hears_ack PresumeCommit r h g = ParentCommit.hears_ack r h g

pub begins : (pr : Presumption) → Keeps pr RootMoves.MayBegin RootMoves.begins
begins PresumeAbort r h g = RootAbort.begins r h g
begins PresumeCommit r h g = RootCommit.begins r h g

pub ends_empty : (pr : Presumption) → Keeps pr RootMoves.MayEndEmpty RootMoves.ends_empty
ends_empty PresumeAbort r h g = RootAbort.ends_empty r h g
ends_empty PresumeCommit r h g = RootCommit.ends_empty r h g

pub is_born : (pr : Presumption) → Keeps pr CascadedMoves.MayBeBorn CascadedMoves.is_born
is_born PresumeAbort r h g = CascadedAbort.is_born r h g
is_born PresumeCommit r h g = CascadedCommit.is_born r h g

pub reads_empty : (pr : Presumption) → Keeps pr CascadedMoves.MayReadEmpty CascadedMoves.reads_empty
reads_empty PresumeAbort r h g = CascadedAbort.reads_empty r h g
reads_empty PresumeCommit r h g = CascadedCommit.reads_empty r h g

pub promises : (pr : Presumption) → Keeps pr CascadedMoves.MayPromise CascadedMoves.promises
promises PresumeAbort r h g = CascadedAbort.promises r h g
promises PresumeCommit r h g = CascadedCommit.promises r h g

pub parent_fails : (pr : Presumption) → Keeps pr ParentCrash.MayFailParent ParentCrash.parent_fails
parent_fails PresumeAbort r h g = ParentCrashAbort.parent_fails r h g
parent_fails PresumeCommit r h g = ParentCrashCommit.parent_fails r h g

pub fails_to_hear_no : (pr : Presumption) → Keeps pr ParentMoves.MayHearNo ParentCrash.fails_to_hear_no
fails_to_hear_no PresumeAbort r h g = ParentCrashAbort.fails_to_hear_no r h g
fails_to_hear_no PresumeCommit r h g = ParentCrashCommit.fails_to_hear_no r h g

pub fails_at_no : (pr : Presumption) → Keeps pr ParentMoves.MayHearNo ParentCrash.fails_at_no
fails_at_no PresumeAbort r h g = ParentCrashAbort.fails_at_no r h g
fails_at_no PresumeCommit r h g = ParentCrashCommit.fails_at_no r h g

pub fails_to_promise_up : (pr : Presumption) → Keeps pr CascadedMoves.MayPromise
    ParentCrash.fails_to_promise_up
fails_to_promise_up PresumeAbort r h g = ParentCrashAbort.fails_to_promise_up r h g
fails_to_promise_up PresumeCommit r h g = ParentCrashCommit.fails_to_promise_up r h g

pub asks_for_votes : (pr : Presumption) → pr ≡ PresumeAbort
    → Keeps pr ParentMoves.MayAskForVotes ParentMoves.asks_for_votes
asks_for_votes PresumeAbort e r h g = ParentAbort.asks_for_votes r h g
asks_for_votes PresumeCommit e r h g = absurd (cc)

pub collects_votes : (pr : Presumption) → pr ≡ PresumeCommit
    → Keeps pr ParentMoves.MayAskForVotes ParentMoves.collects_votes
collects_votes PresumeCommit e r h g = ParentCommit.asks_for_votes r h g
collects_votes PresumeAbort e r h g = absurd (cc)

pub hears_no : (pr : Presumption) → pr ≡ PresumeAbort → Keeps pr ParentMoves.MayHearNo ParentMoves.hears_no
hears_no PresumeAbort e r h g = ParentAbort.hears_no r h g
hears_no PresumeCommit e r h g = absurd (cc)

pub hears_no_forced : (pr : Presumption) → pr ≡ PresumeCommit
    → Keeps pr ParentMoves.MayHearNo ParentMoves.hears_no_forced
hears_no_forced PresumeCommit e r h g = ParentCommit.hears_no r h g
hears_no_forced PresumeAbort e r h g = absurd (cc)

pub aborts : (pr : Presumption) → pr ≡ PresumeAbort → Keeps pr ParentMoves.MayAbort ParentMoves.aborts
aborts PresumeAbort e r h g = ParentAbort.aborts r h g
aborts PresumeCommit e r h g = absurd (cc)

pub aborts_forced : (pr : Presumption) → pr ≡ PresumeCommit
    → Keeps pr ParentMoves.MayAbort ParentMoves.aborts_forced
aborts_forced PresumeCommit e r h g = ParentCommit.aborts r h g
aborts_forced PresumeAbort e r h g = absurd (cc)

pub ends_commit : (pr : Presumption) → pr ≡ PresumeAbort → Keeps pr ParentMoves.MayEndCommit ParentMoves.ends
ends_commit PresumeAbort e r h g = ParentAbort.ends r h g
ends_commit PresumeCommit e r h g = absurd (cc)

pub ends_abort : (pr : Presumption) → pr ≡ PresumeCommit → Keeps pr ParentMoves.MayEndAbort ParentMoves.ends
ends_abort PresumeCommit e r h g = ParentCommit.ends r h g
ends_abort PresumeAbort e r h g = absurd (cc)

pub answers_commit : (pr : Presumption) → pr ≡ PresumeAbort
    → Keeps pr ParentMoves.MayAnswerCommit ParentMoves.answers_commit
answers_commit PresumeAbort e r h g = ParentAbort.answers_commit r h g
answers_commit PresumeCommit e r h g = absurd (cc)

pub answers_abort : (pr : Presumption) → pr ≡ PresumeCommit
    → Keeps pr ParentMoves.MayAnswerAbort ParentMoves.answers_abort
answers_abort PresumeCommit e r h g = ParentCommit.answers_abort r h g
answers_abort PresumeAbort e r h g = absurd (cc)

pub presumes_abort : (pr : Presumption) → pr ≡ PresumeAbort
    → Keeps pr ParentMoves.MayPresumeAbort ParentMoves.answers_abort
presumes_abort PresumeAbort e r h g = ParentAbort.presumes r h g
presumes_abort PresumeCommit e r h g = absurd (cc)

pub presumes_commit : (pr : Presumption) → pr ≡ PresumeCommit
    → Keeps pr ParentMoves.MayPresumeCommit ParentMoves.answers_commit
presumes_commit PresumeCommit e r h g = ParentCommit.presumes r h g
presumes_commit PresumeAbort e r h g = absurd (cc)

pub ends_read_only : (pr : Presumption) → pr ≡ PresumeAbort
    → Keeps pr RootMoves.MayEndReadOnly RootMoves.ends_read_only
ends_read_only PresumeAbort e r h g = RootAbort.ends_read_only r h g
ends_read_only PresumeCommit e r h g = absurd (cc)

pub ends_read_only_collected : (pr : Presumption) → pr ≡ PresumeCommit
    → Keeps pr RootMoves.MayEndReadOnly RootMoves.ends_read_only_collected
ends_read_only_collected PresumeCommit e r h g = RootCommit.ends_read_only r h g
ends_read_only_collected PresumeAbort e r h g = absurd (cc)

pub decides_naming : (pr : Presumption) → pr ≡ PresumeAbort
    → Keeps pr RootMoves.MayDecide RootMoves.decides_naming
decides_naming PresumeAbort e r h g = RootAbort.decides r h g
decides_naming PresumeCommit e r h g = absurd (cc)

pub decides : (pr : Presumption) → pr ≡ PresumeCommit → Keeps pr RootMoves.MayDecide RootMoves.decides
decides PresumeCommit e r h g = RootCommit.decides r h g
decides PresumeAbort e r h g = absurd (cc)

pub reads_up : (pr : Presumption) → pr ≡ PresumeAbort
    → Keeps pr CascadedMoves.MayReadUp CascadedMoves.reads_up
reads_up PresumeAbort e r h g = CascadedAbort.reads_up r h g
reads_up PresumeCommit e r h g = absurd (cc)

pub reads_up_collected : (pr : Presumption) → pr ≡ PresumeCommit
    → Keeps pr CascadedMoves.MayReadUp CascadedMoves.reads_up_collected
reads_up_collected PresumeCommit e r h g = CascadedCommit.reads_up r h g
reads_up_collected PresumeAbort e r h g = absurd (cc)

pub passes_commit_forced : (pr : Presumption) → pr ≡ PresumeAbort
    → Keeps pr CascadedMoves.MayPassCommit CascadedMoves.passes_commit_forced
passes_commit_forced PresumeAbort e r h g = CascadedAbort.passes_commit r h g
passes_commit_forced PresumeCommit e r h g = absurd (cc)

pub passes_commit : (pr : Presumption) → pr ≡ PresumeCommit
    → Keeps pr CascadedMoves.MayPassCommit CascadedMoves.passes_commit
passes_commit PresumeCommit e r h g = CascadedCommit.passes_commit r h g
passes_commit PresumeAbort e r h g = absurd (cc)

pub passes_abort : (pr : Presumption) → pr ≡ PresumeAbort
    → Keeps pr CascadedMoves.MayPassAbort CascadedMoves.passes_abort
passes_abort PresumeAbort e r h g = CascadedAbort.passes_abort r h g
passes_abort PresumeCommit e r h g = absurd (cc)

pub passes_abort_forced : (pr : Presumption) → pr ≡ PresumeCommit
    → Keeps pr CascadedMoves.MayPassAbort CascadedMoves.passes_abort_forced
passes_abort_forced PresumeCommit e r h g = CascadedCommit.passes_abort r h g
passes_abort_forced PresumeAbort e r h g = absurd (cc)

pub fails_to_collect : (pr : Presumption) → pr ≡ PresumeCommit
    → Keeps pr ParentCrash.MayFailToCollect ParentCrash.fails_to_collect
fails_to_collect PresumeCommit e r h g = ParentCrashCommit.fails_to_collect r h g
fails_to_collect PresumeAbort e r h g = absurd (cc)

pub fails_to_abort : (pr : Presumption) → pr ≡ PresumeAbort
    → Keeps pr ParentMoves.MayAbort ParentCrash.fails_to_abort
fails_to_abort PresumeAbort e r h g = ParentCrashAbort.fails_to_abort r h g
fails_to_abort PresumeCommit e r h g = absurd (cc)

pub fails_to_abort_naming : (pr : Presumption) → pr ≡ PresumeCommit
    → Keeps pr ParentMoves.MayAbort ParentCrash.fails_to_abort_naming
fails_to_abort_naming PresumeCommit e r h g = ParentCrashCommit.fails_to_abort r h g
fails_to_abort_naming PresumeAbort e r h g = absurd (cc)

pub fails_to_end_read_only : (pr : Presumption) → pr ≡ PresumeCommit
    → Keeps pr ParentCrash.MayFailToEndReadOnly ParentCrash.fails_to_end_read_only
fails_to_end_read_only PresumeCommit e r h g = ParentCrashCommit.fails_to_end_read_only r h g
fails_to_end_read_only PresumeAbort e r h g = absurd (cc)

pub fails_to_decide_naming : (pr : Presumption) → pr ≡ PresumeAbort
    → Keeps pr RootMoves.MayDecide ParentCrash.fails_to_decide_naming
fails_to_decide_naming PresumeAbort e r h g = ParentCrashAbort.fails_to_decide r h g
fails_to_decide_naming PresumeCommit e r h g = absurd (cc)

pub fails_to_decide : (pr : Presumption) → pr ≡ PresumeCommit
    → Keeps pr RootMoves.MayDecide ParentCrash.fails_to_decide
fails_to_decide PresumeCommit e r h g = ParentCrashCommit.fails_to_decide r h g
fails_to_decide PresumeAbort e r h g = absurd (cc)

pub fails_to_pass_commit_naming : (pr : Presumption) → pr ≡ PresumeAbort
    → Keeps pr CascadedMoves.MayPassCommit ParentCrash.fails_to_pass_commit_naming
fails_to_pass_commit_naming PresumeAbort e r h g = ParentCrashAbort.fails_to_pass_commit r h g
fails_to_pass_commit_naming PresumeCommit e r h g = absurd (cc)

pub fails_to_pass_commit : (pr : Presumption) → pr ≡ PresumeCommit
    → Keeps pr CascadedMoves.MayPassCommit ParentCrash.fails_to_pass_commit
fails_to_pass_commit PresumeCommit e r h g = ParentCrashCommit.fails_to_pass_commit r h g
fails_to_pass_commit PresumeAbort e r h g = absurd (cc)

pub fails_to_pass_abort : (pr : Presumption) → pr ≡ PresumeAbort
    → Keeps pr CascadedMoves.MayPassAbort ParentCrash.fails_to_pass_abort
fails_to_pass_abort PresumeAbort e r h g = ParentCrashAbort.fails_to_pass_abort r h g
fails_to_pass_abort PresumeCommit e r h g = absurd (cc)

pub fails_to_pass_abort_naming : (pr : Presumption) → pr ≡ PresumeCommit
    → Keeps pr CascadedMoves.MayPassAbort ParentCrash.fails_to_pass_abort_naming
fails_to_pass_abort_naming PresumeCommit e r h g = ParentCrashCommit.fails_to_pass_abort r h g
fails_to_pass_abort_naming PresumeAbort e r h g = absurd (cc)

pub fails_to_end_commit : (pr : Presumption) → pr ≡ PresumeAbort
    → Keeps pr ParentMoves.MayEndCommit ParentCrash.fails_to_end
fails_to_end_commit PresumeAbort e r h g = ParentCrashAbort.fails_to_end r h g
fails_to_end_commit PresumeCommit e r h g = absurd (cc)

pub fails_to_end_abort : (pr : Presumption) → pr ≡ PresumeCommit
    → Keeps pr ParentMoves.MayEndAbort ParentCrash.fails_to_end
fails_to_end_abort PresumeCommit e r h g = ParentCrashCommit.fails_to_end r h g
fails_to_end_abort PresumeAbort e r h g = absurd (cc)
