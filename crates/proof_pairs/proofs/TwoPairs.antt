-- One step, seen from the pair above and from the pair below.
use Rattle.std.proofs.Common.{◌≡◌, Bool, true, false, ◌&&◌, arith}
use Rattle.proof_pairs.specs.TwoPairs.{Together, SameFront, OneStep, same}
use Rattle.proof_pairs.specs.ChildMoves
use Rattle.proof_pairs.specs.ChildCrash
use Rattle.proof_pairs.specs.ParentMoves
use Rattle.proof_pairs.specs.RootMoves
use Rattle.proof_pairs.specs.CascadedMoves as cascaded
use Rattle.proof_pairs.specs.ParentCrash
use Rattle.proof_pairs.specs.ChildCrash.{ChildFront}
use Rattle.proof_pairs.specs.ParentCrash.{ParentFront}

by_nobody : (t u v : Bool) → v ≡ (t && u) → u ≡ false → v ≡ (true && u)
by_nobody t u v e f = grind arith

pub join_makes_a_case : Together (λ a b. ChildMoves.MayIssue a) ChildMoves.issues cascaded.is_born
join_makes_a_case a b h k i g = grind arith

pub joins_a_participant : Together (λ a b. a.took_part_up ≡ true) ParentMoves.accepts cascaded.takes_part
joins_a_participant a b h k i g = grind arith

pub joins_a_bystander : Together (λ a b. a.took_part_up ≡ false) ParentMoves.accepts same
joins_a_bystander a b h k i g = record {
  coordinator = grind arith;
  cascaded = grind arith;
  outcome = grind arith;
  failed = grind arith;
  born = grind arith;
  live = grind arith;
  takes_part = by_nobody _ _ _ i.takes_part g;
  refused = grind arith;
  read = grind arith;
  promise_kept = grind arith;
  promise_forced = grind arith;
  promise_ever = grind arith;
  commit_kept = grind arith;
  commit_forced = grind arith;
  abort_kept = grind arith;
  no_heuristic = grind arith;
  no_forgot = grind arith;
}

pub takes_part_with_its_child : Together (λ a b. a.took_part ≡ true) cascaded.takes_part cascaded.takes_part
takes_part_with_its_child a b h k i g = grind arith

pub takes_part_without_it : Together (λ a b. a.took_part ≡ false) cascaded.takes_part same
takes_part_without_it a b h k i g = grind arith

pub root_commits : Together (λ a b. Unit {0}) RootMoves.decides_naming cascaded.commits_above
root_commits a b h k i g = grind arith

pub root_commits_collected : Together (λ a b. Unit {0}) RootMoves.decides cascaded.commits_above
root_commits_collected a b h k i g = grind arith

pub commits_above : Together (λ a b. Unit {0}) cascaded.commits_above cascaded.commits_above
commits_above a b h k i g = grind arith

pub asks_its_children : Together (λ a b. ParentMoves.MayAskForVotes b) same ParentMoves.asks_for_votes
asks_its_children a b h k i g = grind arith

pub collects_its_children : Together (λ a b. ParentMoves.MayAskForVotes b) same ParentMoves.collects_votes
collects_its_children a b h k i g = grind arith

pub promises : Together (λ a b. cascaded.MayPromise b) ChildMoves.votes_yes cascaded.promises
promises a b h k i g = grind arith

pub reads_empty : Together (λ a b. Unit {0}) ChildMoves.votes_read cascaded.reads_empty
reads_empty a b h k i g = grind arith

pub reads : Together (λ a b. Unit {0}) ChildMoves.votes_read cascaded.reads_up
reads a b h k i g = grind arith

pub reads_collected : Together (λ a b. Unit {0}) ChildMoves.votes_read cascaded.reads_up_collected
reads_collected a b h k i g = grind arith

pub hears_no : Together (λ a b. ParentMoves.MayHearNo b) ChildMoves.votes_no ParentMoves.hears_no
hears_no a b h k i g = grind arith

pub hears_no_forced : Together (λ a b. ParentMoves.MayHearNo b) ChildMoves.votes_no
    ParentMoves.hears_no_forced
hears_no_forced a b h k i g = grind arith

pub aborts_by_no : Together (λ a b. ParentMoves.MayAbort b) ChildMoves.votes_no ParentMoves.aborts
aborts_by_no a b h k i g = grind arith

pub aborts_by_no_forced : Together (λ a b. ParentMoves.MayAbort b) ChildMoves.votes_no
    ParentMoves.aborts_forced
aborts_by_no_forced a b h k i g = grind arith

pub aborts : Together (λ a b. ParentMoves.MayAbort b) ChildMoves.drops ParentMoves.aborts
aborts a b h k i g = grind arith

pub aborts_forced : Together (λ a b. ParentMoves.MayAbort b) ChildMoves.drops_and_acknowledges
    ParentMoves.aborts_forced
aborts_forced a b h k i g = grind arith

pub gives_up : Together (λ a b. Unit {0}) ChildMoves.drops ParentMoves.gives_up
gives_up a b h k i g = grind arith

pub gives_up_and_acknowledges : Together (λ a b. Unit {0}) ChildMoves.drops_and_acknowledges
    ParentMoves.gives_up
gives_up_and_acknowledges a b h k i g = grind arith

pub passes_commit_forced : Together (λ a b. cascaded.MayPassCommit b) ChildMoves.commits_forced
    cascaded.passes_commit_forced
passes_commit_forced a b h k i g = grind arith

pub passes_commit : Together (λ a b. cascaded.MayPassCommit b) ChildMoves.commits cascaded.passes_commit
passes_commit a b h k i g = grind arith

pub passes_abort : Together (λ a b. cascaded.MayPassAbort b) ChildMoves.rolls_back cascaded.passes_abort
passes_abort a b h k i g = grind arith

pub passes_abort_forced : Together (λ a b. cascaded.MayPassAbort b) ChildMoves.rolls_back_forced
    cascaded.passes_abort_forced
passes_abort_forced a b h k i g = grind arith

pub waits_to_acknowledge_commit : Together (λ a b. cascaded.MayPassCommit b) ChildMoves.learns_commit_forced
    cascaded.passes_commit_forced
waits_to_acknowledge_commit a b h k i g = grind arith

pub waits_to_acknowledge_abort : Together (λ a b. cascaded.MayPassAbort b) ChildMoves.learns_abort_forced
    cascaded.passes_abort_forced
waits_to_acknowledge_abort a b h k i g = grind arith

pub aborts_silently : Together (λ a b. ParentMoves.MayAbort b) ChildMoves.drops ParentMoves.aborts_forced
aborts_silently a b h k i g = grind arith

pub ends_commit : Together (λ a b. ParentMoves.MayEndCommit b) ChildMoves.acknowledges ParentMoves.ends
ends_commit a b h k i g = grind arith

pub ends_abort : Together (λ a b. ParentMoves.MayEndAbort b) ChildMoves.acknowledges ParentMoves.ends
ends_abort a b h k i g = grind arith

pub hardens : Together (λ a b. Unit {0}) ChildMoves.hardens_child ParentMoves.hardens_parent
hardens a b h k i g = grind arith

pub trims : Together (λ a b. Unit {0}) ChildMoves.trims_child ParentMoves.trims_parent
trims a b h k i g = grind arith

pub fails : Together (λ a b. Unit {0}) ChildCrash.child_fails ParentCrash.parent_fails
fails a b h k i g = grind arith

pub fails_to_collect : Together (λ a b. ParentCrash.MayFailToCollect b) ChildCrash.child_fails
    ParentCrash.fails_to_collect
fails_to_collect a b h k i g = grind arith

pub fails_to_abort : Together (λ a b. ParentMoves.MayAbort b) ChildCrash.child_fails
    ParentCrash.fails_to_abort
fails_to_abort a b h k i g = grind arith

pub fails_to_promise : Together (λ a b. cascaded.MayPromise b) ChildCrash.fails_to_promise
    ParentCrash.fails_to_promise_up
fails_to_promise a b h k i g = grind arith

pub fails_to_pass_commit : Together (λ a b. cascaded.MayPassCommit b) ChildCrash.fails_to_commit
    ParentCrash.fails_to_pass_commit
fails_to_pass_commit a b h k i g = grind arith

pub fails_to_pass_abort : Together (λ a b. cascaded.MayPassAbort b) ChildCrash.fails_to_roll_back
    ParentCrash.fails_to_pass_abort
fails_to_pass_abort a b h k i g = grind arith

pub reopens_naming : Together (λ a b. ParentCrash.MayReopenParent b) ChildCrash.child_reopens
    ParentCrash.parent_reopens_naming
reopens_naming a b h k i g = record {
  coordinator = grind arith;
  cascaded = grind arith;
  outcome = grind arith;
  failed = grind arith;
  born = grind arith;
  live = grind arith;
  takes_part = grind arith;
  refused = grind arith;
  read = grind arith;
  promise_kept = grind arith;
  promise_forced = grind arith;
  promise_ever = grind arith;
  commit_kept = grind arith;
  commit_forced = grind arith;
  abort_kept = grind arith;
  no_heuristic = grind arith;
  no_forgot = grind arith;
}

pub reopens : Together (λ a b. ParentCrash.MayReopenParent b) ChildCrash.child_reopens
    ParentCrash.parent_reopens
reopens a b h k i g = record {
  coordinator = grind arith;
  cascaded = grind arith;
  outcome = grind arith;
  failed = grind arith;
  born = grind arith;
  live = grind arith;
  takes_part = grind arith;
  refused = grind arith;
  read = grind arith;
  promise_kept = grind arith;
  promise_forced = grind arith;
  promise_ever = grind arith;
  commit_kept = grind arith;
  commit_forced = grind arith;
  abort_kept = grind arith;
  no_heuristic = grind arith;
  no_forgot = grind arith;
}

pub loses : (front : ChildFront) (below_front : ParentFront) → SameFront front below_front
    → Together (λ a b. Unit {0}) (ChildCrash.child_loses front) (ParentCrash.parent_loses below_front)
loses front below_front s a b h k i g = grind arith

pub one_step : OneStep
one_step = record {
  join_makes_a_case = join_makes_a_case;
  joins_a_participant = joins_a_participant;
  joins_a_bystander = joins_a_bystander;
  takes_part_with_its_child = takes_part_with_its_child;
  takes_part_without_it = takes_part_without_it;
  root_commits = root_commits;
  root_commits_collected = root_commits_collected;
  commits_above = commits_above;
  asks_its_children = asks_its_children;
  collects_its_children = collects_its_children;
  promises = promises;
  reads_empty = reads_empty;
  reads = reads;
  reads_collected = reads_collected;
  hears_no = hears_no;
  hears_no_forced = hears_no_forced;
  aborts_by_no = aborts_by_no;
  aborts_by_no_forced = aborts_by_no_forced;
  aborts = aborts;
  aborts_forced = aborts_forced;
  gives_up = gives_up;
  gives_up_and_acknowledges = gives_up_and_acknowledges;
  passes_commit_forced = passes_commit_forced;
  passes_commit = passes_commit;
  passes_abort = passes_abort;
  passes_abort_forced = passes_abort_forced;
  waits_to_acknowledge_commit = waits_to_acknowledge_commit;
  waits_to_acknowledge_abort = waits_to_acknowledge_abort;
  aborts_silently = aborts_silently;
  ends_commit = ends_commit;
  ends_abort = ends_abort;
  hardens = hardens;
  trims = trims;
  fails = fails;
  fails_to_collect = fails_to_collect;
  fails_to_abort = fails_to_abort;
  fails_to_promise = fails_to_promise;
  fails_to_pass_commit = fails_to_pass_commit;
  fails_to_pass_abort = fails_to_pass_abort;
  reopens_naming = reopens_naming;
  reopens = reopens;
  loses = loses;
}
