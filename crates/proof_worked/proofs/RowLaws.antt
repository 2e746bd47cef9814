-- The worked runs come out as they are written: computed.
use Rattle.std.specs.Prelude.{⊤}
use Rattle.std.proofs.Common.{refl}
use Rattle.std.specs.Fmt.{digits}
use Rattle.protocol.specs.CoordinatorRows.{other_tickets}
use Rattle.protocol.specs.Memory.{has_child, ticket_of_child, voted_so, has_voted, all_voted, yes_of, undecided_of, works_of, has_acked, active_ticket, without_ticket, memory_of, found_of}
use Rattle.protocol.specs.Names.{same_process, same_presumption, same_outcome, same_txn, same_ticket, same_owner, same_case}
use Rattle.protocol.specs.Nodes.{is_listed, is_child, role_of}
use Rattle.protocol.specs.Outcomes.{sent, is_commit_outcome}
use Rattle.protocol.specs.Plays.{writes_heard}
use Rattle.protocol.specs.Reactions.{reacts}
use Rattle.protocol.specs.Records.{has, in_list, none_of, same_bytes, same_xid, same_branch, named_by, promised_by, owing_by, boot_of, has_case, cases_in, is_reported, mixed_of, unreported_of, decision_of}
use Rattle.protocol.specs.Restarts.{recorded_view, recorded_branch, trimmed}
use Rattle.protocol.specs.Standings.{still_owed, coordinator_view, mark_of, manager_view, found_below}
use Rattle.protocol.specs.Store.{key_below, with_pair, without_key, applied, writes_of, stored}
use Rattle.protocol.specs.World.{node_makes, world_makes, made_by, node_by, net_by, entries_of, journal_of}
use Rattle.protocol.specs.Rows.{Runs}
use Rattle.proof_worked.specs.FlatRuns.{flat_pa_commit, flat_pc_commit, late_no_vote_pa, late_no_vote_pc, readonly_transactions, forgotten_ticket_votes_no, commit_again_after_end, commit_again_before_votes}
use Rattle.proof_worked.specs.TreeRuns.{cascaded_abort_after_prepare_pc, cascaded_readonly_vote_end_lost_pc, cascaded_restart_pa, cascaded_pa_commit, cascaded_in_doubt_pa}
use Rattle.proof_worked.specs.DoubtRuns.{root_restart_collecting_pc, late_inquiry_after_trim_pa, heuristic_rollback_mismatch, root_restart_committing_pa, heuristic_rollback_forgotten, heuristic_forgotten_before_vote, ask_before_prepare, ask_after_commit, trim_manager_twice, collecting_in_doubt_pc}
use Rattle.protocol.specs.Texts.{findings_text}

-- what a run computes with
unfoldable computing : ⊤
unfolding digits other_tickets has_child ticket_of_child voted_so has_voted all_voted yes_of undecided_of
    works_of has_acked found_of found_below findings_text active_ticket without_ticket memory_of
    same_process same_presumption same_outcome
    same_txn same_ticket same_owner same_case is_listed is_child role_of sent is_commit_outcome
    writes_heard reacts has in_list none_of same_bytes same_xid same_branch named_by promised_by
    owing_by boot_of has_case cases_in is_reported mixed_of unreported_of decision_of recorded_view
    recorded_branch trimmed still_owed
    coordinator_view mark_of manager_view key_below with_pair without_key applied writes_of
    stored node_makes world_makes made_by node_by net_by entries_of journal_of
computing = tt

pub flat_pa_commit_runs : Runs flat_pa_commit
unfolding computing
flat_pa_commit_runs = refl

pub flat_pc_commit_runs : Runs flat_pc_commit
unfolding computing
flat_pc_commit_runs = refl

pub late_no_vote_pa_runs : Runs late_no_vote_pa
unfolding computing
late_no_vote_pa_runs = refl

pub root_restart_collecting_pc_runs : Runs root_restart_collecting_pc
unfolding computing
root_restart_collecting_pc_runs = refl

pub late_inquiry_after_trim_pa_runs : Runs late_inquiry_after_trim_pa
unfolding computing
late_inquiry_after_trim_pa_runs = refl

pub cascaded_abort_after_prepare_pc_runs : Runs cascaded_abort_after_prepare_pc
unfolding computing
cascaded_abort_after_prepare_pc_runs = refl

pub cascaded_readonly_vote_end_lost_pc_runs : Runs cascaded_readonly_vote_end_lost_pc
unfolding computing
cascaded_readonly_vote_end_lost_pc_runs = refl

pub heuristic_rollback_mismatch_runs : Runs heuristic_rollback_mismatch
unfolding computing
heuristic_rollback_mismatch_runs = refl

pub late_no_vote_pc_runs : Runs late_no_vote_pc
unfolding computing
late_no_vote_pc_runs = refl

pub readonly_transactions_runs : Runs readonly_transactions
unfolding computing
readonly_transactions_runs = refl

pub root_restart_committing_pa_runs : Runs root_restart_committing_pa
unfolding computing
root_restart_committing_pa_runs = refl

pub forgotten_ticket_votes_no_runs : Runs forgotten_ticket_votes_no
unfolding computing
forgotten_ticket_votes_no_runs = refl

pub cascaded_restart_pa_runs : Runs cascaded_restart_pa
unfolding computing
cascaded_restart_pa_runs = refl

pub heuristic_rollback_forgotten_runs : Runs heuristic_rollback_forgotten
unfolding computing
heuristic_rollback_forgotten_runs = refl

pub heuristic_forgotten_before_vote_runs : Runs heuristic_forgotten_before_vote
unfolding computing
heuristic_forgotten_before_vote_runs = refl

pub cascaded_pa_commit_runs : Runs cascaded_pa_commit
unfolding computing
cascaded_pa_commit_runs = refl

pub ask_before_prepare_runs : Runs ask_before_prepare
unfolding computing
ask_before_prepare_runs = refl

pub ask_after_commit_runs : Runs ask_after_commit
unfolding computing
ask_after_commit_runs = refl

pub commit_again_after_end_runs : Runs commit_again_after_end
unfolding computing
commit_again_after_end_runs = refl

pub commit_again_before_votes_runs : Runs commit_again_before_votes
unfolding computing
commit_again_before_votes_runs = refl

pub trim_manager_twice_runs : Runs trim_manager_twice
unfolding computing
trim_manager_twice_runs = refl

pub collecting_in_doubt_pc_runs : Runs collecting_in_doubt_pc
unfolding computing
collecting_in_doubt_pc_runs = refl

pub cascaded_in_doubt_pa_runs : Runs cascaded_in_doubt_pa
unfolding computing
cascaded_in_doubt_pa_runs = refl
