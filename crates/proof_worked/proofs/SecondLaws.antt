-- The worked runs by the second version come out as they are written: computed.
use Rattle.std.specs.Prelude.{⊤}
use Rattle.std.proofs.Common.{refl}
use Rattle.std.specs.Fmt.{digits}
use Rattle.protocol.specs.CoordinatorRows.{other_tickets}
use Rattle.protocol.specs.Memory.{has_child, ticket_of_child, voted_so, has_voted, all_voted, yes_of, undecided_of, works_of, has_acked, active_ticket, without_ticket, memory_of, found_of}
use Rattle.protocol.specs.Names.{same_process, same_presumption, same_outcome, same_txn, same_ticket, same_owner, same_case}
use Rattle.protocol.specs.Nodes.{is_listed, is_child, role_of}
use Rattle.protocol.specs.Outcomes.{sent, is_commit_outcome}
use Rattle.protocol.specs.Plays.{writes_heard}
use Rattle.protocol.specs.Reactions.{reacts}
use Rattle.protocol.specs.Records.{has, in_list, none_of, same_bytes, same_xid, same_branch, named_by, promised_by, owing_by, boot_of, has_case, cases_in, is_reported, mixed_of, unreported_of, decision_of}
use Rattle.protocol.specs.Restarts.{recorded_view, recorded_branch, trimmed}
use Rattle.protocol.specs.Standings.{still_owed, coordinator_view, mark_of, manager_view, found_below}
use Rattle.protocol.specs.Store.{key_below, with_pair, without_key, applied, writes_of, stored}
use Rattle.protocol.specs.World.{node_makes, world_makes, made_by, node_by, net_by, entries_of, journal_of}
use Rattle.protocol.specs.Texts.{findings_text}
use Rattle.proof_worked.specs.SecondPlays.{RunsBySecond}
use Rattle.proof_worked.specs.SecondRuns.{acknowledged_from_below_pa, acknowledged_from_below_pc, mismatch_is_reported, mismatch_below_is_reported, first_acknowledgement_counts, abort_below_is_unreported}

-- what a run computes with
unfoldable computing : ⊤
unfolding digits other_tickets has_child ticket_of_child voted_so has_voted all_voted yes_of undecided_of
    works_of has_acked found_of found_below findings_text active_ticket without_ticket memory_of
    same_process same_presumption same_outcome
    same_txn same_ticket same_owner same_case is_listed is_child role_of sent is_commit_outcome
    writes_heard reacts has in_list none_of same_bytes same_xid same_branch named_by promised_by
    owing_by boot_of has_case cases_in is_reported mixed_of unreported_of decision_of recorded_view
    recorded_branch trimmed still_owed
    coordinator_view mark_of manager_view key_below with_pair without_key applied writes_of
    stored node_makes world_makes made_by node_by net_by entries_of journal_of
computing = tt

pub acknowledged_from_below_pa_runs : RunsBySecond acknowledged_from_below_pa
unfolding computing
acknowledged_from_below_pa_runs = refl

pub acknowledged_from_below_pc_runs : RunsBySecond acknowledged_from_below_pc
unfolding computing
acknowledged_from_below_pc_runs = refl

pub mismatch_is_reported_runs : RunsBySecond mismatch_is_reported
unfolding computing
mismatch_is_reported_runs = refl

pub mismatch_below_is_reported_runs : RunsBySecond mismatch_below_is_reported
unfolding computing
mismatch_below_is_reported_runs = refl

pub first_acknowledgement_counts_runs : RunsBySecond first_acknowledgement_counts
unfolding computing
first_acknowledgement_counts_runs = refl

pub abort_below_is_unreported_runs : RunsBySecond abort_below_is_unreported
unfolding computing
abort_below_is_unreported_runs = refl
