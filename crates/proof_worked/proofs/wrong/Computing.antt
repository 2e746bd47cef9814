-- What a run computes with.
use Rattle.std.specs.Prelude.{⊤}
use Rattle.protocol.specs.CoordinatorRows.{other_tickets}
use Rattle.protocol.specs.Memory.{has_child, ticket_of_child, voted_so, has_voted, all_voted, yes_of, undecided_of, works_of, has_acked, active_ticket, without_ticket, memory_of, found_of}
use Rattle.protocol.specs.Names.{same_process, same_presumption, same_outcome, same_txn, same_ticket, same_owner, same_case}
use Rattle.protocol.specs.Nodes.{is_listed, is_child, role_of}
use Rattle.protocol.specs.Outcomes.{sent, is_commit_outcome, first_vote}
use Rattle.protocol.specs.Plays.{writes_heard}
use Rattle.protocol.specs.Reactions.{reacts}
use Rattle.protocol.specs.Records.{has, in_list, none_of, same_bytes, same_xid, same_branch, named_by, promised_by, owing_by, boot_of, has_case, cases_in, is_reported, mixed_of, unreported_of, decision_of}
use Rattle.protocol.specs.Restarts.{recorded_view, recorded_branch, trimmed}
use Rattle.protocol.specs.Standings.{still_owed, coordinator_view, mark_of, manager_view, found_below}
use Rattle.protocol.specs.Store.{key_below, with_pair, without_key, applied, writes_of, stored}
use Rattle.protocol.specs.Trees.{times_listed, lists_twice, has_unknown_parent, parent_of, has_cycle, root_of, has_wrong_roots, is_listed_manager, has_managed_child, is_too_deep}
use Rattle.protocol.specs.World.{node_makes, world_makes, made_by, node_by, net_by}
use Rattle.proof_processes.specs.WorldHolds.{takes_part}
use Rattle.proof_pairs.specs.readings.ReadingOf.{is_dead}
use Rattle.protocol.specs.Texts.{findings_text}

unfoldable pub computing : ⊤
unfolding other_tickets has_child ticket_of_child voted_so has_voted all_voted yes_of undecided_of
    works_of has_acked found_of found_below findings_text active_ticket without_ticket memory_of same_process
    same_presumption same_outcome
    same_txn same_ticket same_owner same_case is_listed is_child role_of sent is_commit_outcome
    writes_heard reacts first_vote has in_list none_of same_bytes same_xid same_branch named_by promised_by
    owing_by boot_of has_case cases_in is_reported mixed_of unreported_of decision_of recorded_view
    recorded_branch trimmed still_owed coordinator_view
    mark_of manager_view key_below with_pair without_key applied writes_of stored node_makes world_makes
    made_by
    node_by net_by times_listed lists_twice has_unknown_parent parent_of has_cycle root_of has_wrong_roots
    is_listed_manager has_managed_child is_too_deep takes_part is_dead
computing = tt
