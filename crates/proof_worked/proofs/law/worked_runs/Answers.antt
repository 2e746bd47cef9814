use Rattle.proof_worked.proofs.RowLaws.{flat_pa_commit_runs, flat_pc_commit_runs, late_no_vote_pa_runs, root_restart_collecting_pc_runs, late_inquiry_after_trim_pa_runs, cascaded_abort_after_prepare_pc_runs, cascaded_readonly_vote_end_lost_pc_runs, heuristic_rollback_mismatch_runs, late_no_vote_pc_runs, readonly_transactions_runs, root_restart_committing_pa_runs, forgotten_ticket_votes_no_runs, cascaded_restart_pa_runs, heuristic_rollback_forgotten_runs, heuristic_forgotten_before_vote_runs, cascaded_pa_commit_runs, ask_before_prepare_runs, ask_after_commit_runs, commit_again_after_end_runs, commit_again_before_votes_runs, trim_manager_twice_runs, collecting_in_doubt_pc_runs, cascaded_in_doubt_pa_runs}
use Rattle.proof_worked.proofs.law.worked_runs.Goals as goal

pub returns : goal.returns
returns c =
    record {
      flat_pa_commit = flat_pa_commit_runs;
      flat_pc_commit = flat_pc_commit_runs;
      late_no_vote_pa = late_no_vote_pa_runs;
      root_restart_collecting_pc = root_restart_collecting_pc_runs;
      late_inquiry_after_trim_pa = late_inquiry_after_trim_pa_runs;
      cascaded_abort_after_prepare_pc = cascaded_abort_after_prepare_pc_runs;
      cascaded_readonly_vote_end_lost_pc = cascaded_readonly_vote_end_lost_pc_runs;
      heuristic_rollback_mismatch = heuristic_rollback_mismatch_runs;
      late_no_vote_pc = late_no_vote_pc_runs;
      readonly_transactions = readonly_transactions_runs;
      root_restart_committing_pa = root_restart_committing_pa_runs;
      forgotten_ticket_votes_no = forgotten_ticket_votes_no_runs;
      cascaded_restart_pa = cascaded_restart_pa_runs;
      heuristic_rollback_forgotten = heuristic_rollback_forgotten_runs;
      heuristic_forgotten_before_vote = heuristic_forgotten_before_vote_runs;
      cascaded_pa_commit = cascaded_pa_commit_runs;
      ask_before_prepare = ask_before_prepare_runs;
      ask_after_commit = ask_after_commit_runs;
      commit_again_after_end = commit_again_after_end_runs;
      commit_again_before_votes = commit_again_before_votes_runs;
      trim_manager_twice = trim_manager_twice_runs;
      collecting_in_doubt_pc = collecting_in_doubt_pc_runs;
      cascaded_in_doubt_pa = cascaded_in_doubt_pa_runs;
    }
