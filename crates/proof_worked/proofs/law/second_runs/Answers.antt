use Rattle.proof_worked.proofs.SecondLaws.{acknowledged_from_below_pa_runs, acknowledged_from_below_pc_runs, mismatch_is_reported_runs, mismatch_below_is_reported_runs, first_acknowledgement_counts_runs, abort_below_is_unreported_runs}
use Rattle.proof_worked.proofs.law.second_runs.Goals as goal

pub returns : goal.returns
returns c =
    record {
      acknowledged_from_below_pa = acknowledged_from_below_pa_runs;
      acknowledged_from_below_pc = acknowledged_from_below_pc_runs;
      mismatch_is_reported = mismatch_is_reported_runs;
      mismatch_below_is_reported = mismatch_below_is_reported_runs;
      first_acknowledgement_counts = first_acknowledgement_counts_runs;
      abort_below_is_unreported = abort_below_is_unreported_runs;
    }
