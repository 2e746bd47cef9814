-- A run meets the premises of the law of costs: computed.
use Rattle.std.specs.Prelude.{⊤, []}
use Rattle.std.proofs.Common.{refl}
use Rattle.protocol.specs.Counts.{are_distinct}
use Rattle.protocol.specs.Nodes.{Second}
use Rattle.protocol.specs.Plays.{Played}
use Rattle.protocol.specs.Rows.{process, tree_a}
use Rattle.protocol.specs.World.{World, entries_of, journal_of}
use Rattle.protocol.proofs.RunLaws.{runs_by_are_runs}
use Rattle.proof_costs.specs.Journals.{is_of}
use Rattle.proof_worked.specs.CostRuns.{CostsAreMet, both_begin, both_commit, then_commit}
use Rattle.proof_worked.specs.SecondPlays.{second_plays_all}
use Rattle.proof_worked.proofs.wrong.Computing
use Rattle.proof_worked.proofs.wrong.PlayedRuns.{goes, player_of}
use Rattle.proof_worked.proofs.wrong.SecondPlayed.{continues_by, is_run_by}

-- what a run computes with
unfoldable computing : ⊤
unfolding Computing.computing entries_of journal_of are_distinct is_of
computing = tt

abbrev first : Played
first = second_plays_all tree_a (process 1) both_begin

abbrev start : World
start = (player_of first).world

abbrev last : Played
last = then_commit start

pub met : CostsAreMet
unfolding computing
met = record {
  begun = player_of first;
  ended = player_of last;
  played_out = goes first refl;
  played_on = goes last refl;
  is_run = runs_by_are_runs tree_a Second 0 (player_of first).moves start
      (is_run_by tree_a (process 1) both_begin refl);
  goes_on = continues_by tree_a start (process 1) [] both_commit refl;
  abort_root = record {
    root = refl;
    is_active = refl;
    has_accepted = refl;
    undisturbed = refl;
    each_votes = record { distinct = refl; among = refl; all = refl };
    each_acknowledges = record { distinct = refl; among = refl; all = refl };
    are = refl;
  };
  abort_second = record {
    manager = refl;
    is_active = refl;
    undisturbed = refl;
    are = refl;
    votes_yes = refl;
  };
  abort_third = record { manager = refl; is_active = refl; undisturbed = refl; are = refl; votes_yes = refl };
  commit_root = record {
    root = refl;
    is_active = refl;
    has_accepted = refl;
    undisturbed = refl;
    each_votes = record { distinct = refl; among = refl; all = refl };
    each_acknowledges = record { distinct = refl; among = refl; all = refl };
    are = refl;
  };
  commit_second = record {
    manager = refl;
    is_active = refl;
    undisturbed = refl;
    are = refl;
    votes_yes = refl;
  };
}
