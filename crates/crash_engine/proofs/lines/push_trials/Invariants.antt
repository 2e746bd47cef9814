use Rattle.std.proofs.Common.{◌≡◌, ◌++◌, take}
use Rattle.std.specs.List.{flat_map}
use Rattle.crash_engine.specs.Texts.{trial_text}
use Rattle.crash_engine.proofs.lines.push_trials.Given as goal

abbrev pub invariant-loop-trial : goal.invariant-loop-trial
invariant-loop-trial l = l.out.items ≡ l.initial.out.items
    ++ flat_map trial_text (take l.trial-index l.trials)
