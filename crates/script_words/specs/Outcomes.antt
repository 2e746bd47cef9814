-- Reading what an operator decides.
use Rattle.std.specs.Prelude.{ℕ, List, codes, Option, Some, None, if◌then◌else◌}
use Rattle.protocol.specs.declared.names.Outcome.{Outcome}
use Rattle.protocol.specs.declared.names.Outcome.TheVariants.{Committed, Aborted}
use Rattle.script_words.specs.Steps.{same}

-- the outcome that a word names
abbrev pub outcome_at : List ℕ → Option Outcome
outcome_at word =
    if same word (codes "commit") then Some Committed
    else if same word (codes "rollback") then Some Aborted
    else None
