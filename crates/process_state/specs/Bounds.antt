-- The bounds of numbers that an effect must fit.
use Rattle.std.specs.Prelude.{◌<◌, ◌^◌, ⊤, Option, List, map}
use Rattle.std.specs.List.{AllByRecursion}
use Rattle.protocol.specs.declared.messages.Envelope.{Envelope}
use Rattle.protocol.specs.declared.messages.Message.{Message}
use Rattle.protocol.specs.declared.messages.Message.TheVariants.{Work}
use Rattle.protocol.specs.declared.names.Kind.{Kind}
use Rattle.protocol.specs.declared.names.ProcessId.{ProcessId}
use Rattle.protocol.specs.LogNames.{in_log}
use Rattle.protocol.specs.Nodes.{Written, entries_written}
use Rattle.log_rules.specs.sound.Sound.{IsSound}

-- a work is counted below 2^64; no other message counts
abbrev pub IsCounted : Message → Type 0
IsCounted (Work c n op) = n < 2 ^ 64
IsCounted _ = ⊤

-- each of these records can be in the log of such a process below this parent, and each of these works is
-- counted
pub record FitsBounds (kind : Kind) (parent : Option ProcessId) (written : List Written)
    (messages : List Envelope) : Type 0 where
  pub records : AllByRecursion (IsSound kind) (map (in_log parent) (entries_written written))
  pub works : AllByRecursion (λ (l : Envelope). IsCounted l.message) messages
