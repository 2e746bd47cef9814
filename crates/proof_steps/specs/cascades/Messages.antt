-- Who sent messages.
use Rattle.std.specs.Prelude.{◌≡◌, List, [], ◌∷◌}
use Rattle.protocol.specs.declared.messages.Envelope.{Envelope}
use Rattle.protocol.specs.declared.names.ProcessId.{ProcessId}

-- the process sent each of the messages
abbrev pub AllSentBy : ProcessId → List Envelope → Type 0
AllSentBy q [] = Unit {0}
AllSentBy q (l ∷ ls) = (l.from ≡ q) × AllSentBy q ls
