-- What a subordinate shows of an event.
use Rattle.std.specs.Prelude.{None, List, map}
use Rattle.protocol.specs.declared.messages.Envelope.{Envelope}
use Rattle.protocol.specs.declared.events.Reaction.{Reaction}
use Rattle.protocol.specs.Nodes.{Written, logged_of}

-- the reaction that shows these records and these messages
abbrev pub shown : List Written → List Envelope → Reaction
shown ws ls = record { begun = None; written = map logged_of ws; told = None; messages = ls; kept = None }
