-- An act is posted at its process.
use Rattle.protocol.specs.declared.names.ProcessId.{ProcessId}
use Rattle.protocol.specs.declared.events.Event.{Event}
use Rattle.protocol.specs.declared.events.Event.TheVariants.{Deliver, Settle, Restart, Trim}
use Rattle.protocol_words.specs.Variants.{ActOf}
use Rattle.cluster_process.specs.Marks.{ActsHere}
use Rattle.cluster_tree.specs.Posts.{IsOf}

pub acts_of : (root q : ProcessId) (event : Event) → IsOf root q event → ActsHere root q event
acts_of root q (ActOf a) of = of
acts_of root q (Deliver k) of = tt
acts_of root q Settle of = tt
acts_of root q (Restart p bytes) of = tt
acts_of root q (Trim p) of = tt
