-- An opening's answer is told by the number of an answer.
use Rattle.std.proofs.Common.{ℕ}
use Rattle.file_calls.specs.declared.file.CalledFile.{CalledFile}
use Rattle.log_file.specs.declared.store.FileStore.{FileStore}
use Rattle.linked_node.specs.Numbers.{IsAnswerNumber}
use Rattle.linked_node.specs.Openings.{ServesAfter}
use Rattle.linked_node.specs.Turns.{TellsBy}
use Rattle.linked_node.specs.declared.kept.Kept.{Kept}
use Rattle.linked_node.specs.declared.kept.KeptLife.{KeptLife}
use Rattle.linked_node.specs.declared.kept.KeptLife.TheVariants.{Serves, Failed, Ended}
use Rattle.node_engine.specs.declared.serving.Serving.{Serving}
use Rattle.protocol.specs.declared.events.Reaction.{Reaction}

pub told : (first : Serving (FileStore CalledFile)) (opening : Reaction) (kept : Kept)
    (life : KeptLife) (status : ℕ)
    → ServesAfter first opening kept life → TellsBy life status → IsAnswerNumber status
told first opening kept (Serves node) status serves tells = tells
told first opening kept (Failed why) status serves tells = absurd serves
told first opening kept Ended status serves tells = absurd serves
