-- One input, one text: what a tree makes of a list of events is determined, but for want of memory, for
-- numbers that are used up and for devices that fail.
use Rattle.std.specs.Prelude.{◌≡◌, List}
use Rattle.protocol.specs.declared.events.Event.{Event}
use Rattle.protocol.specs.declared.trees.TreeProcess.{TreeProcess}
use Rattle.protocol.specs.Trees.{IsTree}
use Rattle.tree_state.specs.Worlds.{WorldState}
use Rattle.tree_state.specs.Runs.{IsOpenedTree}
use Rattle.proof_runs.specs.worlds.Refusals.{IsForItself, LeadsTo, Refusal}

-- two states show the same: every step that was made, and every message that was sent, with its mark
pub record ShowTheSame (a b : WorldState) : Type 0 where
  pub entries : b.entries ≡ a.entries
  pub net : b.net ≡ a.net
  pub delivered : b.delivered ≡ a.delivered

-- Two trees of the same processes, which have all opened empty logs, reach states that show the same by the
-- same events, and the event that is refused, if there is one, is the same and refused by the same error; of
-- each it is asked that no event be refused for memory or for numbers that are used up, nor because a device
-- failed.
abbrev pub OneInputOneText : Type 0
OneInputOneText = (tree : List TreeProcess) (a b c d : WorldState) (events : List Event) (r s : Refusal)
    → IsTree tree
    → IsOpenedTree a tree → IsOpenedTree b tree → LeadsTo a events r c → LeadsTo b events s d
    → IsForItself r → IsForItself s → (s ≡ r) × ShowTheSame c d
