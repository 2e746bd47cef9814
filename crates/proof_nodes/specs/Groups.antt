-- A node that made several steps before it brought its file up to them, and told of them then: what the next
-- one finds.
use Rattle.std.specs.Prelude.{◌≡◌, ◌<◌, ◌^◌, ◌⊎◌, ℕ, Some, List, [], ◌∷◌, ◌++◌, length}
use Rattle.protocol.specs.declared.names.ProcessId.{ProcessId}
use Rattle.process_state.specs.States.{CoreState}
use Rattle.tree_state.specs.Worlds.{WorldState}
use Rattle.file_blocks.specs.Files.{Holds, file_text}
use Rattle.file_blocks.specs.Laws.{IsFileLeft}
use Rattle.proof_nodes.specs.Files.{FindsLog, LeavesFile}
use Rattle.proof_nodes.specs.Nodes.{NodeSteps}

-- What the next node found, where a node was killed between two times: at the first one all that it had done
-- was told, and at the second one it had made more steps, of which nobody was told.
pub data FindsBetween (a b : CoreState) (bytes : List ℕ) : Type 0 where
  -- what the second one has beyond the first one was to be forced by one block: of that block the crash left
  -- any front
  in_a_force : (text later : List ℕ) (forced later_forced number : ℕ) (first : List ℕ)
      (others : List (List ℕ))
      (more : List ℕ) → LeavesFile a text forced number first others
      → LeavesFile b later later_forced number first (others ++ more ∷ [])
      → length (file_text number (first ∷ (others ++ more ∷ []))) < 2 ^ 64
      → (file : List ℕ) → IsFileLeft number first others more file → (read_as : ℕ) → read_as < 2 ^ 64
      → Holds file read_as bytes → FindsBetween a b bytes
  -- a new file was to take the place of the old one, which has the name yet
  before_a_file : (text : List ℕ) (forced number : ℕ) (first : List ℕ) (others : List (List ℕ))
      → LeavesFile a text forced number first others → (read_as : ℕ) → read_as < 2 ^ 64
      → Holds (file_text number (first ∷ others)) read_as bytes → FindsBetween a b bytes
  -- or the new one has it
  after_a_file : (text : List ℕ) (forced number : ℕ) (first : List ℕ)
      → LeavesFile b text forced number first []
      → (read_as : ℕ) → read_as < 2 ^ 64 → Holds (file_text number (first ∷ [])) read_as bytes
      → FindsBetween a b bytes

-- There is a state of the tree to which steps of its nodes lead, and in which the process left of its log
-- what was found.
pub record IsChosen (start : WorldState) (q : ProcessId) (bytes : List ℕ) : Type 0 where
  pub chosen : WorldState
  pub steps : NodeSteps start chosen
  pub core : CoreState
  pub is_at : chosen.node_at q ≡ Some core
  pub finds : FindsLog core bytes

-- Let a node make several steps, bring its file up to all of them at once, and tell of them then. If it is
-- killed before that, what the next node finds is what the process left of its log before those steps, or
-- after all of them: there is a run of the nodes in which they were made, or never came, and nobody was told
-- otherwise.
abbrev pub GroupsGoOn : Type 0
GroupsGoOn = (start s t : WorldState) (q : ProcessId) (a b : CoreState) → NodeSteps start s → NodeSteps s t
    → s.node_at q ≡ Some a → t.node_at q ≡ Some b → (bytes : List ℕ) → FindsBetween a b bytes
    → IsChosen start q bytes
