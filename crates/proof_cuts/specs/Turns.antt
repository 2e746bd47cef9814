-- Turns: several steps that a process makes one after another, of which none is entered before the last is
-- made.
use Rattle.std.specs.Prelude.{◌≡◌, ⊤, true, List, [], ◌∷◌, ◌++◌}
use Rattle.protocol.specs.declared.names.ProcessId.{ProcessId}
use Rattle.protocol.specs.declared.messages.Envelope.{Envelope}
use Rattle.protocol.specs.declared.events.JournalEntry.{JournalEntry}
use Rattle.protocol.specs.declared.trees.TreeProcess.{TreeProcess}
use Rattle.protocol.specs.Nodes.{Node, is_listed}
use Rattle.protocol.specs.Trees.{IsTree}
use Rattle.protocol.specs.World.{entries_of}
use Rattle.process_state.specs.States.{CoreState, SameCore}
use Rattle.resource_manager.specs.Data.{ManagerData, DataRests}
use Rattle.proof_cuts.specs.Alone.{StepAlone}
use Rattle.tree_state.specs.Cuts.{IsCut, IsGivenEntry, net_of}
use Rattle.proof_cuts.specs.Owns.{OwnRun}

-- From this state, with these data, the process made the steps of these entries, one after another, by
-- itself; where it was refused meanwhile nothing is otherwise.
pub data GoesAlone (tree : List TreeProcess) (q : ProcessId) (s : CoreState) (d : ManagerData) : List
    JournalEntry → CoreState
    → ManagerData → Type 0 where
  begins_alone : GoesAlone tree q s d [] s d
  rests_alone : (zs : List JournalEntry) (t u : CoreState) (e f : ManagerData) → GoesAlone tree q s d zs t e
      → SameCore t u → DataRests e f → GoesAlone tree q s d zs u f
  goes_alone : (zs : List JournalEntry) (z : JournalEntry) (t u : CoreState) (e f : ManagerData)
      → GoesAlone tree q s d zs t e
      → StepAlone tree q t u e f z → GoesAlone tree q s d (zs ++ z ∷ []) u f

-- each of these entries is the process's, and may come after this net
abbrev pub AllGiven : List TreeProcess → List Envelope → ProcessId → List JournalEntry → Type 0
AllGiven tree net q [] = ⊤
AllGiven tree net q (z ∷ zs) = (z.step.process ≡ q) × IsGivenEntry tree net z × AllGiven tree net q zs

-- In some run in which these messages were sent, before all others, the process has just these entries, and
-- what it keeps stands for what that run leaves of it.
pub record OwnRunOver (tree : List TreeProcess) (net : List Envelope) (q : ProcessId)
    (own : List JournalEntry)
    (s : CoreState) : Type 0 where
  pub run : OwnRun tree q own s
  pub more : List Envelope
  pub sent : run.world.net ≡ net ++ more

-- where a journal is cut so, and a process's own entries are the journal's of it, it stands so in a run in
-- which the journal's messages were sent
abbrev pub StandsOver : Type 0
StandsOver = (tree : List TreeProcess) (xs : List JournalEntry) (left : ProcessId → Node)
    (q : ProcessId) (s : CoreState)
    → IsCut tree xs left → OwnRun tree q (entries_of q xs) s
    → OwnRunOver tree (net_of xs) q (entries_of q xs) s

-- what a process makes by itself of what it finds there leaves it so, with these entries more
abbrev pub TurnsGoOn : Type 0
TurnsGoOn = (tree : List TreeProcess) (net : List Envelope) (q : ProcessId)
    (own : List JournalEntry) (s : CoreState)
    (d : ManagerData) (zs : List JournalEntry) (t : CoreState) (e : ManagerData) → IsTree tree
    → is_listed tree q ≡ true → OwnRunOver tree net q own s
    → GoesAlone tree q s d zs t e → AllGiven tree net q zs → OwnRunOver tree net q (own ++ zs) t

-- The journal is cut so with these entries more, of which the process's are its own.
pub record EntersTurn (tree : List TreeProcess) (xs zs : List JournalEntry) (q : ProcessId)
    (t : CoreState) : Type 0 where
  pub left : ProcessId → Node
  pub cut : IsCut tree (xs ++ zs) left
  pub own : OwnRun tree q (entries_of q (xs ++ zs)) t

-- What a process made in a turn after its entries in the journal may be entered there in one piece, whatever
-- the others have entered meanwhile.
abbrev pub TurnsEnter : Type 0
TurnsEnter = (tree : List TreeProcess) (xs zs : List JournalEntry) (left : ProcessId → Node) (q : ProcessId)
    (s t : CoreState)
    (d e : ManagerData) → IsTree tree → is_listed tree q ≡ true → IsCut tree xs left
    → OwnRun tree q (entries_of q xs) s → GoesAlone tree q s d zs t e → AllGiven tree (net_of xs) q zs
    → EntersTurn tree xs zs q t
