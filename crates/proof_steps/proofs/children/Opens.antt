-- Whether a branch is open after an input, by its last record and the phase that is remembered.
use Rattle.std.proofs.Common.{◌≡◌, ◌∙◌, ◌⊎◌, inl, inr, ℕ, Bool, true, false, List, refl, sym, ap, subst}
use Rattle.protocol.specs.declared.names.Case.{Case}
use Rattle.protocol.specs.declared.names.ProcessId.{ProcessId}
use Rattle.protocol.specs.declared.messages.Message.{Message}
use Rattle.protocol.specs.declared.messages.Message.TheVariants.{Join, Prepare, Abort}
use Rattle.protocol_words.specs.Variants.{ActInput, CaseBranch, MessageInput}
use Rattle.protocol.specs.declared.standings.Standing.{Standing}
use Rattle.protocol.specs.declared.standings.Standing.TheVariants.{Unknown}
use Rattle.protocol.specs.declared.events.Input.{Input}
use Rattle.protocol.specs.declared.trees.TreeProcess.{TreeProcess}
use Rattle.protocol.specs.NameLaws.{same_case-refl}
use Rattle.protocol.specs.Records.{boot_of}
use Rattle.protocol.specs.Nodes.{Place, AtLeaf, Node, Heard, DataAnswer, Effect, kept, after}
use Rattle.protocol.specs.Memory.{Memory, Phase, Idle, Open, Asked, Over, memory_of, manager_remembers}
use Rattle.protocol.specs.Standings.{ManagerView, manager_view, marked_branch, heard_branch, Mark, Unmarked, Promised, Decided, ToldOf, Finished, mark_of}
use Rattle.proof_pairs.specs.Reading.{is_live}
use Rattle.proof_pairs.specs.readings.ReadingOf.{phase_by}
use Rattle.proof_pairs.proofs.turns.LeafInputs.{viewed}
use Rattle.proof_processes.proofs.Orders.{IsMarked}
use Rattle.proof_processes.proofs.ManagerPhases.{StaysOrEnds, message_left}

abbrev pub opens : Bool → ManagerView → Bool
opens f v = is_live (phase_by f v.standing)

closed_marked : (f : Bool) (m : Memory) (k : Mark) → IsMarked k → opens f (marked_branch m k) ≡ false
closed_marked true m k e = refl
closed_marked false m Promised e = refl
closed_marked false m Decided e = refl
closed_marked false m (ToldOf o) e = refl
closed_marked false m Finished e = refl
closed_marked false m Unmarked e = absurd e

closed_phase : (f : Bool) (m : Memory) (k : Mark) → m.phase ≡ Over → opens f (marked_branch m k) ≡ false
closed_phase true m k e = refl
closed_phase false m Promised e = refl
closed_phase false m Decided e = refl
closed_phase false m (ToldOf o) e = refl
closed_phase false m Finished e = refl
closed_phase false m Unmarked e = ap (λ (x : Phase). opens false (heard_branch m x)) e

heard_alike : (f : Bool) (m m' : Memory) (x : Phase)
    → opens f (heard_branch m' x) ≡ opens f (heard_branch m x)
heard_alike f m m' Idle = refl
heard_alike f m m' Open = refl
heard_alike f m m' Asked = refl
heard_alike f m m' Over = refl

pub alike : (f : Bool) (m m' : Memory) (k : Mark) → m'.phase ≡ m.phase
    → opens f (marked_branch m' k) ≡ opens f (marked_branch m k)
alike f m m' Unmarked e = ap (λ (x : Phase). opens f (heard_branch m' x)) e ∙ heard_alike f m m' m.phase
alike f m m' Promised e = refl
alike f m m' Decided e = refl
alike f m m' (ToldOf o) e = refl
alike f m m' Finished e = refl

-- a message that gives no ticket
abbrev pub IsNoJoin : Message → Type 0
IsNoJoin (Join d) = ⊥
IsNoJoin _ = Unit {0}

-- an input that gives no ticket
abbrev pub IsRow : Input → Type 0
IsRow (ActInput a) = Unit {0}
IsRow (MessageInput k m) = IsNoJoin m

no_join : (m : Message) → IsNoJoin m → (d : Case) → m ≡ Join d → ⊥
no_join m r d e = subst IsNoJoin e r

-- it leaves the phase, or ends it
row_left : (me : ProcessId) (boot : ℕ) (d : Case) (m : Memory) (a : DataAnswer) (i : Input) → IsRow i
    → StaysOrEnds m (manager_remembers me boot d m a i)
row_left me boot d m a (ActInput b) r = inl refl
row_left me boot d m a (MessageInput j x) r = message_left me boot d m a j x (no_join x r)

-- a branch that does not take work is closed, whatever its last record says
pub closed_unless_open : (f : Bool) (m : Memory) (k : Mark) → (m.phase ≡ Open → ⊥)
    → opens f (marked_branch m k) ≡ false
closed_unless_open true m k e = refl
closed_unless_open false m Promised e = refl
closed_unless_open false m Decided e = refl
closed_unless_open false m (ToldOf o) e = refl
closed_unless_open false m Finished e = refl
closed_unless_open false m Unmarked e = by_phase m.phase e
  where
    by_phase : (x : Phase) → (x ≡ Open → ⊥) → opens false (heard_branch m x) ≡ false
    by_phase Idle e = refl
    by_phase Asked e = refl
    by_phase Over e = refl
    by_phase Open e = absurd (e refl)

pub is_phase_open : (x : Phase) → (x ≡ Open) ⊎ (x ≡ Open → ⊥)
is_phase_open Open = inl refl
is_phase_open Idle = inr (λ e. absurd (cc))
is_phase_open Asked = inr (λ e. absurd (cc))
is_phase_open Over = inr (λ e. absurd (cc))

-- What an input makes of the branch.

module _ (me p : ProcessId) (tree : List TreeProcess) (n : Node) (h : Heard) (e : Effect) (d : Case) where
  abbrev place : Place
  place = record { me = me; role = AtLeaf p; tree = tree }

  module _ (remembers : memory_of place (after n h e) d
      ≡ manager_remembers me (boot_of (kept n)) d (memory_of place n d) h.data_answer h.input) where
    -- the branch is as open as before, or closed
    pub fall : IsRow h.input → mark_of (CaseBranch d) (kept (after n h e)) ≡ mark_of (CaseBranch d) (kept n)
        → (opens n.failed (manager_view place (after n h e) d) ≡ opens n.failed (manager_view place n d))
        ⊎ (opens n.failed (manager_view place (after n h e) d) ≡ false)
    fall row mark = elim (row_left me (boot_of (kept n)) d (memory_of place n d) h.data_answer h.input row) [
      | inl same ↦ inl
          (ap (opens n.failed) (viewed place (after n h e) d)
          ∙ (ap (λ k. opens n.failed (marked_branch (memory_of place (after n h e) d) k)) mark
          ∙ (alike n.failed (memory_of place n d) (memory_of place (after n h e) d)
          (mark_of (CaseBranch d) (kept n))
          (ap (λ (m : Memory). m.phase) remembers ∙ same)
          ∙ ap (opens n.failed) (sym (viewed place n d)))))
      | inr over ↦ inr
          (ap (opens n.failed) (viewed place (after n h e) d)
          ∙ closed_phase n.failed (memory_of place (after n h e) d)
          (mark_of (CaseBranch d) (kept (after n h e)))
          (ap (λ (m : Memory). m.phase) remembers ∙ over.1))
    ]

    -- PREPARE and ABORT close an Active branch
    pub closes_prepared : (k j : ℕ) → h.input ≡ MessageInput j (Prepare d k)
        → (memory_of place n d).phase ≡ Open
        → opens n.failed (manager_view place (after n h e) d) ≡ false
    closes_prepared k j i ph =
        ap (opens n.failed) (viewed place (after n h e) d)
        ∙ closed_phase n.failed (memory_of place (after n h e) d)
        (mark_of (CaseBranch d) (kept (after n h e)))
        (ap (λ (m : Memory). m.phase) remembers ∙ rw (i, same_case-refl d, ph) refl)

    pub closes_aborted : (j : ℕ) → h.input ≡ MessageInput j (Abort d) → (memory_of place n d).phase ≡ Open
        → opens n.failed (manager_view place (after n h e) d) ≡ false
    closes_aborted j i ph =
        ap (opens n.failed) (viewed place (after n h e) d)
        ∙ closed_phase n.failed (memory_of place (after n h e) d)
        (mark_of (CaseBranch d) (kept (after n h e)))
        (ap (λ (m : Memory). m.phase) remembers ∙ rw (i, same_case-refl d, ph) refl)

  -- a branch with a record is closed
  pub marked_is_closed : IsMarked (mark_of (CaseBranch d) (kept (after n h e)))
      → opens n.failed (manager_view place (after n h e) d) ≡ false
  marked_is_closed k =
      ap (opens n.failed) (viewed place (after n h e) d)
      ∙ closed_marked n.failed (memory_of place (after n h e) d)
      (mark_of (CaseBranch d) (kept (after n h e))) k

pub closed_where_marked : (place : Place) (n : Node) (d : Case) → IsMarked (mark_of (CaseBranch d) (kept n))
    → opens n.failed (manager_view place n d) ≡ false
closed_where_marked place n d k =
    ap (opens n.failed) (viewed place n d) ∙ closed_marked n.failed (memory_of place n d)
    (mark_of (CaseBranch d) (kept n)) k

pub open_where_active : (place : Place) (n : Node) (d : Case) → n.failed ≡ false
    → mark_of (CaseBranch d) (kept n) ≡ Unmarked
    → (memory_of place n d).phase ≡ Open → opens n.failed (manager_view place n d) ≡ true
open_where_active place n d up mark ph =
    ap (opens n.failed) (viewed place n d)
    ∙ (ap (λ k. opens n.failed (marked_branch (memory_of place n d) k)) mark
    ∙ (ap (λ (x : Phase). opens n.failed (heard_branch (memory_of place n d) x)) ph ∙ rw up refl))

pub closed_where_unknown : (place : Place) (n : Node) (d : Case)
    → (manager_view place n d).standing ≡ Unknown
    → opens n.failed (manager_view place n d) ≡ false
closed_where_unknown place n d e = by_fault n.failed (manager_view place n d).standing e
  where
    by_fault : (f : Bool) (s : Standing) → s ≡ Unknown → is_live (phase_by f s) ≡ false
    by_fault true s e = refl
    by_fault false s e = rw e refl
