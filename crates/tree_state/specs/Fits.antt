-- What the model's process keeps of its cases in every run, while its device has not failed. That an input
-- leaves what the reaction table says rests on it.
use Rattle.std.specs.Prelude.{◌≡◌, false, true}
use Rattle.std.specs.List.{list_all}
use Rattle.protocol.specs.declared.names.Case.{Case}
use Rattle.protocol.specs.declared.names.Outcome.{Outcome}
use Rattle.protocol.specs.declared.names.Presumption.{Presumption}
use Rattle.protocol.specs.declared.names.Ticket.{Ticket}
use Rattle.protocol.specs.declared.names.Txn.{Txn}
use Rattle.protocol_words.specs.Variants.{CaseBranch}
use Rattle.protocol.specs.declared.standings.Standing.TheVariants.{Prepared, Unknown}
use Rattle.protocol.specs.Names.{root_case}
use Rattle.protocol.specs.LogNames.{is_own_record}
use Rattle.protocol.specs.Records.{has, in_list, is_opened, promised_by}
use Rattle.protocol.specs.Nodes.{AtLeaf, AtRoot, Below, Node, Place, Role, kept}
use Rattle.protocol.specs.Memory.{Open, has_acked, memory_of}
use Rattle.protocol.specs.Standings.{Unmarked, coordinator_view, mark_of}
use Rattle.protocol.specs.Views.{IsOpenAlike, IsUnrecorded, fresh_case, next_begun}
use Rattle.tree_state.specs.StandsFor.{ChildrenFit}

-- At the root: a child belongs to one case; an open case has on its lists what it should; and no record is of
-- the transaction that is begun next.
pub record RootFits (place : Place) (n : Node) : Type 0 where
  pub children : ChildrenFit place n
  pub alike : (c : Case) → IsOpenAlike place n c
  pub fresh : (p : Presumption) → IsUnrecorded (kept n) (root_case (next_begun place n p))

-- Below the root: the same, of the case that is joined next; no case without a ticket is known; and no
-- acknowledgement of a promised child was noted before the parent decided.
pub record CascadeFits (place : Place) (n : Node) : Type 0 where
  pub children : ChildrenFit place n
  pub alike : (c : Case) → IsOpenAlike place n c
  pub fresh : (d : Case) → IsUnrecorded (kept n) (fresh_case place n d)
  pub ticketed : (x : Txn) → (coordinator_view place n (root_case x)).standing ≡ Unknown
  pub none_early : (c : Case) (t : Ticket) (o : Outcome) → (coordinator_view place n c).standing ≡ Prepared
      → in_list (promised_by c (kept n)) t ≡ true → has_acked (memory_of place n c).acks o t ≡ false

-- no record is of the ticket that is given next for a case of the parent
abbrev pub FreshIsUnmarked : Place → Node → Type 0
FreshIsUnmarked place n = (d : Case) → mark_of (CaseBranch (fresh_case place n d)) (kept n) ≡ Unmarked

-- At a manager: no record is of the ticket that is given next.
pub record LeafFits (place : Place) (n : Node) : Type 0 where
  pub children : ChildrenFit place n
  pub fresh : FreshIsUnmarked place n

-- what a process of this role keeps of its cases
abbrev pub NodeFits : Role → Place → Node → Type 0
NodeFits AtRoot place n = RootFits place n
NodeFits (Below p) place n = CascadeFits place n
NodeFits (AtLeaf p) place n = LeafFits place n

-- every record that the process keeps is of a case of its own, or of none
abbrev pub KeepsOwn : Place → Node → Type 0
KeepsOwn place n = list_all (is_own_record place) (kept n) ≡ true

-- an Opened is in the log
abbrev pub HasOpened : Node → Type 0
HasOpened n = has is_opened (kept n) ≡ true

-- a coordinator's open case has on its lists what it should; of a manager's open branch there is no record
abbrev pub OpenFits : Role → Place → Node → Type 0
OpenFits (AtLeaf p) place n =
    (d : Case) → (memory_of place n d).phase ≡ Open → mark_of (CaseBranch d) (kept n) ≡ Unmarked
OpenFits _ place n = (c : Case) → IsOpenAlike place n c
