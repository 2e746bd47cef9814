-- What a manager records and remembers is of cases that it gave: the statement, and tests of records and
-- cases.
use Rattle.std.proofs.Common.{◌≡◌, ◌∙◌, ◌||◌, inl, inr, Bool, true, false, ◌≢◌, Some, List, [], ◌∷◌, ◌++◌, refl, arith}
use Rattle.std.proofs.lemmas.Grind.{fold-append}
use Rattle.protocol.specs.declared.names.Case.{Case}
use Rattle.protocol.specs.declared.names.ProcessId.{ProcessId}
use Rattle.protocol.specs.declared.names.Ticket.{Ticket}
use Rattle.protocol.specs.declared.messages.Message.{Message}
use Rattle.protocol.specs.declared.messages.Envelope.{Envelope}
use Rattle.protocol_words.specs.Variants.{CaseBranch}
use Rattle.protocol.specs.declared.records.Record.{Record}
use Rattle.protocol.specs.Names.{same_case, child_case, process_of}
use Rattle.protocol.specs.NameLaws.{same_case_tells, names}
use Rattle.protocol.specs.Records.{has, is_prepared, record_case, record_branch}
use Rattle.protocol.specs.Nodes.{Place, Node, kept}
use Rattle.protocol.specs.Memory.{Idle, Open, memory_of}
use Rattle.protocol.specs.Standings.{Mark, Unmarked, mark_of, mark_after}
use Rattle.protocol.specs.Outcomes.{sent, is_joined_message}
use Rattle.proof_pairs.specs.readings.ReadingOf.{gives_case, is_prepare_message}
use Rattle.protocol.specs.Audits.{is_promise}
use Rattle.proof_pairs.proofs.readings.Lists.{sent-append}
use Rattle.proof_processes.specs.Marks.{is_branch_record}
use Rattle.proof_processes.specs.WorldHolds.{is_record_of}
use Rattle.proof_processes.proofs.Tests.{either, left, right}
use Rattle.proof_processes.proofs.Orders.{mark_is, mark_behind, other_leaves}

-- a case is one that its process gave
abbrev pub IsGiven : ProcessId → List Envelope → Case → Type 0
IsGiven me net d = (process_of d ≡ me) × (sent (gives_case d) net ≡ true)

pub given_still : (me : ProcessId) (net ls : List Envelope) (d : Case) → IsGiven me net d
    → IsGiven me (net ++ ls) d
given_still me net ls d g = (g.0, sent-append (gives_case d) net ls ∙ right _ _ g.1)

pub sent_other : (q r : Message → Bool) (ls : List Envelope) → ((m : Message) → q m ≡ true → r m ≡ true)
    → sent q ls ≡ true → sent r ls ≡ true
unfolding sent
sent_other q r [] f e = absurd (cc)
sent_other q r (l ∷ ls) f e = elim (either (q l.message) (sent q ls) e) [
  | inl now ↦ left _ _ (f l.message now)
  | inr rest ↦ right _ _ (sent_other q r ls f rest)
]

pub joined_gives : (d : Case) (t : Ticket) (m : Message) → is_joined_message d t m ≡ true
    → gives_case (child_case d.txn t) m ≡ true
joined_gives d t m e = grind (arith, names)

pub same_of : (d c : Case) → same_case d c ≡ true → d ≡ c
same_of d c e = elim (same_case_tells d c) [ inl t ↦ t.1 | inr g ↦ absurd (let k = g.0 in cc) ]

-- a record of a branch is of its case
pub branch_record : (d : Case) (r : Record) → is_branch_record d r ≡ true → is_record_of d r ≡ true
branch_record d r e = grind arith

pub prepared_record : (d : Case) (r : Record) → is_prepared d r ≡ true → is_record_of d r ≡ true
prepared_record d r e = grind arith

pub case_of : (r : Record) (d : Case) → record_branch r ≡ Some (CaseBranch d) → record_case r ≡ Some d
case_of r d e = grind arith

pub mark_push : (d : Case) (rs : List Record) (r : Record)
    → mark_of (CaseBranch d) (rs ++ r ∷ []) ≡ mark_after (CaseBranch d) (mark_of (CaseBranch d) rs) r
unfolding mark_of
mark_push d rs r = fold-append (mark_after (CaseBranch d)) Unmarked rs (r ∷ [])

first_false : (a b : Bool) → (a || b) ≡ false → a ≡ false
first_false a b e = grind arith

second_false : (a b : Bool) → (a || b) ≡ false → b ≡ false
second_false a b e = grind arith

unmarked_behind : (d : Case) (m : Mark) (rs : List Record) → has (is_branch_record d) rs ≡ false
    → mark_behind d m rs ≡ m
unfolding has
unmarked_behind d m [] e = refl
unmarked_behind d m (r ∷ rs) e =
    unmarked_behind d (mark_after (CaseBranch d) m r) rs
    (second_false (is_branch_record d r) (has (is_branch_record d) rs) e)
    ∙ other_leaves d m r (first_false (is_branch_record d r) (has (is_branch_record d) rs) e)

-- a branch without a record is unmarked
pub unmarked_so : (d : Case) (rs : List Record) → has (is_branch_record d) rs ≡ false
    → mark_of (CaseBranch d) rs ≡ Unmarked
unmarked_so d rs e = mark_is d rs ∙ unmarked_behind d Unmarked rs e

-- What lasts.

pub record Remembered (place : Place) (net : List Envelope) (n : Node) : Type 0 where
  pub recorded_is_given : (d : Case) → has (is_record_of d) n.life ≡ true → IsGiven place.me net d
  pub remembered_is_given : n.failed ≡ false → (d : Case) → (memory_of place n d).phase ≢ Idle
      → IsGiven place.me net d
  pub promised_was_asked : (d : Case) → has (is_promise d) n.life ≡ true
      → sent (is_prepare_message d) net ≡ true
  pub open_is_unmarked : n.failed ≡ false → (d : Case) → (memory_of place n d).phase ≡ Open
      → mark_of (CaseBranch d) (kept n) ≡ Unmarked
  pub accepts_none : n.accepted ≡ []

-- A step of another process.
pub remembered_elsewhere : (place : Place) (net ls : List Envelope) (n : Node) → Remembered place net n
    → Remembered place (net ++ ls) n
remembered_elsewhere place net ls n h = record {
  recorded_is_given = λ d e. given_still place.me net ls d (h.recorded_is_given d e);
  remembered_is_given = λ up d e. given_still place.me net ls d (h.remembered_is_given up d e);
  promised_was_asked = λ d e. sent-append (is_prepare_message d) net ls
      ∙ right _ _ (h.promised_was_asked d e);
  open_is_unmarked = h.open_is_unmarked;
  accepts_none = h.accepts_none;
}
