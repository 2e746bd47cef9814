-- What an event of a coordinator does to its half of a reading, by the record that it wrote and by what it
-- counted.
use Rattle.std.proofs.Common.{◌≡◌, Bool, false, ◌||◌, ◌&&◌, Option, Some, None, List, [], refl, arith}
use Rattle.std.specs.List.{list_any}
use Rattle.std.proofs.lemmas.List.Folds.{list_any-append}
use Rattle.protocol.specs.declared.names.Case.{Case}
use Rattle.protocol.specs.declared.names.Ticket.{Ticket}
use Rattle.protocol.specs.declared.records.Record.{Record}
use Rattle.protocol.specs.declared.standings.Vote.{Vote}
use Rattle.protocol_words.specs.Variants.{VoteNo, VoteRead, VoteYes}
use Rattle.protocol.specs.declared.events.Told.{Told}
use Rattle.protocol.specs.Names.{same_txn, same_case, same_ticket}
use Rattle.protocol.specs.Records.{has, is_collecting, is_prepare, is_commit, is_abort, is_end}
use Rattle.protocol.specs.Nodes.{Node, Heard, Effect, after, told_first}
use Rattle.protocol.specs.Memory.{Phase, same_vote}
use Rattle.protocol.specs.CoordinatorRows.{forced, plain}
use Rattle.protocol.specs.Outcomes.{is_told_aborted}
use Rattle.proof_pairs.specs.readings.ReadingOf.{ParentHalf, is_begun, is_told_committed, is_told_of_txn}
use Rattle.protocol.specs.Audits.{is_collecting_naming, is_prepare_naming, is_decision_naming}
use Rattle.proof_pairs.proofs.readings.Lists.{has-push, has-push_behind, has-nil, has-nil_behind, has-cons, has-history}
use Rattle.proof_steps.proofs.parents.Halves.{half_of, phase_of}

-- the record was written after what stands; an Abort after a promise obeys
abbrev pub wrote : Record → Case → Ticket → Bool → ParentHalf → ParentHalf
wrote r c t promised p = record p {
  obeyed_abort = (is_abort c r && promised) || p.obeyed_abort;
  collecting_kept = is_collecting c r || p.collecting_kept;
  own_prepare_kept = is_prepare c r || p.own_prepare_kept;
  commit_kept = is_commit c r || p.commit_kept;
  abort_kept = is_abort c r || p.abort_kept;
  end_kept = is_end c r || p.end_kept;
  collects = is_collecting_naming c t r || p.collects;
  names = is_prepare_naming c t r || p.names;
  owed = is_decision_naming c t r || p.owed;
}

-- and all that stands was forced
abbrev pub hardens : ParentHalf → ParentHalf
hardens p = record p {
  collecting_forced = p.collecting_kept;
  own_prepare_forced = p.own_prepare_kept;
  own_prepare_ever = p.own_prepare_kept || p.own_prepare_ever;
  commit_forced = p.commit_kept;
}

abbrev pub is_told_so : (Told → Bool) → Option Told → Bool
is_told_so q None = false
is_told_so q (Some a) = q a

abbrev pub accepts_so : Case → Ticket → Effect → Bool
accepts_so c t e = list_any (λ a. same_case a.0 c && same_ticket a.1 t) e.accepts

abbrev pub counts_so : Case → Ticket → Vote → Effect → Bool
counts_so c t v e = list_any (λ a. same_case a.0 c && (same_ticket a.1.0 t && same_vote v a.1.1)) e.counts

-- what the event accepted, counted and told
abbrev pub did : Effect → Case → Ticket → ParentHalf → ParentHalf
did e c t p = record p {
  took_part = accepts_so c t e || p.took_part;
  first_yes = counts_so c t VoteYes e || p.first_yes;
  first_no = counts_so c t VoteNo e || p.first_no;
  first_read = counts_so c t VoteRead e || p.first_read;
  told_committed = is_told_so (is_told_committed c.txn) e.told || p.told_committed;
  told_aborted = is_told_so (is_told_aborted c.txn) e.told || p.told_aborted;
}

-- what is remembered of the case then
abbrev pub stands_so : Bool → Phase → Bool → Bool → Bool → ParentHalf → ParentHalf
stands_so failed ph accepted acked begun p = record p {
  phase = phase_of failed ph;
  accepted = accepted;
  acked = acked;
  begun = begun;
}

pub told-first : (q : Told → Bool) (o : Option Told) (ts : List Told)
    → list_any q (told_first o ts) ≡ (is_told_so q o || list_any q ts)
told-first q None ts = refl
told-first q (Some a) ts = refl

either_twice : (q a b : Bool) → ((q || a) || b) ≡ (q || (a || b))
either_twice q a b = grind arith

-- begun, by what is left of it then
abbrev pub begun_after : Phase → Node → Case → Bool
begun_after ph n c = is_begun ph || list_any (is_told_of_txn c.txn) n.told || list_any
    (λ y. same_txn y c.txn) n.found_undecided || has (is_commit c) n.life

module _ (ph ph' : Phase) (a a' k k' : Bool) (n : Node) (h : Heard) (e : Effect) (c : Case) (t : Ticket) where
  abbrev then : ParentHalf → ParentHalf
  then p = stands_so n.failed ph' a' k' (begun_after ph' (after n h e) c) p

  pub half_silent : e.written ≡ []
      → half_of ph' a' k' (after n h e) c t ≡ then (did e c t (half_of ph a k n c t))
  half_silent none = rw none (simp (has-nil_behind, list_any-append, told-first))

  pub half_forced : (r : Record) → e.written ≡ forced r
      → half_of ph' a' k' (after n h e) c t
      ≡ then (hardens (wrote r c t (has (is_prepare c) n.life) (did e c t (half_of ph a k n c t))))
  half_forced r one = rw one
      (simp (has-push, has-nil, has-cons, has-history, list_any-append, told-first, either_twice))

  pub half_plain : (r : Record) → e.written ≡ plain r
      → half_of ph' a' k' (after n h e) c t
      ≡ then (wrote r c t (has (is_prepare c) n.life) (did e c t (half_of ph a k n c t)))
  half_plain r one = rw one (simp (has-push_behind, has-cons, list_any-append, told-first))
