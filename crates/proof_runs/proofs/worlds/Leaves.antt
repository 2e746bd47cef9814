-- What a manager keeps of its cases in every run.
use Rattle.std.proofs.Common.{◌≡◌, ◌≢◌, ◌∙◌, inl, inr, ◌+◌, ◌==◌, ◌&&◌, ◌||◌, not, ℕ, Bool, true, false, Option, Some, None, List, [], ◌∷◌, ◌++◌, refl, sym, ap, arith, if◌then◌else◌}
use Rattle.std.specs.Prelude.{fold}
use Rattle.std.proofs.lemmas.List.Folds.{list_any-append}
use Rattle.protocol.specs.declared.names.Case.{Case}
use Rattle.protocol.specs.declared.names.ProcessId.{ProcessId}
use Rattle.protocol.specs.declared.names.Ticket.{Ticket}
use Rattle.protocol.specs.declared.messages.Envelope.{Envelope}
use Rattle.protocol.specs.declared.messages.Message.{Message}
use Rattle.protocol.specs.declared.messages.Message.TheVariants.{Join, Joined, Work, Prepare, Yes, No, Read, Commit, Abort, Ack, Inquire}
use Rattle.protocol.specs.declared.events.Input.{Input}
use Rattle.protocol_words.specs.Variants.{ActInput, MessageInput}
use Rattle.protocol.specs.declared.records.Record.{Record}
use Rattle.protocol.specs.declared.trees.TreeProcess.{TreeProcess}
use Rattle.protocol.specs.Names.{child_case, same_case}
use Rattle.protocol.specs.NameLaws.{same_case-refl}
use Rattle.protocol.specs.Records.{boot_of, has, has_case, in_list}
use Rattle.protocol.specs.Restarts.{is_known}
use Rattle.protocol.specs.Nodes.{AtLeaf, DataAnswer, Heard, Node, Place, kept}
use Rattle.protocol.specs.Memory.{Asked, Idle, Memory, Open, Over, Phase, active_ticket, closes, fresh_memory, gives, joins, manager_hears, manager_remembers, memory_of, next_ticket, opens_case, remembers, retires, works}
use Rattle.protocol.specs.Standings.{belongs, coordinator_view, own_cases, some_case}
use Rattle.protocol.specs.Views.{fresh_case, leaf_place}
use Rattle.proof_pairs.specs.turns.Written.{is_coordinators}
use Rattle.proof_processes.specs.Marks.{is_branch_record}
use Rattle.proof_processes.specs.WorldHolds.{Issues, NodeHolds, is_record_of}
use Rattle.protocol.specs.Audits.{is_naming}
use Rattle.proof_processes.proofs.GivenCases.{branch_record, unmarked_so}
use Rattle.proof_processes.proofs.Naming.{records_name}
use Rattle.proof_processes.proofs.RootKnown.{known_by}
use Rattle.proof_processes.proofs.Selves.{Self, self_same}
use Rattle.proof_processes.proofs.Tests.{case_is, either, left, not_both, right}
use Rattle.proof_processes.proofs.Worlds.{has_other}
use Rattle.tree_state.specs.Fits.{LeafFits}
use Rattle.tree_state.specs.StandsFor.{ChildrenFit}
use Rattle.proof_runs.proofs.worlds.Cases.{either_is, known_not, own_issued, own_recorded}
use Rattle.proof_runs.proofs.worlds.Given.{fresh_unrecorded}

-- A case that a manager remembers it has issued, and none has a child.

record Kept (c : Case) (m : Memory) : Type 0 where
  awake : m.phase ≢ Idle → has_case m.issued c ≡ true
  alone : m.accepted ≡ []

in_more : (cs ds : List Case) (c : Case) → has_case cs c ≡ true → has_case (cs ++ ds) c ≡ true
unfolding has_case
in_more cs ds c e = list_any-append _ cs ds ∙ left _ _ e

in_last : (cs : List Case) (c d : Case) → same_case c d ≡ true → has_case (cs ++ d ∷ []) c ≡ true
unfolding has_case
in_last cs c d e =
    list_any-append _ cs (d ∷ [])
    ∙ right _ _ (ap (λ (x : Case). same_case x c || false) (sym (case_is c d e)) ∙ rw (same_case-refl c) refl)

module _ (me : ProcessId) (boot : ℕ) (c : Case) where
  kept_if : (b : Bool) (m k : Memory) → Kept c m → Kept c k → Kept c (if b then k else m)
  kept_if true m k first second = second
  kept_if false m k first second = first

  given : (m : Memory) (d : Case) (b : Bool) → same_case c
      (child_case d.txn (next_ticket me boot m)) ≡ b → Kept c m
      → let t = next_ticket me boot m in Kept c (if b then opens_case (gives m d t) else gives m d t)
  given m d true is old =
      record { awake = λ f. in_last m.issued c (child_case d.txn (next_ticket me boot m)) is; alone = refl }
  given m d false is old = record { awake = λ f. in_more m.issued _ c (old.awake f); alone = old.alone }

  joined : (m : Memory) (d : Case) (o : Option Ticket) → Kept c m → Kept c (joins me boot c d m o)
  joined m d (Some t) old = old
  joined m d None old = given m d (same_case c (child_case d.txn (next_ticket me boot m))) refl old

  worked : (m : Memory) (i : ℕ) (does : Bool) (ph : Phase) → Kept c m → Kept c (works m i does ph)
  worked m i true Open old =
      kept_if ((i == m.done + 1) && not m.spoiled) m _ old (record { awake = old.awake; alone = old.alone })
  worked m i false Open old =
      kept_if ((i == m.done + 1) && not m.spoiled) m _ old (record { awake = old.awake; alone = old.alone })
  worked m i does Idle old = old
  worked m i does Asked old = old
  worked m i does Over old = old

  retired : (m : Memory) (d : Case) → Kept c m → Kept c (retires m d)
  retired m d old = record { awake = old.awake; alone = old.alone }

  closed : (m : Memory) (d : Case) (ph : Phase) → m.phase ≡ ph → Kept c m → Kept c (closes (retires m d) ph)
  closed m d Idle is old = retired m d old
  closed m d Open is old =
      record { awake = λ f. old.awake (λ e. (let g : Open ≡ Idle = sym is ∙ e in cc)); alone = old.alone }
  closed m d Asked is old =
      record { awake = λ f. old.awake (λ e. (let g : Asked ≡ Idle = sym is ∙ e in cc)); alone = old.alone }
  closed m d Over is old =
      record { awake = λ f. old.awake (λ e. (let g : Over ≡ Idle = sym is ∙ e in cc)); alone = old.alone }

  kept_hears : (m : Memory) (a : DataAnswer) (x : Message) → Kept c m → Kept c (manager_hears me boot c m a x)
  kept_hears m a (Join d) old = kept_if a.starts m _ old (joined m d (active_ticket m.active d) old)
  kept_hears m a (Work d i op) old = kept_if (same_case d c) m _ old (worked m i a.does m.phase old)
  kept_hears m a (Prepare d k) old =
      kept_if (same_case d c) (retires m d) _ (retired m d old) (closed m d m.phase refl old)
  kept_hears m a (Abort d) old = kept_if (same_case d c) (retires m d) _ (retired m d old)
      (closed m d m.phase refl old)
  kept_hears m a (Joined d t) old = old
  kept_hears m a (Yes d) old = old
  kept_hears m a (No d) old = old
  kept_hears m a (Read d) old = old
  kept_hears m a (Commit d) old = old
  kept_hears m a (Ack d o fs) old = old
  kept_hears m a (Inquire d) old = old

  kept_heard : (m : Memory) (a : DataAnswer) (i : Input) → Kept c m
      → Kept c (manager_remembers me boot c m a i)
  kept_heard m a (ActInput x) old = old
  kept_heard m a (MessageInput k x) old = kept_hears m a x old

  kept_all : (p : ProcessId) (m : Memory) (hs : List Heard) → Kept c m
      → Kept c (fold (remembers me (AtLeaf p) boot c) m hs)
  kept_all p m [] old = old
  kept_all p m (h ∷ hs) old =
      kept_all p (manager_remembers me boot c m h.data_answer h.input) hs
      (kept_heard m h.data_answer h.input old)

none_in : (t : Ticket) → in_list [] t ≡ false
unfolding in_list
none_in t = refl

coordinators : (c : Case) (t : Ticket) (r : Record) → is_naming c t r ≡ true → is_coordinators r ≡ true
coordinators c t r e = grind arith

module _ (me p : ProcessId) (tree : List TreeProcess) (net : List Envelope) (n : Node)
    (holds : NodeHolds (leaf_place me p tree) net n)
    (up : n.failed ≡ false) where
  abbrev place : Place
  place = leaf_place me p tree

  abbrev issues : Issues place net n
  issues = holds.role.1

  kept_of : (c : Case) → Kept c (memory_of place n c)
  unfolding memory_of
  kept_of c =
      kept_all me (boot_of (kept n)) c p fresh_memory n.heard
      (record { awake = λ f. absurd (f refl); alone = refl })

  listed : (c : Case) → is_known (coordinator_view place n c).standing ≡ true
      → has_case (own_cases (AtLeaf p) place n c.txn) c ≡ true
  listed c known = elim (known_by place n c (known_not (coordinator_view place n c).standing known)) [
    | inl awake ↦ own_issued (kept n) (memory_of place n (some_case place)).issued c
        (ap (λ (s : Self). has_case s.issued c)
        (self_same place n (some_case place) c) ∙ (kept_of c).awake awake)
    | inr recorded ↦ own_recorded (kept n) (memory_of place n (some_case place)).issued c recorded
  ]

  nobodys : {A : Type 0} (c : Case) (t : Ticket) → belongs (memory_of place n c) (kept n) c t ≡ true → A
  nobodys c t its = elim (either _ _ its) [
    | inl accepted ↦
        either_is (in_list (memory_of place n c).accepted t) accepted
        (ap (λ ts. in_list ts t) (kept_of c).alone ∙ none_in t)
    | inr named ↦ not_both (is_naming c t) (has is_coordinators n.life)
        (holds.lasts.nested.kept_was_written is_coordinators (λ k. refl)
        (has_other (is_naming c t) is_coordinators (kept n) (coordinators c t)
        (records_name c t (kept n) named)))
        holds.lasts.by_role.no_coordinators_record
  ]

  leaf_children : ChildrenFit place n
  leaf_children = record { listed = listed; one = λ x t c d e f g h. nobodys c t f }

  unbranched : (d : Case) → has (is_branch_record (fresh_case place n d)) (kept n) ≡ false
  unbranched d = by_test (has (is_branch_record (fresh_case place n d)) (kept n)) refl
    where
      by_test : (b : Bool) → has (is_branch_record (fresh_case place n d)) (kept n) ≡ b
          → has (is_branch_record (fresh_case place n d)) (kept n) ≡ false
      by_test false e = e
      by_test true e =
          not_both (is_branch_record (fresh_case place n d))
          (has (is_record_of (fresh_case place n d)) (kept n))
          (has_other (is_branch_record (fresh_case place n d)) (is_record_of (fresh_case place n d)) (kept n)
          (branch_record (fresh_case place n d)) e)
          (fresh_unrecorded place net n holds.lasts.nested up issues d)

  pub leaf_fits : LeafFits place n
  leaf_fits =
      record {
        children = leaf_children;
        fresh = λ d. unmarked_so
            (fresh_case place n d) (kept n) (unbranched d);
      }
