-- A transaction that begins.
use Rattle.std.proofs.Common.{◌≡◌, ◌∙◌, ap, sym, ◌+◌, ℕ, Bool, true, false, Option, Some, None, List, [], ◌∷◌, ◌++◌, refl, if◌then◌else◌}
use Rattle.std.specs.Prelude.{fold}
use Rattle.std.proofs.lemmas.List.{append-nil}
use Rattle.protocol.specs.declared.names.Case.{Case}
use Rattle.protocol.specs.declared.names.ProcessId.{ProcessId}
use Rattle.protocol.specs.declared.names.Ticket.{Ticket}
use Rattle.protocol.specs.declared.names.Outcome.{Outcome}
use Rattle.protocol.specs.declared.names.Presumption.{Presumption}
use Rattle.protocol.specs.declared.messages.Message.{Message}
use Rattle.protocol.specs.declared.messages.Finding.{Finding}
use Rattle.protocol.specs.declared.messages.Message.TheVariants.{Joined, Yes, No, Read, Ack}
use Rattle.protocol.specs.declared.standings.Vote.{Vote}
use Rattle.protocol_words.specs.Variants.{AbortAct, ActInput, CommitAct, MessageInput, VoteNo, VoteRead, VoteYes, WorkAct}
use Rattle.protocol.specs.declared.events.Act.TheVariants.{Begin}
use Rattle.protocol.specs.declared.events.Input.{Input}
use Rattle.protocol.specs.declared.trees.TreeProcess.{TreeProcess}
use Rattle.protocol.specs.declared.records.Record.{Record}
use Rattle.protocol.specs.declared.standings.Standing.TheVariants.{Active}
use Rattle.protocol.specs.Names.{same_txn, same_case, root_case}
use Rattle.protocol.specs.NameLaws.{same_case-refl}
use Rattle.protocol.specs.Records.{boot_of}
use Rattle.protocol.specs.Nodes.{Version, AtRoot, Node, kept, Heard, DataAnswer}
use Rattle.protocol.specs.Memory.{Memory, Phase, Idle, Open, Asked, Over, memory_of, remembers, root_remembers, asks_votes, closes, with_vote, takes_vote, takes_ack, is_counted, opens_case, next_txn, sends_work, accepts_ticket, hears_child, of_ticket, of_child, fresh_memory, has_child, ticket_of_child}
use Rattle.protocol.specs.Standings.{some_case, coordinator_view, coordinator_standing, view_at}
use Rattle.protocol.specs.Views.{root_place, hears_act, IsUnrecorded, RootBegins, next_begun, begin_effect}
use Rattle.proof_model.proofs.StandingLaws.{view-after, standing_with}
use Rattle.proof_model.proofs.AckLaws.{found_nobody, owed_none}
use Rattle.proof_model.proofs.RootViewLaws.{apart_case}

-- A transaction that begins.

-- how many were begun is the same in each case
abbrev pub begun_next : ℕ → Input → ℕ
begun_next k (ActInput (Begin p)) = k + 1
begun_next k (ActInput a) = k
begun_next k (MessageInput i m) = k

pub begun_if : (b : Bool) (m r : Memory) → r.begun ≡ m.begun → (if b then r else m).begun ≡ m.begun
begun_if true m r h = h
begun_if false m r h = refl

pub begun_work : (m : Memory) (t : Option Ticket) (ph : Phase) → (sends_work m t ph).begun ≡ m.begun
begun_work m None Idle = refl
begun_work m None Open = refl
begun_work m None Asked = refl
begun_work m None Over = refl
begun_work m (Some t) Idle = refl
begun_work m (Some t) Open = refl
begun_work m (Some t) Asked = refl
begun_work m (Some t) Over = refl

pub begun_asks : (m : Memory) (ph : Phase) → (asks_votes m ph).begun ≡ m.begun
begun_asks m Idle = refl
begun_asks m Open = refl
begun_asks m Asked = refl
begun_asks m Over = refl

pub begun_closes : (m : Memory) (ph : Phase) → (closes m ph).begun ≡ m.begun
begun_closes m Idle = refl
begun_closes m Open = refl
begun_closes m Asked = refl
begun_closes m Over = refl

pub begun_accepts : (m : Memory) (t : Ticket) (ph : Phase) → (accepts_ticket m t ph).begun ≡ m.begun
begun_accepts m t Idle = refl
begun_accepts m t Open = begun_if (has_child m.accepted t.child)
    (record m { accepted = m.accepted ++ t ∷ [] }) m refl
begun_accepts m t Asked = refl
begun_accepts m t Over = refl

pub begun_takes : (m : Memory) (t : Ticket) (w : Vote) (ph : Phase) → (takes_vote m t w ph).begun ≡ m.begun
begun_takes m t w Idle = refl
begun_takes m t w Open = refl
begun_takes m t w Asked = begun_if (is_counted m.accepted m.votes t) m (with_vote m t w) refl
begun_takes m t w Over = refl

pub begun_acks : (m : Memory) (t : Ticket) (o : Outcome) (fs : List Finding) (ph : Phase)
    → (takes_ack m t o fs ph).begun ≡ m.begun
begun_acks m t o fs Idle = refl
begun_acks m t o fs Open = refl
begun_acks m t o fs Asked = refl
begun_acks m t o fs Over = refl

pub begun_ticket : (o : Option Ticket) (m : Memory) (f : Ticket → Memory)
    → ((t : Ticket) → (f t).begun ≡ m.begun) → (of_ticket o m f).begun ≡ m.begun
begun_ticket None m f k = refl
begun_ticket (Some t) m f k = k t

pub begun_child : (c d : Case) (m : Memory) (f : Ticket → Memory) → ((t : Ticket) → (f t).begun ≡ m.begun)
    → (of_child c d m f).begun ≡ m.begun
begun_child c d m f k = begun_if (same_txn d.txn c.txn) m (of_ticket d.ticket m f)
    (begun_ticket d.ticket m f k)

pub begun_hears : (c : Case) (m : Memory) (message : Message) → (hears_child c m message).begun ≡ m.begun
begun_hears c m (Joined d t) = begun_if (same_case d c) m (accepts_ticket m t m.phase)
    (begun_accepts m t m.phase)
begun_hears c m (Yes d) = begun_child c d m _ (λ t. begun_takes m t VoteYes m.phase)
begun_hears c m (No d) = begun_child c d m _ (λ t. begun_takes m t VoteNo m.phase)
begun_hears c m (Read d) = begun_child c d m _ (λ t. begun_takes m t VoteRead m.phase)
begun_hears c m (Ack d o fs) = begun_child c d m _ (λ t. begun_acks m t o fs m.phase)
begun_hears c m message = refl

pub begun_step : (me : ProcessId) (boot : ℕ) (c : Case) (m : Memory) (i : Input)
    → (root_remembers me boot c m i).begun ≡ begun_next m.begun i
begun_step me boot c m (ActInput (Begin p)) =
    begun_if (same_case (root_case (next_txn me boot m p)) c) (record m { begun = m.begun + 1 })
    (opens_case (record m { begun = m.begun + 1 })) refl
begun_step me boot c m (ActInput (WorkAct d r op)) =
    begun_if (same_case d c) m (sends_work m (ticket_of_child m.accepted r) m.phase)
    (begun_work m (ticket_of_child m.accepted r) m.phase)
begun_step me boot c m (ActInput (CommitAct y)) =
    begun_if (same_case (root_case y) c) m (asks_votes m m.phase) (begun_asks m m.phase)
begun_step me boot c m (ActInput (AbortAct y)) =
    begun_if (same_case (root_case y) c) m (closes m m.phase) (begun_closes m m.phase)
begun_step me boot c m (ActInput a) = refl
begun_step me boot c m (MessageInput k message) = begun_hears c m message

pub begun_fold : (me : ProcessId) (boot : ℕ) (c : Case) (m : Memory) (hs : List Heard)
    → (fold (remembers me AtRoot boot c) m hs).begun ≡ fold (λ k h. begun_next k h.input) m.begun hs
begun_fold me boot c m [] = refl
begun_fold me boot c m (h ∷ hs) =
    begun_fold me boot c (root_remembers me boot c m h.input) hs
    ∙ ap (λ k. fold (λ j g. begun_next j g.input) k hs) (begun_step me boot c m h.input)

pub same_begun : (me : ProcessId) (tree : List TreeProcess) (n : Node) (c d : Case)
    → (memory_of (root_place me tree) n c).begun ≡ (memory_of (root_place me tree) n d).begun
unfolding memory_of
same_begun me tree n c d =
    begun_fold me (boot_of (kept n)) c fresh_memory n.heard
    ∙ sym (begun_fold me (boot_of (kept n)) d fresh_memory n.heard)

pub begun_pure : (rs : List Record) (c : Case) (m : Memory) → IsUnrecorded rs c
    → view_at (standing_with c.txn.presumption (rs ++ []) c (opens_case m)) (rs ++ []) c (opens_case m)
    ≡ record {
      standing = Active;
      accepted = [];
      votes = [];
      works = [];
      promised = [];
      named = [];
      owed = [];
      found = [];
    }
begun_pure rs c m u = simp (append-nil, u.no_end, u.no_commit, u.no_abort, u.no_prepare, u.no_collecting)
    (simp (u.promised, u.named, u.owing, owed_none, found_nobody) refl)

pub counted_pure : (rs : List Record) (c : Case) (m : Memory) (k : ℕ)
    → view_at (coordinator_standing (rs ++ []) c (record m { begun = k })) (rs ++ []) c
    (record m { begun = k }) ≡ view_at (coordinator_standing rs c m) rs c m
counted_pure rs c m k = simp append-nil refl

pub root_begins : (ver : Version) (me : ProcessId) (tree : List TreeProcess) (n : Node) (p : Presumption)
    (a : DataAnswer)
    → RootBegins ver me tree n p a
unfolding coordinator_view
root_begins ver me tree n p a =
    let place = root_place me tree in
    let boot = boot_of (kept n) in
    let x = next_begun place n p in
    let h = hears_act ver (Begin p) a in
    let named : (c : Case) → next_txn me boot (memory_of place n c) p ≡ x =
    λ c. ap (λ (k : ℕ). record { root = me; boot = boot; sequence = k + 1; presumption = p })
    (same_begun me tree n c (some_case place)) in
    record {
      begun = λ u.
          view-after place n h (begin_effect x) (root_case x) (λ b. refl)
          ∙ rw (named (root_case x), same_case-refl (root_case x))
          (begun_pure (kept n) (root_case x)
          (record (memory_of place n (root_case x))
          { begun = (memory_of place n (root_case x)).begun + 1 }) u);
      others = λ y o.
          view-after place n h (begin_effect x) (root_case y) (λ b. refl)
          ∙ rw (named (root_case y), apart_case x y o)
          (counted_pure (kept n) (root_case y) (memory_of place n (root_case y))
          ((memory_of place n (root_case y)).begun + 1));
    }
