-- What the root remembers is of transactions that it began since its last restart.
use Rattle.std.proofs.Common.{◌≡◌, ◌∙◌, ◌≤◌, ◌+◌, ◌⊎◌, inl, inr, ℕ, Bool, true, false, Option, Some, None, List, [], ◌∷◌, ◌++◌, refl, sym, subst, if◌then◌else◌, arith, ap}
use Rattle.std.specs.Prelude.{fold}
use Rattle.std.proofs.lemmas.Grind.{fold-append}
use Rattle.protocol.specs.declared.names.Case.{Case}
use Rattle.protocol.specs.declared.names.ProcessId.{ProcessId}
use Rattle.protocol.specs.declared.names.Ticket.{Ticket}
use Rattle.protocol.specs.declared.names.Outcome.{Outcome}
use Rattle.protocol.specs.declared.names.Presumption.{Presumption}
use Rattle.protocol.specs.declared.messages.Message.{Message}
use Rattle.protocol.specs.declared.messages.Message.TheVariants.{Join, Joined, Work, Prepare, Yes, No, Read, Commit, Abort, Ack, Inquire}
use Rattle.protocol.specs.declared.standings.Vote.{Vote}
use Rattle.protocol_words.specs.Variants.{AbortAct, ActInput, CommitAct, JoinAct, MessageInput, VoteNo, VoteRead, VoteYes, WorkAct}
use Rattle.protocol.specs.declared.events.Act.TheVariants.{Begin, Ask, Decide, Forget}
use Rattle.protocol.specs.declared.events.Input.{Input}
use Rattle.protocol.specs.declared.trees.TreeProcess.{TreeProcess}
use Rattle.protocol.specs.Views.{root_place}
use Rattle.protocol.specs.Names.{same_case, same_txn, root_case}
use Rattle.protocol.specs.NameLaws.{same_case_tells}
use Rattle.protocol.specs.Records.{boot_of}
use Rattle.protocol.specs.Nodes.{Place, Role, AtRoot, Node, Heard, kept}
use Rattle.protocol.specs.Memory.{Memory, Phase, Idle, Open, Asked, Over, fresh_memory, memory_of, remembers, root_remembers, hears_child, opens_case, next_txn, asks_votes, closes, accepts_ticket, has_child, sends_work, ticket_of_child, takes_vote, is_counted, with_vote, takes_ack, of_child, of_ticket, first_found}
use Rattle.protocol.specs.declared.messages.Finding.{Finding}

-- the case is of a transaction begun in this boot, and one of N
pub record IsBegun (me : ProcessId) (boot count : ℕ) (c : Case) : Type 0 where
  pub no_ticket : c.ticket ≡ None
  pub own : c.txn.root ≡ me
  pub in_boot : c.txn.boot ≡ boot
  pub counted : 1 ≤ c.txn.sequence
  pub number : c.txn.sequence ≤ count

module _ (me : ProcessId) (boot : ℕ) (c : Case) where
  -- a case that is not Idle is one of those begun
  abbrev O : Memory → Type 0
  O m = (m.phase ≡ Idle) ⊎ IsBegun me boot m.begun c

  -- a memory of as many, of a case that is not Idle
  awake : (m : Memory) → O m → (ph : Phase) → m.phase ≡ ph → (ph ≡ Idle → ⊥) → IsBegun me boot m.begun c
  awake m o ph e f = elim o [ inl idle ↦ absurd (f (sym e ∙ idle)) | inr own ↦ own ]

  left : (m k : Memory) → O m → k.begun ≡ m.begun → k.phase ≡ m.phase → O k
  left m k o e f =
      subst (λ (b : ℕ). (k.phase ≡ Idle) ⊎ IsBegun me boot b c) (sym e)
      (subst (λ (x : Phase). (x ≡ Idle) ⊎ IsBegun me boot m.begun c) (sym f) o)

  asked : (m : Memory) → O m → (ph : Phase) → m.phase ≡ ph → O (asks_votes m ph)
  asked m o Open e = inr (awake m o Open e (λ f. cc))
  asked m o Idle e = o
  asked m o Asked e = o
  asked m o Over e = o

  closed : (m : Memory) → O m → (ph : Phase) → m.phase ≡ ph → O (closes m ph)
  closed m o Idle e = o
  closed m o Open e = inr (awake m o Open e (λ f. cc))
  closed m o Asked e = inr (awake m o Asked e (λ f. cc))
  closed m o Over e = inr (awake m o Over e (λ f. cc))

  if_of : (b : Bool) (m k : Memory) → O m → O k → O (if b then k else m)
  if_of true m k o p = p
  if_of false m k o p = o

  accepted : (m : Memory) (t : Ticket) → O m → (ph : Phase) → O (accepts_ticket m t ph)
  accepted m t o Open =
      let k : Memory = record m { accepted = m.accepted ++ t ∷ [] } in
      if_of (has_child m.accepted t.child) k m (left m k o refl refl) o
  accepted m t o Idle = o
  accepted m t o Asked = o
  accepted m t o Over = o

  worked : (m : Memory) (t : Option Ticket) → O m → (ph : Phase) → O (sends_work m t ph)
  worked m (Some t) o Open = left m (record m { works = m.works ++ t ∷ [] }) o refl refl
  worked m (Some t) o Idle = o
  worked m (Some t) o Asked = o
  worked m (Some t) o Over = o
  worked m None o Open = o
  worked m None o Idle = o
  worked m None o Asked = o
  worked m None o Over = o

  voted : (m : Memory) (t : Ticket) (w : Vote) → O m → (ph : Phase) → m.phase ≡ ph → O (takes_vote m t w ph)
  voted m t w o Asked e =
      if_of (is_counted m.accepted m.votes t) m (with_vote m t w) o (inr (awake m o Asked e (λ f. cc)))
  voted m t w o Idle e = o
  voted m t w o Open e = o
  voted m t w o Over e = o

  acked : (m : Memory) (t : Ticket) (u : Outcome) (fs : List Finding) → O m → (ph : Phase)
      → O (takes_ack m t u fs ph)
  acked m t u fs o Open = o
  acked m t u fs o Asked = o
  acked m t u fs o Idle =
      left m (record m { acks = m.acks ++ (t, u) ∷ []; found = m.found ++ first_found m t u fs }) o refl refl
  acked m t u fs o Over =
      left m (record m { acks = m.acks ++ (t, u) ∷ []; found = m.found ++ first_found m t u fs }) o refl refl

  of_children : (m : Memory) (d : Case) (f : Ticket → Memory) → O m → ((t : Ticket) → O (f t))
      → O (of_child c d m f)
  of_children m d f o g = if_of (same_txn d.txn c.txn) m _ o (by_ticket d.ticket)
    where
      by_ticket : (t : Option Ticket) → O (of_ticket t m f)
      by_ticket None = o
      by_ticket (Some t) = g t

  heard : (m : Memory) → O m → (x : Message) → O (hears_child c m x)
  heard m o (Joined d t) = if_of (same_case d c) m _ o (accepted m t o m.phase)
  heard m o (Yes d) = of_children m d _ o (λ t. voted m t VoteYes o m.phase refl)
  heard m o (No d) = of_children m d _ o (λ t. voted m t VoteNo o m.phase refl)
  heard m o (Read d) = of_children m d _ o (λ t. voted m t VoteRead o m.phase refl)
  heard m o (Ack d u fs) = of_children m d _ o (λ t. acked m t u fs o m.phase)
  heard m o (Join d) = o
  heard m o (Prepare d k) = o
  heard m o (Abort d) = o
  heard m o (Work d k op) = o
  heard m o (Commit d) = o
  heard m o (Inquire d) = o

  more : (a b : ℕ) → a ≤ b → a ≤ b + 1
  more a b e = omega arith

  whole : (b : ℕ) → b ≤ b
  whole b = omega arith

  one_at_least : (b : ℕ) → 1 ≤ b + 1
  one_at_least b = omega arith

  counted : (m : Memory) → O m → O (record m { begun = m.begun + 1 })
  counted m (inl idle) = inl idle
  counted m (inr b) = inr (record {
    no_ticket = b.no_ticket;
    own = b.own;
    in_boot = b.in_boot;
    counted = b.counted;
    number = more c.txn.sequence m.begun b.number;
  })

  begun_if : (m : Memory) (p : Presumption) → O m → (b : Bool)
      → same_case (root_case (next_txn me boot m p)) c ≡ b
      → O (if b then opens_case (record m { begun = m.begun + 1 }) else record m { begun = m.begun + 1 })
  begun_if m p o false e = counted m o
  begun_if m p o true e =
      let same : root_case (next_txn me boot m p) ≡ c = is_same (root_case (next_txn me boot m p)) c e in
      inr (subst (λ (d : Case). IsBegun me boot (m.begun + 1) d) same
      (record {
        no_ticket = refl;
        own = refl;
        in_boot = refl;
        counted = one_at_least m.begun;
        number = whole (m.begun + 1);
      }))
    where
      is_same : (a b : Case) → same_case a b ≡ true → a ≡ b
      is_same a b f = elim (same_case_tells a b) [ inl t ↦ t.1 | inr g ↦ absurd (let k = g.0 in cc) ]

  remembered : (m : Memory) → O m → (i : Input) → O (root_remembers me boot c m i)
  remembered m o (MessageInput k x) = heard m o x
  remembered m o (ActInput (Begin p)) = begun_if m p o (same_case (root_case (next_txn me boot m p)) c) refl
  remembered m o (ActInput (WorkAct d q op)) = if_of (same_case d c) m _ o
      (worked m (ticket_of_child m.accepted q) o m.phase)
  remembered m o (ActInput (CommitAct x)) = if_of (same_case (root_case x) c) m _ o (asked m o m.phase refl)
  remembered m o (ActInput (AbortAct x)) = if_of (same_case (root_case x) c) m _ o (closed m o m.phase refl)
  remembered m o (ActInput (JoinAct d q)) = o
  remembered m o (ActInput (Ask d)) = o
  remembered m o (ActInput (Decide d u)) = o
  remembered m o (ActInput (Forget d)) = o

  all_remembered : (m : Memory) → O m → (hs : List Heard) → O (fold (remembers me AtRoot boot c) m hs)
  all_remembered m o [] = o
  all_remembered m o (h ∷ hs) = all_remembered (root_remembers me boot c m h.input)
      (remembered m o h.input) hs

-- a case that the root remembers was begun in this boot
pub remembered_is_begun : (place : Place) → place.role ≡ AtRoot → (n : Node) (c : Case)
    → ((memory_of place n c).phase ≡ Idle)
    ⊎ IsBegun place.me (boot_of (kept n)) (memory_of place n c).begun c
unfolding memory_of
remembered_is_begun place e n c =
    subst (λ (r : Role). let m = fold (remembers place.me r (boot_of (kept n)) c) fresh_memory n.heard in
    (m.phase ≡ Idle) ⊎ IsBegun place.me (boot_of (kept n)) m.begun c) (sym e)
    (all_remembered place.me (boot_of (kept n)) c fresh_memory (inl refl) n.heard)

-- what is remembered is the same where nothing more was heard, in the same boot
pub same_memory : (me : ProcessId) (tree : List TreeProcess) (n k : Node) (c : Case) → k.heard ≡ n.heard
    → boot_of (kept k) ≡ boot_of (kept n)
    → memory_of (root_place me tree) k c ≡ memory_of (root_place me tree) n c
unfolding memory_of
same_memory me tree n k c e b =
    ap (λ hs. fold (remembers me AtRoot (boot_of (kept k)) c) fresh_memory hs) e
    ∙ ap (λ (j : ℕ). fold (remembers me AtRoot j c) fresh_memory n.heard) b

-- what is remembered after an input, where the boot stays
pub memory_heard : (me : ProcessId) (tree : List TreeProcess) (n : Node) (h : Heard) (k : Node) (c : Case)
    → k.heard ≡ n.heard ++ h ∷ [] → boot_of (kept k) ≡ boot_of (kept n)
    → memory_of (root_place me tree) k c
    ≡ root_remembers me (boot_of (kept n)) c (memory_of (root_place me tree) n c) h.input
unfolding memory_of
memory_heard me tree n h k c e b =
    ap (λ hs. fold (remembers me AtRoot (boot_of (kept k)) c) fresh_memory hs) e
    ∙ (ap (λ (j : ℕ). fold (remembers me AtRoot j c) fresh_memory (n.heard ++ h ∷ [])) b
    ∙ fold-append _ _ n.heard (h ∷ []))
