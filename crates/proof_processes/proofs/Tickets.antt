-- JOINED is sent only as JOIN is answered, and only for tickets of the sender; and what is active was so
-- sent.
use Rattle.std.proofs.Common.{◌≡◌, ◌≤◌, ◌||◌, ◌⊎◌, inl, inr, ℕ, Bool, true, false, Option, Some, None, List, [], ◌∷◌, ◌++◌, refl, sym, ap, subst, if◌then◌else◌, arith}
use Rattle.std.specs.Prelude.{not, fold}
use Rattle.std.proofs.Math.Nat.{le_refl}
use Rattle.protocol.specs.declared.names.Case.{Case}
use Rattle.protocol.specs.declared.names.ProcessId.{ProcessId}
use Rattle.protocol.specs.declared.names.Ticket.{Ticket}
use Rattle.protocol.specs.declared.names.Outcome.{Outcome}
use Rattle.protocol_words.specs.Variants.{AbortedOutcome, ActInput, CommittedOutcome, MessageInput}
use Rattle.protocol.specs.declared.messages.Message.{Message}
use Rattle.protocol.specs.declared.messages.Message.TheVariants.{Join, Joined, Work, Prepare, Yes, No, Read, Commit, Abort, Ack, Inquire}
use Rattle.protocol.specs.declared.messages.Envelope.{Envelope}
use Rattle.protocol.specs.declared.events.Input.{Input}
use Rattle.protocol.specs.Names.{same_case, child_case}
use Rattle.protocol.specs.NameLaws.{same_case_tells, names}
use Rattle.protocol.specs.Records.{boot_of}
use Rattle.protocol.specs.Nodes.{Place, Role, AtRoot, Below, AtLeaf, Node, Heard, Effect, kept, Written}
use Rattle.protocol.specs.Memory.{memory_of, fresh_memory, active_ticket, next_ticket, without_ticket}
use Rattle.protocol.specs.ManagerRows.{Leaf, is_acknowledged}
use Rattle.protocol.specs.CoordinatorRows.{Seat, post, tells_outcome}
use Rattle.protocol.specs.declared.events.StepError.TheVariants.{Failed, NoSuch}
use Rattle.protocol.specs.Reactions.{Reacts, reacts, handles, hears, act_is_listed, Does, Refused, leaf_of, leaf_joins, joins_with}
use Rattle.protocol.specs.Outcomes.{sent, is_joined_message}
use Rattle.proof_pairs.specs.turns.LeafTurns.{LeafTurn, does_nothing, gives_again, gives_fresh, votes_yes, votes_read, votes_no, repeats_yes, refuses, obeys, notes, acknowledges_told, acknowledges, drops, asks, decides, forgets}
use Rattle.proof_pairs.specs.turns.Written.{IsForCase, IsFromCase, Sends, down, upward, invites, AllSent, IsJoinAnswer, is_active, is_next, MayWrite, writes_nothing, for_act, for_report, for_child, for_parent, presumes, gives}
use Rattle.proof_pairs.specs.turns.Steps.{TurnAt}
use Rattle.proof_processes.specs.Numbers.{IsIssuer}
use Rattle.proof_processes.proofs.Tests.{either}
use Rattle.proof_processes.proofs.Selves.{Self, self_of, self_is, next_of, joins_self, starts_for, hears_self, issuer_self, root_self, self_after}
use Rattle.protocol.specs.declared.messages.Finding.{Finding}

-- Active tickets.

-- each active ticket has the property, with the parent's case that it was given to
abbrev pub AllActive : (Case → Ticket → Type 0) → List (Case × Ticket) → Type 0
AllActive P [] = Unit {0}
AllActive P (a ∷ as') = P a.0 a.1 × AllActive P as'

module _ (P : Case → Ticket → Type 0) where
  pub active_found : (as' : List (Case × Ticket)) (d : Case) (t : Ticket) → AllActive P as'
      → active_ticket as' d ≡ Some t → P d t
  unfolding active_ticket
  active_found [] d t h e = absurd (cc)
  active_found (a ∷ as') d t h e = by_case (same_case a.0 d) refl e (active_found as' d t h.1)
    where
      some_is : (u v : Ticket) → Some u ≡ Some v → u ≡ v
      some_is u v f = cc

      is_case : same_case a.0 d ≡ true → a.0 ≡ d
      is_case f = elim (same_case_tells a.0 d) [ inl k ↦ k.1 | inr g ↦ absurd (let k = g.0 in cc) ]

      by_case : (b : Bool) → same_case a.0 d ≡ b → (if b then Some a.1 else active_ticket as' d) ≡ Some t
          → (active_ticket as' d ≡ Some t → P d t) → P d t
      by_case true f g k = subst (λ (x : Case). P x t) (is_case f)
          (subst (λ (u : Ticket). P a.0 u) (some_is a.1 t g) h.0)
      by_case false f g k = k g

  if_left : (b : Bool) (a : Case × Ticket) (rest : List (Case × Ticket)) → P a.0 a.1 → AllActive P rest
      → AllActive P (if b then a ∷ rest else rest)
  if_left true a rest h k = (h, k)
  if_left false a rest h k = k

  active_left : (as' : List (Case × Ticket)) (c : Case) → AllActive P as' → AllActive P (without_ticket as' c)
  unfolding without_ticket
  active_left [] c h = tt
  active_left (a ∷ as') c h = if_left (not (same_case (child_case a.0.txn a.1) c)) a _ h.0
      (active_left as' c h.1)

  active_push : (as' : List (Case × Ticket)) (d : Case) (t : Ticket) → AllActive P as' → P d t
      → AllActive P (as' ++ (d, t) ∷ [])
  active_push [] d t h k = (k, tt)
  active_push (a ∷ as') d t h k = (h.0, active_push as' d t h.1 k)

  module _ (me : ProcessId) (boot : ℕ) where
    active_joined : (s : Self) (d : Case) (o : Option Ticket) → AllActive P s.active
        → (o ≡ None → P d (next_of me boot s)) → AllActive P (joins_self me boot s d o).active
    active_joined s d (Some t) h k = h
    active_joined s d None h k = active_push s.active d (next_of me boot s) h (k refl)

    active_started : (b : Bool) (s k : Self) → AllActive P s.active → (b ≡ true → AllActive P k.active)
        → AllActive P (starts_for b s k).active
    active_started true s k h f = f refl
    active_started false s k h f = h

    active_heard : (b : Bool) (s : Self) (m : Message) → AllActive P s.active
        → ((d : Case) → m ≡ Join d → active_ticket s.active d ≡ None → b ≡ true → P d (next_of me boot s))
        → AllActive P (hears_self me boot b s m).active
    active_heard b s (Join d) h f = active_started b s _ h
        (λ e. active_joined s d (active_ticket s.active d) h (λ g. f d refl g e))
    active_heard b s (Prepare d k) h f = active_left s.active d h
    active_heard b s (Abort d) h f = active_left s.active d h
    active_heard b s (Joined d t) h f = h
    active_heard b s (Work d k op) h f = h
    active_heard b s (Yes d) h f = h
    active_heard b s (No d) h f = h
    active_heard b s (Read d) h f = h
    active_heard b s (Commit d) h f = h
    active_heard b s (Ack d o fs) h f = h
    active_heard b s (Inquire d) h f = h

    pub active_after : (b : Bool) (s : Self) (i : Input) → AllActive P s.active
        → ((j : ℕ) (d : Case) → i ≡ MessageInput j (Join d) → active_ticket s.active d ≡ None → b ≡ true
        → P d (next_of me boot s))
        → AllActive P (issuer_self me boot b s i).active
    active_after b s (MessageInput j m) h f =
        active_heard b s m h (λ d e. f j d (ap (λ x. MessageInput j x) e))
    active_after b s (ActInput a) h f = h

pub active_all : (P Q : Case → Ticket → Type 0) → ((d : Case) (t : Ticket) → P d t → Q d t)
    → (as' : List (Case × Ticket)) → AllActive P as' → AllActive Q as'
active_all P Q f [] h = tt
active_all P Q f (a ∷ as') h = (f a.0 a.1 h.0, active_all P Q f as' h.1)

-- more tickets are given, never less
more_started : (b : Bool) (s k : Self) → s.given ≤ k.given → s.given ≤ (starts_for b s k).given
more_started true s k e = e
more_started false s k e = le_refl s.given

more_joined : (me : ProcessId) (boot : ℕ) (s : Self) (d : Case) (o : Option Ticket)
    → s.given ≤ (joins_self me boot s d o).given
more_joined me boot s d (Some t) = le_refl s.given
more_joined me boot s d None = omega arith

pub given_grows : (me : ProcessId) (boot : ℕ) (b : Bool) (s : Self) (i : Input)
    → s.given ≤ (issuer_self me boot b s i).given
given_grows me boot b s (MessageInput j (Join d)) =
    more_started b s _ (more_joined me boot s d (active_ticket s.active d))
given_grows me boot b s (MessageInput j (Prepare d k)) = le_refl s.given
given_grows me boot b s (MessageInput j (Abort d)) = le_refl s.given
given_grows me boot b s (MessageInput j (Joined d t)) = le_refl s.given
given_grows me boot b s (MessageInput j (Work d k op)) = le_refl s.given
given_grows me boot b s (MessageInput j (Yes d)) = le_refl s.given
given_grows me boot b s (MessageInput j (No d)) = le_refl s.given
given_grows me boot b s (MessageInput j (Read d)) = le_refl s.given
given_grows me boot b s (MessageInput j (Commit d)) = le_refl s.given
given_grows me boot b s (MessageInput j (Ack d o fs)) = le_refl s.given
given_grows me boot b s (MessageInput j (Inquire d)) = le_refl s.given
given_grows me boot b s (ActInput a) = le_refl s.given

-- Each active ticket is the process's own.

abbrev IsOwn : ProcessId → Case → Ticket → Type 0
IsOwn me d t = t.child ≡ me

none_begun : (P : Case → Ticket → Type 0) (s : Self) (i : Input) → AllActive P s.active
    → AllActive P (root_self s i).active
none_begun P s i h = by_input i
  where
    by_input : (i : Input) → AllActive P (root_self s i).active
    by_input i = subst (AllActive P) (sym (same i)) h
      where
        same : (i : Input) → (root_self s i).active ≡ s.active
        same i = grind arith

own_after : (me : ProcessId) (role : Role) (boot : ℕ) (s : Self) (h : Heard) → AllActive (IsOwn me) s.active
    → AllActive (IsOwn me) (self_after me role boot s h).active
own_after me AtRoot boot s h k = none_begun (IsOwn me) s h.input k
own_after me (Below p) boot s h k = active_after (IsOwn me) me boot true s h.input k (λ j d e f g. refl)
own_after me (AtLeaf p) boot s h k =
    active_after (IsOwn me) me boot h.data_answer.starts s h.input k (λ j d e f g. refl)

own_folded : (me : ProcessId) (role : Role) (boot : ℕ) (s : Self) (hs : List Heard)
    → AllActive (IsOwn me) s.active → AllActive (IsOwn me) (fold (self_after me role boot) s hs).active
own_folded me role boot s [] k = k
own_folded me role boot s (h ∷ hs) k =
    own_folded me role boot (self_after me role boot s h) hs (own_after me role boot s h k)

pub active_is_own : (place : Place) (n : Node) (c d : Case) (t : Ticket)
    → active_ticket (memory_of place n c).active d ≡ Some t → t.child ≡ place.me
active_is_own place n c d t e =
    active_found (IsOwn place.me) (memory_of place n c).active d t
    (subst (λ (s : Self). AllActive (IsOwn place.me) s.active) (sym (self_is place n c))
    (own_folded place.me place.role (boot_of (kept n)) (self_of fresh_memory) n.heard tt)) e

-- JOINED.

-- a manager's data answer JOIN; a coordinator always does
abbrev pub starts_at : Role → Heard → Bool
starts_at (AtLeaf p) h = h.data_answer.starts
starts_at _ h = true

pub record IsNext (role : Role) (place : Place) (n : Node) (h : Heard) (d : Case) (t : Ticket) : Type 0 where
  pub none_active : active_ticket (memory_of place n d).active d ≡ None
  pub starts : starts_at role h ≡ true
  pub next : t ≡ next_ticket place.me (boot_of (kept n)) (memory_of place n d)

-- JOIN came, and this ticket answers it
pub record Answers (role : Role) (place : Place) (n : Node) (h : Heard) (d : Case) (t : Ticket) : Type 0 where
  pub number : ℕ
  pub hears : h.input ≡ MessageInput number (Join d)
  pub answer : (active_ticket (memory_of place n d).active d ≡ Some t) ⊎ IsNext role place n h d t

module _ (place : Place) (n : Node) (h : Heard) (d : Case) (t : Ticket) where
  abbrev Says : List Envelope → Type 0
  Says ls = sent (is_joined_message d t) ls ≡ true

  record Same (x : Case) (u : Ticket) : Type 0 where
    case' : x ≡ d
    ticket : u ≡ t

  same_joined : (x : Case) (u : Ticket) → (is_joined_message d t (Joined x u) || false) ≡ true → Same x u
  same_joined x u e = grind (arith, names)

  one_said : (q : ProcessId) (x : Case) (u : Ticket) → Says (post place.me q (Joined x u) ∷ []) → Same x u
  unfolding sent
  one_said q x u e = same_joined x u e

  none_down : (c : Case) (m : Message) → IsForCase c m → is_joined_message d t m ≡ false
  none_down c (Work a k op) f = refl
  none_down c (Prepare a k) f = refl
  none_down c (Commit a) f = refl
  none_down c (Abort a) f = refl
  none_down c (Join a) f = absurd f
  none_down c (Joined a u) f = absurd f
  none_down c (Yes a) f = absurd f
  none_down c (No a) f = absurd f
  none_down c (Read a) f = absurd f
  none_down c (Ack a o fs) f = absurd f
  none_down c (Inquire a) f = absurd f

  none_up : (c : Case) (m : Message) → IsFromCase c m → is_joined_message d t m ≡ false
  none_up c (Yes a) f = refl
  none_up c (No a) f = refl
  none_up c (Read a) f = refl
  none_up c (Ack a o fs) f = refl
  none_up c (Inquire a) f = refl
  none_up c (Work a k op) f = absurd f
  none_up c (Prepare a k) f = absurd f
  none_up c (Commit a) f = absurd f
  none_up c (Abort a) f = absurd f
  none_up c (Join a) f = absurd f
  none_up c (Joined a u) f = absurd f

  none_sent : (s : Seat) (l : Envelope) → Sends s l → is_joined_message d t l.message ≡ false
  none_sent s _ (down u m f) = none_down (child_case s.own.txn u) m f
  none_sent s _ (upward p m g f) = none_up s.own m f
  none_sent s _ (invites q) = refl

  false_so : {A : Type 0} (b : Bool) → b ≡ false → b ≡ true → A
  false_so b e f = absurd (cc)

  none_of_all : {A : Type 0} (s : Seat) (ls : List Envelope) → AllSent s ls → Says ls → A
  unfolding sent
  none_of_all s [] a e = absurd (cc)
  none_of_all {A} s (l ∷ ls) a e = elim (either (is_joined_message d t l.message)
      (sent (is_joined_message d t) ls) e) [
        | inl now ↦ false_so (is_joined_message d t l.message) (none_sent s l a.0) now
        | inr rest ↦ none_of_all s ls a.1 rest
      ]

  none_said : {A : Type 0} (ls : List Envelope) → ls ≡ [] → Says ls → A
  unfolding sent
  none_said ls e f = absurd (cc)

  none_told : {A : Type 0} (ls : List Envelope) (c : Case) (q : ProcessId) (o : Outcome)
      → ls ≡ post place.me q (tells_outcome o c) ∷ [] → Says ls → A
  unfolding sent
  none_told ls c q CommittedOutcome e f = let g : Says (post place.me q (Commit c) ∷ []) = subst Says e f in
      absurd (cc)
  none_told ls c q AbortedOutcome e f = let g : Says (post place.me q (Abort c) ∷ []) = subst Says e f in
      absurd (cc)

  none_acknowledged : {A : Type 0} (l : Leaf) (o : Outcome) (fs : List Finding) (b : Bool)
      → Says (if b then post l.me l.parent (Ack l.own o fs) ∷ [] else []) → A
  unfolding sent
  none_acknowledged l o fs true e = absurd (cc)
  none_acknowledged l o fs false e = absurd (cc)

  answered : (role : Role) (j : ℕ) (x : Case) (u : Ticket) → h.input ≡ MessageInput j (Join x)
      → (active_ticket (memory_of place n x).active x ≡ Some u) ⊎ IsNext role place n h x u
      → Same x u → Answers role place n h d t
  answered role j x u i a s =
      subst (λ (c : Case). Answers role place n h c t) s.case'
      (subst (λ (v : Ticket). Answers role place n h x v) s.ticket
      (record { number = j; hears = i; answer = a }))

  by_answer : (role : Role) → starts_at role h ≡ true → (j : ℕ) (x : Case) (u : Ticket)
      → h.input ≡ MessageInput j (Join x) → IsJoinAnswer place n x u → Same x u → Answers role place n h d t
  by_answer role starts j x u i (is_active _ e) s = answered role j x u i (inl e) s
  by_answer role starts j x _ i (is_next e) s =
      answered role j x _ i (inr (record { none_active = e; starts = starts; next = refl })) s

  of_writes : (role : Role) → starts_at role h ≡ true → (parent : Option ProcessId) (ws : List Written)
      (ls : List Envelope) → MayWrite place parent n h.input ws ls → Says ls → Answers role place n h d t
  of_writes role starts parent ws ls (writes_nothing e f) g = none_said ls f g
  of_writes role starts parent ws ls (for_act a c e f one sent') g = none_of_all _ ls sent' g
  of_writes role starts parent ws ls (for_report c e f i one h) g = none_said ls h g
  of_writes role starts parent ws ls (for_child c x u e one sent') g = none_of_all _ ls sent' g
  of_writes role starts parent ws ls (for_parent c k m e f one sent') g = none_of_all _ ls sent' g
  of_writes role starts parent ws ls (presumes x u o e f) g = none_told ls (child_case x u) u.child o f g
  of_writes role starts parent ws ls (gives p x u e f k i a) g =
      by_answer role starts k x u i a (one_said p x u (subst Says f g))

  of_leaf : (p : ProcessId) (e : Effect) → LeafTurn place p n h e → Says e.messages
      → Answers (AtLeaf p) place n h d t
  unfolding sent
  of_leaf p _ (gives_again x u i a) g = answered (AtLeaf p) i.0 x u i.1 (inl a) (same_joined x u g)
  of_leaf p _ (gives_fresh x i a s) g =
      answered (AtLeaf p) i.0 x _ i.1 (inr (record { none_active = a; starts = s; next = refl }))
      (same_joined x _ g)
  of_leaf p _ does_nothing g = absurd (cc)
  of_leaf p _ (votes_yes x k ws i a) g = absurd (cc)
  of_leaf p _ (votes_read x k i a) g = absurd (cc)
  of_leaf p _ (votes_no x k i a) g = absurd (cc)
  of_leaf p _ (repeats_yes x k i a) g = absurd (cc)
  of_leaf p _ (refuses x k i a) g = absurd (cc)
  of_leaf p _ (obeys x o i k) g = none_acknowledged (leaf_of place p x) o _
      (is_acknowledged x.txn.presumption o) g
  of_leaf p _ (notes x o i k) g = none_acknowledged (leaf_of place p x) o _
      (is_acknowledged x.txn.presumption o) g
  of_leaf p _ (acknowledges_told x o i k) g =
      none_acknowledged (leaf_of place p x) o _ (is_acknowledged x.txn.presumption o) g
  of_leaf p _ (acknowledges x o i k) g =
      none_acknowledged (leaf_of place p x) o _ (is_acknowledged x.txn.presumption o) g
  of_leaf p _ (drops x i a) g =
      none_acknowledged (leaf_of place p x) AbortedOutcome _
      (is_acknowledged x.txn.presumption AbortedOutcome) g
  of_leaf p _ (asks x i k) g = absurd (cc)
  of_leaf p _ (decides x o i k) g = absurd (cc)
  of_leaf p _ (forgets x i k) g = absurd (cc)

  pub joined_answers : (role : Role) (e : Effect) → TurnAt role place n h e → Says e.messages
      → Answers role place n h d t
  joined_answers AtRoot e turn g = of_writes AtRoot refl None e.written e.messages turn g
  joined_answers (Below p) e turn g = of_writes (Below p) refl (Some p) e.written e.messages turn g
  joined_answers (AtLeaf p) e turn g = of_leaf p e turn g

  -- such a ticket is the process's own
  pub answer_is_own : (role : Role) → Answers role place n h d t → t.child ≡ place.me
  answer_is_own role a = elim a.answer [
    | inl active ↦ active_is_own place n d d t active
    | inr next ↦ ap (λ (u : Ticket). u.child) next.next
  ]

-- Where JOIN finds none active, it is answered by the next.
module _ (place : Place) (n : Node) (h : Heard) (e : Effect) (d : Case) (j : ℕ) where
  abbrev next : Ticket
  next = next_ticket place.me (boot_of (kept n)) (memory_of place n d)

  abbrev SaysNext : Effect → Type 0
  SaysNext x = sent (is_joined_message d next) x.messages ≡ true

  itself : (is_joined_message d next (Joined d next) || false) ≡ true
  itself = grind (arith, names)

  gives_so : (p : ProcessId) (o : Option Ticket) → o ≡ None
      → SaysNext (joins_with place p n d (memory_of place n d) o)
  unfolding sent
  gives_so p None f = itself
  gives_so p (Some u) f = absurd (cc)

  leaf_gives : (p : ProcessId) (b : Bool) (o : Option Ticket) → b ≡ true → o ≡ None
      → SaysNext (leaf_joins place p n d (memory_of place n d) b o)
  unfolding sent
  leaf_gives p true None g f = itself
  leaf_gives p false None g f = absurd (cc)
  leaf_gives p b (Some u) g f = absurd (cc)

  does_so : (x y : Effect) → Does x ≡ Does y → x ≡ y
  does_so x y f = cc

  if_up : (r : Reacts) (b : Bool) → b ≡ false → (if b then Refused Failed else r) ≡ Does e → r ≡ Does e
  if_up r true f g = absurd (cc)
  if_up r false f g = g

  by_role : (role : Role) → IsIssuer role → starts_at role h ≡ true
      → active_ticket (memory_of place n d).active d ≡ None
      → SaysNext (hears role h.version place n h.data_answer (Join d))
  by_role (Below p) i s a = gives_so p (active_ticket (memory_of place n d).active d) a
  by_role (AtLeaf p) i s a = leaf_gives p h.data_answer.starts
      (active_ticket (memory_of place n d).active d) s a
  by_role AtRoot i s a = absurd i

  abbrev ReactsTo : Input → Reacts
  ReactsTo i = if act_is_listed place.tree i then handles place n h i else Refused NoSuch

  pub join_said : IsIssuer place.role → h.input ≡ MessageInput j (Join d) → n.failed ≡ false
      → reacts place n h ≡ Does e → active_ticket (memory_of place n d).active d ≡ None
      → starts_at place.role h ≡ true → SaysNext e
  unfolding reacts
  join_said issuer i up r none starts =
      let there : ReactsTo (MessageInput j (Join d)) ≡ Does e =
      subst (λ (x : Input). ReactsTo x ≡ Does e) i r in
      subst SaysNext (does_so (hears place.role h.version place n h.data_answer (Join d)) e
      (if_up (Does (hears place.role h.version place n h.data_answer (Join d))) n.failed up there))
      (by_role place.role issuer starts none)
