-- Which messages are JOIN, and which answer it.
use Rattle.std.proofs.Common.{◌≡◌, ◌∙◌, inl, inr, ◌||◌, ◌&&◌, Bool, true, false, List, [], ◌∷◌, sym, ap, arith}
use Rattle.protocol.specs.declared.names.Case.{Case}
use Rattle.protocol.specs.declared.names.Outcome.{Outcome}
use Rattle.protocol_words.specs.Variants.{AbortedOutcome, CommittedOutcome}
use Rattle.protocol.specs.declared.names.Ticket.{Ticket}
use Rattle.protocol.specs.declared.messages.Envelope.{Envelope}
use Rattle.protocol.specs.declared.messages.Message.{Message}
use Rattle.protocol.specs.declared.messages.Message.TheVariants.{Join, Joined, Work, Prepare, Yes, No, Read, Commit, Abort, Ack, Inquire}
use Rattle.protocol.specs.Names.{child_case, same_case, same_ticket}
use Rattle.protocol.specs.NameLaws.{same_case-refl}
use Rattle.protocol.specs.Outcomes.{is_joined_message, sent}
use Rattle.protocol.specs.CoordinatorRows.{Seat, tells_outcome}
use Rattle.proof_pairs.specs.turns.Written.{AllSent, IsForCase, IsFromCase, Sends, down, upward, invites}
use Rattle.proof_processes.specs.WorldHolds.{is_about}
use Rattle.proof_processes.proofs.Tests.{case_is, either}
use Rattle.proof_headline.proofs.runs.Born.{is_join}

pub ends : {A : Type 0} → (b : Bool) → b ≡ true → b ≡ false → A
ends b e f = absurd (cc)

-- Messages of a coordinator's case.

pub down_joins_none : {A : Type 0} → (c : Case) → (d : Case) (m : Message) → IsForCase d m → is_join c m
    ≡ true → A
down_joins_none c d (Join e) i f = absurd i
down_joins_none c d (Joined e t) i f = absurd i
down_joins_none c d (Work e k op) i f = absurd (cc)
down_joins_none c d (Prepare e k) i f = absurd (cc)
down_joins_none c d (Yes e) i f = absurd i
down_joins_none c d (No e) i f = absurd i
down_joins_none c d (Read e) i f = absurd i
down_joins_none c d (Commit e) i f = absurd (cc)
down_joins_none c d (Abort e) i f = absurd (cc)
down_joins_none c d (Ack e o fs) i f = absurd i
down_joins_none c d (Inquire e) i f = absurd i

pub up_joins_none : {A : Type 0} → (c : Case) → (d : Case) (m : Message) → IsFromCase d m → is_join c m ≡ true
    → A
up_joins_none c d (Join e) i f = absurd i
up_joins_none c d (Joined e t) i f = absurd i
up_joins_none c d (Work e k op) i f = absurd i
up_joins_none c d (Prepare e k) i f = absurd i
up_joins_none c d (Yes e) i f = absurd (cc)
up_joins_none c d (No e) i f = absurd (cc)
up_joins_none c d (Read e) i f = absurd (cc)
up_joins_none c d (Commit e) i f = absurd i
up_joins_none c d (Abort e) i f = absurd i
up_joins_none c d (Ack e o fs) i f = absurd (cc)
up_joins_none c d (Inquire e) i f = absurd (cc)

pub down_answers_none : {A : Type 0} → (c : Case) (t : Ticket) → (d : Case) (m : Message) → IsForCase d m
    → is_joined_message c t m ≡ true → A
down_answers_none c t d (Join e) i f = absurd i
down_answers_none c t d (Joined e u) i f = absurd i
down_answers_none c t d (Work e k op) i f = absurd (cc)
down_answers_none c t d (Prepare e k) i f = absurd (cc)
down_answers_none c t d (Yes e) i f = absurd i
down_answers_none c t d (No e) i f = absurd i
down_answers_none c t d (Read e) i f = absurd i
down_answers_none c t d (Commit e) i f = absurd (cc)
down_answers_none c t d (Abort e) i f = absurd (cc)
down_answers_none c t d (Ack e o fs) i f = absurd i
down_answers_none c t d (Inquire e) i f = absurd i

pub up_answers_none : {A : Type 0} → (c : Case) (t : Ticket) → (d : Case) (m : Message) → IsFromCase d m
    → is_joined_message c t m ≡ true → A
up_answers_none c t d (Join e) i f = absurd i
up_answers_none c t d (Joined e u) i f = absurd i
up_answers_none c t d (Work e k op) i f = absurd i
up_answers_none c t d (Prepare e k) i f = absurd i
up_answers_none c t d (Yes e) i f = absurd (cc)
up_answers_none c t d (No e) i f = absurd (cc)
up_answers_none c t d (Read e) i f = absurd (cc)
up_answers_none c t d (Commit e) i f = absurd i
up_answers_none c t d (Abort e) i f = absurd i
up_answers_none c t d (Ack e o fs) i f = absurd (cc)
up_answers_none c t d (Inquire e) i f = absurd (cc)

pub joins_own : (c : Case) (s : Seat) (l : Envelope) → Sends s l → is_join c l.message ≡ true → s.own ≡ c
joins_own c s _ (down t m i) e = down_joins_none c (child_case s.own.txn t) m i e
joins_own c s _ (upward p m f i) e = up_joins_none c s.own m i e
joins_own c s _ (invites q) e = case_is s.own c e

pub all_join : (c : Case) (s : Seat) (ls : List Envelope) → AllSent s ls → sent (is_join c) ls ≡ true
    → s.own ≡ c
unfolding sent
all_join c s [] a e = absurd (cc)
all_join c s (l ∷ ls) a e = elim (either (is_join c l.message) _ e) [
  | inl now ↦ joins_own c s l a.0 now
  | inr rest ↦ all_join c s ls a.1 rest
]

pub answers_none : {A : Type 0} → (c : Case) (t : Ticket) (s : Seat) (l : Envelope) → Sends s l
    → is_joined_message c t l.message ≡ true → A
answers_none c t s _ (down u m i) e = down_answers_none c t (child_case s.own.txn u) m i e
answers_none c t s _ (upward p m f i) e = up_answers_none c t s.own m i e
answers_none c t s _ (invites q) e = absurd (cc)

pub all_answer_none : {A : Type 0} → (c : Case) (t : Ticket) (s : Seat) (ls : List Envelope) → AllSent s ls
    → sent (is_joined_message c t) ls ≡ true → A
unfolding sent
all_answer_none c t s [] a e = absurd (cc)
all_answer_none c t s (l ∷ ls) a e = elim (either (is_joined_message c t l.message) _ e) [
  | inl now ↦ answers_none c t s l a.0 now
  | inr rest ↦ all_answer_none c t s ls a.1 rest
]

pub none_at_all : {A : Type 0} → (q : Message → Bool) (ls : List Envelope) → ls ≡ [] → sent q ls ≡ true → A
unfolding sent
none_at_all q ls e f = ends (sent q ls) f (ap (sent q) e)

pub one_alone : (q : Message → Bool) (l : Envelope) (ls : List Envelope) → ls ≡ l ∷ [] → sent q ls ≡ true
    → q l.message ≡ true
unfolding sent
one_alone q l ls e f = alone (q l.message) (sym (ap (sent q) e) ∙ f)
  where
    alone : (a : Bool) → (a || false) ≡ true → a ≡ true
    alone a g = grind arith

pub told_joins_none : {A : Type 0} → (c : Case) (o : Outcome) (d : Case) → is_join c (tells_outcome o d)
    ≡ true → A
told_joins_none c CommittedOutcome d e = absurd (cc)
told_joins_none c AbortedOutcome d e = absurd (cc)

pub told_answers_none : {A : Type 0} → (c : Case) (t : Ticket) (o : Outcome) (d : Case)
    → is_joined_message c t (tells_outcome o d) ≡ true → A
told_answers_none c t CommittedOutcome d e = absurd (cc)
told_answers_none c t AbortedOutcome d e = absurd (cc)

pub first_case : (c d : Case) (u t : Ticket) → is_joined_message c t (Joined d u) ≡ true → d ≡ c
first_case c d u t e = case_is d c (first_of (same_case d c) (same_ticket u t) e)
  where
    first_of : (a b : Bool) → (a && b) ≡ true → a ≡ true
    first_of a b f = grind arith

pub about_it : (c : Case) (m : Message) → IsForCase c m → is_about c m ≡ true
about_it c (Work d k op) i = ap (λ x. same_case x c) i ∙ same_case-refl c
about_it c (Prepare d k) i = ap (λ x. same_case x c) i ∙ same_case-refl c
about_it c (Commit d) i = ap (λ x. same_case x c) i ∙ same_case-refl c
about_it c (Abort d) i = ap (λ x. same_case x c) i ∙ same_case-refl c
about_it c (Join d) i = absurd i
about_it c (Joined d t) i = absurd i
about_it c (Yes d) i = absurd i
about_it c (No d) i = absurd i
about_it c (Read d) i = absurd i
about_it c (Ack d o fs) i = absurd i
about_it c (Inquire d) i = absurd i

-- What was sent before, and what is sent now.
