-- What is marked as delivered is delivered in an entry.
use Rattle.std.proofs.Common.{IfNone, IfSome, ◌≡◌, ◌⊎◌, ◌∙◌, ap, sym, subst, refl, inl, inr, ℕ, zero, suc, ◌<◌, Option, Some, None, List, [], ◌∷◌, ◌++◌, map, length, slice_set, ◌+◌, get_or, take, arith}
use Rattle.std.specs.Prelude.{slice_get}
use Rattle.std.proofs.lemmas.List.{append-nil, append_assoc, length-set, take_more}
use Rattle.std.proofs.lemmas.List.Elements.{All-head, All-tail}
use Rattle.protocol.specs.declared.names.ProcessId.{ProcessId}
use Rattle.protocol.specs.declared.messages.Envelope.{Envelope}
use Rattle.protocol.specs.declared.events.JournalEntry.{JournalEntry}
use Rattle.protocol.specs.declared.events.Happening.{Happening}
use Rattle.protocol.specs.declared.events.Happening.TheVariants.{Restart, Trim}
use Rattle.protocol_words.specs.Variants.{ActInput, Handles, MessageInput}
use Rattle.tree_state.specs.Cuts.{net_of}
use Rattle.cluster_journal.specs.declared.marks.Claim.{Claim}
use Rattle.cluster_journal.specs.declared.marks.Delivery.{Delivery}
use Rattle.cluster_journal.specs.declared.marks.Delivery.TheVariants.{Open, Claimed, Delivered}
use Rattle.cluster_journal.specs.declared.marks.MarkedMessage.{MarkedMessage}
use Rattle.cluster_journal.specs.Journals.{AllDelivered, AreDelivered, IsDelivered, entries_of, marked_by, marked_by_all}
use Rattle.cluster_journal.specs.Marks.{AreAllDelivered, given_back, marked, marked_at, reopened, reopened_from, sent_to}

-- what is in a list of which one place was changed
set_get : {A : Type 0} (xs : List A) (p k : ℕ) (a o : A) → slice_get (slice_set xs p a) k ≡ Some o
    → (slice_get xs k ≡ Some o) ⊎ ((k ≡ p) × (o ≡ a))
set_get [] p k a o h = inl h
set_get (x ∷ xs) zero zero a o h = inr (refl, (cc))
set_get (x ∷ xs) zero (suc k) a o h = inl h
set_get (x ∷ xs) (suc p) zero a o h = inl h
set_get (x ∷ xs) (suc p) (suc k) a o h = next (set_get xs p k a o h)
  where
    next : (slice_get xs k ≡ Some o) ⊎ ((k ≡ p) × (o ≡ a))
        → (slice_get xs k ≡ Some o) ⊎ ((suc k ≡ suc p) × (o ≡ a))
    next (inl there) = inl there
    next (inr (at, is)) = inr (ap suc at, is)

-- One entry more.

get_more : {A : Type 0} (xs ys : List A) (i : ℕ) (x : A) → slice_get xs i ≡ Some x
    → slice_get (xs ++ ys) i ≡ Some x
get_more [] ys i x h = absurd (cc)
get_more (y ∷ xs) ys zero x h = h
get_more (y ∷ xs) ys (suc i) x h = get_more xs ys i x h

get_last : {A : Type 0} (xs : List A) (x : A) → slice_get (xs ++ x ∷ []) (length xs) ≡ Some x
get_last [] x = refl
get_last (y ∷ xs) x = get_last xs x

still : (xs ys : List (ℕ × JournalEntry)) (n : ℕ) → IsDelivered xs n → IsDelivered (xs ++ ys) n
still xs ys n h = record {
  place = h.place;
  caller = h.caller;
  entry = h.entry;
  message = h.message;
  stands = get_more xs ys h.place (h.caller, h.entry) h.stands;
  happens = h.happens;
}

all_still : (ms : List MarkedMessage) (xs ys : List (ℕ × JournalEntry)) → AreDelivered ms xs
    → AreDelivered ms (xs ++ ys)
all_still ms xs ys h k to is = still xs ys (suc k) (h k to is)

-- the marks once it is entered
pub entered : (ms : List MarkedMessage) (xs : List (ℕ × JournalEntry)) (caller : ℕ)
    (x : JournalEntry) (h : Happening)
    → x.step.happening ≡ h → AreDelivered ms xs → AreDelivered (marked_by h ms) (xs ++ (caller, x) ∷ [])
entered ms xs caller x (Handles (MessageInput zero m)) is so = all_still ms xs ((caller, x) ∷ []) so
entered ms xs caller x (Handles (MessageInput (suc p) m)) is so = by_old (slice_get ms p)
  where
    by_old : (o : Option MarkedMessage) → AreDelivered (marked_at ms p o Delivered) (xs ++ (caller, x) ∷ [])
    by_old None = all_still ms xs ((caller, x) ∷ []) so
    by_old (Some old) = λ k to at.
        let now : MarkedMessage = record { to = old.to; mark = Delivered } in
        elim (set_get ms p k now (record { to = to; mark = Delivered }) at) [
          | inl before ↦ still xs ((caller, x) ∷ []) (suc k) (so k to before)
          | inr (here, same) ↦ record {
            place = length xs;
            caller = caller;
            entry = x;
            message = m;
            stands = get_last xs (caller, x);
            happens = is ∙ ap (λ n. Handles (MessageInput (suc n) m)) (sym here);
          }
        ]
entered ms xs caller x (Handles (ActInput a)) is so = all_still ms xs ((caller, x) ∷ []) so
entered ms xs caller x (Restart k) is so = all_still ms xs ((caller, x) ∷ []) so
entered ms xs caller x Trim is so = all_still ms xs ((caller, x) ∷ []) so

-- the marks once the entries of a turn are entered
pub entered_all : (ms : List MarkedMessage) (xs made : List (ℕ × JournalEntry)) → AreDelivered ms xs
    → AreDelivered (marked_by_all made ms) (xs ++ made)
entered_all ms xs [] so = subst (λ l. AreDelivered ms l) (sym (append-nil xs)) so
entered_all ms xs (z ∷ made) so =
    subst (λ l. AreDelivered (marked_by_all made (marked_by z.1.step.happening ms)) l)
    (append_assoc xs (z ∷ []) made)
    (entered_all (marked_by z.1.step.happening ms) (xs ++ z ∷ []) made
    (entered ms xs z.0 z.1 z.1.step.happening refl so))

-- as many marks as before
pub as_many : (h : Happening) (ms : List MarkedMessage) → length (marked_by h ms) ≡ length ms
as_many (Handles (MessageInput zero m)) ms = refl
as_many (Handles (MessageInput (suc p) m)) ms = by_old (slice_get ms p)
  where
    by_old : (o : Option MarkedMessage) → length (marked_at ms p o Delivered) ≡ length ms
    by_old None = refl
    by_old (Some old) = length-set ms p (record { to = old.to; mark = Delivered })
as_many (Handles (ActInput a)) ms = refl
as_many (Restart k) ms = refl
as_many Trim ms = refl

pub as_many_all : (made : List (ℕ × JournalEntry)) (ms : List MarkedMessage)
    → length (marked_by_all made ms) ≡ length ms
as_many_all [] ms = refl
as_many_all (z ∷ made) ms =
    as_many_all made (marked_by z.1.step.happening ms) ∙ as_many z.1.step.happening ms

-- Marks of another kind.

set_other : (ms : List MarkedMessage) (xs : List (ℕ × JournalEntry)) (p : ℕ) (to : ProcessId)
    (mark : Delivery) → (mark ≡ Delivered → ⊥)
    → AreDelivered ms xs → AreDelivered (slice_set ms p (record { to = to; mark = mark })) xs
set_other ms xs p to mark other so k q at =
    elim (set_get ms p k (record { to = to; mark = mark }) (record { to = q; mark = Delivered }) at) [
      | inl before ↦ so k q before
      | inr (here, same) ↦ absurd (other (sym (ap (λ m. m.mark) same)))
    ]

pub claimed_so : (ms : List MarkedMessage) (xs : List (ℕ × JournalEntry)) (number : ℕ) → AreDelivered ms xs
    → AreDelivered (marked ms number Claimed) xs
claimed_so ms xs zero so = so
claimed_so ms xs (suc p) so = by_old (slice_get ms p)
  where
    by_old : (o : Option MarkedMessage) → AreDelivered (marked_at ms p o Claimed) xs
    by_old None = so
    by_old (Some old) = set_other ms xs p old.to Claimed (λ e. absurd (cc)) so

-- a message is claimed, or nothing is otherwise
pub claimed_or_not : (o : Option Claim) (A B : Claim → Type 0) (C : Type 0) (ms new : List MarkedMessage)
    (xs : List (ℕ × JournalEntry)) → IfSome o (λ c. A c × B c × (new ≡ marked ms c.number Claimed))
    → IfNone o (C × (new ≡ ms)) → AreDelivered ms xs → AreDelivered new xs
claimed_or_not None A B C ms new xs some none so = subst (λ l. AreDelivered l xs) (sym none.1) so
claimed_or_not (Some c) A B C ms new xs some none so =
    subst (λ l. AreDelivered l xs) (sym some.2) (claimed_so ms xs c.number so)

pub given_back_so : (ms : List MarkedMessage) (xs : List (ℕ × JournalEntry)) (number : ℕ) → AreDelivered ms xs
    → AreDelivered (given_back ms number) xs
given_back_so ms xs zero so = so
given_back_so ms xs (suc p) so = by_old (slice_get ms p)
  where
    by_mark : (to : ProcessId) (mark : Delivery) → AreDelivered (reopened_from ms p to mark) xs
    by_mark to Open = so
    by_mark to Claimed = set_other ms xs p to Open (λ e. absurd (cc)) so
    by_mark to Delivered = so

    by_old : (o : Option MarkedMessage) → AreDelivered (reopened ms p o) xs
    by_old None = so
    by_old (Some old) = by_mark old.to old.mark

-- Messages more.

get_sent : (ms : List MarkedMessage) (ls : List Envelope) (k : ℕ) (o : MarkedMessage)
    → slice_get (ms ++ map sent_to ls) k ≡ Some o
    → (slice_get ms k ≡ Some o) ⊎ (o.mark ≡ Open)
get_sent [] [] k o h = inl h
get_sent [] (l ∷ ls) zero o h = inr (mark_is (sent_to l) o h refl)
  where
    mark_is : (a b : MarkedMessage) → Some a ≡ Some b → a.mark ≡ Open → b.mark ≡ Open
    mark_is a b same is = cc
get_sent [] (l ∷ ls) (suc k) o h = get_sent [] ls k o h
get_sent (m ∷ ms) ls zero o h = inl h
get_sent (m ∷ ms) ls (suc k) o h = get_sent ms ls k o h

pub sent_so : (ms : List MarkedMessage) (ls : List Envelope) (xs : List (ℕ × JournalEntry))
    → AreDelivered ms xs
    → AreDelivered (ms ++ map sent_to ls) xs
sent_so ms ls xs so k to at = elim (get_sent ms ls k (record { to = to; mark = Delivered }) at) [
  | inl before ↦ so k to before
  | inr other ↦ absurd (cc)
]

-- All of them.

at_all : (ms : List MarkedMessage) (k : ℕ) → k < length ms → AreAllDelivered ms
    → (to : ProcessId) × (slice_get ms k ≡ Some (record { to = to; mark = Delivered }))
at_all [] k lt all = absurd (omega (arith, lt))
at_all (m ∷ ms) zero lt all =
    let is : m.mark ≡ Delivered = All-head (λ x. x.mark ≡ Delivered) m ms all in
    (m.to, ap (λ x. Some (record { to = m.to; mark = x })) is)
at_all (m ∷ ms) (suc k) lt all = at_all ms k (omega (arith, lt)) (All-tail (λ x. x.mark ≡ Delivered) m ms all)

pub all_in : (ms : List MarkedMessage) (xs : List (ℕ × JournalEntry)) → AreAllDelivered ms
    → length ms ≡ length (net_of (entries_of xs)) → AreDelivered ms xs → AllDelivered xs
all_in ms xs all long so k lt =
    let at = at_all ms k (omega (arith, lt, long)) all in
    so k at.0 at.1

-- the marks after one entry more
marked_more : (xs : List (ℕ × JournalEntry)) (x : ℕ × JournalEntry) (ms : List MarkedMessage)
    → marked_by_all (xs ++ x ∷ []) ms ≡ marked_by x.1.step.happening (marked_by_all xs ms)
marked_more [] x ms = refl
marked_more (y ∷ xs) x ms = marked_more xs x (marked_by y.1.step.happening ms)

pub noted_more : (xs : List (ℕ × JournalEntry)) (i : ℕ) (d : ℕ × JournalEntry)
    (first now new : List MarkedMessage) → i < length xs
    → now ≡ marked_by_all (take i xs) first → new ≡ marked_by (get_or xs i d).1.step.happening now
    → new ≡ marked_by_all (take (i + 1) xs) first
noted_more xs i d first now new lt so noted =
    noted ∙ ap (marked_by (get_or xs i d).1.step.happening) so
    ∙ sym (marked_more (take i xs) (get_or xs i d) first)
    ∙ ap (λ l. marked_by_all l first) (sym (take_more xs i d lt))
