-- Queues.
use Rattle.std.proofs.Common.{◌≡◌, ◌≢◌, ◌⊎◌, ◌∙◌, ap, sym, subst, refl, inl, inr, ℕ, zero, suc, ◌+◌, ◌<◌, false, All, count_by, None, Some, List, [], ◌∷◌, length, get_or, slice_set, arith}
use Rattle.std.specs.Prelude.{slice_get}
use Rattle.std.proofs.lemmas.List.{get_or-set_other, get_or-set_same, length-set}
use Rattle.std.proofs.lemmas.List.Elements.{All-set}
use Rattle.std.proofs.lemmas.Bool.Decides.{nat_tests}
use Rattle.std.proofs.lemmas.Option.{slice_get-get_or}
use Rattle.protocol.specs.declared.names.ProcessId.{ProcessId}
use Rattle.protocol.specs.Names.{same_process}
use Rattle.cluster_journal.specs.declared.marks.Delivery.{Delivery}
use Rattle.cluster_journal.specs.declared.marks.Delivery.TheVariants.{Open}
use Rattle.cluster_journal.specs.declared.marks.MarkedMessage.{MarkedMessage}
use Rattle.cluster_journal.specs.declared.queues.Link.{Link}
use Rattle.cluster_journal.specs.declared.queues.Queues.{Queues}
use Rattle.cluster_journal.specs.declared.queues.Receiver.{Receiver}
use Rattle.cluster_journal.specs.Marks.{AreApart, AreLinked, AreQueued, IsLinked, IsNotFree, IsTold, NoneOpen, NoneToClaim, claimed_to, first_open, is_free, is_open, is_open_by, is_open_to, is_undelivered, marked, one_if, open_to, processes_of}
use Rattle.cluster_journal.proofs.Chains.{first_is_none, next_set, three}
use Rattle.cluster_journal.proofs.Counts.{both_right, count_at, count_none, count_some, is_the_one, none_at}
use Rattle.cluster_journal.proofs.Numbers.{marks_it}
use Rattle.cluster_journal.proofs.Telling.{told_other}

-- Receivers.

-- one that is changed keeps its name
pub same_names : (rs : List Receiver) (k : ℕ) (s d : Receiver) → s.process ≡ (get_or rs k d).process
    → k < length rs → processes_of (slice_set rs k s) ≡ processes_of rs
same_names [] k s d is lt = refl
same_names (r ∷ rs) zero s d is lt = ap (λ p. p ∷ processes_of rs) is
same_names (r ∷ rs) (suc k) s d is lt = ap (λ l. r.process ∷ l) (same_names rs k s d is (omega (arith, lt)))

-- the name at each place stays
name_set : (rs : List Receiver) (at i : ℕ) (s d e : Receiver) → at < length rs
    → s.process ≡ (get_or rs at e).process → (get_or (slice_set rs at s) i d).process
    ≡ (get_or rs i d).process
name_set rs at i s d e lt same = elim (three i at) [
  | inl before ↦ ap (λ r. r.process) (get_or-set_other rs at i s d (λ x. absurd (omega (arith, before, x))))
  | inr (inl here) ↦
      subst (λ k. (get_or (slice_set rs at s) k d).process ≡ (get_or rs k d).process) (sym here)
      (ap (λ r. r.process) (get_or-set_same rs at s d lt) ∙ same
      ∙ ap (λ r. r.process) (one_default rs at e d lt))
  | inr (inr after) ↦ ap (λ r. r.process)
      (get_or-set_other rs at i s d (λ x. absurd (omega (arith, after, x))))
]
  where
    one_default : (xs : List Receiver) (k : ℕ) (a b : Receiver) → k < length xs
        → get_or xs k a ≡ get_or xs k b
    one_default [] k a b h = absurd (omega (arith, h))
    one_default (x ∷ xs) zero a b h = refl
    one_default (x ∷ xs) (suc k) a b h = one_default xs k a b (omega (arith, h))

pub apart_set : (rs : List Receiver) (at : ℕ) (s e : Receiver) → at < length rs
    → s.process ≡ (get_or rs at e).process
    → AreApart rs → AreApart (slice_set rs at s)
apart_set rs at s e lt same apart i j d f il jl one =
    let long = length-set rs at s in
    apart i j d f (omega (arith, il, long)) (omega (arith, jl, long))
    (sym (name_set rs at i s d e lt same) ∙ one ∙ name_set rs at j s f e lt same)

pub linked_set : (q : ProcessId) (ms : List MarkedMessage) (k : ℕ) (rs : List Receiver) (l : Link) (at : ℕ)
    (s e : Receiver)
    → at < length rs → s.process ≡ (get_or rs at e).process → IsLinked q ms k rs l
    → IsLinked q ms k (slice_set rs at s) l
linked_set q ms k rs l at s e lt same h = record {
  within = let long = length-set rs at s in let less = h.within in omega (arith, long, less);
  named = λ d. name_set rs at l.receiver s d e lt same ∙ h.named d;
  next = h.next;
}

-- the link of a message
pub linked_at : (ms : List MarkedMessage) (q : Queues) (p : ℕ) (m : MarkedMessage) (l : Link) → p < length ms
    → m ≡ get_or ms p m
    → l ≡ get_or q.links.items p l → AreQueued ms q → IsLinked m.to ms p q.receivers.items l
linked_at ms q p m l lt at there h =
    subst (λ x. IsLinked x.to ms p q.receivers.items l) (sym at)
    (subst (λ x. IsLinked (get_or ms p m).to ms p q.receivers.items x) (sym there) (h.linked p m l lt))

-- A mark that is set.

-- what is at each place is sent to whom it was
to_at : (ms : List MarkedMessage) (p k : ℕ) (m y d : MarkedMessage) → slice_get ms p ≡ Some m → y.to ≡ m.to
    → (get_or (slice_set ms p y) k d).to ≡ (get_or ms k d).to
to_at [] p k m y d at same = refl
to_at (x ∷ ms) zero zero m y d at same = same ∙ sym (some_to x m at)
  where
    some_to : (a b : MarkedMessage) → Some a ≡ Some b → a.to ≡ b.to
    some_to a b h = cc
to_at (x ∷ ms) zero (suc k) m y d at same = refl
to_at (x ∷ ms) (suc p) zero m y d at same = refl
to_at (x ∷ ms) (suc p) (suc k) m y d at same = to_at ms p k m y d at same

linked_mark : (ms : List MarkedMessage) (p : ℕ) (m y : MarkedMessage) (rs : List Receiver) (ls : List Link)
    → slice_get ms p ≡ Some m
    → y.to ≡ m.to → AreLinked ms rs ls → AreLinked (slice_set ms p y) rs ls
linked_mark ms p m y rs ls at same h k d e lt =
    let long = length-set ms p y in
    let was = h k d e (omega (arith, lt, long)) in
    subst (λ q. IsLinked q (slice_set ms p y) k rs (get_or ls k e)) (sym (to_at ms p k m y d at same))
    (record {
      within = was.within;
      named = was.named;
      next = next_set (get_or ms k d).to ms p k m y (get_or ls k e).next at same was.next;
    })

-- the receivers once one of them tells of a message that is marked so
told_all : (ms : List MarkedMessage) (p : ℕ) (m d : MarkedMessage) (mark : Delivery) (rs : List Receiver)
    (at : ℕ) (s e : Receiver)
    → p < length ms → m ≡ get_or ms p d → at < length rs → (get_or rs at e).process ≡ m.to → AreApart rs
    → IsTold (marked ms (p + 1) mark) s → All (IsTold ms) rs
    → All (IsTold (marked ms (p + 1) mark)) (slice_set rs at s)
told_all ms p m d mark rs at s e lt is less to apart told all k f kl = elim (three k at) [
  | inl before ↦ others (λ x. absurd (omega (arith, before, x)))
  | inr (inl here) ↦
      subst (IsTold (marked ms (p + 1) mark)) (sym (ap (λ i. get_or (slice_set rs at s) i f) here
      ∙ get_or-set_same rs at s f less)) told
  | inr (inr after) ↦ others (λ x. absurd (omega (arith, after, x)))
]
  where
    others : k ≢ at → IsTold (marked ms (p + 1) mark) (get_or (slice_set rs at s) k f)
    others other =
        let long = length-set rs at s in
        let kr : k < length rs = omega (arith, kl, long) in
        subst (IsTold (marked ms (p + 1) mark)) (sym (get_or-set_other rs at k s f other))
        (told_other ms p m d mark (get_or rs k f) lt is
        (λ one. other (apart k at f e kr less (one ∙ sym to))) (all k f kr))

-- the queues once a message is marked so
pub queued_mark : (ms : List MarkedMessage) (p : ℕ) (m d : MarkedMessage) (mark : Delivery) (q new : Queues)
    (at : ℕ) (s e : Receiver)
    → p < length ms → m ≡ get_or ms p d → AreQueued ms q → at < length q.receivers.items
    → (get_or q.receivers.items at e).process ≡ m.to → s.process ≡ (get_or q.receivers.items at e).process
    → IsTold (marked ms (p + 1) mark) s → new.links ≡ q.links
    → new.receivers.items ≡ slice_set q.receivers.items at s
    → new.free ≡ count_by is_free new.receivers.items
    → new.undelivered ≡ count_by is_undelivered (slice_set ms p (record { to = m.to; mark = mark }))
    → AreQueued (slice_set ms p (record { to = m.to; mark = mark })) new
queued_mark ms p m d mark q new at s e lt is h less to same told links receivers free undelivered =
    let y : MarkedMessage = record { to = m.to; mark = mark } in
    let here = slice_get-get_or ms p d lt ∙ ap Some (sym is) in
    let rs = q.receivers.items in
    record {
      long = ap (λ l. length l.items) links ∙ h.long ∙ sym (length-set ms p y);
      linked = subst (λ l. AreLinked (slice_set ms p y) l new.links.items) (sym receivers)
          (subst (λ l. AreLinked (slice_set ms p y) (slice_set rs at s) l.items) (sym links)
          (λ k f g kl. linked_set (get_or (slice_set ms p y) k f).to (slice_set ms p y) k rs
          (get_or q.links.items k g) at
          s e less same (linked_mark ms p m y rs q.links.items here refl h.linked k f g kl)));
      told = subst (λ l. All (IsTold (slice_set ms p y)) l) (sym receivers)
          (subst (λ l. All (IsTold l) (slice_set rs at s))
          (sym (marks_it ms (p + 1) p m d m.to mark refl lt is refl))
          (told_all ms p m d mark rs at s e lt is less to h.apart told h.told));
      apart = subst AreApart (sym receivers) (apart_set rs at s e less same h.apart);
      free = free;
      undelivered = undelivered;
    }

-- A queue begins at another place.

pub queued_begin : (ms : List MarkedMessage) (q new : Queues) (at : ℕ) (s e : Receiver) → AreQueued ms q
    → at < length q.receivers.items → s.process ≡ (get_or q.receivers.items at e).process → IsTold ms s
    → new.links ≡ q.links → new.receivers.items ≡ slice_set q.receivers.items at s
    → new.free ≡ count_by is_free new.receivers.items → new.undelivered ≡ q.undelivered → AreQueued ms new
queued_begin ms q new at s e h less same told links receivers free undelivered =
    let rs = q.receivers.items in
    record {
      long = ap (λ l. length l.items) links ∙ h.long;
      linked = subst (λ l. AreLinked ms l new.links.items) (sym receivers)
          (subst (λ l. AreLinked ms (slice_set rs at s) l.items) (sym links)
          (λ k f g kl. linked_set (get_or ms k f).to ms k rs (get_or q.links.items k g) at s e less same
          (h.linked k f g kl)));
      told = subst (λ l. All (IsTold ms) l) (sym receivers) (All-set (IsTold ms) rs at s told h.told);
      apart = subst AreApart (sym receivers) (apart_set rs at s e less same h.apart);
      free = free;
      undelivered = undelivered ∙ h.undelivered;
    }

-- Room alone changes nothing.

pub queued_same : (ms : List MarkedMessage) (q new : Queues) → AreQueued ms q
    → new.links.items ≡ q.links.items
    → new.receivers.items ≡ q.receivers.items → new.free ≡ q.free → new.undelivered ≡ q.undelivered
    → AreQueued ms new
queued_same ms q new h links receivers free undelivered = record {
  long = ap length links ∙ h.long;
  linked = subst (λ l. AreLinked ms l new.links.items) (sym receivers)
      (subst (λ l. AreLinked ms q.receivers.items l) (sym links) h.linked);
  told = subst (λ l. All (IsTold ms) l) (sym receivers) h.told;
  apart = subst AreApart (sym receivers) h.apart;
  free = free ∙ h.free ∙ ap (λ l. count_by is_free l) (sym receivers);
  undelivered = undelivered ∙ h.undelivered;
}

-- What is open.

-- a receiver with messages that are open has one
pub has_open : (ms : List MarkedMessage) (r : Receiver) → IsTold ms r → 0 < r.waiting
    → NoneOpen r.process ms 0 (length ms) → ⊥
has_open ms r h some none =
    let count = count_none (is_open_to r.process) ms
    (λ k d lt. ap (is_open_by r.process) (sym (slice_get-get_or ms k d lt)) ∙ none k (omega arith) lt) in
    let waits = h.waiting in
    absurd (omega (arith, some, waits, count))

pub not_free : (r : Receiver) → is_free r ≡ false → IsNotFree r
not_free r h = grind (arith, nat_tests)

-- nothing is to be claimed if no receiver is free
pub none_free : (ms : List MarkedMessage) (q : Queues) → AreQueued ms q → All IsNotFree q.receivers.items
    → NoneToClaim ms
none_free ms q h busy p = elim (count_some (is_open_to p) ms) [
  | inl none ↦ inl (first_is_none p 1 ms (none_open ms none))
  | inr (m, so, (k, lt, at)) ↦
      let to : p ≡ m.to = is_the_one p m.to (both_right (is_open m.mark) (same_process p m.to) so) in
      let some = count_at (is_open_to p) ms k m m lt (sym at) in
      let one : one_if (is_open_to p m) ≡ 1 = ap one_if so in
      let l : Link = record { receiver = 0; next = None } in
      let link = subst (λ x. IsLinked x.to ms k q.receivers.items (get_or q.links.items k l)) at
      (h.linked k m l lt) in
      let e : Receiver = record { process = p; first = 0; last = 0; waiting = 0; claimed = 0 } in
      let r = get_or q.receivers.items (get_or q.links.items k l).receiver e in
      by_receiver r (link.named e ∙ sym to) (h.told (get_or q.links.items k l).receiver e link.within)
      (busy (get_or q.links.items k l).receiver e link.within) (omega (arith, some, one))
]
  where
    none_open : (xs : List MarkedMessage) → open_to p xs ≡ 0 → NoneOpen p xs 0 (length xs)
    none_open xs none k low lt =
        let d : MarkedMessage = record { to = p; mark = Open } in
        ap (is_open_by p) (slice_get-get_or xs k d lt) ∙ none_at (is_open_to p) xs k (get_or xs k d) d lt refl
        none

    by_receiver : (r : Receiver) → r.process ≡ p → IsTold ms r → IsNotFree r → 0 < open_to p ms
        → (first_open p 1 ms ≡ None) ⊎ (0 < claimed_to p ms)
    by_receiver r it told (inl none) some =
        let waits : r.waiting ≡ open_to p ms = told.waiting ∙ ap (λ x. open_to x ms) it in
        absurd (omega (arith, none, waits, some))
    by_receiver r it told (inr taken) some =
        let claims : r.claimed ≡ claimed_to p ms = told.claimed ∙ ap (λ x. claimed_to x ms) it in
        inr (omega (arith, taken, claims))
