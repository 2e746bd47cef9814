-- What receivers tell of the messages to them.
use Rattle.std.proofs.Common.{◌≡◌, ◌≢◌, ◌⊎◌, ◌∙◌, ap, sym, subst, refl, inl, inr, ℕ, suc, ◌+◌, ◌<◌, ◌≤◌, Bool, true, false, ◌&&◌, count_by, Some, List, [], ◌∷◌, ◌++◌, length, get_or, slice_set, arith}
use Rattle.std.specs.Prelude.{slice_get}
use Rattle.std.proofs.lemmas.List.{length-append, length-set}
use Rattle.std.proofs.lemmas.List.Sums.{count_by-le-length}
use Rattle.std.proofs.lemmas.Option.{slice_get-get_or}
use Rattle.protocol.specs.declared.names.ProcessId.{ProcessId}
use Rattle.protocol.specs.Names.{same_process}
use Rattle.cluster_journal.specs.declared.marks.Delivery.{Delivery}
use Rattle.cluster_journal.specs.declared.marks.Delivery.TheVariants.{Open}
use Rattle.cluster_journal.specs.declared.marks.MarkedMessage.{MarkedMessage}
use Rattle.cluster_journal.specs.declared.queues.Receiver.{Receiver}
use Rattle.cluster_journal.specs.Marks.{IsTold, NoneOpen, NoneTo, claimed_to, is_claimed, is_claimed_to, is_open, is_open_to, is_to, marked, one_if, open_to}
use Rattle.cluster_journal.proofs.Chains.{before_set, closed_set, get_last, none_open_push, not_open, none_to_other, none_to_set, to_push, to_set, within}
use Rattle.cluster_journal.proofs.Counts.{and_false, and_true, count_at, count_push, count_set, is_itself, is_other}
use Rattle.cluster_journal.proofs.Numbers.{closed_to, marks_it}

-- A mark that is set.

-- what its receiver counts, by this test of marks
counts : (f : Delivery → Bool) (q : ProcessId) (ms : List MarkedMessage) (p : ℕ) (m d y : MarkedMessage)
    → p < length ms → m ≡ get_or ms p d
    → same_process q m.to ≡ true → y.to ≡ m.to
    → count_by (λ x. f x.mark && same_process q x.to) (slice_set ms p y) + one_if (f m.mark)
    ≡ count_by (λ x. f x.mark && same_process q x.to) ms + one_if (f y.mark)
counts f q ms p m d y lt at mine same =
    let moved = count_set (λ x. f x.mark && same_process q x.to) ms p m d y lt at in
    let was : one_if (f m.mark && same_process q m.to) ≡ one_if (f m.mark) =
    ap one_if (and_true (f m.mark) (same_process q m.to) mine) in
    let is : one_if (f y.mark && same_process q y.to) ≡ one_if (f y.mark) =
    ap one_if (and_true (f y.mark) (same_process q y.to) (ap (same_process q) same ∙ mine)) in
    omega (arith, moved, was, is)

-- another counts as many
counts_other : (f : Delivery → Bool) (q : ProcessId) (ms : List MarkedMessage) (p : ℕ) (m d y : MarkedMessage)
    → p < length ms
    → m ≡ get_or ms p d → same_process q m.to ≡ false → y.to ≡ m.to
    → count_by (λ x. f x.mark && same_process q x.to) (slice_set ms p y)
    ≡ count_by (λ x. f x.mark && same_process q x.to) ms
counts_other f q ms p m d y lt at other same =
    let moved = count_set (λ x. f x.mark && same_process q x.to) ms p m d y lt at in
    let was : one_if (f m.mark && same_process q m.to) ≡ 0 =
    ap one_if (and_false (f m.mark) (same_process q m.to) other) in
    let is : one_if (f y.mark && same_process q y.to) ≡ 0 =
    ap one_if (and_false (f y.mark) (same_process q y.to) (ap (same_process q) same ∙ other)) in
    omega (arith, moved, was, is)

-- where its queue begins, none is open before
begins_after : (b : Bool) (q : ProcessId) (ms : List MarkedMessage) (p first new : ℕ) (y : MarkedMessage)
    → is_open y.mark ≡ b
    → new ≤ first → (is_open y.mark ≡ true → new ≤ p) → NoneOpen q ms 0 first
    → NoneOpen q (slice_set ms p y) 0 new
begins_after true q ms p first new y is le opened none =
    before_set q ms p 0 new y (opened is) (λ k low less. none k low (omega (arith, less, le)))
begins_after false q ms p first new y is le opened none =
    closed_set q ms p 0 new y (closed_to q y is) (λ k low less. none k low (omega (arith, less, le)))

-- the message is to this receiver
to_it : (q : ProcessId) (ms : List MarkedMessage) (p : ℕ) (m d : MarkedMessage) → p < length ms
    → m ≡ get_or ms p d
    → is_to q (slice_get ms p) ≡ true → same_process q m.to ≡ true
to_it q ms p m d lt at mine =
    ap (λ x. same_process q x.to) at ∙ sym (ap (is_to q) (slice_get-get_or ms p d lt)) ∙ mine

-- what its receiver tells
pub told_same : (ms : List MarkedMessage) (p : ℕ) (m d : MarkedMessage) (mark : Delivery) (r s : Receiver)
    → p < length ms → m ≡ get_or ms p d
    → is_to r.process (slice_get ms p) ≡ true → IsTold ms r → s.process ≡ r.process → s.last ≡ r.last
    → (s.first ≡ r.first) ⊎ (s.first ≡ p) → s.first ≤ r.first → (is_open mark ≡ true → s.first ≤ p)
    → (a b : Bool) → a ≡ is_open m.mark → b ≡ is_open mark → s.waiting + one_if a ≡ r.waiting + one_if b
    → (e f : Bool) → e ≡ is_claimed m.mark → f ≡ is_claimed mark → s.claimed + one_if e ≡ r.claimed + one_if f
    → IsTold (marked ms (p + 1) mark) s
told_same ms p m d mark r s lt at to h same last either le opened a b a_is b_is waiting e f
    e_is f_is claimed =
    let q = r.process in
    let y : MarkedMessage = record { to = m.to; mark = mark } in
    let mine = to_it q ms p m d lt at to in
    let here = slice_get-get_or ms p d lt ∙ ap Some (sym at) in
    let begins : is_to q (slice_get ms s.first) ≡ true = elim either [
      | inl kept ↦ ap (λ k. is_to q (slice_get ms k)) kept ∙ h.begins
      | inr moved ↦ ap (λ k. is_to q (slice_get ms k)) moved ∙ to
    ] in
    subst (λ l. IsTold l s) (marks_it ms (p + 1) p m d m.to mark refl lt at refl)
    (record {
      begins = subst (λ x. is_to x (slice_get (slice_set ms p y) s.first) ≡ true) (sym same)
          (to_set q ms p s.first m y here refl ∙ begins);
      none = subst (λ x. NoneOpen x (slice_set ms p y) 0 s.first) (sym same)
          (begins_after (is_open mark) q ms p r.first s.first y refl le opened h.none);
      ends = subst (λ x. is_to x (slice_get (slice_set ms p y) s.last) ≡ true) (sym same)
          (to_set q ms p s.last m y here refl ∙ ap (λ k. is_to q (slice_get ms k)) last ∙ h.ends);
      last = subst (λ x. NoneTo x (slice_set ms p y) (suc s.last) (length (slice_set ms p y))) (sym same)
          (subst (λ n. NoneTo q (slice_set ms p y) (suc s.last) n) (sym (length-set ms p y))
          (none_to_set q ms p (suc s.last) (length ms) m y here refl
          (subst (λ k. NoneTo q ms (suc k) (length ms)) (sym last) h.last)));
      waiting = subst (λ x. s.waiting ≡ open_to x (slice_set ms p y)) (sym same)
          (let moved = counts is_open q ms p m d y lt at mine refl in
          let before = h.waiting in
          let one = ap one_if a_is in
          let other = ap one_if b_is in
          omega (arith, moved, before, waiting, one, other));
      claimed = subst (λ x. s.claimed ≡ claimed_to x (slice_set ms p y)) (sym same)
          (let moved = counts is_claimed q ms p m d y lt at mine refl in
          let before = h.claimed in
          let one = ap one_if e_is in
          let other = ap one_if f_is in
          omega (arith, moved, before, claimed, one, other));
    })

-- what another tells stays
pub told_other : (ms : List MarkedMessage) (p : ℕ) (m d : MarkedMessage) (mark : Delivery) (r : Receiver)
    → p < length ms
    → m ≡ get_or ms p d → r.process ≢ m.to → IsTold ms r → IsTold (marked ms (p + 1) mark) r
told_other ms p m d mark r lt at other h =
    let q = r.process in
    let y : MarkedMessage = record { to = m.to; mark = mark } in
    let not_so : same_process q m.to ≡ false = is_other q m.to other in
    let here = slice_get-get_or ms p d lt ∙ ap Some (sym at) in
    subst (λ l. IsTold l r) (marks_it ms (p + 1) p m d m.to mark refl lt at refl)
    (record {
      begins = to_set q ms p r.first m y here refl ∙ h.begins;
      none = closed_set q ms p 0 r.first y (and_false (is_open mark) (same_process q m.to) not_so) h.none;
      ends = to_set q ms p r.last m y here refl ∙ h.ends;
      last = subst (λ n. NoneTo q (slice_set ms p y) (suc r.last) n) (sym (length-set ms p y))
          (none_to_set q ms p (suc r.last) (length ms) m y here refl h.last);
      waiting = h.waiting ∙ sym (counts_other is_open q ms p m d y lt at not_so refl);
      claimed = h.claimed ∙ sym (counts_other is_claimed q ms p m d y lt at not_so refl);
    })

-- what its receiver counts fits
fits : (f : Delivery → Bool) (q : ProcessId) (ms : List MarkedMessage) (p : ℕ) (m d : MarkedMessage)
    (mark : Delivery) (c : ℕ) → p < length ms
    → m ≡ get_or ms p d → is_to q (slice_get ms p) ≡ true
    → c ≡ count_by (λ x. f x.mark && same_process q x.to) ms
    → (n : ℕ) (a b : Bool) → n ≡ length ms → a ≡ f m.mark → b ≡ f mark
    → (one_if a ≤ c) × (c + one_if b ≤ n + one_if a)
fits f q ms p m d mark c lt at to is n a b all a_is b_is =
    let y : MarkedMessage = record { to = m.to; mark = mark } in
    let mine = to_it q ms p m d lt at to in
    let moved = counts f q ms p m d y lt at mine refl in
    let low = count_at (λ x. f x.mark && same_process q x.to) ms p m d lt at in
    let was : one_if (f m.mark && same_process q m.to) ≡ one_if (f m.mark) =
    ap one_if (and_true (f m.mark) (same_process q m.to) mine) in
    let most = count_by-le-length (λ x. f x.mark && same_process q x.to) (slice_set ms p y) in
    let long = length-set ms p y in
    let one = ap one_if a_is in
    let other = ap one_if b_is in
    (omega (arith, low, was, is, one), omega (arith, moved, most, long, is, one, other, all))

pub fits_open : (ms : List MarkedMessage) (p : ℕ) (m d : MarkedMessage) (mark : Delivery) (r : Receiver)
    → p < length ms → m ≡ get_or ms p d
    → is_to r.process (slice_get ms p) ≡ true → IsTold ms r
    → (n : ℕ) (a b : Bool) → n ≡ length ms → a ≡ is_open m.mark → b ≡ is_open mark
    → (one_if a ≤ r.waiting) × (r.waiting + one_if b ≤ n + one_if a)
fits_open ms p m d mark r lt at to h = fits is_open r.process ms p m d mark r.waiting lt at to h.waiting

pub fits_claimed : (ms : List MarkedMessage) (p : ℕ) (m d : MarkedMessage) (mark : Delivery) (r : Receiver)
    → p < length ms
    → m ≡ get_or ms p d → is_to r.process (slice_get ms p) ≡ true → IsTold ms r
    → (n : ℕ) (a b : Bool) → n ≡ length ms → a ≡ is_claimed m.mark → b ≡ is_claimed mark
    → (one_if a ≤ r.claimed) × (r.claimed + one_if b ≤ n + one_if a)
fits_claimed ms p m d mark r lt at to h = fits is_claimed r.process ms p m d mark r.claimed lt at to h.claimed

-- A queue begins at another place.

pub told_here : (ms : List MarkedMessage) (p : ℕ) (r s : Receiver) → IsTold ms r → s.process ≡ r.process
    → s.first ≡ p
    → s.last ≡ r.last → s.waiting ≡ r.waiting → s.claimed ≡ r.claimed
    → is_to r.process (slice_get ms p) ≡ true
    → NoneOpen r.process ms 0 p → IsTold ms s
told_here ms p r s h same place last waiting claimed begins none = record {
  begins = subst (λ x. is_to x (slice_get ms s.first) ≡ true) (sym same)
      (ap (λ k. is_to r.process (slice_get ms k)) place ∙ begins);
  none = subst (λ x. NoneOpen x ms 0 s.first) (sym same)
      (subst (λ k. NoneOpen r.process ms 0 k) (sym place) none);
  ends = subst (λ x. is_to x (slice_get ms s.last) ≡ true) (sym same)
      (ap (λ k. is_to r.process (slice_get ms k)) last ∙ h.ends);
  last = subst (λ x. NoneTo x ms (suc s.last) (length ms)) (sym same)
      (subst (λ k. NoneTo r.process ms (suc k) (length ms)) (sym last) h.last);
  waiting = waiting ∙ h.waiting ∙ ap (λ q. open_to q ms) (sym same);
  claimed = claimed ∙ h.claimed ∙ ap (λ q. claimed_to q ms) (sym same);
}

-- A message more.

-- its receiver tells one more
pub told_more : (ms : List MarkedMessage) (r s : Receiver) (to : ProcessId) → IsTold ms r
    → s.process ≡ r.process
    → s.first ≡ r.first → s.last ≡ length ms → s.waiting ≡ r.waiting + 1 → s.claimed ≡ r.claimed
    → r.process ≡ to
    → IsTold (ms ++ record { to = to; mark = Open } ∷ []) s
told_more ms r s to h same first last waiting claimed is_to_it =
    let q = r.process in
    let y : MarkedMessage = record { to = to; mark = Open } in
    let mine : same_process q to ≡ true = is_itself q to is_to_it in
    let lt = within q ms r.first h.begins in
    record {
      begins = subst (λ x. is_to x (slice_get (ms ++ y ∷ []) s.first) ≡ true) (sym same)
          (ap (λ k. is_to q (slice_get (ms ++ y ∷ []) k)) first ∙ to_push q ms y r.first h.begins);
      none = subst (λ x. NoneOpen x (ms ++ y ∷ []) 0 s.first) (sym same)
          (subst (λ k. NoneOpen q (ms ++ y ∷ []) 0 k) (sym first)
          (none_open_push q ms y 0 r.first (omega (arith, lt)) h.none));
      ends = subst (λ x. is_to x (slice_get (ms ++ y ∷ []) s.last) ≡ true) (sym same)
          (ap (λ k. is_to q (slice_get (ms ++ y ∷ []) k)) last ∙ ap (is_to q) (get_last ms y) ∙ mine);
      last =
          λ k low less. let long = length-append ms (y ∷ []) in absurd (omega (arith, low, less, long, last));
      waiting = subst (λ x. s.waiting ≡ open_to x (ms ++ y ∷ [])) (sym same)
          (let pushed = count_push (is_open_to q) ms y in
          let is : one_if (is_open_to q y) ≡ 1 = ap one_if (and_true true (same_process q to) mine) in
          let before = h.waiting in
          omega (arith, pushed, is, before, waiting));
      claimed = subst (λ x. s.claimed ≡ claimed_to x (ms ++ y ∷ [])) (sym same)
          (let pushed = count_push (is_claimed_to q) ms y in
          let is : one_if (is_claimed_to q y) ≡ 0 = refl in
          let before = h.claimed in
          omega (arith, pushed, is, before, claimed));
    }

-- another tells as many
pub told_still : (ms : List MarkedMessage) (r : Receiver) (to : ProcessId) → IsTold ms r → r.process ≢ to
    → IsTold (ms ++ record { to = to; mark = Open } ∷ []) r
told_still ms r to h other =
    let q = r.process in
    let y : MarkedMessage = record { to = to; mark = Open } in
    let not_so : same_process q to ≡ false = is_other q to other in
    let lt = within q ms r.first h.begins in
    record {
      begins = to_push q ms y r.first h.begins;
      none = none_open_push q ms y 0 r.first (omega (arith, lt)) h.none;
      ends = to_push q ms y r.last h.ends;
      last = none_to_other q ms y (suc r.last) not_so h.last;
      waiting =
          let pushed = count_push (is_open_to q) ms y in
          let is : one_if (is_open_to q y) ≡ 0 = ap one_if (and_false true (same_process q to) not_so) in
          let before = h.waiting in
          omega (arith, pushed, is, before);
      claimed =
          let pushed = count_push (is_claimed_to q) ms y in
          let before = h.claimed in
          let is : one_if (is_claimed_to q y) ≡ 0 = refl in
          omega (arith, pushed, is, before);
    }

-- the first message to a process
pub told_first : (ms : List MarkedMessage) (to : ProcessId) (s : Receiver) → NoneTo to ms 0 (length ms)
    → open_to to ms ≡ 0
    → claimed_to to ms ≡ 0 → s.process ≡ to → s.first ≡ length ms → s.last ≡ length ms → s.waiting ≡ 1
    → s.claimed ≡ 0
    → IsTold (ms ++ record { to = to; mark = Open } ∷ []) s
told_first ms to s none opens claims same first last waiting claimed =
    let y : MarkedMessage = record { to = to; mark = Open } in
    let mine : same_process to to ≡ true = is_itself to to refl in
    record {
      begins = subst (λ x. is_to x (slice_get (ms ++ y ∷ []) s.first) ≡ true) (sym same)
          (ap (λ k. is_to to (slice_get (ms ++ y ∷ []) k)) first ∙ ap (is_to to) (get_last ms y) ∙ mine);
      none = subst (λ x. NoneOpen x (ms ++ y ∷ []) 0 s.first) (sym same)
          (none_open_push to ms y 0 s.first (omega (arith, first)) (λ k low less. not_open to (slice_get ms k)
          (none k low (omega (arith, less, first)))));
      ends = subst (λ x. is_to x (slice_get (ms ++ y ∷ []) s.last) ≡ true) (sym same)
          (ap (λ k. is_to to (slice_get (ms ++ y ∷ []) k)) last ∙ ap (is_to to) (get_last ms y) ∙ mine);
      last =
          λ k low less. let long = length-append ms (y ∷ []) in absurd (omega (arith, low, less, long, last));
      waiting = subst (λ x. s.waiting ≡ open_to x (ms ++ y ∷ [])) (sym same)
          (let pushed = count_push (is_open_to to) ms y in
          let one : one_if (is_open_to to y) ≡ 1 = ap one_if (and_true true (same_process to to) mine) in
          omega (arith, pushed, one, opens, waiting));
      claimed = subst (λ x. s.claimed ≡ claimed_to x (ms ++ y ∷ [])) (sym same)
          (let pushed = count_push (is_claimed_to to) ms y in
          let zero : one_if (is_claimed_to to y) ≡ 0 = refl in
          omega (arith, pushed, zero, claims, claimed));
    }
