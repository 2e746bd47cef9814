-- Messages more, each at the end of its receiver's queue.
use Rattle.std.proofs.Common.{◌≡◌, ◌≢◌, ◌⊎◌, ◌∙◌, ap, sym, subst, refl, inl, inr, ℕ, suc, ◌+◌, ◌<◌, Bool, true, false, ◌&&◌, All, count_by, Option, None, Some, List, [], ◌∷◌, ◌++◌, length, get_or, slice_set, arith}
use Rattle.std.specs.Prelude.{slice_get}
use Rattle.std.proofs.Math.Seq.{get_or-append_seam}
use Rattle.std.proofs.lemmas.List.{get_or-set_other, get_or-set_same, get_or_append_left, length-append, length-set}
use Rattle.std.proofs.lemmas.List.Elements.{All-push, All-weaker}
use Rattle.std.proofs.lemmas.Option.{slice_get-get_or}
use Rattle.protocol.specs.declared.names.ProcessId.{ProcessId}
use Rattle.protocol.specs.Names.{same_process}
use Rattle.cluster_journal.specs.declared.marks.Delivery.{Delivery}
use Rattle.cluster_journal.specs.declared.marks.Delivery.TheVariants.{Open}
use Rattle.cluster_journal.specs.declared.marks.MarkedMessage.{MarkedMessage}
use Rattle.cluster_journal.specs.declared.queues.Link.{Link}
use Rattle.cluster_journal.specs.declared.queues.Queues.{Queues}
use Rattle.cluster_journal.specs.declared.queues.Receiver.{Receiver}
use Rattle.cluster_journal.specs.Marks.{AreApart, AreLinked, AreQueued, IsLinked, IsNextTo, IsTold, NoneTo, is_claimed, is_free, is_open, is_to, is_undelivered, one_if}
use Rattle.cluster_journal.proofs.Chains.{has_next, next_last, next_new, next_push, three, within}
use Rattle.cluster_journal.proofs.Counts.{and_false, count_none, count_push, is_itself, is_other, is_the_one}
use Rattle.cluster_journal.proofs.Telling.{told_first, told_more, told_still}
use Rattle.cluster_journal.proofs.Queued.{apart_set, linked_set}

-- What code makes, of a place.

abbrev pub link_to : ℕ → Option ℕ → Link
link_to at next = record { receiver = at; next = next }

abbrev pub receiver_from : ProcessId → ℕ → Receiver
receiver_from to n = record { process = to; first = n; last = n; waiting = 1; claimed = 0 }

abbrev pub receiver_until : Receiver → ℕ → Receiver
receiver_until r n = record {
  process = r.process;
  first = r.first;
  last = n;
  waiting = r.waiting + 1;
  claimed = r.claimed;
}

-- A message more.

-- no message was sent to a process that is no receiver
none_sent : (ms : List MarkedMessage) (to : ProcessId) (q : Queues) → AreQueued ms q
    → All (λ r. r.process ≢ to) q.receivers.items → All (λ m. m.to ≢ to) ms
none_sent ms to q h fresh k d lt one =
    let l : Link = record { receiver = 0; next = None } in
    let link = h.linked k d l lt in
    let r : Receiver = record { process = to; first = 0; last = 0; waiting = 0; claimed = 0 } in
    fresh (get_or q.links.items k l).receiver r link.within (link.named r ∙ one)

none_to : (ms : List MarkedMessage) (to : ProcessId) → All (λ m. m.to ≢ to) ms → NoneTo to ms 0 (length ms)
none_to ms to none k low less =
    let d : MarkedMessage = record { to = to; mark = Open } in
    ap (is_to to) (slice_get-get_or ms k d less) ∙ is_other to (get_or ms k d).to (λ e. none k d less (sym e))

counts_none : (f : Delivery → Bool) (ms : List MarkedMessage) (to : ProcessId) → All (λ m. m.to ≢ to) ms
    → count_by (λ m. f m.mark && same_process to m.to) ms ≡ 0
counts_none f ms to none = count_none (λ m. f m.mark && same_process to m.to) ms (All-weaker (λ m. m.to ≢ to)
    (λ m. f m.mark && same_process to m.to ≡ false)
    (λ m other. and_false (f m.mark) (same_process to m.to) (is_other to m.to (λ e. other (sym e)))) ms none)

-- the first message to a process
pub queued_first : (ms : List MarkedMessage) (to : ProcessId) (q new : Queues) (s : Receiver) → AreQueued ms q
    → All (λ r. r.process ≢ to) q.receivers.items
    → s ≡ record { process = to; first = length ms; last = length ms; waiting = 1; claimed = 0 }
    → new.links.items ≡ q.links.items ++ record { receiver = length q.receivers.items; next = None } ∷ []
    → new.receivers.items ≡ q.receivers.items ++ s ∷ [] → new.free ≡ q.free + 1
    → new.undelivered ≡ count_by is_undelivered (ms ++ record { to = to; mark = Open } ∷ [])
    → AreQueued (ms ++ record { to = to; mark = Open } ∷ []) new
queued_first ms to q new s h fresh is links receivers free undelivered =
    record {
      long =
          let more = length-append ls (l ∷ []) in
          let longer = length-append ms (y ∷ []) in
          let long = h.long in
          let all = ap length links in
          omega (arith, more, longer, long, all);
      linked = subst (λ x. AreLinked (ms ++ y ∷ []) x new.links.items) (sym receivers)
          (subst (λ x. AreLinked (ms ++ y ∷ []) (rs ++ s ∷ []) x) (sym links) linked);
      told = subst (λ x. All (IsTold (ms ++ y ∷ [])) x) (sym receivers)
          (All-push (IsTold (ms ++ y ∷ [])) rs s told
          (told_first ms to s (none_to ms to none) (counts_none is_open ms to none)
          (counts_none is_claimed ms to none)
          process (ap (λ r. r.first) is) (ap (λ r. r.last) is) (ap (λ r. r.waiting) is)
          (ap (λ r. r.claimed) is)));
      apart = subst AreApart (sym receivers) apart;
      free = free ∙ ap (λ n. n + 1) h.free
          ∙ sym (ap (λ x. count_by is_free x) receivers ∙ count_push is_free rs s
          ∙ ap (λ x. count_by is_free rs + one_if (is_free x)) is);
      undelivered = undelivered;
    }
  where
    y : MarkedMessage
    y = record { to = to; mark = Open }

    l : Link
    l = record { receiver = length q.receivers.items; next = None }

    rs : List Receiver
    rs = q.receivers.items

    ls : List Link
    ls = q.links.items

    none : All (λ m. m.to ≢ to) ms
    none = none_sent ms to q h fresh

    process : s.process ≡ to
    process = ap (λ r. r.process) is

    told : All (IsTold (ms ++ y ∷ [])) rs
    told k d lt = told_still ms (get_or rs k d) to (h.told k d lt) (fresh k d lt)

    linked : AreLinked (ms ++ y ∷ []) (rs ++ s ∷ []) (ls ++ l ∷ [])
    linked k d e lt = elim (three k (length ms)) [
      | inl before ↦
          let long = h.long in
          let link = h.linked k d e before in
          let at : (get_or (ms ++ y ∷ []) k d).to ≡ (get_or ms k d).to =
          ap (λ m. m.to) (get_or_append_left ms (y ∷ []) d k before) in
          subst (λ x. IsLinked x (ms ++ y ∷ []) k (rs ++ s ∷ []) (get_or (ls ++ l ∷ []) k e)) (sym at)
          (subst (λ x. IsLinked (get_or ms k d).to (ms ++ y ∷ []) k (rs ++ s ∷ []) x)
          (sym (get_or_append_left ls (l ∷ []) e k (omega (arith, before, long))))
          (record {
            within =
                let more = length-append rs (s ∷ []) in let less = link.within in omega (arith, more, less);
            named = λ f. ap (λ r. r.process) (get_or_append_left rs (s ∷ []) f
                (get_or ls k e).receiver link.within)
                ∙ link.named f;
            next = next_push (get_or ms k d).to ms y k (get_or ls k e).next link.next
                (λ x. is_other (get_or ms k d).to to (none k d before));
          }))
      | inr (inl same) ↦
          let here : get_or (ms ++ y ∷ []) k d ≡ y =
          ap (λ i. get_or (ms ++ y ∷ []) i d) same ∙ get_or-append_seam ms y [] d in
          let there : get_or (ls ++ l ∷ []) k e ≡ l =
          ap (λ i. get_or (ls ++ l ∷ []) i e) (same ∙ sym h.long) ∙ get_or-append_seam ls l [] e in
          subst (λ x. IsLinked x.to (ms ++ y ∷ []) k (rs ++ s ∷ []) (get_or (ls ++ l ∷ []) k e)) (sym here)
          (subst (λ x. IsLinked to (ms ++ y ∷ []) k (rs ++ s ∷ []) x) (sym there)
          (record {
            within = let more = length-append rs (s ∷ []) in omega (arith, more);
            named = λ f. ap (λ r. r.process) (get_or-append_seam rs s [] f) ∙ process;
            next = subst (λ i. IsNextTo to (ms ++ y ∷ []) i None) (sym same) (next_new to ms y);
          }))
      | inr (inr after) ↦ let more = length-append ms (y ∷ []) in absurd (omega (arith, more, lt, after))
    ]

    name_at : (k : ℕ) (d : Receiver) → k < length (rs ++ s ∷ [])
        → ((k < length rs) × ((get_or (rs ++ s ∷ []) k d).process ≡ (get_or rs k d).process))
        ⊎ ((k ≡ length rs) × ((get_or (rs ++ s ∷ []) k d).process ≡ to))
    name_at k d lt = elim (three k (length rs)) [
      | inl before ↦ inl (before, ap (λ r. r.process) (get_or_append_left rs (s ∷ []) d k before))
      | inr (inl same) ↦ inr (
        same,
        ap (λ i. (get_or (rs ++ s ∷ []) i d).process) same
            ∙ ap (λ r. r.process) (get_or-append_seam rs s [] d) ∙ process,
      )
      | inr (inr after) ↦ let more = length-append rs (s ∷ []) in absurd (omega (arith, more, lt, after))
    ]

    apart : AreApart (rs ++ s ∷ [])
    apart i j d f il jl one = by (name_at i d il) (name_at j f jl)
      where
        by : ((i < length rs) × ((get_or (rs ++ s ∷ []) i d).process ≡ (get_or rs i d).process))
            ⊎ ((i ≡ length rs) × ((get_or (rs ++ s ∷ []) i d).process ≡ to))
            → ((j < length rs) × ((get_or (rs ++ s ∷ []) j f).process ≡ (get_or rs j f).process))
            ⊎ ((j ≡ length rs) × ((get_or (rs ++ s ∷ []) j f).process ≡ to))
            → i ≡ j
        by (inl (ir, ip)) (inl (jr, jp)) = h.apart i j d f ir jr (sym ip ∙ one ∙ jp)
        by (inl (ir, ip)) (inr (jr, jp)) = absurd (fresh i d ir (sym ip ∙ one ∙ jp))
        by (inr (ir, ip)) (inl (jr, jp)) = absurd (fresh j f jr (sym jp ∙ sym one ∙ ip))
        by (inr (ir, ip)) (inr (jr, jp)) = ir ∙ sym jr

-- a message more to a receiver
pub queued_next : (ms : List MarkedMessage) (to : ProcessId) (q new : Queues) (at : ℕ) (r s : Receiver)
    → AreQueued ms q
    → at < length q.receivers.items → r ≡ get_or q.receivers.items at r → r.process ≡ to
    → s ≡ record {
      process = r.process;
      first = r.first;
      last = length ms;
      waiting = r.waiting + 1;
      claimed = r.claimed;
    }
    → new.links.items ≡ slice_set q.links.items r.last (record { receiver = at; next = Some (length ms) })
    ++ record { receiver = at; next = None } ∷ []
    → new.receivers.items ≡ slice_set q.receivers.items at s → new.free ≡ count_by is_free new.receivers.items
    → new.undelivered ≡ count_by is_undelivered (ms ++ record { to = to; mark = Open } ∷ [])
    → AreQueued (ms ++ record { to = to; mark = Open } ∷ []) new
queued_next ms to q new at r s h less here named is links receivers free undelivered =
    record {
      long =
          let set = length-set ls r.last before_it in
          let more = length-append (slice_set ls r.last before_it) (l ∷ []) in
          let longer = length-append ms (y ∷ []) in
          let long = h.long in
          let all = ap length links in
          omega (arith, set, more, longer, long, all);
      linked = subst (λ x. AreLinked (ms ++ y ∷ []) x new.links.items) (sym receivers)
          (subst (λ x. AreLinked (ms ++ y ∷ []) (slice_set rs at s) x) (sym links) linked);
      told = subst (λ x. All (IsTold (ms ++ y ∷ [])) x) (sym receivers) told;
      apart = subst AreApart (sym receivers) (apart_set rs at s r less same h.apart);
      free = free;
      undelivered = undelivered;
    }
  where
    y : MarkedMessage
    y = record { to = to; mark = Open }

    before_it : Link
    before_it = record { receiver = at; next = Some (length ms) }

    l : Link
    l = record { receiver = at; next = None }

    rs : List Receiver
    rs = q.receivers.items

    ls : List Link
    ls = q.links.items

    same : s.process ≡ (get_or rs at r).process
    same = ap (λ x. x.process) is ∙ ap (λ x. x.process) here

    was : IsTold ms r
    was = subst (IsTold ms) (sym here) (h.told at r less)

    told_new : IsTold (ms ++ y ∷ []) s
    told_new = told_more ms r s to was (ap (λ x. x.process) is) (ap (λ x. x.first) is) (ap (λ x. x.last) is)
        (ap (λ x. x.waiting) is) (ap (λ x. x.claimed) is) named

    told : All (IsTold (ms ++ y ∷ [])) (slice_set rs at s)
    told k d lt = elim (three k at) [
      | inl before ↦ others (λ x. absurd (omega (arith, before, x)))
      | inr (inl it) ↦
          subst (IsTold (ms ++ y ∷ [])) (sym (ap (λ i. get_or (slice_set rs at s) i d) it
          ∙ get_or-set_same rs at s d less)) told_new
      | inr (inr after) ↦ others (λ x. absurd (omega (arith, after, x)))
    ]
      where
        others : k ≢ at → IsTold (ms ++ y ∷ []) (get_or (slice_set rs at s) k d)
        others other =
            let long = length-set rs at s in
            let kl : k < length rs = omega (arith, lt, long) in
            subst (IsTold (ms ++ y ∷ [])) (sym (get_or-set_other rs at k s d other))
            (told_still ms (get_or rs k d) to (h.told k d kl)
            (λ one. other (h.apart k at d r kl less (one ∙ sym named ∙ ap (λ x. x.process) here))))

    at_it : (f : Receiver) → (get_or (slice_set rs at s) at f).process ≡ to
    at_it f = ap (λ x. x.process) (get_or-set_same rs at s f less) ∙ ap (λ x. x.process) is ∙ named

    at_less : at < length (slice_set rs at s)
    at_less = let long = length-set rs at s in omega (arith, long, less)

    ends : is_to to (slice_get ms r.last) ≡ true
    ends = subst (λ x. is_to x (slice_get ms r.last) ≡ true) named was.ends

    last_less : r.last < length ms
    last_less = within to ms r.last ends

    none_after : NoneTo to ms (suc r.last) (length ms)
    none_after = subst (λ x. NoneTo x ms (suc r.last) (length ms)) named was.last

    sent_to_it : (k : ℕ) (d : MarkedMessage) → k < length ms
        → is_to (get_or ms k d).to (slice_get ms k) ≡ true
    sent_to_it k d lt =
        ap (is_to (get_or ms k d).to) (slice_get-get_or ms k d lt)
        ∙ is_itself (get_or ms k d).to (get_or ms k d).to refl

    -- the link of an earlier message
    linked_before : (k : ℕ) (d : MarkedMessage) (e : Link) → k < length ms
        → IsLinked (get_or ms k d).to (ms ++ y ∷ []) k (slice_set rs at s)
        (get_or (slice_set ls r.last before_it) k e)
    linked_before k d e lt = elim (three k r.last) [
      | inl before ↦ others (λ x. absurd (omega (arith, before, x)))
      | inr (inl it) ↦
          let last_long : r.last < length ls = (let long = h.long in omega (arith, last_less, long)) in
          let there : get_or (slice_set ls r.last before_it) k e ≡ before_it =
          ap (λ i. get_or (slice_set ls r.last before_it) i e) it
          ∙ get_or-set_same ls r.last before_it e last_long in
          let mine : to ≡ (get_or ms k d).to =
          is_the_one to (get_or ms k d).to (sym (ap (is_to to) (slice_get-get_or ms k d lt))
          ∙ ap (λ i. is_to to (slice_get ms i)) it ∙ ends) in
          subst (λ x. IsLinked (get_or ms k d).to (ms ++ y ∷ []) k (slice_set rs at s) x) (sym there)
          (subst (λ x. IsLinked x (ms ++ y ∷ []) k (slice_set rs at s) before_it) mine
          (record {
            within = at_less;
            named = at_it;
            next = subst (λ i. IsNextTo to (ms ++ y ∷ []) i (Some (length ms))) (sym it)
                (next_last to ms y r.last last_less (is_itself to to refl) none_after);
          }))
      | inr (inr after) ↦ others (λ x. absurd (omega (arith, after, x)))
    ]
      where
        others : k ≢ r.last → IsLinked (get_or ms k d).to (ms ++ y ∷ []) k (slice_set rs at s)
            (get_or (slice_set ls r.last before_it) k e)
        others other =
            let t = (get_or ms k d).to in
            let link = linked_set t ms k rs (get_or ls k e) at s r less same (h.linked k d e lt) in
            subst (λ x. IsLinked t (ms ++ y ∷ []) k (slice_set rs at s) x)
            (sym (get_or-set_other ls r.last k before_it e other))
            (record {
              within = link.within;
              named = link.named;
              next = next_push t ms y k (get_or ls k e).next link.next
                  (λ end. is_other t to (λ one. has_next to ms k r.last (get_or ls k e).next
                  (subst (λ x. is_to x (slice_get ms k) ≡ true) one (sent_to_it k d lt)) ends none_after other
                  (subst (λ x. IsNextTo x ms k (get_or ls k e).next) one link.next) end));
            })

    linked : AreLinked (ms ++ y ∷ []) (slice_set rs at s) (slice_set ls r.last before_it ++ l ∷ [])
    linked k d e lt = elim (three k (length ms)) [
      | inl before ↦
          let long = h.long in
          let set = length-set ls r.last before_it in
          let m_at : (get_or (ms ++ y ∷ []) k d).to ≡ (get_or ms k d).to =
          ap (λ m. m.to) (get_or_append_left ms (y ∷ []) d k before) in
          subst (λ x. IsLinked x (ms ++ y ∷ []) k (slice_set rs at s)
          (get_or (slice_set ls r.last before_it ++ l ∷ []) k e))
          (sym m_at)
          (subst (λ x. IsLinked (get_or ms k d).to (ms ++ y ∷ []) k (slice_set rs at s) x)
          (sym (get_or_append_left (slice_set ls r.last before_it) (l ∷ []) e k
          (omega (arith, before, long, set))))
          (linked_before k d e before))
      | inr (inl it) ↦
          let set = length-set ls r.last before_it in
          let m_at : get_or (ms ++ y ∷ []) k d ≡ y =
          ap (λ i. get_or (ms ++ y ∷ []) i d) it ∙ get_or-append_seam ms y [] d in
          let there : get_or (slice_set ls r.last before_it ++ l ∷ []) k e ≡ l =
          ap (λ i. get_or (slice_set ls r.last before_it ++ l ∷ []) i e) (it ∙ sym (set ∙ h.long))
          ∙ get_or-append_seam (slice_set ls r.last before_it) l [] e in
          subst (λ x. IsLinked x.to (ms ++ y ∷ []) k (slice_set rs at s)
          (get_or (slice_set ls r.last before_it ++ l ∷ []) k e)) (sym m_at)
          (subst (λ x. IsLinked to (ms ++ y ∷ []) k (slice_set rs at s) x) (sym there)
          (record {
            within = at_less;
            named = at_it;
            next = subst (λ i. IsNextTo to (ms ++ y ∷ []) i None) (sym it) (next_new to ms y);
          }))
      | inr (inr after) ↦ let more = length-append ms (y ∷ []) in absurd (omega (arith, more, lt, after))
    ]
