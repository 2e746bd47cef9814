-- What a trim keeps of a manager's records counts at most one commit for each branch that is heuristic.
use Rattle.std.proofs.Common.{◌≡◌, ◌≤◌, ◌<◌, ◌^◌, ℕ, suc, Bool, true, false, not, ◌&&◌, ◌||◌, cond, List, [], ◌∷◌, ◌++◌, Option, Some, None, map, refl, sym, ap, subst, ◌∙◌, is_some, nat_lt, length, arith}
use Rattle.std.specs.List.{AllByRecursion, IsDistinct, list_any}
use Rattle.std.specs.Map.{keys_of, lookup, remove_entry}
use Rattle.indexmap.specs.IndexMap.{insert_entry}
use Rattle.xa_xid.specs.declared.xid.Xid.{Xid}
use Rattle.protocol.specs.declared.names.ProcessId.{ProcessId}
use Rattle.protocol.specs.declared.records.LogRecord.{LogRecord}
use Rattle.protocol.specs.declared.records.Record.{Record}
use Rattle.protocol.specs.declared.records.Record.TheVariants.{Opened, Collecting, Prepare, Commit, Abort, End, Prepared, Committed, RolledBack, Direct, HeurCommit, HeurRollback, Forgot, Cleared}
use Rattle.protocol_words.specs.Variants.{BaseRecord, PairRecord, ToldRecord}
use Rattle.protocol.specs.declared.records.Write.{Write}
use Rattle.protocol.specs.LogNames.{by_xid, name_xid, unnamed}
use Rattle.protocol.specs.Restarts.{is_open as is_open_mark}
use Rattle.protocol.specs.Records.{is_opened}
use Rattle.protocol.specs.Standings.{Mark, mark_at}
use Rattle.protocol.specs.Store.{Data, base_records, data_of, no_data, pair_record, stored, stored_after}
use Rattle.log_rules.specs.declared.order.seen.DoubtMark.{DoubtMark}
use Rattle.log_rules.specs.declared.order.seen.DoubtMark.TheVariants.{Open, Decided, Told}
use Rattle.log_rules.specs.declared.order.seen.Promise.{Promise}
use Rattle.log_rules.specs.order.Orders.{SeenLog, after, followed, found, is_heuristic, is_open, is_untold, keys_free, keys_once, nothing_seen, opens, promises, same}
use Rattle.log_rules.specs.trim.Tables.{is_live}
use Rattle.log_rules.specs.trim.Trims.{front_of_trim, is_of, last_opened, prepares, said_of, staying, stays, stays_by, trim_of}
use Rattle.kv_state.specs.Keeping.{is_managers}
use Rattle.kv_state.specs.Replays.{AreCountedCommits, CountsFrom, seen_after, seen_of}
use Rattle.kv_state.proofs.Counting.{counted_more, counted_whole}
use Rattle.kv_state.proofs.Lawful.{never_seen}
use Rattle.kv_state.proofs.Lookups.{Live, distinct_out, distinct_put, found_out, found_put, same_is, same_itself, true_is_false}
use Rattle.kv_state.proofs.Promised.{lives, of_name}
use Rattle.resource_manager.specs.Restarting.{marked_state}
use Rattle.xa_tables.specs.declared.states.BranchState.TheVariants.{S0}
use Rattle.kv_manager.proofs.Bounds.{AreFew, few_after}
use Rattle.kv_manager.proofs.Marks.{agrees_of, state_by}
use Rattle.kv_manager.proofs.Steps.{Steps, Stays, Puts, Marks, Leaves, followed_by, refused, steps_after, taken}
use Rattle.kv_manager.specs.Sights.{has_records}
use Rattle.kv_manager.proofs.TrimOrder.{Booted, boot_in_front, booted, named_as, trails_from}

-- A branch that is gone, and no longer promises, is not live at the end.

both : (a b : Bool) → (a && b) ≡ true → (a ≡ true) × (b ≡ true)
both true true h = (refl, refl)
both true false h = absurd (cc)
both false b h = absurd (cc)

neither : (a b : Bool) → (a || b) ≡ false → (a ≡ false) × (b ≡ false)
neither false false h = (refl, refl)
neither false true h = absurd (cc)
neither true b h = absurd (cc)

shut_off : (b : Bool) → not b ≡ true → b ≡ false
shut_off false h = refl
shut_off true h = absurd (cc)

-- another branch is put in
off_put : (x y : Xid) (p : Promise) (es : Live) → same x y ≡ false → is_some (lookup (same x) es) ≡ false
    → is_some (lookup (same x) (insert_entry same es y p)) ≡ false
off_put x y p es apart off =
    ap is_some (found_put y x p es ∙ ap (λ b. cond b (Some p) (lookup (same x) es)) apart) ∙ off

-- one is taken out
off_out : (x y : Xid) (es : Live) → IsDistinct same (keys_of es) → is_some (lookup (same x) es) ≡ false
    → is_some (lookup (same x) (remove_entry (same y) es)) ≡ false
off_out x y es distinct off = ap is_some (found_out y x es distinct) ∙ by_test (same y x)
  where
    by_test : (b : Bool) → is_some (cond b None (lookup (same x) es)) ≡ false
    by_test true = refl
    by_test false = off

distinct_after : (s t : SeenLog) (q : Option ProcessId) (r : Record) → Steps s t q r
    → IsDistinct same (keys_of s.live) → IsDistinct same (keys_of t.live)
distinct_after s t q r (Stays is) d = subst (λ (es : Live). IsDistinct same (keys_of es)) (sym is) d
distinct_after s t q r (Puts b ws of off room is) d =
    subst (λ (es : Live). IsDistinct same (keys_of es)) (sym is) (distinct_put _ _ s.live d)
distinct_after s t q r (Marks x m known shut is) d =
    subst (λ (es : Live). IsDistinct same (keys_of es)) (sym is) (distinct_put _ _ s.live d)
distinct_after s t q r (Leaves x is) d =
    subst (λ (es : Live). IsDistinct same (keys_of es)) (sym is) (distinct_out x s.live d)

off_after : (x : Xid) (s t : SeenLog) (q : Option ProcessId) (r : Record) → Steps s t q r
    → IsDistinct same (keys_of s.live) → prepares x (record { entry = r; parent = q }) ≡ false
    → is_some (found s x) ≡ false → is_some (found t x) ≡ false
off_after x s t q r (Stays is) d plain off = ap (λ (es : Live). is_some (lookup (same x) es)) is ∙ off
off_after x s t q r (Puts b ws of there room is) d plain off =
    ap (λ (es : Live). is_some (lookup (same x) es)) is ∙ off_put x (name_xid q b) _ s.live (apart of) off
  where
    and_true : (c : Bool) → (c && true) ≡ false → c ≡ false
    and_true false h = refl
    and_true true h = absurd (cc)

    apart : r ≡ Prepared b ws → same x (name_xid q b) ≡ false
    apart e =
        sym (of_name x q (λ c. Prepared c ws) b (λ c. refl) (λ c. refl))
        ∙ and_true (is_of x (record { entry = Prepared b ws; parent = q }))
        (ap (λ k. prepares x (record { entry = k; parent = q })) (sym e) ∙ plain)
off_after x s t q r (Marks y m known shut is) d plain off =
    ap (λ (es : Live). is_some (lookup (same x) es)) is ∙ off_put x y _ s.live (by_test (same x y) refl) off
  where
    by_test : (b : Bool) → same x y ≡ b → b ≡ false
    by_test false e = refl
    by_test true e = true_is_false (sym known ∙ ap (λ z. is_some (found s z)) (sym (same_is x y e)) ∙ off)
off_after x s t q r (Leaves y is) d plain off =
    ap (λ (es : Live). is_some (lookup (same x) es)) is ∙ off_out x y s.live d off

off_behind : (x : Xid) (behind : List LogRecord) (s u : SeenLog) → IsDistinct same (keys_of s.live)
    → list_any (prepares x) behind ≡ false → is_some (found s x) ≡ false → seen_after (Some s) behind ≡ Some u
    → is_some (found u x) ≡ false
unfolding seen_after
off_behind x [] s u d plain off h = subst (λ (v : SeenLog). is_some (found v x) ≡ false) (one s u h) off
  where
    one : (v w : SeenLog) → Some v ≡ Some w → v ≡ w
    one v w e = cc
off_behind x (l ∷ ls) s u d plain off h = by_after (after s l) refl h (λ v e g.
    let step = steps_after s v l e in
    let parts = neither (prepares x l) (list_any (prepares x) ls) plain in
    off_behind x ls v u (distinct_after s v l.parent l.entry step d) parts.1
    (off_after x s v l.parent l.entry step d parts.0 off) g)
  where
    by_after : (o : Option SeenLog) → after s l ≡ o → seen_after o ls ≡ Some u
        → ((v : SeenLog) → after s l ≡ Some v → seen_after (Some v) ls ≡ Some u → is_some (found u x) ≡ false)
        → is_some (found u x) ≡ false
    by_after None e g more = absurd (never_seen ls u g)
    by_after (Some v) e g more = more v e g

-- what is not known at the end is not live
never_live : (x : Xid) (all : List LogRecord) (u : SeenLog)
    → AllByRecursion (λ l. is_managers l.entry ≡ true) all
    → seen_of all ≡ Some u → is_some (found u x) ≡ false → is_live (said_of x all) ≡ false
never_live x all u m h off =
    lives x all m ∙ by_mark (mark_at all x) (sym ((agrees_of all u h).states x) ∙ none_state (found u x) off)
  where
    none_state : (o : Option Promise) → is_some o ≡ false → state_by o ≡ S0
    none_state None e = refl
    none_state (Some p) e = absurd (cc)

    by_mark : (k : Mark) → marked_state k ≡ S0 → is_open_mark k ≡ false
    by_mark Mark.Unmarked e = refl
    by_mark Mark.Promised e = absurd (cc)
    by_mark Mark.Decided e = absurd (cc)
    by_mark (Mark.ToldOf o) e = absurd (cc)
    by_mark Mark.Finished e = refl

-- So no record stays that ends a branch.

-- a record leaves its branch known
abbrev pub Stands : Record → Type 0
Stands (Prepared b ws) = Unit {0}
Stands (HeurCommit b) = Unit {0}
Stands (HeurRollback b) = Unit {0}
Stands (ToldRecord b o) = Unit {0}
Stands _ = ⊥

module _ (all : List LogRecord) (u : SeenLog) (m : AllByRecursion (λ l. is_managers l.entry ≡ true) all)
    (whole : seen_of all ≡ Some u) where
  never_stays : (x : Xid) (l : LogRecord) (behind : List LogRecord) (v : SeenLog)
      → stays all behind l ≡ stays_by all behind (Some x) → stays all behind l ≡ true
      → IsDistinct same (keys_of v.live) → is_some (found v x) ≡ false → seen_after (Some v) behind ≡ Some u
      → ⊥
  never_stays x l behind v named on d off h =
      let parts = both (is_live (said_of x all)) (not (list_any (prepares x) behind)) (sym named ∙ on) in
      true_is_false (sym parts.0 ∙ never_live x all u m whole
      (off_behind x behind v u d (shut_off (list_any (prepares x) behind) parts.1) off h))

  -- what was taken out is not known
  gone : (x : Xid) (s v : SeenLog) → IsDistinct same (keys_of s.live) → v.live ≡ remove_entry (same x) s.live
      → is_some (found v x) ≡ false
  gone x s v d is = ap (λ (es : Live). is_some (lookup (same x) es)) is
      ∙ ap is_some (found_out x x s.live d ∙ ap (λ b. cond b None (lookup (same x) s.live)) (same_itself x))

  live_as : (w v : SeenLog) → w ≡ v → v.live ≡ w.live
  live_as w v h = ap (λ (k : SeenLog). k.live) (sym h)

  stands : (q : Option ProcessId) (r : Record) (behind : List LogRecord) (s v : SeenLog)
      → is_managers r ≡ true
      → stays all behind (record { entry = r; parent = q }) ≡ true → IsDistinct same (keys_of s.live)
      → IsDistinct same (keys_of v.live) → followed s q r ≡ Some v → seen_after (Some v) behind ≡ Some u
      → Stands r
  stands q (Collecting c ts) behind s v k on d e f h = absurd (cc)
  stands q (Prepare c ts) behind s v k on d e f h = absurd (cc)
  stands q (Commit c ts) behind s v k on d e f h = absurd (cc)
  stands q (Abort c ts) behind s v k on d e f h = absurd (cc)
  stands q (End c rep) behind s v k on d e f h = absurd (cc)
  stands q (Cleared c) behind s v k on d e f h = absurd (cc)
  stands q (Opened n) behind s v k on d e f h = true_is_false (sym on)
  stands q (BaseRecord n) behind s v k on d e f h = true_is_false (sym on)
  stands q (PairRecord j w) behind s v k on d e f h = true_is_false (sym on)
  stands q (Prepared b ws) behind s v k on d e f h = tt
  stands q (HeurCommit b) behind s v k on d e f h = tt
  stands q (HeurRollback b) behind s v k on d e f h = tt
  stands q (ToldRecord b o) behind s v k on d e f h = tt
  stands q (Committed b) behind s v k on d e f h =
      never_stays (name_xid q b) (record { entry = Committed b; parent = q }) behind v
      (ap (stays_by all behind) (named_as q b)) on e
      (gone (name_xid q b) s v d (live_as _ v (taken (is_open (found s (name_xid q b))) _ v f).1)) h
  stands q (RolledBack b) behind s v k on d e f h =
      never_stays (name_xid q b) (record { entry = RolledBack b; parent = q }) behind v
      (ap (stays_by all behind) (named_as q b)) on e
      (gone (name_xid q b) s v d (live_as _ v (taken (is_open (found s (name_xid q b))) _ v f).1)) h
  stands q (Forgot b) behind s v k on d e f h =
      never_stays (name_xid q b) (record { entry = Forgot b; parent = q }) behind v
      (ap (stays_by all behind) (named_as q b)) on e
      (gone (name_xid q b) s v d (live_as _ v (taken (is_heuristic (found s (name_xid q b))) _ v f).1)) h
  stands q (Direct b ws) behind s v k on d e f h =
      let made = refused (is_some (found s (name_xid q b))) _ v f in
      never_stays (name_xid q b) (record { entry = Direct b ws; parent = q }) behind v
      (ap (stays_by all behind) (named_as q b)) on e
      (ap (λ (es : Live). is_some (lookup (same (name_xid q b)) es)) (live_as _ v made.1) ∙ made.0) h

  all_stand : (behind : List LogRecord) (s : SeenLog)
      → AllByRecursion (λ l. is_managers l.entry ≡ true) behind
      → IsDistinct same (keys_of s.live) → seen_after (Some s) behind ≡ Some u
      → AllByRecursion (λ l. Stands l.entry) (staying all behind)
  unfolding seen_after staying
  all_stand [] s k d h = tt
  all_stand (l ∷ ls) s k d h = by_after (after s l) refl h (λ v e g.
      let step = steps_after s v l e in
      let distinct = distinct_after s v l.parent l.entry step d in
      by_stay v (stays all ls l) refl distinct (followed_by s v l e).1 g (all_stand ls v k.1 distinct g))
    where
      Goal : Type 0
      Goal = AllByRecursion (λ k. Stands k.entry)
          (cond (stays all ls l) (l ∷ staying all ls) (staying all ls))

      by_stay : (v : SeenLog) (b : Bool) → stays all ls l ≡ b → IsDistinct same (keys_of v.live)
          → followed s l.parent l.entry ≡ Some v → seen_after (Some v) ls ≡ Some u
          → AllByRecursion (λ k. Stands k.entry) (staying all ls)
          → AllByRecursion (λ k. Stands k.entry) (cond (stays all ls l) (l ∷ staying all ls) (staying all ls))
      by_stay v true on e f g rest =
          subst (λ b. AllByRecursion (λ k. Stands k.entry) (cond b (l ∷ staying all ls) (staying all ls)))
          (sym on)
          (stands l.parent l.entry ls s v k.0 on d e f g, rest)
      by_stay v false off e f g rest =
          subst (λ b. AllByRecursion (λ k. Stands k.entry) (cond b (l ∷ staying all ls) (staying all ls)))
          (sym off)
          rest

      by_after : (o : Option SeenLog) → after s l ≡ o → seen_after o ls ≡ Some u
          → ((v : SeenLog) → after s l ≡ Some v → seen_after (Some v) ls ≡ Some u
          → AllByRecursion (λ k. Stands k.entry) (cond (stays all ls l) (l ∷ staying all ls)
          (staying all ls)))
          → AllByRecursion (λ k. Stands k.entry) (cond (stays all ls l) (l ∷ staying all ls) (staying all ls))
      by_after None e g more = absurd (never_seen ls u g)
      by_after (Some v) e g more = more v e g

-- How many branches are heuristic.

abbrev pub shut : Live → ℕ
shut [] = 0
shut (e ∷ es) = cond (opens e.1.mark) (shut es) (suc (shut es))

shut_few : (es : Live) → shut es ≤ length es
shut_few [] = omega arith
shut_few (e ∷ es) = by_test (opens e.1.mark) (shut_few es)
  where
    by_test : (b : Bool) → shut es ≤ length es → cond b (shut es) (suc (shut es)) ≤ suc (length es)
    by_test true h = omega (arith, h)
    by_test false h = omega (arith, h)

-- a branch promises
shut_new : (x : Xid) (ws : List Write) (es : Live) → is_some (lookup (same x) es) ≡ false
    → shut (insert_entry same es x (record { mark = Open; writes = ws })) ≡ shut es
shut_new x ws [] off = refl
shut_new x ws (e ∷ es) off = by_test (same x e.0) off (shut_new x ws es)
  where
    by_test : (b : Bool) → is_some (cond b (Some e.1) (lookup (same x) es)) ≡ false
        → (is_some (lookup (same x) es) ≡ false
        → shut (insert_entry same es x (record { mark = Open; writes = ws })) ≡ shut es)
        → shut (cond b ((e.0, record { mark = Open; writes = ws }) ∷ es)
        (e ∷ insert_entry same es x (record { mark = Open; writes = ws }))) ≡ shut (e ∷ es)
    by_test true h more = absurd (cc)
    by_test false h more = ap (λ n. cond (opens e.1.mark) n (suc n)) (more h)

-- an operator decides an open branch
shut_more : (x : Xid) (k : DoubtMark) (es : Live) → opens k ≡ false → is_open (lookup (same x) es) ≡ true
    → shut (insert_entry same es x (record { mark = k; writes = [] })) ≡ suc (shut es)
shut_more x k [] off h = absurd (cc)
shut_more x k (e ∷ es) off h = by_test (same x e.0) h (shut_more x k es off)
  where
    step : (b : Bool) (n : ℕ) → cond b (suc n) (suc (suc n)) ≡ suc (cond b n (suc n))
    step true n = refl
    step false n = refl

    by_test : (b : Bool) → is_open (cond b (Some e.1) (lookup (same x) es)) ≡ true
        → (is_open (lookup (same x) es) ≡ true
        → shut (insert_entry same es x (record { mark = k; writes = [] })) ≡ suc (shut es))
        → shut (cond b ((e.0, record { mark = k; writes = [] }) ∷ es)
        (e ∷ insert_entry same es x (record { mark = k; writes = [] }))) ≡ suc (shut (e ∷ es))
    by_test true was more =
        ap (λ b. cond b (shut es) (suc (shut es))) off
        ∙ ap suc (sym (ap (λ b. cond b (shut es) (suc (shut es))) was))
    by_test false was more =
        ap (λ n. cond (opens e.1.mark) n (suc n)) (more was) ∙ step (opens e.1.mark) (shut es)

-- a branch that is known is told
shut_same : (x : Xid) (k : DoubtMark) (es : Live) → opens k ≡ false
    → shut es ≤ shut (insert_entry same es x (record { mark = k; writes = [] }))
shut_same x k [] off = omega arith
shut_same x k (e ∷ es) off = by_test (same x e.0) (shut_same x k es off)
  where
    one : (b : Bool) → cond b (shut es) (suc (shut es)) ≤ suc (shut es)
    one true = omega arith
    one false = omega arith

    more : (b : Bool) (n : ℕ) → shut es ≤ n → cond b (shut es) (suc (shut es)) ≤ cond b n (suc n)
    more true n h = h
    more false n h = omega (arith, h)

    by_test : (b : Bool) → shut es ≤ shut (insert_entry same es x (record { mark = k; writes = [] }))
        → shut (e ∷ es) ≤ shut (cond b ((e.0, record { mark = k; writes = [] }) ∷ es)
        (e ∷ insert_entry same es x (record { mark = k; writes = [] })))
    by_test true h = subst (λ n. shut (e ∷ es) ≤ n)
        (sym (ap (λ b. cond b (shut es) (suc (shut es))) off)) (one (opens e.1.mark))
    by_test false h = more (opens e.1.mark)
        (shut (insert_entry same es x (record { mark = k; writes = [] }))) h

-- The commits of records that leave their branches known.

-- the data count no more commits than branches are heuristic
abbrev pub AreWithin : Data → SeenLog → Type 0
AreWithin d t = d.count ≤ shut t.live

first_off : (a b c e : Bool) → (not a && b && c && e) ≡ true → a ≡ false
first_off false b c e h = refl
first_off true b c e h = absurd (cc)

within_after : (q : Option ProcessId) (r : Record) (d : Data) (t v : SeenLog) → Stands r → AreWithin d t
    → followed t q r ≡ Some v → AreWithin (stored_after d (by_xid (record { entry = r; parent = q }))) v
within_after q (Prepared b ws) d t v stand few f =
    let made = taken (not (is_some (found t (name_xid q b))) && nat_lt (length t.live) 1024 && keys_once ws
    && keys_free (promises t) ws) _ v f in
    let off = first_off (is_some (found t (name_xid q b))) (nat_lt (length t.live) 1024) (keys_once ws)
    (keys_free (promises t) ws) made.0 in
    let same_live = ap (λ (k : SeenLog). shut k.live) made.1 in
    let stays = shut_new (name_xid q b) ws t.live off in
    omega (arith, same_live, stays, few)
within_after q (HeurCommit b) d t v stand few f =
    let made = taken (is_open (found t (name_xid q b))) _ v f in
    let same_live = ap (λ (k : SeenLog). shut k.live) made.1 in
    let more = shut_more (name_xid q b) Decided t.live refl made.0 in
    omega (arith, same_live, more, few)
within_after q (HeurRollback b) d t v stand few f =
    let made = taken (is_open (found t (name_xid q b))) _ v f in
    let same_live = ap (λ (k : SeenLog). shut k.live) made.1 in
    let more = shut_more (name_xid q b) Decided t.live refl made.0 in
    omega (arith, same_live, more, few)
within_after q (ToldRecord b o) d t v stand few f =
    let made = taken (is_untold (found t (name_xid q b))) _ v f in
    let same_live = ap (λ (k : SeenLog). shut k.live) made.1 in
    let stays = shut_same (name_xid q b) Told t.live refl in
    omega (arith, same_live, stays, few)
within_after q (Opened n) d t v stand few f = absurd stand
within_after q (Collecting c ts) d t v stand few f = absurd stand
within_after q (Prepare c ts) d t v stand few f = absurd stand
within_after q (Commit c ts) d t v stand few f = absurd stand
within_after q (Abort c ts) d t v stand few f = absurd stand
within_after q (End c rep) d t v stand few f = absurd stand
within_after q (Cleared c) d t v stand few f = absurd stand
within_after q (Committed b) d t v stand few f = absurd stand
within_after q (RolledBack b) d t v stand few f = absurd stand
within_after q (Direct b ws) d t v stand few f = absurd stand
within_after q (Forgot b) d t v stand few f = absurd stand
within_after q (BaseRecord n) d t v stand few f = absurd stand
within_after q (PairRecord k w) d t v stand few f = absurd stand

within_far : (d : Data) (t : SeenLog) → AreWithin d t → AreFew t → d.count < 2 ^ 63
within_far d t within few =
    let most = shut_few t.live in
    omega (arith, within, few, most)

counts_staying : (ls : List LogRecord) (t w : SeenLog) (d : Data) → AllByRecursion (λ l. Stands l.entry) ls
    → AreWithin d t → AreFew t → seen_after (Some t) ls ≡ Some w → CountsFrom d (map by_xid ls)
unfolding seen_after
counts_staying [] t w d stand within few h = within_far d t within few
counts_staying (l ∷ ls) t w d stand within few h = by_after (after t l) refl h (λ v e g. (
  within_far d t within few,
  counts_staying ls v w (stored_after d (by_xid l)) stand.1
      (within_after l.parent l.entry d t v stand.0 within (followed_by t v l e).1) (few_after t v l few e) g,
))
  where
    by_after : (o : Option SeenLog) → after t l ≡ o → seen_after o ls ≡ Some w
        → ((v : SeenLog) → after t l ≡ Some v → seen_after (Some v) ls ≡ Some w
        → (d.count < 2 ^ 63) × CountsFrom (stored_after d (by_xid l)) (map by_xid ls))
        → (d.count < 2 ^ 63) × CountsFrom (stored_after d (by_xid l)) (map by_xid ls)
    by_after None e g more = absurd (never_seen ls w g)
    by_after (Some v) e g more = more v e g

-- The boot in front, and the data after.

boot_counts : (q : Option ProcessId) (r : Record) → is_opened r ≡ true
    → AreCountedCommits (record { entry = r; parent = q } ∷ [])
    × (data_of (record { entry = r; parent = q } ∷ []) ≡ no_data)
unfolding stored
boot_counts q (Opened n) h = ((omega arith, omega arith), refl)
boot_counts q (Collecting c ts) h = absurd (cc)
boot_counts q (Prepare c ts) h = absurd (cc)
boot_counts q (Commit c ts) h = absurd (cc)
boot_counts q (Abort c ts) h = absurd (cc)
boot_counts q (End c rep) h = absurd (cc)
boot_counts q (Cleared c) h = absurd (cc)
boot_counts q (Prepared b ws) h = absurd (cc)
boot_counts q (Committed b) h = absurd (cc)
boot_counts q (RolledBack b) h = absurd (cc)
boot_counts q (Direct b ws) h = absurd (cc)
boot_counts q (HeurCommit b) h = absurd (cc)
boot_counts q (HeurRollback b) h = absurd (cc)
boot_counts q (ToldRecord b o) h = absurd (cc)
boot_counts q (Forgot b) h = absurd (cc)
boot_counts q (BaseRecord n) h = absurd (cc)
boot_counts q (PairRecord k v) h = absurd (cc)

pairs_count : (d : Data) (ps : List (List ℕ × List ℕ)) → d.count < 2 ^ 63
    → CountsFrom d (map by_xid (map unnamed (map pair_record ps)))
pairs_count d [] h = h
pairs_count d (p ∷ ps) h = (h, pairs_count (stored_after d (pair_record p)) ps h)

base_counts : (d whole : Data) → d.count < 2 ^ 63 → whole.count < 2 ^ 63
    → CountsFrom d (map by_xid (map unnamed (base_records whole)))
base_counts d whole h fits = (h, pairs_count (stored_after d (BaseRecord whole.count)) whole.pairs fits)

none_distinct : IsDistinct same (keys_of nothing_seen.live)
unfolding IsDistinct
none_distinct = tt

few_none : (t : SeenLog) → t.live ≡ [] → AreFew t
few_none t none = subst (λ (es : Live). length es ≤ 1024) (sym none) (omega arith)

within_none : (t : SeenLog) → AreWithin no_data t
within_none t = omega arith

-- the data of each front of what a trim leaves count fewer than 2^63 commits, where those of the records do
pub trim_counts : (ls : List LogRecord) (u : SeenLog) → AllByRecursion (λ l. is_managers l.entry ≡ true) ls
    → has_records ls ≡ true → seen_of ls ≡ Some u → AreCountedCommits ls → AreCountedCommits (trim_of ls)
unfolding front_of_trim
trim_counts ls u m some h counted =
    let boot = boot_in_front ls u some h in
    let first = subst Booted (sym boot.one) (booted boot.record_is.parent boot.record_is.entry boot.opens) in
    let stay = trails_from ls ls nothing_seen u first.seen m
    (record { live = first.none; opened = first.opened })
    h in
    let begun = boot_counts boot.record_is.parent boot.record_is.entry boot.opens in
    let stand = all_stand ls u m h ls nothing_seen m none_distinct h in
    let front = counted_more (last_opened ls) (staying ls ls) (subst AreCountedCommits (sym boot.one) begun.0)
    (subst (λ d. CountsFrom d (map by_xid (staying ls ls))) (sym (ap data_of boot.one ∙ begun.1))
    (counts_staying (staying ls ls) first.seen stay.seen no_data stand (within_none first.seen)
    (few_none first.seen first.none) stay.read)) in
    counted_more (last_opened ls ++ staying ls ls) (map unnamed (base_records (data_of ls))) front
    (base_counts (data_of (last_opened ls ++ staying ls ls)) (data_of ls)
    (counted_whole (last_opened ls ++ staying ls ls) front) (counted_whole ls counted))
