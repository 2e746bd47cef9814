-- Records that may follow one another are in order by the marks that they leave.
use Rattle.std.proofs.Common.{◌≡◌, ◌≤◌, ◌∙◌, ℕ, Bool, true, false, not, ◌&&◌, ◌||◌, cond, List, [], ◌∷◌, ◌++◌, append_assoc, Option, Some, None, map, refl, sym, ap, subst, is_some, nat_lt, length, arith}
use Rattle.std.proofs.lemmas.Bool.Decides.{nat_tests}
use Rattle.xa_tables.specs.declared.states.BranchState.TheVariants.{S0, S5}
use Rattle.protocol.specs.declared.names.ProcessId.{ProcessId}
use Rattle.protocol.specs.declared.records.LogRecord.{LogRecord}
use Rattle.protocol.specs.declared.records.Record.{Record}
use Rattle.protocol.specs.declared.records.Record.TheVariants.{Opened, Collecting, Prepare, Commit, Abort, End, Prepared, Committed, RolledBack, Direct, HeurCommit, HeurRollback, Forgot, Base, Pair, Cleared}
use Rattle.protocol_words.specs.Variants.{ToldRecord}
use Rattle.protocol.specs.LogNames.{name_xid}
use Rattle.protocol.specs.Records.{boot_of, is_opened}
use Rattle.protocol.specs.Standings.{mark_at}
use Rattle.log_rules.specs.declared.order.seen.DoubtMark.{DoubtMark}
use Rattle.log_rules.specs.declared.order.seen.DoubtMark.TheVariants.{Open, Decided, Told}
use Rattle.log_rules.specs.declared.order.seen.Promise.{Promise}
use Rattle.log_rules.specs.order.Orders.{SeenLog, after, boot_rises, followed, found, is_open, is_untold, keys_free, keys_once, promises}
use Rattle.kv_state.specs.Replays.{seen_of}
use Rattle.resource_manager.specs.Orders.{AreInOrder, MayFollow}
use Rattle.kv_manager.specs.Sights.{are_ordered}
use Rattle.kv_manager.proofs.Fronts.{ordered_front, seen_one, seen_where}
use Rattle.kv_manager.proofs.Marks.{Agrees, agrees_of, boot_is, state_by}
use Rattle.kv_manager.proofs.Ordered.{open_three}

made_if : {A : Type 0} (b : Bool) (u : A) → is_some (cond b (Some u) None) ≡ true → b ≡ true
made_if true u h = refl
made_if false u h = absurd (cc)

first_of : (a b c d : Bool) → (a && b && c && d) ≡ true → a ≡ true
first_of true b c d h = refl
first_of false b c d h = absurd (cc)

not_known : (o : Option Promise) → not (is_some o) ≡ true → state_by o ≡ S0
not_known None h = refl
not_known (Some p) h = absurd (cc)

untold_five : (o : Option Promise) → is_untold o ≡ true → state_by o ≡ S5
untold_five None h = absurd (cc)
untold_five (Some p) h = by_mark p.mark h
  where
    by_mark : (m : DoubtMark) → is_untold (Some (record { mark = m; writes = p.writes })) ≡ true
        → state_by (Some (record { mark = m; writes = p.writes })) ≡ S5
    by_mark Open e = absurd (cc)
    by_mark Decided e = refl
    by_mark Told e = absurd (cc)

not_below : (o : Option ℕ) (n : ℕ) → boot_rises o n ≡ true → boot_is o ≤ n
not_below None n h = omega arith
not_below (Some b) n h = grind (arith, nat_tests, h)

module _ (ls : List LogRecord) (s : SeenLog) (q : Option ProcessId)
    (a : Agrees s (mark_at ls) (boot_of (map (λ l. l.entry) ls))) where
  by_record : (r : Record) → is_some (followed s q r) ≡ true → MayFollow ls (record { entry = r; parent = q })
  by_record (Opened n) h = subst (λ b. b ≤ n) a.last (not_below s.boot n (made_if (boot_rises s.boot n) _ h))
  by_record (Prepared b ws) h =
      let k = name_xid q b in
      let all = made_if (not (is_some (found s k)) && nat_lt (length s.live) 1024 && keys_once ws
      && keys_free (promises s) ws) _ h in
      sym (a.states k) ∙ not_known (found s k)
      (first_of (not (is_some (found s k))) (nat_lt (length s.live) 1024)
      (keys_once ws) (keys_free (promises s) ws) all)
  by_record (HeurCommit b) h =
      let k = name_xid q b in
      sym (a.states k) ∙ open_three (found s k) (made_if (is_open (found s k)) _ h)
  by_record (HeurRollback b) h =
      let k = name_xid q b in
      sym (a.states k) ∙ open_three (found s k) (made_if (is_open (found s k)) _ h)
  by_record (ToldRecord b o) h =
      let k = name_xid q b in
      sym (a.states k) ∙ untold_five (found s k) (made_if (is_untold (found s k)) _ h)
  by_record (Collecting c ts) h = tt
  by_record (Prepare c ts) h = tt
  by_record (Commit c ts) h = tt
  by_record (Abort c ts) h = tt
  by_record (End c rep) h = tt
  by_record (Cleared c) h = tt
  by_record (Committed b) h = tt
  by_record (RolledBack b) h = tt
  by_record (Direct b ws) h = tt
  by_record (Forgot b) h = tt
  by_record (Base n) h = tt
  by_record (Pair k v) h = tt

may_follow : (ls : List LogRecord) (s : SeenLog) (l : LogRecord) → seen_of ls ≡ Some s
    → is_some (after s l) ≡ true → MayFollow ls l
unfolding after
may_follow ls s l read h = by_test (is_some s.boot) (is_opened l.entry) h
  where
    by_test : (b c : Bool) → is_some (cond (b || c) (followed s l.parent l.entry) None) ≡ true
        → MayFollow ls l
    by_test true c h = by_record ls s l.parent (agrees_of ls s read) l.entry h
    by_test false true h = by_record ls s l.parent (agrees_of ls s read) l.entry h
    by_test false false h = absurd (cc)

-- records that may follow one another are in order
pub in_order : (ls : List LogRecord) → are_ordered ls ≡ true → AreInOrder ls
in_order ls h front l rest is =
    let one : are_ordered (front ++ l ∷ []) ≡ true = ordered_front (front ++ l ∷ []) rest
    (ap are_ordered (append_assoc front (l ∷ []) rest ∙ sym is) ∙ h) in
    let seen = seen_where front (ordered_front front (l ∷ []) one) in
    may_follow front seen.0 l seen.1 (ap is_some (sym (seen_one front seen.0 l seen.1)) ∙ one)
