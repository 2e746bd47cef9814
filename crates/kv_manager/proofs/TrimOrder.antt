-- What a trim keeps of a manager's records may follow one another, and leaves no branch in doubt that was
-- not.
use Rattle.std.proofs.Common.{◌≡◌, ◌≤◌, ℕ, suc, Bool, true, false, not, ◌&&◌, ◌||◌, cond, fold, List, [], ◌∷◌, ◌++◌, Option, Some, None, option_map, map, refl, sym, ap, subst, ◌∙◌, is_some, nat_lt, length, arith}
use Rattle.std.proofs.lemmas.Bool.Decides.{nat_tests}
use Rattle.std.specs.List.{AllByRecursion, list_any}
use Rattle.std.specs.Map.{lookup, remove_entry}
use Rattle.indexmap.specs.IndexMap.{insert_entry}
use Rattle.xa_xid.specs.declared.xid.Xid.{Xid}
use Rattle.protocol.specs.declared.names.ProcessId.{ProcessId}
use Rattle.protocol.specs.declared.records.LogRecord.{LogRecord}
use Rattle.protocol.specs.declared.records.Record.{Record}
use Rattle.protocol.specs.declared.records.Record.TheVariants.{Opened, Collecting, Prepare, Commit, Abort, End, Prepared, Committed, RolledBack, Direct, HeurCommit, HeurRollback, Forgot, Cleared}
use Rattle.protocol_words.specs.Variants.{BaseRecord, CaseBranch, PairRecord, ToldRecord}
use Rattle.protocol.specs.declared.records.Write.{Write}
use Rattle.protocol.specs.declared.records.BranchName.{BranchName}
use Rattle.protocol.specs.declared.records.BranchName.TheVariants.{Foreign}
use Rattle.protocol.specs.LogNames.{name_by, name_xid, unnamed}
use Rattle.protocol.specs.Records.{branch_case, is_opened}
use Rattle.protocol.specs.Store.{base_records, data_of, pair_record}
use Rattle.log_rules.specs.declared.order.seen.Data.TheVariants.{Other, Base, Pair}
use Rattle.log_rules.specs.declared.order.seen.DoubtMark.TheVariants.{Open, Decided, Told}
use Rattle.log_rules.specs.declared.order.seen.Promise.{Promise}
use Rattle.log_rules.specs.order.Orders.{SeenLog, after, boot_rises, followed, found, holds, is_heuristic, is_open, is_untold, key_open, keys_free, keys_once, nothing_seen, prepared, promises, rises, same, with_data, with_promise, without_promise}
use Rattle.log_rules.specs.trim.Tables.{is_live, is_prepared, log_name}
use Rattle.log_rules.specs.trim.Trims.{front_of_trim, is_name, is_of, last_opened, opened_after, prepares, said_of, staying, stays, stays_by, trim_of}
use Rattle.kv_store.specs.Pairs.{is_behind, keys_rise}
use Rattle.kv_state.specs.Keeping.{is_managers}
use Rattle.kv_state.specs.Replays.{seen_after, seen_of}
use Rattle.kv_state.proofs.Lawful.{lawful_of, never_seen}
use Rattle.kv_state.proofs.Lookups.{Live, apart_turns, same_is, true_is_false}
use Rattle.kv_manager.specs.Sights.{has_records}
use Rattle.kv_manager.proofs.Fronts.{seen_more}
use Rattle.kv_manager.proofs.Steps.{followed_by, refused, some_is, taken}

-- The branches of names that stay.

abbrev pub kept_of : (Xid → Bool) → Live → Live
kept_of k [] = []
kept_of k (e ∷ es) = cond (k e.0) (e ∷ kept_of k es) (kept_of k es)

kept_same : (k j : Xid → Bool) → ((x : Xid) → k x ≡ j x) → (es : Live) → kept_of k es ≡ kept_of j es
kept_same k j one [] = refl
kept_same k j one (e ∷ es) = λ i. cond (one e.0 i) (e ∷ kept_same k j one es i) (kept_same k j one es i)

module _ (k : Xid → Bool) (x : Xid) where
  found_in : k x ≡ true → (es : Live) → lookup (same x) (kept_of k es) ≡ lookup (same x) es
  found_in on [] = refl
  found_in on (e ∷ es) = by_tests (k e.0) (same x e.0) refl refl (found_in on es)
    where
      by_tests : (a b : Bool) → k e.0 ≡ a → same x e.0 ≡ b
          → lookup (same x) (kept_of k es) ≡ lookup (same x) es
          → lookup (same x) (cond a (e ∷ kept_of k es) (kept_of k es))
          ≡ cond b (Some e.1) (lookup (same x) es)
      by_tests true true p q h = ap (λ c. cond c (Some e.1) (lookup (same x) (kept_of k es))) q
      by_tests true false p q h = ap (λ c. cond c (Some e.1) (lookup (same x) (kept_of k es))) q ∙ h
      by_tests false true p q h = true_is_false (sym on ∙ ap k (same_is x e.0 q) ∙ p)
      by_tests false false p q h = h

  not_found : (es : Live) → is_some (lookup (same x) es) ≡ false
      → is_some (lookup (same x) (kept_of k es)) ≡ false
  not_found [] off = refl
  not_found (e ∷ es) off = by_tests (k e.0) (same x e.0) refl off (not_found es)
    where
      by_tests : (a b : Bool) → same x e.0 ≡ b → is_some (cond b (Some e.1) (lookup (same x) es)) ≡ false
          → (is_some (lookup (same x) es) ≡ false → is_some (lookup (same x) (kept_of k es)) ≡ false)
          → is_some (lookup (same x) (cond a (e ∷ kept_of k es) (kept_of k es))) ≡ false
      by_tests a true q h more = absurd (cc)
      by_tests true false q h more =
          ap (λ c. is_some (cond c (Some e.1) (lookup (same x) (kept_of k es)))) q ∙ more h
      by_tests false false q h more = more h

  put_in : k x ≡ true → (p : Promise) (es : Live)
      → kept_of k (insert_entry same es x p) ≡ insert_entry same (kept_of k es) x p
  put_in on p [] = ap (λ a. cond a ((x, p) ∷ []) []) on
  put_in on p (e ∷ es) = by_tests (same x e.0) (k e.0) refl refl (put_in on p es)
    where
      by_tests : (b a : Bool) → same x e.0 ≡ b → k e.0 ≡ a
          → kept_of k (insert_entry same es x p) ≡ insert_entry same (kept_of k es) x p
          → kept_of k (cond b ((e.0, p) ∷ es) (e ∷ insert_entry same es x p))
          ≡ insert_entry same (cond a (e ∷ kept_of k es) (kept_of k es)) x p
      by_tests true true q r h =
          ap (λ c. cond c ((e.0, p) ∷ kept_of k es) (kept_of k es)) r
          ∙ sym (ap (λ c. cond c ((e.0, p) ∷ kept_of k es) (e ∷ insert_entry same (kept_of k es) x p)) q)
      by_tests true false q r h = true_is_false (sym on ∙ ap k (same_is x e.0 q) ∙ r)
      by_tests false true q r h =
          ap (λ c. cond c (e ∷ kept_of k (insert_entry same es x p)) (kept_of k (insert_entry same es x p))) r
          ∙ ap (λ fs. e ∷ fs) h
          ∙ sym (ap (λ c. cond c ((e.0, p) ∷ kept_of k es) (e ∷ insert_entry same (kept_of k es) x p)) q)
      by_tests false false q r h =
          ap (λ c. cond c (e ∷ kept_of k (insert_entry same es x p)) (kept_of k (insert_entry same es x p))) r
          ∙ h

  put_off : k x ≡ false → (p : Promise) (es : Live) → kept_of k (insert_entry same es x p) ≡ kept_of k es
  put_off off p [] = ap (λ a. cond a ((x, p) ∷ []) []) off
  put_off off p (e ∷ es) = by_test (same x e.0) refl (put_off off p es)
    where
      by_test : (b : Bool) → same x e.0 ≡ b → kept_of k (insert_entry same es x p) ≡ kept_of k es
          → kept_of k (cond b ((e.0, p) ∷ es) (e ∷ insert_entry same es x p)) ≡ kept_of k (e ∷ es)
      by_test true q h =
          let gone : k e.0 ≡ false = ap k (sym (same_is x e.0 q)) ∙ off in
          ap (λ c. cond c ((e.0, p) ∷ kept_of k es) (kept_of k es)) gone
          ∙ sym (ap (λ c. cond c (e ∷ kept_of k es) (kept_of k es)) gone)
      by_test false q h = ap (λ (fs : Live). cond (k e.0) (e ∷ fs) fs) h

  out_in : k x ≡ true → (es : Live)
      → kept_of k (remove_entry (same x) es) ≡ remove_entry (same x) (kept_of k es)
  out_in on [] = refl
  out_in on (e ∷ es) = by_tests (same x e.0) (k e.0) refl refl (out_in on es)
    where
      by_tests : (b a : Bool) → same x e.0 ≡ b → k e.0 ≡ a
          → kept_of k (remove_entry (same x) es) ≡ remove_entry (same x) (kept_of k es)
          → kept_of k (cond b es (e ∷ remove_entry (same x) es))
          ≡ remove_entry (same x) (cond a (e ∷ kept_of k es) (kept_of k es))
      by_tests true true q r h =
          sym (ap (λ c. cond c (kept_of k es) (e ∷ remove_entry (same x) (kept_of k es))) q)
      by_tests true false q r h = true_is_false (sym on ∙ ap k (same_is x e.0 q) ∙ r)
      by_tests false true q r h =
          ap (λ c. cond c (e ∷ kept_of k (remove_entry (same x) es)) (kept_of k (remove_entry (same x) es))) r
          ∙ ap (λ fs. e ∷ fs) h
          ∙ sym (ap (λ c. cond c (kept_of k es) (e ∷ remove_entry (same x) (kept_of k es))) q)
      by_tests false false q r h =
          ap (λ c. cond c (e ∷ kept_of k (remove_entry (same x) es)) (kept_of k (remove_entry (same x) es))) r
          ∙ h

  out_off : k x ≡ false → (es : Live) → kept_of k (remove_entry (same x) es) ≡ kept_of k es
  out_off off [] = refl
  out_off off (e ∷ es) = by_test (same x e.0) refl (out_off off es)
    where
      by_test : (b : Bool) → same x e.0 ≡ b → kept_of k (remove_entry (same x) es) ≡ kept_of k es
          → kept_of k (cond b es (e ∷ remove_entry (same x) es)) ≡ kept_of k (e ∷ es)
      by_test true q h =
          sym (ap (λ c. cond c (e ∷ kept_of k es) (kept_of k es)) (ap k (sym (same_is x e.0 q)) ∙ off))
      by_test false q h = ap (λ (fs : Live). cond (k e.0) (e ∷ fs) fs) h

fewer_kept : (k : Xid → Bool) (es : Live) → length (kept_of k es) ≤ length es
fewer_kept k [] = omega arith
fewer_kept k (e ∷ es) = by_test (k e.0) (fewer_kept k es)
  where
    by_test : (b : Bool) → length (kept_of k es) ≤ length es
        → length (cond b (e ∷ kept_of k es) (kept_of k es)) ≤ suc (length es)
    by_test true h = omega (arith, h)
    by_test false h = omega (arith, h)

neither : (a b : Bool) → (a || b) ≡ false → (a ≡ false) × (b ≡ false)
neither false false h = (refl, refl)
neither false true h = absurd (cc)
neither true b h = absurd (cc)

shut_kept : (k : Xid → Bool) (es : Live) (key : List ℕ) → key_open (map (λ e. e.1) es) key ≡ false
    → key_open (map (λ e. e.1) (kept_of k es)) key ≡ false
unfolding key_open
shut_kept k [] key h = refl
shut_kept k (e ∷ es) key h =
    let parts = neither (holds e.1 key) (key_open (map (λ e. e.1) es) key) h in
    by_test (k e.0) parts.0 (shut_kept k es key parts.1)
  where
    by_test : (b : Bool) → holds e.1 key ≡ false → key_open (map (λ e. e.1) (kept_of k es)) key ≡ false
        → key_open (map (λ e. e.1) (cond b (e ∷ kept_of k es) (kept_of k es))) key ≡ false
    by_test true own h = ap (λ c. c || key_open (map (λ e. e.1) (kept_of k es)) key) own ∙ h
    by_test false own h = h

free_kept : (k : Xid → Bool) (es : Live) (ws : List Write) → keys_free (map (λ e. e.1) es) ws ≡ true
    → keys_free (map (λ e. e.1) (kept_of k es)) ws ≡ true
unfolding keys_free
free_kept k es [] h = refl
free_kept k es (w ∷ ws) h = by_parts (key_open (map (λ e. e.1) es) w.key) refl h (free_kept k es ws)
  where
    by_parts : (b : Bool) → key_open (map (λ e. e.1) es) w.key ≡ b
        → (not b && keys_free (map (λ e. e.1) es) ws) ≡ true
        → (keys_free (map (λ e. e.1) es) ws ≡ true → keys_free (map (λ e. e.1) (kept_of k es)) ws ≡ true)
        → (not (key_open (map (λ e. e.1) (kept_of k es)) w.key)
        && keys_free (map (λ e. e.1) (kept_of k es)) ws) ≡ true
    by_parts true q g more = absurd (cc)
    by_parts false q g more =
        ap (λ c. not c && keys_free (map (λ e. e.1) (kept_of k es)) ws) (shut_kept k es w.key q) ∙ more g

-- Record by record.

-- the name stays with these records after it
abbrev pub keeps_name : List LogRecord → List LogRecord → Xid → Bool
keeps_name all behind x = stays_by all behind (Some x)

-- what was seen of the records that stay trails what was seen of all
pub record Trails (all behind : List LogRecord) (s t : SeenLog) : Type 0 where
  pub live : t.live ≡ kept_of (keeps_name all behind) s.live
  pub opened : is_some t.boot ≡ true

-- the next record stays and may follow, or it does not stay
data Next (all behind : List LogRecord) (l : LogRecord) (u t : SeenLog) : Type 0 where
  Goes : stays all behind l ≡ true → (v : SeenLog) → followed t l.parent l.entry ≡ Some v
      → Trails all behind u v → Next all behind l u t
  Skips : stays all behind l ≡ false → Trails all behind u t → Next all behind l u t

and_false : (b : Bool) → (b && false) ≡ false
and_false true = refl
and_false false = refl

-- a record that is no promise leaves the names that stay
names_stay : (all behind : List LogRecord) (l : LogRecord) → is_prepared l.entry ≡ false
    → (x : Xid) → keeps_name all (l ∷ behind) x ≡ keeps_name all behind x
names_stay all behind l plain x =
    let none : prepares x l ≡ false = ap (λ b. is_of x l && b) plain ∙ and_false (is_of x l) in
    λ i. is_live (said_of x all) && not (none i || list_any (prepares x) behind)

-- a promise leaves the others
others_stay : (all behind : List LogRecord) (l : LogRecord) (x y : Xid) → log_name l ≡ Some x
    → same x y ≡ false → keeps_name all (l ∷ behind) y ≡ keeps_name all behind y
others_stay all behind l x y is apart =
    let none : prepares y l ≡ false = ap (λ o. is_name y o && is_prepared l.entry) is
    ∙ ap (λ b. b && is_prepared l.entry) (apart_turns x y apart) in
    λ i. is_live (said_of y all) && not (none i || list_any (prepares y) behind)

kept_apart : (k j : Xid → Bool) (x : Xid) → ((y : Xid) → same x y ≡ false → k y ≡ j y) → (es : Live)
    → is_some (lookup (same x) es) ≡ false → kept_of k es ≡ kept_of j es
kept_apart k j x one [] off = refl
kept_apart k j x one (e ∷ es) off = by_test (same x e.0) refl off (kept_apart k j x one es)
  where
    by_test : (b : Bool) → same x e.0 ≡ b → is_some (cond b (Some e.1) (lookup (same x) es)) ≡ false
        → (is_some (lookup (same x) es) ≡ false → kept_of k es ≡ kept_of j es)
        → kept_of k (e ∷ es) ≡ kept_of j (e ∷ es)
    by_test true q h more = absurd (cc)
    by_test false q h more = λ i. cond (one e.0 q i) (e ∷ more h i) (more h i)

four : (a b c e : Bool) → a ≡ false → b ≡ true → c ≡ true → e ≡ true → (not a && b && c && e) ≡ true
four a b c e p q r u = λ i. not (p i) && q i && r i && u i

fours : (a b c e : Bool) → (not a && b && c && e) ≡ true
    → (a ≡ false) × (b ≡ true) × (c ≡ true) × (e ≡ true)
fours false true true true h = (refl, refl, refl, refl)
fours false true true false h = absurd (cc)
fours false true false e h = absurd (cc)
fours false false c e h = absurd (cc)
fours true b c e h = absurd (cc)

module _ (all behind : List LogRecord) (l : LogRecord) (s u t : SeenLog)
    (live : t.live ≡ kept_of (keeps_name all behind) s.live) (opened : is_some t.boot ≡ true) where
  keeps : Xid → Bool
  keeps = keeps_name all behind

  -- a record without a name is of no branch
  skips : stays all behind l ≡ false → u.live ≡ s.live → Next all behind l u t
  unfolding keeps
  skips never same = Skips never (record { live = live ∙ ap (kept_of keeps) (sym same); opened = opened })

  module _ (x : Xid) (st : stays all behind l ≡ keeps_name all behind x) where
    found_so : keeps_name all behind x ≡ true → found t x ≡ found s x
    found_so on = ap (lookup (same x)) live ∙ found_in (keeps_name all behind) x on s.live

    goes_out : (c : Option Promise → Bool) → ((v : SeenLog) → followed v l.parent l.entry
        ≡ cond (c (found v x)) (Some (without_promise v x)) None)
        → followed s l.parent l.entry ≡ Some u → Next all behind l u t
    goes_out c row h = by_keeps (keeps_name all behind x) refl
      where
        made : (c (found s x) ≡ true) × (without_promise s x ≡ u)
        made = taken (c (found s x)) (without_promise s x) u (sym (row s) ∙ h)

        by_keeps : (b : Bool) → keeps_name all behind x ≡ b → Next all behind l u t
        by_keeps true on = Goes (st ∙ on) (without_promise t x)
            (row t ∙ ap (λ b. cond b (Some (without_promise t x)) None) (ap c (found_so on) ∙ made.0))
            (record {
              live = ap (remove_entry (same x)) live ∙ sym (out_in (keeps_name all behind) x on s.live)
                  ∙ ap (λ (v : SeenLog). kept_of (keeps_name all behind) v.live) made.1;
              opened = opened;
            })
        by_keeps false off = Skips (st ∙ off) (record {
          live = live ∙ sym (out_off (keeps_name all behind) x off s.live)
              ∙ ap (λ (v : SeenLog). kept_of (keeps_name all behind) v.live) made.1;
          opened = opened;
        })

    goes_on : (c : Option Promise → Bool) (p : Promise) → ((v : SeenLog) → followed v l.parent l.entry
        ≡ cond (c (found v x)) (Some (with_promise v x p)) None)
        → followed s l.parent l.entry ≡ Some u → Next all behind l u t
    goes_on c p row h = by_keeps (keeps_name all behind x) refl
      where
        made : (c (found s x) ≡ true) × (with_promise s x p ≡ u)
        made = taken (c (found s x)) (with_promise s x p) u (sym (row s) ∙ h)

        by_keeps : (b : Bool) → keeps_name all behind x ≡ b → Next all behind l u t
        by_keeps true on = Goes (st ∙ on) (with_promise t x p)
            (row t ∙ ap (λ b. cond b (Some (with_promise t x p)) None) (ap c (found_so on) ∙ made.0))
            (record {
              live = ap (λ es. insert_entry same es x p) live
                  ∙ sym (put_in (keeps_name all behind) x on p s.live)
                  ∙ ap (λ (v : SeenLog). kept_of (keeps_name all behind) v.live) made.1;
              opened = opened;
            })
        by_keeps false off = Skips (st ∙ off) (record {
          live = live ∙ sym (put_off (keeps_name all behind) x off p s.live)
              ∙ ap (λ (v : SeenLog). kept_of (keeps_name all behind) v.live) made.1;
          opened = opened;
        })

    goes_by : ((v : SeenLog) → followed v l.parent l.entry
        ≡ cond (is_some (found v x)) None (Some (with_data v Other)))
        → followed s l.parent l.entry ≡ Some u → Next all behind l u t
    goes_by row h = by_keeps (keeps_name all behind x) refl
      where
        made : (is_some (found s x) ≡ false) × (with_data s Other ≡ u)
        made = refused (is_some (found s x)) (with_data s Other) u (sym (row s) ∙ h)

        by_keeps : (b : Bool) → keeps_name all behind x ≡ b → Next all behind l u t
        by_keeps true on = Goes (st ∙ on) (with_data t Other)
            (row t ∙ ap (λ b. cond b None (Some (with_data t Other))) (ap is_some (found_so on) ∙ made.0))
            (record {
              live = live ∙ ap (λ (v : SeenLog). kept_of (keeps_name all behind) v.live) made.1;
              opened = opened;
            })
        by_keeps false off = Skips (st ∙ off) (record {
          live = live ∙ ap (λ (v : SeenLog). kept_of (keeps_name all behind) v.live) made.1;
          opened = opened;
        })

    promises_on : (ws : List Write) → ((v : SeenLog) → followed v l.parent l.entry ≡ prepared v x ws)
        → followed s l.parent l.entry ≡ Some u → Next all behind l u t
    promises_on ws row h = by_keeps (keeps_name all behind x) refl
      where
        p : Promise
        p = record { mark = Open; writes = ws }

        made : ((not (is_some (found s x)) && nat_lt (length s.live) 1024 && keys_once ws
            && keys_free (promises s) ws) ≡ true) × (with_promise s x
            (record { mark = Open; writes = ws }) ≡ u)
        made = taken (not (is_some (found s x)) && nat_lt (length s.live) 1024 && keys_once ws
            && keys_free (promises s) ws) (with_promise s x (record { mark = Open; writes = ws })) u
            (sym (row s) ∙ h)

        parts : (is_some (found s x) ≡ false) × (nat_lt (length s.live) 1024 ≡ true) × (keys_once ws ≡ true)
            × (keys_free (promises s) ws ≡ true)
        parts = fours (is_some (found s x)) (nat_lt (length s.live) 1024) (keys_once ws)
            (keys_free (promises s) ws) made.0

        room : nat_lt (length t.live) 1024 ≡ true
        room =
            let long = ap length live in
            let few = fewer_kept (keeps_name all behind) s.live in
            let some = parts.1 in
            grind (arith, nat_tests, long, few, some)

        free : keys_free (promises t) ws ≡ true
        free = ap (λ es. keys_free (map (λ e. e.1) es) ws) live
            ∙ free_kept (keeps_name all behind) s.live ws parts.3

        by_keeps : (b : Bool) → keeps_name all behind x ≡ b → Next all behind l u t
        by_keeps true on = Goes (st ∙ on) (with_promise t x (record { mark = Open; writes = ws }))
            (row t ∙ ap (λ b. cond b (Some (with_promise t x (record { mark = Open; writes = ws }))) None)
            (four (is_some (found t x)) (nat_lt (length t.live) 1024) (keys_once ws)
            (keys_free (promises t) ws) (ap is_some (found_so on) ∙ parts.0) room parts.2 free))
            (record {
              live = ap (λ es. insert_entry same es x (record { mark = Open; writes = ws })) live
                  ∙ sym (put_in (keeps_name all behind) x on (record { mark = Open; writes = ws }) s.live)
                  ∙ ap (λ (v : SeenLog). kept_of (keeps_name all behind) v.live) made.1;
              opened = opened;
            })
        by_keeps false off = Skips (st ∙ off) (record {
          live = live ∙ sym (put_off (keeps_name all behind) x off
              (record { mark = Open; writes = ws }) s.live)
              ∙ ap (λ (v : SeenLog). kept_of (keeps_name all behind) v.live) made.1;
          opened = opened;
        })

pub named_as : (q : Option ProcessId) (b : BranchName)
    → option_map (name_xid q) (name_by (branch_case b) (Some b)) ≡ Some (name_xid q b)
named_as q (CaseBranch c) = refl
named_as q (Foreign x) = refl

live_is : (a u : SeenLog) → a ≡ u → u.live ≡ a.live
live_is a u h = ap (λ (v : SeenLog). v.live) (sym h)

module _ (all behind : List LogRecord) (s u t : SeenLog) (q : Option ProcessId) where
  -- after a record that is no promise
  before : (r : Record) → is_prepared r ≡ false
      → Trails all (record { entry = r; parent = q } ∷ behind) s t
      → t.live ≡ kept_of (keeps_name all behind) s.live
  before r plain trails = trails.live ∙ kept_same _ (keeps_name all behind)
      (names_stay all behind (record { entry = r; parent = q }) plain) s.live

  next_by : (r : Record) → is_managers r ≡ true
      → Trails all (record { entry = r; parent = q } ∷ behind) s t → followed s q r ≡ Some u
      → Next all behind (record { entry = r; parent = q }) u t
  next_by (Collecting c ts) m trails h = absurd (cc)
  next_by (Prepare c ts) m trails h = absurd (cc)
  next_by (Commit c ts) m trails h = absurd (cc)
  next_by (Abort c ts) m trails h = absurd (cc)
  next_by (End c rep) m trails h = absurd (cc)
  next_by (Cleared c) m trails h = absurd (cc)
  next_by (Opened n) m trails h = skips all behind _ s u t (before (Opened n) refl trails) trails.opened refl
      (live_is _ u (taken (boot_rises s.boot n) _ u h).1)
  next_by (BaseRecord n) m trails h = skips all behind _ s u t
      (before (BaseRecord n) refl trails) trails.opened
      refl (live_is _ u (some_is _ u h))
  next_by (PairRecord k v) m trails h = skips all behind _ s u t (before (PairRecord k v) refl trails)
      trails.opened refl (live_is _ u (taken (rises s.before k) _ u h).1)
  next_by (Committed b) m trails h = goes_out all behind _ s u t (before (Committed b) refl trails)
      trails.opened (name_xid q b) (ap (stays_by all behind) (named_as q b)) is_open (λ v. refl) h
  next_by (RolledBack b) m trails h = goes_out all behind _ s u t (before (RolledBack b) refl trails)
      trails.opened (name_xid q b) (ap (stays_by all behind) (named_as q b)) is_open (λ v. refl) h
  next_by (Forgot b) m trails h = goes_out all behind _ s u t (before (Forgot b) refl trails)
      trails.opened (name_xid q b) (ap (stays_by all behind) (named_as q b)) is_heuristic (λ v. refl) h
  next_by (HeurCommit b) m trails h = goes_on all behind _ s u t (before (HeurCommit b) refl trails)
      trails.opened (name_xid q b) (ap (stays_by all behind) (named_as q b)) is_open
      (record { mark = Decided; writes = [] }) (λ v. refl) h
  next_by (HeurRollback b) m trails h = goes_on all behind _ s u t (before (HeurRollback b) refl trails)
      trails.opened (name_xid q b) (ap (stays_by all behind) (named_as q b)) is_open
      (record { mark = Decided; writes = [] }) (λ v. refl) h
  next_by (ToldRecord b o) m trails h = goes_on all behind _ s u t (before (ToldRecord b o) refl trails)
      trails.opened (name_xid q b) (ap (stays_by all behind) (named_as q b)) is_untold
      (record { mark = Told; writes = [] }) (λ v. refl) h
  next_by (Direct b ws) m trails h = goes_by all behind _ s u t (before (Direct b ws) refl trails)
      trails.opened (name_xid q b) (ap (stays_by all behind) (named_as q b)) (λ v. refl) h
  next_by (Prepared b ws) m trails h =
      let off = (fours (is_some (found s (name_xid q b))) (nat_lt (length s.live) 1024) (keys_once ws)
      (keys_free (promises s) ws) (taken (not (is_some (found s (name_xid q b)))
      && nat_lt (length s.live) 1024
      && keys_once ws && keys_free (promises s) ws) _ u h).0).0 in
      promises_on all behind _ s u t
      (trails.live ∙ kept_apart _ (keeps_name all behind) (name_xid q b)
      (λ y apart. others_stay all behind (record { entry = Prepared b ws; parent = q }) (name_xid q b) y
      (named_as q b) apart)
      s.live off) trails.opened (name_xid q b) (ap (stays_by all behind) (named_as q b)) ws (λ v. refl) h

after_opened : (t v : SeenLog) (l : LogRecord) → is_some t.boot ≡ true → followed t l.parent l.entry ≡ Some v
    → after t l ≡ Some v
unfolding after
after_opened t v l opened h =
    ap (λ b. cond (b || is_opened l.entry) (followed t l.parent l.entry) None) opened ∙ h

-- what is seen of the records that stay
pub record Trailing (all ls : List LogRecord) (u t : SeenLog) : Type 0 where
  pub seen : SeenLog
  pub read : seen_after (Some t) ls ≡ Some seen
  pub trails : Trails all [] u seen

pub trails_from : (all behind : List LogRecord) (s u t : SeenLog)
    → AllByRecursion (λ l. is_managers l.entry ≡ true) behind → Trails all behind s t
    → seen_after (Some s) behind ≡ Some u → Trailing all (staying all behind) u t
unfolding seen_after staying
trails_from all [] s u t m trails h = record {
  seen = t;
  read = refl;
  trails = subst (λ v. Trails all [] v t) (some_is s u h) trails;
}
trails_from all (l ∷ behind) s u t m trails h =
    by_after (after s l) refl h (λ v e g. by_next v (λ w. trails_from all behind v u w m.1)
    g (next_by all behind s v t l.parent l.entry m.0 trails (followed_by s v l e).1))
  where
    by_next : (v : SeenLog) → ((w : SeenLog) → Trails all behind v w → seen_after (Some v) behind ≡ Some u
        → Trailing all (staying all behind) u w)
        → seen_after (Some v) behind ≡ Some u → Next all behind l v t
        → Trailing all (cond (stays all behind l) (l ∷ staying all behind) (staying all behind)) u t
    by_next v more g (Goes on w e after_it) =
        let rest = more w after_it g in
        subst (λ b. Trailing all (cond b (l ∷ staying all behind) (staying all behind)) u t)
        (sym on) (record {
          seen = rest.seen;
          read = ap (λ o. seen_after o (staying all behind)) (after_opened t w l trails.opened e) ∙ rest.read;
          trails = rest.trails;
        })
    by_next v more g (Skips off after_it) =
        subst (λ b. Trailing all (cond b (l ∷ staying all behind) (staying all behind)) u t) (sym off)
        (more t after_it g)

    by_after : (o : Option SeenLog) → after s l ≡ o → seen_after o behind ≡ Some u
        → ((v : SeenLog) → after s l ≡ Some v → seen_after (Some v) behind ≡ Some u
        → Trailing all (cond (stays all behind l) (l ∷ staying all behind) (staying all behind)) u t)
        → Trailing all (cond (stays all behind l) (l ∷ staying all behind) (staying all behind)) u t
    by_after None e g more = absurd (never_seen behind u g)
    by_after (Some v) e g more = more v e g

-- The boot in front.

-- a list of one record, which is an Opened
pub record IsBoot (ls : List LogRecord) : Type 0 where
  pub record_is : LogRecord
  pub one : ls ≡ record_is ∷ []
  pub opens : is_opened record_is.entry ≡ true

boot_stays : (ls o : List LogRecord) → IsBoot o → IsBoot (fold opened_after o ls)
boot_stays [] o h = h
boot_stays (l ∷ ls) o h = boot_stays ls (opened_after o l) (by_test (is_opened l.entry) refl)
  where
    by_test : (b : Bool) → is_opened l.entry ≡ b → IsBoot (cond b (l ∷ []) o)
    by_test true e = record { record_is = l; one = refl; opens = e }
    by_test false e = h

pub boot_in_front : (ls : List LogRecord) (u : SeenLog) → has_records ls ≡ true → seen_of ls ≡ Some u
    → IsBoot (last_opened ls)
unfolding seen_after last_opened
boot_in_front [] u some h = absurd (cc)
boot_in_front (l ∷ ls) u some h = by_after (after nothing_seen l) refl h
  where
    by_after : (o : Option SeenLog) → after nothing_seen l ≡ o → seen_after o ls ≡ Some u
        → IsBoot (fold opened_after [] (l ∷ ls))
    by_after None e g = absurd (never_seen ls u g)
    by_after (Some v) e g =
        let opens : is_opened l.entry ≡ true = (followed_by nothing_seen v l e).0 in
        subst (λ b. IsBoot (fold opened_after (cond b (l ∷ []) []) ls)) (sym opens)
        (boot_stays ls (l ∷ []) (record { record_is = l; one = refl; opens = opens }))

-- what is seen of it
pub record Booted (ls : List LogRecord) : Type 0 where
  pub seen : SeenLog
  pub read : seen_of ls ≡ Some seen
  pub opened : is_some seen.boot ≡ true
  pub none : seen.live ≡ []

pub booted : (q : Option ProcessId) (r : Record) → is_opened r ≡ true
    → Booted (record { entry = r; parent = q } ∷ [])
unfolding seen_after after
booted q (Opened n) h = record { seen = _; read = refl; opened = refl; none = refl }
booted q (Collecting c ts) h = absurd (cc)
booted q (Prepare c ts) h = absurd (cc)
booted q (Commit c ts) h = absurd (cc)
booted q (Abort c ts) h = absurd (cc)
booted q (End c rep) h = absurd (cc)
booted q (Cleared c) h = absurd (cc)
booted q (Prepared b ws) h = absurd (cc)
booted q (Committed b) h = absurd (cc)
booted q (RolledBack b) h = absurd (cc)
booted q (Direct b ws) h = absurd (cc)
booted q (HeurCommit b) h = absurd (cc)
booted q (HeurRollback b) h = absurd (cc)
booted q (ToldRecord b o) h = absurd (cc)
booted q (Forgot b) h = absurd (cc)
booted q (BaseRecord n) h = absurd (cc)
booted q (PairRecord k v) h = absurd (cc)

-- The data after.

-- the pairs may follow, and leave the branches
record Paired (ps : List (List ℕ × List ℕ)) (v : SeenLog) : Type 0 where
  seen : SeenLog
  read : seen_after (Some v) (map unnamed (map pair_record ps)) ≡ Some seen
  stays_live : seen.live ≡ v.live

rises_first : SeenLog → List (List ℕ × List ℕ) → Type 0
rises_first v [] = Unit {0}
rises_first v (p ∷ ps) = rises v.before p.0 ≡ true

both : (a b : Bool) → (a && b) ≡ true → (a ≡ true) × (b ≡ true)
both true true h = (refl, refl)
both true false h = absurd (cc)
both false b h = absurd (cc)

paired_from : (ps : List (List ℕ × List ℕ)) (v : SeenLog) → is_some v.boot ≡ true → rises_first v ps
    → keys_rise ps ≡ true → Paired ps v
unfolding seen_after keys_rise rises_first
paired_from [] v opened first rise = record { seen = v; read = refl; stays_live = refl }
paired_from (p ∷ ps) v opened first rise =
    let parts = both (is_behind p.0 ps) (keys_rise ps) rise in
    let rest = paired_from ps (with_data v (Pair p.0)) opened (next_rises ps parts.0) parts.1 in
    record {
      seen = rest.seen;
      read = ap (λ o. seen_after o (map unnamed (map pair_record ps)))
          (after_opened v (with_data v (Pair p.0)) (unnamed (pair_record p)) opened
          (ap (λ b. cond b (Some (with_data v (Pair p.0))) None) first)) ∙ rest.read;
      stays_live = rest.stays_live;
    }
  where
    next_rises : (qs : List (List ℕ × List ℕ)) → is_behind p.0 qs ≡ true
        → rises_first (with_data v (Pair p.0)) qs
    next_rises [] h = tt
    next_rises (r ∷ qs) h = h

base_first : (v : SeenLog) (ps : List (List ℕ × List ℕ)) → rises_first (with_data v Base) ps
unfolding rises_first
base_first v [] = tt
base_first v (p ∷ ps) = refl

based_read : (v : SeenLog) (n : ℕ) (rs : List LogRecord) → is_some v.boot ≡ true
    → seen_after (Some v) (unnamed (BaseRecord n) ∷ rs) ≡ seen_after (Some (with_data v Base)) rs
unfolding seen_after
based_read v n rs opened = ap (λ o. seen_after o rs)
    (after_opened v (with_data v Base) (unnamed (BaseRecord n)) opened refl)

-- what a trim leaves may follow one another, and no branch is known by it that was not known
pub record TrimFollows (ls : List LogRecord) (u : SeenLog) : Type 0 where
  pub seen : SeenLog
  pub read : seen_of (trim_of ls) ≡ Some seen
  pub known : (x : Xid) → is_some (found u x) ≡ false → is_some (found seen x) ≡ false

pub trim_follows : (ls : List LogRecord) (u : SeenLog)
    → AllByRecursion (λ l. is_managers l.entry ≡ true) ls → has_records ls ≡ true → seen_of ls ≡ Some u
    → TrimFollows ls u
unfolding front_of_trim
trim_follows ls u m some h =
    let boot = boot_in_front ls u some h in
    let first = subst Booted (sym boot.one) (booted boot.record_is.parent boot.record_is.entry boot.opens) in
    let stay = trails_from ls ls nothing_seen u first.seen m
    (record { live = first.none; opened = first.opened })
    h in
    let whole = data_of ls in
    let based = with_data stay.seen Base in
    let pairs = paired_from whole.pairs based stay.trails.opened (base_first stay.seen whole.pairs)
    (lawful_of ls u h).tied.rise in
    record {
      seen = pairs.seen;
      read = seen_more (Some nothing_seen) (last_opened ls ++ staying ls ls)
          (map unnamed (base_records whole))
          ∙ ap (λ o. seen_after o (map unnamed (base_records whole)))
          (seen_more (Some nothing_seen) (last_opened ls) (staying ls ls)
          ∙ ap (λ o. seen_after o (staying ls ls)) first.read ∙ stay.read)
          ∙ based_read stay.seen whole.count (map unnamed (map pair_record whole.pairs)) stay.trails.opened
          ∙ pairs.read;
      known = λ x off. ap (λ es. is_some (lookup (same x) es)) (pairs.stays_live ∙ stay.trails.live)
          ∙ not_found (keeps_name ls []) x u.live off;
    }
