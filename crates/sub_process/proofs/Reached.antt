-- The log of a subordinate's manager has reached the boots of the tickets by which its own cases promised.
use Rattle.std.proofs.Common.{◌≡◌, ◌≤◌, ◌+◌, ◌∙◌, inl, inr, ℕ, zero, suc, Bool, true, false, cond, if◌then◌else◌, List, [], ◌∷◌, ◌++◌, append_assoc, Option, Some, None, length, length-append, map, take, fold, refl, sym, ap, subst, arith}
use Rattle.std.proofs.lemmas.Grind.{fold-append}
use Rattle.std.proofs.lemmas.List.{append-nil, map-append}
use Rattle.std.specs.List.{AllByRecursion}
use Rattle.xa_tables.specs.declared.call.Call.{Call}
use Rattle.xa_words.specs.call
use Rattle.xa_tables.specs.declared.states.BranchState.{BranchState}
use Rattle.xa_tables.specs.declared.states.BranchState.TheVariants.{S2, S3, S5}
use Rattle.xa_xid.specs.declared.xid.Xid.{Xid}
use Rattle.xa_branch.specs.declared.decision.Decision.{Decision}
use Rattle.protocol.specs.declared.names.Case.{Case}
use Rattle.protocol.specs.declared.names.Kind.TheVariants.{Manager}
use Rattle.protocol.specs.declared.names.Outcome.{Outcome}
use Rattle.protocol.specs.declared.names.Outcome.TheVariants.{Committed, Aborted}
use Rattle.protocol.specs.declared.names.ProcessId.{ProcessId}
use Rattle.protocol_words.specs.Variants.{CaseBranch}
use Rattle.protocol.specs.declared.records.LogRecord.{LogRecord}
use Rattle.protocol.specs.declared.records.Record.{Record}
use Rattle.protocol_words.specs.record_of
use Rattle.protocol.specs.declared.records.Write.{Write}
use Rattle.protocol.specs.LogNames.{is_own, own_records, unnamed}
use Rattle.protocol.specs.Nodes.{AtLeaf, Place, Written, is_any_forced}
use Rattle.protocol.specs.Records.{boot_after, boot_of, is_opened}
use Rattle.protocol.specs.Store.{base_records, data_of, pair_record}
use Rattle.log_text.specs.declared.form.LogForm.{LogForm}
use Rattle.log_text.specs.Parts.{Name, name_in}
use Rattle.log_rules.specs.sound.Sound.{IsSound}
use Rattle.log_rules.specs.trim.Trims.{front_of_trim, last_opened, opened_after, stays, staying, trim_of}
use Rattle.log_records.specs.Sights.{LogSight, frames_size, left_by, longer, records_of, whole_within}
use Rattle.process_state.specs.Opening.{first_opened}
use Rattle.process_state.specs.States.{forced_sight, wrote}
use Rattle.resource_manager.specs.Deciding.{decides_record, decision_writes}
use Rattle.resource_manager.specs.Ends.{logged_under, tells, unless_empty, written_by, written_for}
use Rattle.resource_manager.specs.Orders.{AreInOrder, MayFollow}
use Rattle.resource_manager.specs.Restarting.{boot_record, next_boot, with_boot}
use Rattle.resource_manager.specs.Sights.{ManagerSight}
use Rattle.resource_manager.specs.Trimming.{ManagerTrimFails, trimmed}
use Rattle.resource_manager.proofs.Lefts.{each_left, left_rest}
use Rattle.sub_branches.specs.Rebuilt.{AreFit, IsGivenWhere, IsReached, own_case}
use Rattle.sub_branches.proofs.Marks.{boots_alike}
use Rattle.sub_branches.proofs.Steps.{reached_later}
use Rattle.sub_branches.specs.declared.branch.LiveBranch.{LiveBranch}
use Rattle.sub_work.specs.Deeds.{DecidesWork, FinishesWork}
use Rattle.sub_branches.specs.Tables.{branch_in}
use Rattle.sub_branches.specs.Remembered.{RemembersBranches}
use Rattle.sub_process.specs.Fronts.{IsFrontOf, IsHeader}
use Rattle.sub_process.specs.declared.subordinate.Front.{Front}
use Rattle.sub_process.specs.Subordinates.{HasReached, IsGiven, IsNamed, IsTied, Reaches, SubState, place_of}

-- Lists.

all_append : (P : LogRecord → Type 0) (xs ys : List LogRecord) → AllByRecursion P xs → AllByRecursion P ys
    → AllByRecursion P (xs ++ ys)
all_append P [] ys h k = k
all_append P (x ∷ xs) ys h k = (h.0, all_append P xs ys h.1 k)

all_taken : (P : LogRecord → Type 0) (n : ℕ) (xs : List LogRecord) → AllByRecursion P xs
    → AllByRecursion P (take n xs)
all_taken P zero xs h = tt
all_taken P (suc n) [] h = tt
all_taken P (suc n) (x ∷ xs) h = (h.0, all_taken P n xs h.1)

-- of two ways to cut a list the longer front goes on where the shorter one ends
longer_front : (xs ys zs ws : List LogRecord) → xs ++ ys ≡ zs ++ ws → length xs ≤ length zs
    → (ks : List LogRecord) × (zs ≡ xs ++ ks)
longer_front [] ys zs ws is h = (zs, refl)
longer_front (x ∷ xs) ys [] ws is h = absurd (omega (arith, h))
longer_front (x ∷ xs) ys (z ∷ zs) ws is h =
    let rest = longer_front xs ys zs ws (tail_is x z (xs ++ ys) (zs ++ ws) is) (omega (arith, h)) in
    let first : z ≡ x = sym (head_is x z (xs ++ ys) (zs ++ ws) is) in
    (rest.0, λ i. first i ∷ rest.1 i)
  where
    tail_is : (a b : LogRecord) (xs ys : List LogRecord) → a ∷ xs ≡ b ∷ ys → xs ≡ ys
    tail_is a b xs ys e = cc

    head_is : (a b : LogRecord) (xs ys : List LogRecord) → a ∷ xs ≡ b ∷ ys → a ≡ b
    head_is a b xs ys e = cc

-- Boots that a log has reached.

abbrev entries_of : List LogRecord → List Record
entries_of ls = map (λ l. l.entry) ls

abbrev boot_in : List LogRecord → ℕ
boot_in ls = boot_of (entries_of ls)

nothing_reached : (n : ℕ) (ls : List LogRecord) → n ≤ 0 → Reaches n ls
nothing_reached n [] h = h
nothing_reached n (l ∷ ls) h = inr (nothing_reached n ls h)

reaches_more : (n : ℕ) (ls ks : List LogRecord) → Reaches n ls → Reaches n (ls ++ ks)
reaches_more n [] ks h = nothing_reached n ks h
reaches_more n (l ∷ ls) ks (inl h) = inl h
reaches_more n (l ∷ ls) ks (inr h) = inr (reaches_more n ls ks h)

reaches_last : (ls : List LogRecord) (n : ℕ) → Reaches n (ls ++ boot_record n ∷ [])
reaches_last [] n = inl (omega arith)
reaches_last (l ∷ ls) n = inr (reaches_last ls n)

boot_more : (ls : List LogRecord) (l : LogRecord) → boot_in (ls ++ l ∷ []) ≡ boot_after (boot_in ls) l.entry
unfolding boot_of
boot_more ls l = ap (fold boot_after 0) (map-append (λ (k : LogRecord). k.entry) ls (l ∷ []))
    ∙ fold-append boot_after 0 (entries_of ls) (l.entry ∷ [])

-- boots never fall
boot_grows : (b : ℕ) (ls : List LogRecord) (q : Option ProcessId) (r : Record)
    → MayFollow ls (record { entry = r; parent = q }) → boot_in ls ≤ boot_after (boot_in ls) r
boot_grows b ls q (record_of.Opened n) may = may
boot_grows b ls q _ may = omega arith

-- the boot that a record names
boot_named : (n b : ℕ) (r : Record) → n ≤ boot_after 0 r → n ≤ boot_after b r
boot_named n b (record_of.Opened k) h = h
boot_named n b _ h = omega (arith, h)

in_order_front : (ls ks : List LogRecord) → AreInOrder (ls ++ ks) → AreInOrder ls
in_order_front ls ks h front l rest is =
    h front l (rest ++ ks) (ap (λ xs. xs ++ ks) is ∙ append_assoc front (l ∷ rest) ks)

regroup : (front : List LogRecord) (l : LogRecord) (rest : List LogRecord)
    → front ++ l ∷ rest ≡ (front ++ l ∷ []) ++ rest
regroup front l rest = sym (append_assoc front (l ∷ []) rest)

boots_rise : (front rest : List LogRecord) → AreInOrder (front ++ rest)
    → boot_in front ≤ boot_in (front ++ rest)
boots_rise front [] h = subst (λ ls. boot_in front ≤ boot_in ls) (sym (append-nil front)) (omega arith)
boots_rise front (l ∷ rest) h =
    let step : boot_in front ≤ boot_in (front ++ l ∷ []) =
    subst (λ n. boot_in front ≤ n) (sym (boot_more front l))
    (boot_grows 0 front l.parent l.entry (h front l rest refl)) in
    let more : boot_in (front ++ l ∷ []) ≤ boot_in ((front ++ l ∷ []) ++ rest) =
    boots_rise (front ++ l ∷ []) rest (subst AreInOrder (regroup front l rest) h) in
    let all : boot_in front ≤ boot_in ((front ++ l ∷ []) ++ rest) = omega (arith, step, more) in
    subst (λ ls. boot_in front ≤ boot_in ls) (sym (regroup front l rest)) all

reached_from : (n : ℕ) (front rest : List LogRecord) → AreInOrder (front ++ rest) → Reaches n rest
    → n ≤ boot_in (front ++ rest)
reached_from n front [] h low = omega (arith, low)
reached_from n front (l ∷ rest) h (inl here) =
    let now : n ≤ boot_in (front ++ l ∷ []) =
    subst (λ b. n ≤ b) (sym (boot_more front l)) (boot_named n (boot_in front) l.entry here) in
    let more : boot_in (front ++ l ∷ []) ≤ boot_in ((front ++ l ∷ []) ++ rest) =
    boots_rise (front ++ l ∷ []) rest (subst AreInOrder (regroup front l rest) h) in
    let all : n ≤ boot_in ((front ++ l ∷ []) ++ rest) = omega (arith, now, more) in
    subst (λ ls. n ≤ boot_in ls) (sym (regroup front l rest)) all
reached_from n front (l ∷ rest) h (inr there) =
    subst (λ ls. n ≤ boot_in ls) (sym (regroup front l rest))
    (reached_from n (front ++ l ∷ []) rest (subst AreInOrder (regroup front l rest) h) there)

-- where boots never fall, the last one is at least each that was reached
reached_last : (n : ℕ) (ls : List LogRecord) → AreInOrder ls → Reaches n ls → n ≤ boot_in ls
reached_last n ls h at = reached_from n [] ls h at

-- the last Opened has the last boot
opened_reaches : (n b : ℕ) (o ls : List LogRecord) → (n ≤ b → Reaches n o)
    → n ≤ fold boot_after b (entries_of ls) → Reaches n (fold opened_after o ls)
opened_reaches n b o [] known h = known h
opened_reaches n b o (l ∷ ls) known h =
    opened_reaches n (boot_after b l.entry) (opened_after o l) ls (one l.entry l.parent known) h
  where
    one : (r : Record) (q : Option ProcessId) → (n ≤ b → Reaches n o) → n ≤ boot_after b r
        → Reaches n (opened_after o (record { entry = r; parent = q }))
    one (record_of.Opened k) q known h = inl h
    one _ q known h = known h

trim_reaches : (n : ℕ) (ls : List LogRecord) → n ≤ boot_in ls → Reaches n (trim_of ls)
unfolding front_of_trim last_opened boot_of
trim_reaches n ls h =
    reaches_more n (fold opened_after [] ls ++ staying ls ls) (map unnamed (base_records (data_of ls)))
    (reaches_more n (fold opened_after [] ls) (staying ls ls) (opened_reaches n 0 [] ls (λ low. low) h))

-- Records that are written.

module _ (place : Place) (boot : ℕ) (name : Name)
    (given : IsGivenWhere boot (own_case place name.0 name.1)) where
  abbrev under : List Written → List LogRecord
  under ws = map (λ (w : Written). record { entry = w.entry; parent = name.0 }) ws

  promise_reached : (ws : List Write)
      → AllByRecursion (IsReached place boot) (under (unless_empty (record_of.Prepared name.1) ws))
  promise_reached [] = tt
  promise_reached (w ∷ ws) = (given, tt)

  direct_reached : (ws : List Write)
      → AllByRecursion (IsReached place boot) (under (unless_empty (record_of.Direct name.1) ws))
  direct_reached [] = tt
  direct_reached (w ∷ ws) = (tt, tt)

  told_reached : (o : Outcome) (k : Option Outcome)
      → AllByRecursion (IsReached place boot) (under (tells name.1 o k))
  told_reached o None = (tt, tt)
  told_reached o (Some told) = tt

  row_reached : (c : Call) (st : BranchState) (ws : List Write) (d : Decision)
      → AllByRecursion (IsReached place boot) (under (written_by c st name.1 ws d))
  row_reached call.Prepare S2 ws d = promise_reached ws
  row_reached call.CommitOnePhase S2 ws d = direct_reached ws
  row_reached call.Commit S3 ws d = (tt, tt)
  row_reached call.Rollback S3 ws d = (tt, tt)
  row_reached call.Commit S5 ws d = told_reached Committed d.told
  row_reached call.Rollback S5 ws d = told_reached Aborted d.told
  row_reached call.Forget S5 ws d = (tt, tt)
  row_reached _ st ws d = tt

  decision_reached : (o : Outcome)
      → AllByRecursion (IsReached place boot)
      (under (record { entry = decides_record name.1 o; is_forced = true } ∷ []))
  decision_reached Committed = (tt, tt)
  decision_reached Aborted = (tt, tt)

-- the name of a case that was given a ticket
named_given : (s : SubState) (c : Case) (name : Name) → ◌≡◌ {A = Name} name (Some s.parent, CaseBranch c)
    → IsGiven s c
    → IsGivenWhere s.manager.boot (own_case (place_of s) name.0 name.1)
named_given s c name is g =
    subst (λ (n : Name). IsGivenWhere s.manager.boot (own_case (place_of s) n.0 n.1)) (sym is)
    (by_own (is_own (place_of s) (Some s.parent) c))
  where
    by_own : (t : Bool) → IsGivenWhere s.manager.boot (cond t (Some c) None)
    by_own true = record { ticket = g.ticket; has = g.has; within = g.within }
    by_own false = tt

-- what a call writes of a case
pub call_reached : (s : SubState) (c : Case) (x : Xid) (k : Call) → IsNamed s.parent c x → IsGiven s c
    → AllByRecursion (IsReached (place_of s) s.manager.boot) (logged_under x (written_for s.manager x k))
call_reached s c x k named g =
    row_reached (place_of s) s.manager.boot (name_in x) (named_given s c (name_in x) named.reads g) k _ _ _

-- and what an operator's decision writes
pub decided_reached : (s : SubState) (c : Case) (x : Xid) (o : Outcome) → IsNamed s.parent c x → IsGiven s c
    → AllByRecursion (IsReached (place_of s) s.manager.boot) (logged_under x (decision_writes x o))
decided_reached s c x o named g =
    decision_reached (place_of s) s.manager.boot (name_in x) (named_given s c (name_in x) named.reads g) o

-- The front that is remembered.

-- the header is the front of any log
pub header_front : (place : Place) (log : LogSight) (f : Front) → IsHeader f → IsFrontOf place log f
unfolding frames_size
header_front place log f header = record {
  first = [];
  stands = record { rest = log.kept.forced; split = refl; sized = header.size };
  says = λ p leaf. header.says place p;
}

-- a front stays one where more is forced
front_goes_on : (place : Place) (old new : LogSight) (f : Front) (more : List LogRecord)
    → new.kept.forced ≡ old.kept.forced ++ more → IsFrontOf place old f → IsFrontOf place new f
front_goes_on place old new f more is front = record {
  first = front.first;
  stands = record {
    rest = front.stands.rest ++ more;
    split = sym (append_assoc front.first front.stands.rest more) ∙ ap (λ ks. ks ++ more) front.stands.split
        ∙ sym is;
    sized = front.stands.sized;
  };
  says = front.says;
}

front_same : (place : Place) (old new : LogSight) (f : Front) → new ≡ old → IsFrontOf place old f
    → IsFrontOf place new f
front_same place old new f is front = subst (λ (l : LogSight). IsFrontOf place l f) (sym is) front

-- what a restart remembers is the front of the log
pub restarted_front : (place : Place) (log : LogSight) (form : LogForm) (all : List LogRecord)
    (failures : ℕ) (f : Front)
    → log ≡ forced_sight form all failures → f.size ≡ 5 + frames_size (records_of log.kept)
    → ((p : ProcessId) → place.role ≡ AtLeaf p → RemembersBranches place p all f.remembered)
    → IsFrontOf place log f
restarted_front place log form all failures f is sized says = record {
  first = all;
  stands = record {
    rest = [];
    split = append-nil all ∙ sym (ap (λ (l : LogSight). l.kept.forced) is);
    sized = sized ∙ ap (λ (l : LogSight). 5 + frames_size (records_of l.kept)) is
        ∙ ap (λ ks. 5 + frames_size ks) (append-nil all);
  };
  says = says;
}

-- A log that goes on.

-- its forced records go on, and all of them are such
pub goes_on : {f : Front} (place : Place) (old new : ManagerSight) (behind : List LogRecord)
    → HasReached f place old
    → new.boot ≡ old.boot → records_of new.log.kept ≡ old.log.kept.forced ++ behind
    → length old.log.kept.forced ≤ length new.log.kept.forced
    → AllByRecursion (IsReached place old.boot) (records_of new.log.kept) → HasReached f place new
goes_on place old new behind h boot all longer each =
    let longer_by = longer_front old.log.kept.forced behind new.log.kept.forced new.log.kept.unforced
    (sym all) longer in
    record {
      boot = subst (λ n. Reaches n new.log.kept.forced) (sym boot)
          (subst (Reaches old.boot) (sym longer_by.1)
          (reaches_more old.boot old.log.kept.forced longer_by.0 h.boot));
      promises = subst (λ n. AllByRecursion (IsReached place n) (records_of new.log.kept)) (sym boot) each;
      front = front_goes_on place old.log new.log _ longer_by.0 longer_by.1 h.front;
    }

-- more records
more : {f : Front} (place : Place) (old new : ManagerSight) (ls : List LogRecord) → HasReached f place old
    → new.boot ≡ old.boot → records_of new.log.kept ≡ records_of old.log.kept ++ ls
    → length old.log.kept.forced ≤ length new.log.kept.forced
    → AllByRecursion (IsReached place old.boot) ls → HasReached f place new
more place old new ls h boot all longer each =
    goes_on place old new (old.log.kept.unforced ++ ls) h boot
    (all ∙ append_assoc old.log.kept.forced old.log.kept.unforced ls) longer
    (subst (AllByRecursion (IsReached place old.boot)) (sym all)
    (all_append (IsReached place old.boot) (records_of old.log.kept) ls h.promises each))

-- the log stays
pub same_reached : {f : Front} (place : Place) (old new : ManagerSight) → HasReached f place old
    → new.boot ≡ old.boot → new.log ≡ old.log → HasReached f place new
same_reached place old new h boot log = record {
  boot = subst (λ n. Reaches n new.log.kept.forced) (sym boot)
      (subst (λ (l : LogSight). Reaches old.boot l.kept.forced) (sym log) h.boot);
  promises = subst (λ n. AllByRecursion (IsReached place n) (records_of new.log.kept)) (sym boot)
      (subst (λ (l : LogSight). AllByRecursion (IsReached place old.boot) (records_of l.kept))
      (sym log) h.promises);
  front = front_same place old.log new.log _ log h.front;
}

wrote_all : (l : LogSight) (ws : List Written) (ls : List LogRecord)
    → records_of (wrote l ws ls).kept ≡ records_of l.kept ++ ls
wrote_all l ws ls = by_test (is_any_forced ws)
  where
    by_test : (b : Bool) → records_of (if b
        then record l { kept = record { forced = records_of l.kept ++ ls; unforced = [] }; behind = 0 }
        else record l { kept = record { forced = l.kept.forced; unforced = l.kept.unforced ++ ls } }).kept
        ≡ records_of l.kept ++ ls
    by_test true = append-nil (records_of l.kept ++ ls)
    by_test false = sym (append_assoc l.kept.forced l.kept.unforced ls)

wrote_longer : (l : LogSight) (ws : List Written) (ls : List LogRecord)
    → length l.kept.forced ≤ length (wrote l ws ls).kept.forced
wrote_longer l ws ls = by_test (is_any_forced ws)
  where
    by_test : (b : Bool) → length l.kept.forced ≤ length (if b
        then record l { kept = record { forced = records_of l.kept ++ ls; unforced = [] }; behind = 0 }
        else record l {
          kept = record {
            forced = l.kept.forced;
            unforced = l.kept.unforced ++ ls;
          };
        }).kept.forced
    by_test true = omega (
      arith,
      length-append (records_of l.kept) ls,
      length-append l.kept.forced l.kept.unforced,
    )
    by_test false = omega arith

-- these records were written
pub wrote_reached : {f : Front} (place : Place) (old new : ManagerSight) (ws : List Written)
    (ls : List LogRecord)
    → HasReached f place old → new.boot ≡ old.boot → new.log ≡ wrote old.log ws ls
    → AllByRecursion (IsReached place old.boot) ls → HasReached f place new
wrote_reached place old new ws ls h boot log each =
    more place old new ls h boot
    (ap (λ (l : LogSight). records_of l.kept) log ∙ wrote_all old.log ws ls)
    (subst (λ (l : LogSight). length old.log.kept.forced ≤ length l.kept.forced) (sym log)
    (wrote_longer old.log ws ls)) each

-- a call made its row of a live branch
pub finishes_reached : {f : Front} (s : SubState) (c : Case) (b : LiveBranch) (k : Call) (m : ManagerSight)
    → IsTied f s
    → branch_in s.table c ≡ Some b → FinishesWork s.manager m b.xid k → HasReached f (place_of s) m
finishes_reached s c b k m tied at f =
    wrote_reached (place_of s) s.manager m (written_for s.manager b.xid k)
    (logged_under b.xid (written_for s.manager b.xid k)) tied.reached f.comes.boot f.log
    (call_reached s c b.xid k (tied.named c b at) (tied.given_before c b at))

-- an operator decided a live branch
pub decides_reached : {f : Front} (s : SubState) (c : Case) (b : LiveBranch) (o : Outcome) (m : ManagerSight)
    → IsTied f s
    → branch_in s.table c ≡ Some b → DecidesWork s.manager m b.xid o → HasReached f (place_of s) m
decides_reached s c b o m tied at made =
    wrote_reached (place_of s) s.manager m (decision_writes b.xid o)
    (logged_under b.xid (decision_writes b.xid o)) tied.reached made.comes.boot made.log
    (decided_reached s c b.xid o (tied.named c b at) (tied.given_before c b at))

-- the device failed under these
pub broke_reached : {f : Front} (place : Place) (old new : ManagerSight) (ls : List LogRecord) (n : ℕ)
    → HasReached f place old → new.boot ≡ old.boot
    → records_of new.log.kept ≡ records_of old.log.kept ++ take n ls
    → length old.log.kept.forced ≤ length new.log.kept.forced
    → AllByRecursion (IsReached place old.boot) ls → HasReached f place new
broke_reached place old new ls n h boot all longer each =
    more place old new (take n ls) h boot all longer (all_taken (IsReached place old.boot) n ls each)

-- it failed under a restart
pub restart_broke_reached : {f : Front} (place : Place) (old new : ManagerSight) (keep b n : ℕ)
    → HasReached f place old
    → new.boot ≡ old.boot
    → records_of new.log.kept ≡ left_by old.log keep ++ take n (boot_record b ∷ [])
    → length old.log.kept.forced ≤ length new.log.kept.forced → HasReached f place new
restart_broke_reached place old new keep b n h boot all longer =
    let opened = take n (boot_record b ∷ []) in
    let rest = whole_within (old.log.behind + keep) old.log.kept.unforced in
    goes_on place old new (rest ++ opened) h boot
    (all ∙ append_assoc old.log.kept.forced rest opened) longer
    (subst (AllByRecursion (IsReached place old.boot)) (sym all)
    (all_append (IsReached place old.boot) (left_by old.log keep) opened
    (each_left (IsReached place old.boot) old.log keep h.promises)
    (all_taken (IsReached place old.boot) n (boot_record b ∷ []) (tt, tt))))

-- a manager that just opened
pub new_reached : {f : Front} (place : Place) (m : ManagerSight) (form : LogForm) (failures : ℕ) → m.boot ≡ 1
    → m.log ≡ forced_sight form (first_opened ∷ []) failures → IsFrontOf place m.log f → HasReached f place m
new_reached place m form failures boot log front = record {
  front = front;
  boot = subst (λ n. Reaches n m.log.kept.forced) (sym boot)
      (subst (λ (l : LogSight). Reaches 1 l.kept.forced) (sym log) (inl (omega arith)));
  promises = subst (λ (l : LogSight). AllByRecursion (IsReached place m.boot) (records_of l.kept))
      (sym log) (tt, tt);
}

-- a manager that restarted over these records
pub restarted_reached : {f : Front} (place : Place) (m : ManagerSight) (form : LogForm)
    (left : List LogRecord) (failures b : ℕ)
    → m.boot ≡ next_boot left → m.log ≡ forced_sight form (with_boot left) failures
    → b ≤ next_boot left → AllByRecursion (IsReached place b) left → IsFrontOf place m.log f
    → HasReached f place m
restarted_reached place m form left failures b boot log le each front = record {
  front = front;
  boot = subst (λ n. Reaches n m.log.kept.forced) (sym boot)
      (subst (λ (l : LogSight). Reaches (next_boot left) l.kept.forced) (sym log)
      (reaches_last left (next_boot left)));
  promises = subst (λ n. AllByRecursion (IsReached place n) (records_of m.log.kept)) (sym boot)
      (subst (λ (l : LogSight). AllByRecursion (IsReached place (next_boot left)) (records_of l.kept))
      (sym log)
      (subst (AllByRecursion (IsReached place (next_boot left))) (sym (append-nil (with_boot left)))
      (all_append (IsReached place (next_boot left)) left (boot_record (next_boot left) ∷ [])
      (reached_later place b (next_boot left) left le each) (tt, tt))));
}

-- Trims.

staying_all : (P : LogRecord → Type 0) (ls rest : List LogRecord) → AllByRecursion P rest
    → AllByRecursion P (staying ls rest)
unfolding staying
staying_all P ls [] h = tt
staying_all P ls (l ∷ rest) h = by_test (stays ls rest l) (staying_all P ls rest h.1)
  where
    by_test : (k : Bool) → AllByRecursion P (staying ls rest)
        → AllByRecursion P (if k then l ∷ staying ls rest else staying ls rest)
    by_test true all = (h.0, all)
    by_test false all = all

opened_all : (P : LogRecord → Type 0) (o ls : List LogRecord) → AllByRecursion P o → AllByRecursion P ls
    → AllByRecursion P (fold opened_after o ls)
opened_all P o [] h k = h
opened_all P o (l ∷ ls) h k = opened_all P (opened_after o l) ls (by_test (is_opened l.entry)) k.1
  where
    by_test : (b : Bool) → AllByRecursion P (if b then l ∷ [] else o)
    by_test true = (k.0, tt)
    by_test false = h

pairs_reached : (place : Place) (boot : ℕ) (ps : List (List ℕ × List ℕ))
    → AllByRecursion (IsReached place boot) (map unnamed (map pair_record ps))
pairs_reached place boot [] = tt
pairs_reached place boot (p ∷ ps) = (tt, pairs_reached place boot ps)

trim_all : (place : Place) (boot : ℕ) (ls : List LogRecord) → AllByRecursion (IsReached place boot) ls
    → AllByRecursion (IsReached place boot) (trim_of ls)
unfolding front_of_trim last_opened
trim_all place boot ls h =
    let P = IsReached place boot in
    all_append P (fold opened_after [] ls ++ staying ls ls) (map unnamed (base_records (data_of ls)))
    (all_append P (fold opened_after [] ls) (staying ls ls) (opened_all P [] ls tt h) (staying_all P ls ls h))
    (tt, pairs_reached place boot (data_of ls).pairs)

-- what a trim leaves
trim_reached : {f : Front} (place : Place) (old new : ManagerSight) → HasReached f place old
    → AreInOrder (records_of old.log.kept)
    → new.boot ≡ old.boot → new.log.kept ≡ record { forced = trimmed old.log; unforced = [] }
    → IsFrontOf place new.log f → HasReached f place new
trim_reached place old new h order boot kept front = record {
  front = front;
  boot = subst (λ n. Reaches n new.log.kept.forced) (sym boot)
      (subst (λ k. Reaches old.boot k.forced) (sym kept)
      (trim_reaches old.boot (records_of old.log.kept) (reached_last old.boot (records_of old.log.kept) order
      (reaches_more old.boot old.log.kept.forced old.log.kept.unforced h.boot))));
  promises = subst (λ n. AllByRecursion (IsReached place n) (records_of new.log.kept)) (sym boot)
      (subst (λ k. AllByRecursion (IsReached place old.boot) (records_of k)) (sym kept)
      (subst (AllByRecursion (IsReached place old.boot)) (sym (append-nil (trimmed old.log)))
      (trim_all place old.boot (records_of old.log.kept) h.promises)));
}

pub trimmed_reached : {f : Front} (place : Place) (old new : ManagerSight) → HasReached f place old
    → AreInOrder (records_of old.log.kept) → new.boot ≡ old.boot
    → new.log ≡ forced_sight old.log.form (trimmed old.log) old.log.failures → IsHeader f
    → HasReached f place new
trimmed_reached place old new h order boot log header =
    trim_reached place old new h order boot (ap (λ (l : LogSight). l.kept) log)
    (header_front place new.log _ header)

pub trim_broke_reached : {f : Front} (place : Place) (old new : ManagerSight) → HasReached f place old
    → AreInOrder (records_of old.log.kept) → ManagerTrimFails old new → IsHeader f → HasReached f place new
trim_broke_reached place old new h order fails header = elim fails.either [
  | inl stands ↦ record {
    front = header_front place new.log _ header;
    boot = subst (λ n. Reaches n new.log.kept.forced) (sym fails.boot)
        (subst (λ k. Reaches old.boot k.forced) (sym stands) h.boot);
    promises = subst (λ n. AllByRecursion (IsReached place n) (records_of new.log.kept)) (sym fails.boot)
        (subst (λ k. AllByRecursion (IsReached place old.boot) (records_of k)) (sym stands) h.promises);
  }
  | inr one ↦ trim_reached place old new h order fails.boot one (header_front place new.log _ header)
]

-- What a crash leaves.

-- a subordinate can have written what a crash leaves of its log
pub left_fit : {f : Front} (s : SubState) (keep : ℕ) → HasReached f (place_of s) s.manager
    → AllByRecursion (IsSound Manager) (records_of s.manager.log.kept)
    → AreInOrder (records_of s.manager.log.kept)
    → AreFit (place_of s) (left_by s.manager.log keep)
left_fit s keep h sound order =
    let rest = left_rest s.manager.log keep in
    let left = left_by s.manager.log keep in
    let ordered : AreInOrder left = in_order_front left rest.0 (subst AreInOrder (sym rest.1) order) in
    let boot : s.manager.boot ≤ boot_in left = reached_last s.manager.boot left ordered
    (reaches_more s.manager.boot s.manager.log.kept.forced
    (whole_within (s.manager.log.behind + keep) s.manager.log.kept.unforced) h.boot) in
    record {
      sound = each_left (IsSound Manager) s.manager.log keep sound;
      ordered = ordered;
      reached = reached_later (place_of s) s.manager.boot (boot_of (own_records (place_of s) left)) left
          (subst (λ n. s.manager.boot ≤ n) (sym (boots_alike s.me s.parent s.tree left)) boot)
          (each_left (IsReached (place_of s) s.manager.boot) s.manager.log keep h.promises);
    }
