-- What a turn makes of the data and of the promises.
use Rattle.std.proofs.Common.{◌≡◌, ◌≤◌, ◌<◌, ◌+◌, ◌^◌, ℕ, Bool, true, false, cond, List, [], ◌∷◌, ◌++◌, length, take, append_assoc, fold, map, Some, None, refl, sym, ap, subst, ◌∙◌, arith, rules, Option, ◌⊎◌, inl, inr}
use Rattle.std.proofs.lemmas.List.{append-nil}
use Rattle.std.proofs.lemmas.List.Elements.{All-contains, All-from_recursion}
use Rattle.std.specs.Prelude.{Contains, MatchBool}
use Rattle.std.specs.List.{All}
use Rattle.xa_codes.specs.declared.code.Code.{Code}
use Rattle.xa_words.specs.code
use Rattle.xa_tables.specs.Tables.{branch_rows, heuristic}
use Rattle.xa_tables.specs.declared.call.Call.{Call}
use Rattle.xa_tables.specs.declared.call.Verb.{Verb}
use Rattle.xa_words.specs.call
use Rattle.xa_tables.specs.declared.states.BranchState.{BranchState}
use Rattle.xa_tables.specs.declared.states.BranchState.TheVariants.{S0, S1, S2, S3, S4, S5}
use Rattle.xa_xid.specs.declared.xid.Xid.{Xid}
use Rattle.xa_xid.specs.Xids.{XidParts}
use Rattle.xa_branch.specs.Names.{same}
use Rattle.xa_branch.specs.Branches.{is_known}
use Rattle.xa_branch.proofs.Names.{same_is}
use Rattle.xa_assoc.specs.Answers.{TakesTableRow, state_at}
use Rattle.log_store.specs.Stores.{MoreFailures}
use Rattle.log_text.specs.Parts.{name_in}
use Rattle.protocol.specs.declared.names.Outcome.{Outcome}
use Rattle.protocol_words.specs.Variants.{AbortedOutcome, CommittedOutcome}
use Rattle.protocol.specs.declared.records.BranchName.{BranchName}
use Rattle.protocol.specs.declared.records.BranchName.TheVariants.{Foreign}
use Rattle.protocol.specs.declared.records.LogRecord.{LogRecord}
use Rattle.protocol.specs.declared.records.Write.{Write}
use Rattle.protocol.specs.Records.{same_branch, same_xid}
use Rattle.protocol.specs.ManagerRows.{is_acknowledged, presumption_of}
use Rattle.protocol.specs.Standings.{Decided, Finished, Mark, Promised, ToldOf, Unmarked, mark_after, mark_of, mark_at}
use Rattle.protocol.specs.Store.{Data, commits, stored, stored_after, writes_of as promised_of, data_of}
use Rattle.log_text.proofs.NameReading.{same_xid_is, same_xid_refl}
use Rattle.log_text.proofs.NameReading.{name_again}
use Rattle.log_records.specs.Sights.{Breaks, LogSight, left_by, longer, records_of}
use Rattle.kv_store.specs.Pairs.{found_in, keys_rise}
use Rattle.kv_store.specs.Versions.{AppliesCommit, VersionTable, written}
use Rattle.kv_store.proofs.Pairs.{writes_pairs}
use Rattle.kv_store.proofs.Stages.{applies as applies_staged}
use Rattle.kv_store.specs.writes.Writes.{AreWrites, LeavesWrites, writes_of}
use Rattle.kv_calls.specs.declared.entries.BranchRecord.{BranchRecord}
use Rattle.kv_calls.specs.declared.entries.BranchRecord.TheVariants.{Prepared, Committed, RolledBack, Direct, HeurCommit, HeurRollback, Told, Forgot}
use Rattle.kv_calls.specs.declared.turns.CallRow.{CallRow}
use Rattle.kv_calls.specs.Turns.{IsEntry, applies, decide_turn, entry_of, entry_record, has_writes, silent, tell_turn, turn_of, writes}
use Rattle.kv_state.specs.Folds.{AreData}
use Rattle.protocol.specs.LogNames.{by_xid}
use Rattle.xa_branch.specs.declared.decision.Decision.{Decision}
use Rattle.xa_branch.specs.Decisions.{decided_as, decision_after, decision_of, first_told, told_behind, decided_in}
use Rattle.xa_branch.specs.Cases.{DecisionTable, NotesDecision, decision_in, decision_or}
use Rattle.kv_state.specs.Decisions.{says_decided}
use Rattle.kv_state.specs.Replays.{AreCountedCommits}
use Rattle.kv_state.proofs.Counting.{counted_next, counted_taken, counted_whole}
use Rattle.kv_state.specs.Stores.{KeySight, is_decided, is_let_go, state_of}
use Rattle.kv_state.specs.Ends.{IsDue, IsRowListed, IsTurn, LetsBranchGo, OfCall, OfOperator, PublishesWrites, StagesWrites, TakesTurn, known_behind, known_of, wrote_some}
use Rattle.kv_locks.specs.Locks.{ReleasesLocks}
use Rattle.kv_manager.specs.Sights.{IsKvManager, IsLogged, KvSight, SameKv, SaysDecided, are_ordered, doubt_of, has_records, logged}
use Rattle.resource_manager.specs.Restarting.{marked_state}
use Rattle.kv_manager.proofs.Fronts.{has_more, ordered_taken}
use Rattle.kv_manager.proofs.Staying.{moves_doubts}
use Rattle.kv_manager.proofs.Keeping.{KeepsPromises, one_data}
use Rattle.kv_manager.proofs.Marks.{branch_same}
use Rattle.xa_assoc.proofs.Finishing.{passed}
use Rattle.xa_assoc.proofs.Reactions.{stays}
use Rattle.process_state.specs.States.{wrote}
use Rattle.log_writing.specs.Writes.{WritesRecord}
use Rattle.kv_manager.specs.Turns.{KvFails, HasWrites, IsDueTurn, LogsTurn, KvMakes, OnlyRoom, commits as commits_data, with_record}

-- What a turn is.

-- the state to which a record leads
abbrev pub leads : BranchRecord → BranchState
leads Prepared = S3
leads HeurCommit = S5
leads HeurRollback = S5
leads (Told o) = S5
leads _ = S0

some_is : (e f : BranchRecord) → Some e ≡ Some f → e ≡ f
some_is e f h = cc

-- what holds of a turn that has a record, and of one that has none
module _ (P : BranchRecord → BranchState → Type 0) where
  abbrev pub HoldsOf : CallRow → Type 0
  HoldsOf turn = (e : BranchRecord) → turn.entry ≡ Some e → P e turn.to

  written_so : (f : BranchRecord) (is_forced : Bool) (to : BranchState) → P f to
      → HoldsOf (writes f is_forced to)
  written_so f is_forced to h e is = subst (λ g. P g to) (some_is f e is) h

  silent_so : (a : Code) (to : BranchState) → HoldsOf (silent a to)
  silent_so a to e is = absurd (cc)

  told_so : (b : BranchName) (o : Outcome) (d : Decision) (told : Option Outcome) → P (Told o) S5
      → HoldsOf (tell_turn b o d told)
  told_so b o d None h e is = subst (λ g. P g S5) (some_is (Told o) e is) h
  told_so b o d (Some t) h e is = absurd (cc)

  -- of each turn that a call takes
  pub each_call : (s : BranchState) (c : Call) (wrote : Bool) (b : BranchName) (d : Decision)
      → (wrote ≡ true → P Prepared S3)
      → P Committed S0 → P RolledBack S0 → (wrote ≡ true → P Direct S0)
      → ((o : Outcome) → P (Told o) S5) → P Forgot S0
      → HoldsOf (turn_of s c wrote b d)
  each_call s call.Prepare true b d p c r i t f = written_so Prepared true S3 (p refl)
  each_call s call.Prepare false b d p c r i t f = silent_so code.RdOnly S0
  each_call S0 call.Commit wrote b d p c r i t f =
      written_so Committed (is_acknowledged (presumption_of b) CommittedOutcome) S0 c
  each_call S1 call.Commit wrote b d p c r i t f =
      written_so Committed (is_acknowledged (presumption_of b) CommittedOutcome) S0 c
  each_call S2 call.Commit wrote b d p c r i t f =
      written_so Committed (is_acknowledged (presumption_of b) CommittedOutcome) S0 c
  each_call S3 call.Commit wrote b d p c r i t f =
      written_so Committed (is_acknowledged (presumption_of b) CommittedOutcome) S0 c
  each_call S4 call.Commit wrote b d p c r i t f =
      written_so Committed (is_acknowledged (presumption_of b) CommittedOutcome) S0 c
  each_call S5 call.Commit wrote b d p c r i t f = told_so b CommittedOutcome d d.told (t CommittedOutcome)
  each_call s call.CommitOnePhase true b d p c r i t f = written_so Direct true S0 (i refl)
  each_call s call.CommitOnePhase false b d p c r i t f = silent_so code.Ok S0
  each_call S0 call.Rollback wrote b d p c r i t f = silent_so code.Ok S0
  each_call S1 call.Rollback wrote b d p c r i t f = silent_so code.Ok S0
  each_call S2 call.Rollback wrote b d p c r i t f = silent_so code.Ok S0
  each_call S3 call.Rollback wrote b d p c r i t f =
      written_so RolledBack (is_acknowledged (presumption_of b) AbortedOutcome) S0 r
  each_call S4 call.Rollback wrote b d p c r i t f = silent_so code.Ok S0
  each_call S5 call.Rollback wrote b d p c r i t f = told_so b AbortedOutcome d d.told (t AbortedOutcome)
  each_call s _ wrote b d p c r i t f = written_so Forgot true S0 f

  -- of an operator's decision
  pub each_decision : (o : Outcome) → P HeurCommit S5 → P HeurRollback S5 → HoldsOf (decide_turn o)
  each_decision CommittedOutcome c r e is = subst (λ g. P g S5) (some_is HeurCommit e is) c
  each_decision AbortedOutcome c r e is = subst (λ g. P g S5) (some_is HeurRollback e is) r

-- a turn without a record ends its branch, or answers by an operator's decision
silent_told : (b : BranchName) (o : Outcome) (d : Decision) (told : Option Outcome)
    → (tell_turn b o d told).entry ≡ None
    → (tell_turn b o d told).to ≡ S5
silent_told b o d None h = absurd (cc)
silent_told b o d (Some t) h = refl

pub silent_ends : (s : BranchState) (c : Call) (wrote : Bool) (b : BranchName) (d : Decision)
    → (turn_of s c wrote b d).entry ≡ None
    → ((turn_of s c wrote b d).to ≡ S0) ⊎ (((turn_of s c wrote b d).to ≡ S5) × (s ≡ S5))
silent_ends s call.Prepare true b d h = absurd (cc)
silent_ends s call.Prepare false b d h = inl refl
silent_ends S0 call.Commit wrote b d h = inl refl
silent_ends S1 call.Commit wrote b d h = inl refl
silent_ends S2 call.Commit wrote b d h = inl refl
silent_ends S3 call.Commit wrote b d h = inl refl
silent_ends S4 call.Commit wrote b d h = inl refl
silent_ends S5 call.Commit wrote b d h = inr (silent_told b CommittedOutcome d d.told h, refl)
silent_ends s call.CommitOnePhase true b d h = absurd (cc)
silent_ends s call.CommitOnePhase false b d h = inl refl
silent_ends S0 call.Rollback wrote b d h = inl refl
silent_ends S1 call.Rollback wrote b d h = inl refl
silent_ends S2 call.Rollback wrote b d h = inl refl
silent_ends S3 call.Rollback wrote b d h = inl refl
silent_ends S4 call.Rollback wrote b d h = inl refl
silent_ends S5 call.Rollback wrote b d h = inr (silent_told b AbortedOutcome d d.told h, refl)
silent_ends s _ wrote b d h = inl refl

one_at_least : (ws : List Write) → wrote_some ws ≡ true → 1 ≤ length ws
one_at_least [] h = absurd (cc)
one_at_least (w ∷ ws) h = omega arith

pub is_entry : (e : BranchRecord) (ws : List Write) → HasWrites e ws → AreWrites ws → IsEntry e ws
is_entry Prepared ws has limits = (limits, one_at_least ws has)
is_entry Committed ws has limits = tt
is_entry RolledBack ws has limits = tt
is_entry Direct ws has limits = (limits, one_at_least ws has)
is_entry HeurCommit ws has limits = tt
is_entry HeurRollback ws has limits = tt
is_entry (Told o) ws has limits = tt
is_entry Forgot ws has limits = tt

-- a record that has no writes is the same whatever was written
pub without_writes : (e : BranchRecord) (x : Xid) (vs ws : List Write) → has_writes e ≡ false
    → (entry_record e x vs ≡ entry_record e x ws) × IsEntry e vs
without_writes Prepared x vs ws h = absurd cc
without_writes Committed x vs ws h = (refl, tt)
without_writes RolledBack x vs ws h = (refl, tt)
without_writes Direct x vs ws h = absurd cc
without_writes HeurCommit x vs ws h = (refl, tt)
without_writes HeurRollback x vs ws h = (refl, tt)
without_writes (Told o) x vs ws h = (refl, tt)
without_writes Forgot x vs ws h = (refl, tt)

all_decided : All (λ (r : Code × BranchState). r.1 ≡ S5) heuristic
all_decided = All-from_recursion (λ (r : Code × BranchState). r.1 ≡ S5) heuristic
    (refl, (refl, (refl, (refl, tt))))

-- a branch that commits was prepared
commit_prepared : (s : BranchState) → Contains (branch_rows s call.Commit) (code.Ok, S0) → s ≡ S3
commit_prepared S3 h = refl
commit_prepared S0 h = absurd (let none = h.1 in omega arith)
commit_prepared S1 h = absurd (let none = h.1 in omega arith)
commit_prepared S2 h = absurd (let none = h.1 in omega arith)
commit_prepared S4 h = absurd (let none = h.1 in omega arith)
commit_prepared S5 h = absurd (let never : S0 ≡ S5 = All-contains (λ (r : Code × BranchState). r.1 ≡ S5)
    heuristic (code.Ok, S0) all_decided h in cc)

-- it makes what a prepared branch promised data
abbrev pub settles : BranchRecord → Bool
settles Committed = true
settles HeurCommit = true
settles _ = false

told_settles : (b : BranchName) (o : Outcome) (d : Decision) (told : Option Outcome) (e : BranchRecord)
    → (tell_turn b o d told).entry ≡ Some e
    → settles e ≡ true → S5 ≡ S3
told_settles b o d None e h is = absurd (let never : false
    ≡ true = ap settles (some_is (Told o) e h) ∙ is in cc)
told_settles b o d (Some t) e h is = absurd (cc)

-- a branch that a call commits was prepared
pub committed_was_prepared : (s : BranchState) (c : Call) (wrote : Bool)
    (b : BranchName) (d : Decision) (e : BranchRecord)
    → (turn_of s c wrote b d).entry ≡ Some e → settles e ≡ true
    → Contains (branch_rows s c) ((turn_of s c wrote b d).code, (turn_of s c wrote b d).to) → s ≡ S3
committed_was_prepared s call.Prepare true b d e h is listed =
    absurd (let never : false ≡ true = ap settles (some_is Prepared e h) ∙ is in cc)
committed_was_prepared s call.Prepare false b d e h is listed = absurd (cc)
committed_was_prepared S0 call.Commit wrote b d e h is listed = commit_prepared S0 listed
committed_was_prepared S1 call.Commit wrote b d e h is listed = commit_prepared S1 listed
committed_was_prepared S2 call.Commit wrote b d e h is listed = commit_prepared S2 listed
committed_was_prepared S3 call.Commit wrote b d e h is listed = refl
committed_was_prepared S4 call.Commit wrote b d e h is listed = commit_prepared S4 listed
committed_was_prepared S5 call.Commit wrote b d e h is listed =
    told_settles b CommittedOutcome d d.told e h is
committed_was_prepared s call.CommitOnePhase true b d e h is listed =
    absurd (let never : false ≡ true = ap settles (some_is Direct e h) ∙ is in cc)
committed_was_prepared s call.CommitOnePhase false b d e h is listed = absurd (cc)
committed_was_prepared S0 call.Rollback wrote b d e h is listed = absurd (cc)
committed_was_prepared S1 call.Rollback wrote b d e h is listed = absurd (cc)
committed_was_prepared S2 call.Rollback wrote b d e h is listed = absurd (cc)
committed_was_prepared S3 call.Rollback wrote b d e h is listed = refl
committed_was_prepared S4 call.Rollback wrote b d e h is listed = absurd (cc)
committed_was_prepared S5 call.Rollback wrote b d e h is listed =
    told_settles b AbortedOutcome d d.told e h is
committed_was_prepared s _ wrote b d e h is listed =
    absurd (let never : false ≡ true = ap settles (some_is Forgot e h) ∙ is in cc)

-- a branch that is told of an outcome was decided by an operator, and told nothing yet
abbrev pub IsUntold : BranchState → Decision → BranchRecord → Type 0
IsUntold s d (Told o) = (s ≡ S5) × (d.told ≡ None)
IsUntold s d _ = Unit {0}

told_untold : (b : BranchName) (o : Outcome) (d : Decision) (told : Option Outcome) (e : BranchRecord)
    → d.told ≡ told
    → (tell_turn b o d told).entry ≡ Some e → IsUntold S5 d e
told_untold b o d None e is h = subst (IsUntold S5 d) (some_is (Told o) e h) (refl, is)
told_untold b o d (Some t) e is h = absurd (cc)

pub untold : (s : BranchState) (c : Call) (wrote : Bool) (b : BranchName) (d : Decision) (e : BranchRecord)
    → (turn_of s c wrote b d).entry ≡ Some e → IsUntold s d e
untold s call.Prepare true b d e h = subst (IsUntold s d) (some_is Prepared e h) tt
untold s call.Prepare false b d e h = absurd (cc)
untold S0 call.Commit wrote b d e h = subst (IsUntold S0 d) (some_is Committed e h) tt
untold S1 call.Commit wrote b d e h = subst (IsUntold S1 d) (some_is Committed e h) tt
untold S2 call.Commit wrote b d e h = subst (IsUntold S2 d) (some_is Committed e h) tt
untold S3 call.Commit wrote b d e h = subst (IsUntold S3 d) (some_is Committed e h) tt
untold S4 call.Commit wrote b d e h = subst (IsUntold S4 d) (some_is Committed e h) tt
untold S5 call.Commit wrote b d e h = told_untold b CommittedOutcome d d.told e refl h
untold s call.CommitOnePhase true b d e h = subst (IsUntold s d) (some_is Direct e h) tt
untold s call.CommitOnePhase false b d e h = absurd (cc)
untold S0 call.Rollback wrote b d e h = absurd (cc)
untold S1 call.Rollback wrote b d e h = absurd (cc)
untold S2 call.Rollback wrote b d e h = absurd (cc)
untold S3 call.Rollback wrote b d e h = subst (IsUntold S3 d) (some_is RolledBack e h) tt
untold S4 call.Rollback wrote b d e h = absurd (cc)
untold S5 call.Rollback wrote b d e h = told_untold b AbortedOutcome d d.told e refl h
untold s _ wrote b d e h = subst (IsUntold s d) (some_is Forgot e h) tt

untold_decision : (s : BranchState) (d : Decision) (o : Outcome) (e : BranchRecord)
    → (decide_turn o).entry ≡ Some e → IsUntold s d e
untold_decision s d CommittedOutcome e h = subst (IsUntold s d) (some_is HeurCommit e h) tt
untold_decision s d AbortedOutcome e h = subst (IsUntold s d) (some_is HeurRollback e h) tt

-- What a record makes of the fold.

fold_last : {A B C : Type 0} (f : B → C → B) (g : A → C) (z : B) (xs : List A) (y : A)
    → fold f z (map g (xs ++ y ∷ [])) ≡ f (fold f z (map g xs)) (g y)
fold_last f g z [] y = refl
fold_last f g z (x ∷ xs) y = fold_last f g (f z (g x)) xs y

pub data_behind : (ls : List LogRecord) (l : LogRecord)
    → data_of (ls ++ l ∷ []) ≡ stored_after (data_of ls) (by_xid l)
unfolding stored
data_behind ls l = fold_last stored_after by_xid _ ls l

pub mark_behind : (ls : List LogRecord) (l : LogRecord) (x : Xid)
    → mark_at (ls ++ l ∷ []) x ≡ mark_after (Foreign x) (mark_at ls x) (by_xid l)
unfolding mark_of
mark_behind ls l x = fold_last (mark_after (Foreign x)) by_xid Unmarked ls l

pub entry_by_xid : (e : BranchRecord) (x : XidParts) (ws : List Write)
    → by_xid (entry_record e x ws) ≡ entry_of e (Foreign x) ws
entry_by_xid Prepared x ws = ap (λ y. entry_of Prepared (Foreign y) ws) (name_again x)
entry_by_xid Committed x ws = ap (λ y. entry_of Committed (Foreign y) ws) (name_again x)
entry_by_xid RolledBack x ws = ap (λ y. entry_of RolledBack (Foreign y) ws) (name_again x)
entry_by_xid Direct x ws = ap (λ y. entry_of Direct (Foreign y) ws) (name_again x)
entry_by_xid HeurCommit x ws = ap (λ y. entry_of HeurCommit (Foreign y) ws) (name_again x)
entry_by_xid HeurRollback x ws = ap (λ y. entry_of HeurRollback (Foreign y) ws) (name_again x)
entry_by_xid (Told o) x ws = ap (λ y. entry_of (Told o) (Foreign y) ws) (name_again x)
entry_by_xid Forgot x ws = ap (λ y. entry_of Forgot (Foreign y) ws) (name_again x)

-- the fold after a record of a branch
abbrev pub after_entry : Data → BranchRecord → XidParts → List Write → Data
after_entry d e x ws = stored_after d (entry_of e (Foreign x) ws)

wrote_records : (s : LogSight) (l : LogRecord) (is_forced : Bool)
    → records_of (with_record s l is_forced).kept ≡ records_of s.kept ++ l ∷ []
wrote_records s l true = append-nil (records_of s.kept ++ l ∷ [])
wrote_records s l false = sym (append_assoc s.kept.forced s.kept.unforced (l ∷ []))

pub logged_behind : (s s' : KvSight) (e : BranchRecord) (x : Xid) (ws : List Write) (is_forced : Bool)
    → WritesRecord s.log s'.log (entry_record e x ws) is_forced → logged s' ≡ after_entry (logged s) e x ws
logged_behind s s' e x ws is_forced made =
    ap (λ (k : LogSight). data_of (records_of k.kept)) made.sight
    ∙ ap data_of (wrote_records s.log.sight (entry_record e x ws) is_forced)
    ∙ data_behind (records_of s.log.sight.kept) (entry_record e x ws)
    ∙ ap (stored_after (logged s)) (entry_by_xid e x ws)

marked_logged : (s s' : KvSight) (e : BranchRecord) (x : Xid) (ws : List Write) (is_forced : Bool)
    → WritesRecord s.log s'.log (entry_record e x ws) is_forced
    → (y : Xid) → mark_at (records_of s'.log.sight.kept) y
    ≡ mark_after (Foreign y) (mark_at (records_of s.log.sight.kept) y) (entry_of e (Foreign x) ws)
marked_logged s s' e x ws is_forced made y =
    ap (λ (k : LogSight). mark_at (records_of k.kept) y) made.sight
    ∙ ap (λ ls. mark_at ls y) (wrote_records s.log.sight (entry_record e x ws) is_forced)
    ∙ mark_behind (records_of s.log.sight.kept) (entry_record e x ws) y
    ∙ ap (mark_after (Foreign y) (mark_at (records_of s.log.sight.kept) y)) (entry_by_xid e x ws)

-- a record of another branch leaves what is said of a branch
marks_other : (m : Mark) (e : BranchRecord) (x y : Xid) (ws : List Write) → same x y ≡ false
    → mark_after (Foreign y) m (entry_of e (Foreign x) ws) ≡ m
marks_other m e x y ws apart = by_entry e (branch_same x y ∙ apart)
  where
    by_entry : (e : BranchRecord) → same_branch (Foreign x) (Foreign y) ≡ false
        → mark_after (Foreign y) m (entry_of e (Foreign x) ws) ≡ m
    by_entry Prepared t = ap (λ b. cond b Promised m) t
    by_entry Committed t = ap (λ b. cond b Finished m) t
    by_entry RolledBack t = ap (λ b. cond b Finished m) t
    by_entry Direct t = ap (λ b. cond b Finished m) t
    by_entry HeurCommit t = ap (λ b. cond b Decided m) t
    by_entry HeurRollback t = ap (λ b. cond b Decided m) t
    by_entry (Told o) t = ap (λ b. cond b (ToldOf o) m) t
    by_entry Forgot t = ap (λ b. cond b Finished m) t

marks_own : (m : Mark) (x : Xid) (ws : List Write)
    → mark_after (Foreign x) m (entry_of Prepared (Foreign x) ws) ≡ Promised
unfolding same_branch
marks_own m x ws = ap (λ b. cond b Promised m) (same_xid_refl x)

-- a record of a branch leaves it in doubt as the record leads it
marks_lead : (m : Mark) (e : BranchRecord) (x : Xid) (ws : List Write)
    → marked_state (mark_after (Foreign x) m (entry_of e (Foreign x) ws)) ≡ doubt_of (leads e)
unfolding same_branch
marks_lead m Prepared x ws = ap (λ b. marked_state (cond b Promised m)) (same_xid_refl x)
marks_lead m Committed x ws = ap (λ b. marked_state (cond b Finished m)) (same_xid_refl x)
marks_lead m RolledBack x ws = ap (λ b. marked_state (cond b Finished m)) (same_xid_refl x)
marks_lead m Direct x ws = ap (λ b. marked_state (cond b Finished m)) (same_xid_refl x)
marks_lead m HeurCommit x ws = ap (λ b. marked_state (cond b Decided m)) (same_xid_refl x)
marks_lead m HeurRollback x ws = ap (λ b. marked_state (cond b Decided m)) (same_xid_refl x)
marks_lead m (Told o) x ws = ap (λ b. marked_state (cond b (ToldOf o) m)) (same_xid_refl x)
marks_lead m Forgot x ws = ap (λ b. marked_state (cond b Finished m)) (same_xid_refl x)

-- What a record says of an operator's decision.

pub decided_behind : (ls : List LogRecord) (l : LogRecord) (x : Xid)
    → decided_in (ls ++ l ∷ []) x ≡ decision_after (Foreign x) (decided_in ls x) (by_xid l)
unfolding decision_of
decided_behind ls l x = fold_last (decision_after (Foreign x)) by_xid (decided_as AbortedOutcome) ls l

decided_logged : (s s' : KvSight) (e : BranchRecord) (x : Xid) (ws : List Write) (is_forced : Bool)
    → WritesRecord s.log s'.log (entry_record e x ws) is_forced
    → (y : Xid) → decided_in (records_of s'.log.sight.kept) y
    ≡ decision_after (Foreign y) (decided_in (records_of s.log.sight.kept) y) (entry_of e (Foreign x) ws)
decided_logged s s' e x ws is_forced made y =
    ap (λ (k : LogSight). decided_in (records_of k.kept) y) made.sight
    ∙ ap (λ ls. decided_in ls y) (wrote_records s.log.sight (entry_record e x ws) is_forced)
    ∙ decided_behind (records_of s.log.sight.kept) (entry_record e x ws) y
    ∙ ap (decision_after (Foreign y) (decided_in (records_of s.log.sight.kept) y)) (entry_by_xid e x ws)

decides_other : (d : Decision) (e : BranchRecord) (x y : Xid) (ws : List Write) → same x y ≡ false
    → decision_after (Foreign y) d (entry_of e (Foreign x) ws) ≡ d
decides_other d e x y ws apart = by_entry e (branch_same x y ∙ apart)
  where
    by_entry : (e : BranchRecord) → same_branch (Foreign x) (Foreign y) ≡ false
        → decision_after (Foreign y) d (entry_of e (Foreign x) ws) ≡ d
    by_entry Prepared t = ap (λ b. cond b (decided_as AbortedOutcome) d) t
    by_entry Committed t = refl
    by_entry RolledBack t = refl
    by_entry Direct t = refl
    by_entry HeurCommit t = ap (λ b. cond b (decided_as CommittedOutcome) d) t
    by_entry HeurRollback t = ap (λ b. cond b (decided_as AbortedOutcome) d) t
    by_entry (Told o) t = ap (λ b. cond b (record { outcome = d.outcome; told = Some o }) d) t
    by_entry Forgot t = ap (λ b. cond b (decided_as AbortedOutcome) d) t

-- the record of what a branch is told
abbrev IsTold : BranchRecord → Type 0
IsTold (Told o) = Unit {0}
IsTold _ = ⊥

-- a record that leads to S5 says that an operator decided its branch, as it is known then
decides_own : (m : Mark) (d : Decision) (known : Option Decision) (e : BranchRecord) (x : Xid)
    (ws : List Write)
    → leads e ≡ S5 → IsUntold S5 d e
    → (IsTold e → decision_or known ≡ d)
    → (says_decided (mark_after (Foreign x) m (entry_of e (Foreign x) ws)) ≡ true)
    × (decision_or (known_behind (Some e) known) ≡ decision_after (Foreign x) d (entry_of e (Foreign x) ws))
unfolding same_branch
decides_own m d known Prepared x ws h n same = absurd (cc)
decides_own m d known Committed x ws h n same = absurd (cc)
decides_own m d known RolledBack x ws h n same = absurd (cc)
decides_own m d known Direct x ws h n same = absurd (cc)
decides_own m d known Forgot x ws h n same = absurd (cc)
decides_own m d known HeurCommit x ws h n same = (
  ap (λ b. says_decided (cond b Decided m)) (same_xid_refl x),
  sym
      (ap (λ b. cond b (decided_as CommittedOutcome) d) (same_xid_refl x)),
)
decides_own m d known HeurRollback x ws h n same = (
  ap (λ b. says_decided (cond b Decided m)) (same_xid_refl x),
  sym
      (ap (λ b. cond b (decided_as AbortedOutcome) d) (same_xid_refl x)),
)
decides_own m d known (Told o) x ws h n same = (
  ap (λ b. says_decided (cond b (ToldOf o) m)) (same_xid_refl x),
  ap (told_behind o) (same tt) ∙ ap (λ t. record { outcome = d.outcome; told = first_told o t }) n.1
      ∙ sym (ap (λ b. cond b (record { outcome = d.outcome; told = Some o }) d) (same_xid_refl x)),
)

-- a record of another branch changes no promise
pub promised_other : (d : Data) (e : BranchRecord) (x y : Xid) (ws : List Write) → same x y ≡ false
    → promised_of (Foreign y) (after_entry d e x ws).promised ≡ promised_of (Foreign y) d.promised
unfolding promised_of same_branch
promised_other d Prepared x y ws apart = by_test (same_xid x y) refl
  where
    by_test : (b : Bool) → same_xid x y ≡ b → cond b ws (promised_of (Foreign y) d.promised)
        ≡ promised_of (Foreign y) d.promised
    by_test true e = absurd (let never : false ≡ true = sym apart
        ∙ ap (same x) (sym (same_xid_is x y e)) ∙ same_itself x in cc)
      where
        same_itself : (z : Xid) → same z z ≡ true
        same_itself z = search rules
    by_test false e = refl
promised_other d Committed x y ws apart = refl
promised_other d RolledBack x y ws apart = refl
promised_other d Direct x y ws apart = refl
promised_other d HeurCommit x y ws apart = refl
promised_other d HeurRollback x y ws apart = refl
promised_other d (Told o) x y ws apart = refl
promised_other d Forgot x y ws apart = refl

pub promised_own : (d : Data) (x : Xid) (ws : List Write)
    → promised_of (Foreign x) (after_entry d Prepared x ws).promised ≡ ws
unfolding promised_of same_branch
promised_own d x ws = ap (λ b. cond b ws (promised_of (Foreign x) d.promised)) (same_xid_refl x)

-- a record that makes no data
pub noted_pairs : (d : Data) (e : BranchRecord) (x : Xid) (ws : List Write) → applies e ≡ false
    → (after_entry d e x ws).pairs ≡ d.pairs
noted_pairs d Prepared x ws h = refl
noted_pairs d Committed x ws h = absurd (cc)
noted_pairs d RolledBack x ws h = refl
noted_pairs d Direct x ws h = absurd (cc)
noted_pairs d HeurCommit x ws h = absurd (cc)
noted_pairs d HeurRollback x ws h = refl
noted_pairs d (Told o) x ws h = refl
noted_pairs d Forgot x ws h = refl

pub noted_count : (d : Data) (e : BranchRecord) (x : Xid) (ws : List Write) → applies e ≡ false
    → (after_entry d e x ws).count ≡ d.count
noted_count d Prepared x ws h = refl
noted_count d Committed x ws h = absurd (cc)
noted_count d RolledBack x ws h = refl
noted_count d Direct x ws h = absurd (cc)
noted_count d HeurCommit x ws h = absurd (cc)
noted_count d HeurRollback x ws h = refl
noted_count d (Told o) x ws h = refl
noted_count d Forgot x ws h = refl

pub applied_count : (d : Data) (e : BranchRecord) (x : Xid) (ws : List Write) → applies e ≡ true
    → (after_entry d e x ws).count ≡ d.count + 1
applied_count d Prepared x ws h = absurd (cc)
applied_count d Committed x ws h = refl
applied_count d RolledBack x ws h = absurd (cc)
applied_count d Direct x ws h = refl
applied_count d HeurCommit x ws h = refl
applied_count d HeurRollback x ws h = absurd (cc)
applied_count d (Told o) x ws h = absurd (cc)
applied_count d Forgot x ws h = absurd (cc)

-- the commits can be counted after a record of a branch, where one more can be of a record that commits
pub record_counts : (s : KvSight) (e : BranchRecord) (x : Xid) (ws : List Write) → IsKvManager s
    → s.log.sight.failed ≡ false
    → (applies e ≡ true → s.store.versions.count + 1 < 2 ^ 63)
    → AreCountedCommits (records_of s.log.sight.kept ++ entry_record e x ws ∷ [])
record_counts s e x ws kept works fits =
    counted_next (records_of s.log.sight.kept) (entry_record e x ws) kept.counted
    (subst (λ (d : Data). d.count < 2 ^ 63)
    (sym (data_behind (records_of s.log.sight.kept) (entry_record e x ws)
    ∙ ap (stored_after (logged s)) (entry_by_xid e x ws))) (by_test (applies e) refl))
  where
    by_test : (b : Bool) → applies e ≡ b → (after_entry (logged s) e x ws).count < 2 ^ 63
    by_test true is =
        let one = applied_count (logged s) e x ws is in
        let count = (kept.stands works).are_data.count in
        let room = fits is in
        omega (arith, one, count, room)
    by_test false is =
        subst (λ n. n < 2 ^ 63) (sym (noted_count (logged s) e x ws is))
        (counted_whole (records_of s.log.sight.kept) kept.counted)

pub same_data : (v : VersionTable) (d d' : Data) → d'.count ≡ d.count → d'.pairs ≡ d.pairs
    → AreData v d → AreData v d'
same_data v d d' count pairs are = record {
  count = are.count ∙ sym count;
  unstaged = are.unstaged;
  values = λ k. are.values k ∙ ap (λ ps. found_in ps k) (sym pairs);
}

-- a record that makes data is a commit of the branch's writes
pub committed_data : (d : Data) (e : BranchRecord) (x : Xid) (ws : List Write) → applies e ≡ true
    → (settles e ≡ true → promised_of (Foreign x) d.promised ≡ ws) → after_entry d e x ws ≡ commits ws d
committed_data d Prepared x ws h was = absurd (cc)
committed_data d Committed x ws h was = ap (λ us. commits us d) (was refl)
committed_data d RolledBack x ws h was = absurd (cc)
committed_data d Direct x ws h was = refl
committed_data d HeurCommit x ws h was = ap (λ us. commits us d) (was refl)
committed_data d HeurRollback x ws h was = absurd (cc)
committed_data d (Told o) x ws h was = absurd (cc)
committed_data d Forgot x ws h was = absurd (cc)

pub applies_data : (old new : VersionTable) (d : Data) (ws : List Write)
    → keys_rise d.pairs ≡ true → AreData old d
    → AppliesCommit old new ws → AreData new (commits ws d)
applies_data old new d ws rise are made = record {
  count = made.count ∙ ap (λ n. n + 1) are.count;
  unstaged = made.is_staged;
  values = λ k. made.next k ∙ ap (written ws k) (are.values k)
      ∙ sym ((writes_pairs d.pairs ws rise).values k);
}

-- What a turn that is due is.

-- a call that is due has its turn at a manager whose log stands
pub due_turn : (s : KvSight) (v : Verb) (x : Xid) (flags : ℕ) (c : Call) (turn : CallRow)
    → s.log.sight.failed ≡ false → IsDue s.store v x flags (c, turn) → IsDueTurn s x c turn
due_turn s v x flags c turn works due = record {
  works = works;
  known = (passed s.store.tables v x flags c due.checked).passes.known;
  due = OfCall due.turn;
  listed = due.listed;
}

pub due_leads : (s : KvSight) (x : Xid) (c : Call) (turn : CallRow) (e : BranchRecord) → IsDueTurn s x c turn
    → turn.entry ≡ Some e → turn.to ≡ leads e
due_leads s x c turn e due is = by_turn due.due
  where
    by_turn : IsTurn s.store x c turn → turn.to ≡ leads e
    by_turn (OfCall one) =
        subst (λ (t : CallRow). HoldsOf (λ f to. to ≡ leads f) t) (sym one)
        (each_call (λ f to. to ≡ leads f) (state_of s.store x) c _ _ _ (λ h. refl) refl refl
        (λ h. refl) (λ o. refl) refl) e is
    by_turn (OfOperator o here room one) =
        subst (λ (t : CallRow). HoldsOf (λ f to. to ≡ leads f) t) (sym one)
        (each_decision (λ f to. to ≡ leads f) o refl refl) e is

pub due_has : (s : KvSight) (x : Xid) (c : Call) (turn : CallRow) (e : BranchRecord)
    → IsDueTurn s x c turn → turn.entry ≡ Some e
    → HasWrites e (writes_of s.store.writes x)
due_has s x c turn e due is = by_turn due.due
  where
    ws : List Write
    ws = writes_of s.store.writes x

    by_turn : IsTurn s.store x c turn → HasWrites e ws
    by_turn (OfCall one) =
        subst (λ (t : CallRow). HoldsOf (λ f to. HasWrites f ws) t) (sym one)
        (each_call (λ f to. HasWrites f ws) (state_of s.store x) c _ _ _ (λ h. h) tt
        tt (λ h. h) (λ o. tt) tt) e is
    by_turn (OfOperator o here room one) =
        subst (λ (t : CallRow). HoldsOf (λ f to. HasWrites f ws) t) (sym one)
        (each_decision (λ f to. HasWrites f ws) o tt tt) e is

due_prepared : (s : KvSight) (x : Xid) (c : Call) (turn : CallRow) (e : BranchRecord)
    → IsDueTurn s x c turn → turn.entry ≡ Some e
    → settles e ≡ true → state_of s.store x ≡ S3
due_prepared s x c turn e due is h = by_turn due.due
  where
    by_turn : IsTurn s.store x c turn → state_of s.store x ≡ S3
    by_turn (OfCall one) =
        committed_was_prepared (state_of s.store x) c _ _ _ e (ap (λ (t : CallRow). t.entry) (sym one) ∙ is) h
        (subst (IsRowListed s.store x c) one due.listed)
    by_turn (OfOperator o here room one) = here

pub due_untold : (s : KvSight) (x : Xid) (c : Call) (turn : CallRow) (e : BranchRecord)
    → IsDueTurn s x c turn → turn.entry ≡ Some e
    → IsUntold (state_of s.store x) (known_of s.store x) e
due_untold s x c turn e due is = by_turn due.due
  where
    by_turn : IsTurn s.store x c turn → IsUntold (state_of s.store x) (known_of s.store x) e
    by_turn (OfCall one) = untold (state_of s.store x) c _ _ (known_of s.store x) e
        (ap (λ (t : CallRow). t.entry) (sym one) ∙ is)
    by_turn (OfOperator o here room one) =
        untold_decision (state_of s.store x) (known_of s.store x) o e
        (ap (λ (t : CallRow). t.entry) (sym one) ∙ is)

-- What a turn makes of a manager.

leads_prepared : (e : BranchRecord) → leads e ≡ S3 → e ≡ Prepared
leads_prepared Prepared h = refl
leads_prepared Committed h = absurd (cc)
leads_prepared RolledBack h = absurd (cc)
leads_prepared Direct h = absurd (cc)
leads_prepared HeurCommit h = absurd (cc)
leads_prepared HeurRollback h = absurd (cc)
leads_prepared (Told o) h = absurd (cc)
leads_prepared Forgot h = absurd (cc)

writes_other : (old new : KeySight) (x y : Xid) (to : BranchState) → LetsBranchGo old new x to
    → same x y ≡ false
    → writes_of new.writes y ≡ writes_of old.writes y
writes_other old new x y to goes apart = by_end (is_let_go to) goes
  where
    by_end : (b : Bool)
        → MatchBool b (LeavesWrites old.writes new.writes x [] × ReleasesLocks old.locks new.locks x)
        ((new.writes ≡ old.writes) × (new.locks ≡ old.locks))
        → writes_of new.writes y ≡ writes_of old.writes y
    by_end true h = h.0.others y apart
    by_end false h = ap (λ w. writes_of w y) h.0

writes_kept : (old new : KeySight) (x : Xid) (to : BranchState) → LetsBranchGo old new x to → to ≡ S3
    → writes_of new.writes x ≡ writes_of old.writes x
writes_kept old new x to goes promises =
    ap (λ w. writes_of w x) (subst (λ b. MatchBool b
    (LeavesWrites old.writes new.writes x [] × ReleasesLocks old.locks
    new.locks x) ((new.writes ≡ old.writes) × (new.locks ≡ old.locks))) (ap is_let_go promises) goes).0

-- a branch that is prepared after a turn has the writes that the log says it promised
promises_behind : (s s' : KvSight) (x : Xid) (e : BranchRecord) (to : BranchState) → IsLogged s → to ≡ leads e
    → TakesTableRow s.store.tables s'.store.tables x to → LetsBranchGo s.store s'.store x to
    → (y : Xid) → state_of s'.store y ≡ S3
    → writes_of s'.store.writes y ≡ promised_of (Foreign y)
    (after_entry (logged s) e x (writes_of s.store.writes x)).promised
promises_behind s s' x e to stands is_to row goes y is = by_test (same x y) refl
  where
    own : state_of s'.store x ≡ S3
        → writes_of s'.store.writes x ≡ promised_of (Foreign x)
        (after_entry (logged s) e x (writes_of s.store.writes x)).promised
    own here =
        let three : to ≡ S3 = sym row.branch.own ∙ here in
        let prepares : e ≡ Prepared = leads_prepared e (sym is_to ∙ three) in
        writes_kept s.store s'.store x to goes three
        ∙ sym (promised_own (logged s) x (writes_of s.store.writes x))
        ∙ ap (λ f. promised_of (Foreign x) (after_entry (logged s) f x (writes_of s.store.writes x)).promised)
        (sym prepares)

    by_test : (b : Bool) → same x y ≡ b
        → writes_of s'.store.writes y ≡ promised_of (Foreign y)
        (after_entry (logged s) e x (writes_of s.store.writes x)).promised
    by_test true t =
        let one : x ≡ y = same_is x y t in
        subst (λ z. writes_of s'.store.writes z
        ≡ promised_of (Foreign z) (after_entry (logged s) e x (writes_of s.store.writes x)).promised) one
        (own (ap (state_of s'.store) one ∙ is))
    by_test false t =
        writes_other s.store s'.store x y to goes t
        ∙ stands.promises y (sym (row.branch.others y t) ∙ is)
        ∙ sym (promised_other (logged s) e x y (writes_of s.store.writes x) t)

-- and that is its last record
marked_behind : (s s' : KvSight) (x : Xid) (e : BranchRecord) (to : BranchState)
    (ws : List Write) → IsLogged s → to ≡ leads e
    → TakesTableRow s.store.tables s'.store.tables x to → (y : Xid) → state_of s'.store y ≡ S3
    → mark_after (Foreign y) (mark_at (records_of s.log.sight.kept) y) (entry_of e (Foreign x) ws) ≡ Promised
marked_behind s s' x e to ws stands is_to row y is = by_test (same x y) refl
  where
    said : Xid → Mark
    said z = mark_at (records_of s.log.sight.kept) z

    own : state_of s'.store x ≡ S3 → mark_after (Foreign x) (said x) (entry_of e (Foreign x) ws) ≡ Promised
    own here =
        ap (λ f. mark_after (Foreign x) (said x) (entry_of f (Foreign x) ws))
        (leads_prepared e (sym is_to ∙ sym row.branch.own ∙ here))
        ∙ marks_own (said x) x ws

    by_test : (b : Bool) → same x y ≡ b → mark_after (Foreign y) (said y)
        (entry_of e (Foreign x) ws) ≡ Promised
    by_test true t =
        let one : x ≡ y = same_is x y t in
        subst (λ z. mark_after (Foreign z) (said z) (entry_of e (Foreign x) ws) ≡ Promised) one
        (own (ap (state_of s'.store) one ∙ is))
    by_test false t = marks_other (said y) e x y ws t ∙ stands.marked y (sym (row.branch.others y t) ∙ is)

-- the branches in doubt are those of the log after a turn
doubts_behind : (s s' : KvSight) (x : Xid) (e : BranchRecord) (to : BranchState) (ws : List Write)
    → IsLogged s
    → to ≡ leads e → TakesTableRow s.store.tables s'.store.tables x to → (y : Xid)
    → doubt_of (state_of s'.store y) ≡ marked_state
    (mark_after (Foreign y) (mark_at (records_of s.log.sight.kept) y) (entry_of e (Foreign x) ws))
doubts_behind s s' x e to ws stands is_to row y = by_test (same x y) refl
  where
    said : Xid → Mark
    said z = mark_at (records_of s.log.sight.kept) z

    by_test : (b : Bool) → same x y ≡ b → doubt_of (state_of s'.store y)
        ≡ marked_state (mark_after (Foreign y) (said y) (entry_of e (Foreign x) ws))
    by_test true t =
        subst (λ z. doubt_of (state_of s'.store z)
        ≡ marked_state (mark_after (Foreign z) (said z) (entry_of e (Foreign x) ws))) (same_is x y t)
        (ap doubt_of (row.branch.own ∙ is_to) ∙ sym (marks_lead (said x) e x ws))
    by_test false t = ap doubt_of (row.branch.others y t) ∙ stands.doubts y
        ∙ ap marked_state (sym (marks_other (said y) e x y ws t))

-- the records after a turn
records_behind : (s s' : KvSight) (e : BranchRecord) (x : Xid) (ws : List Write) (is_forced : Bool)
    → WritesRecord s.log s'.log (entry_record e x ws) is_forced
    → records_of s'.log.sight.kept ≡ records_of s.log.sight.kept ++ entry_record e x ws ∷ []
records_behind s s' e x ws is_forced made =
    ap (λ (k : LogSight). records_of k.kept) made.sight
    ∙ wrote_records s.log.sight (entry_record e x ws) is_forced

-- of each branch that an operator decided the log says so after a turn
still_decided : (s s' : KvSight) (x : Xid) (c : Call) (turn : CallRow) (e : BranchRecord) → IsLogged s
    → IsDueTurn s x c turn → turn.entry ≡ Some e
    → TakesTableRow s.store.tables s'.store.tables x turn.to
    → NotesDecision s.store.decisions s'.store.decisions x
    (known_behind turn.entry (decision_in s.store.decisions x))
    → WritesRecord s.log s'.log (entry_record e x (writes_of s.store.writes x)) turn.is_forced
    → (y : Xid) → state_of s'.store y ≡ S5 → SaysDecided
    (records_of s'.log.sight.kept) y (known_of s'.store y)
still_decided s s' x c turn e stands due is row notes made y here = by_test (same x y) refl
  where
    ws : List Write
    ws = writes_of s.store.writes x

    by_state : IsUntold (state_of s.store x) (known_of s.store x) e → IsTold e
        → known_of s.store x ≡ decided_in (records_of s.log.sight.kept) x
    by_state n t = (stands.decided x (was e n t)).how
      where
        was : (e : BranchRecord) → IsUntold (state_of s.store x) (known_of s.store x) e
            → IsTold e → state_of s.store x ≡ S5
        was (Told o) n t = n.0
        was Prepared n t = absurd t
        was Committed n t = absurd t
        was RolledBack n t = absurd t
        was Direct n t = absurd t
        was HeurCommit n t = absurd t
        was HeurRollback n t = absurd t
        was Forgot n t = absurd t

    logs_untold : (e : BranchRecord) → IsUntold (state_of s.store x) (known_of s.store x) e
        → (IsTold e → known_of s.store x ≡ decided_in (records_of s.log.sight.kept) x)
        → IsUntold S5 (decided_in (records_of s.log.sight.kept) x) e
    logs_untold (Told o) n how = (refl, ap (λ (d : Decision). d.told) (sym (how tt)) ∙ n.1)
    logs_untold Prepared n how = tt
    logs_untold Committed n how = tt
    logs_untold RolledBack n how = tt
    logs_untold Direct n how = tt
    logs_untold HeurCommit n how = tt
    logs_untold HeurRollback n how = tt
    logs_untold Forgot n how = tt

    own : state_of s'.store x ≡ S5 → SaysDecided (records_of s'.log.sight.kept) x (known_of s'.store x)
    own at =
        let n : IsUntold (state_of s.store x) (known_of s.store x) e = due_untold s x c turn e due is in
        let leads_on : leads e ≡ S5 = sym (due_leads s x c turn e due is) ∙ sym row.branch.own ∙ at in
        let said = decides_own (mark_at (records_of s.log.sight.kept) x)
        (decided_in (records_of s.log.sight.kept) x) (decision_in s.store.decisions x) e x ws leads_on
        (logs_untold e n (by_state n)) (by_state n) in
        record {
          says = ap says_decided (marked_logged s s' e x ws turn.is_forced made x) ∙ said.0;
          how = ap decision_or (notes.own ∙ ap (λ o. known_behind o (decision_in s.store.decisions x)) is)
              ∙ said.1
              ∙ sym (decided_logged s s' e x ws turn.is_forced made x);
        }

    by_test : (b : Bool) → same x y ≡ b → SaysDecided (records_of s'.log.sight.kept) y (known_of s'.store y)
    by_test true t =
        let one : x ≡ y = same_is x y t in
        subst (λ z. SaysDecided (records_of s'.log.sight.kept) z (known_of s'.store z)) one
        (own (ap (state_of s'.store) one ∙ here))
    by_test false t =
        let before = stands.decided y (sym (row.branch.others y t) ∙ here) in
        record {
          says = ap says_decided (marked_logged s s' e x ws turn.is_forced made y
              ∙ marks_other (mark_at (records_of s.log.sight.kept) y) e x y ws t) ∙ before.says;
          how = ap decision_or (notes.others y t) ∙ before.how
              ∙ sym (decided_logged s s' e x ws turn.is_forced made y
              ∙ decides_other (decided_in (records_of s.log.sight.kept) y) e x y ws t);
        }

-- these records may follow those of the log, and the commits can be counted
pub record AreFollowed (s : KvSight) (ls : List LogRecord) : Type 0 where
  pub ordered : are_ordered (records_of s.log.sight.kept ++ ls) ≡ true
  pub counted : AreCountedCommits (records_of s.log.sight.kept ++ ls)

-- the record of a branch may follow
abbrev pub IsFollowed : KvSight → BranchRecord → Xid → Type 0
IsFollowed s e x = AreFollowed s (entry_record e x (writes_of s.store.writes x) ∷ [])

-- what is written leaves a log of its sort
written_kind : (s s' : KvSight) (e : BranchRecord) (x : Xid) (is_forced : Bool)
    → WritesRecord s.log s'.log (entry_record e x (writes_of s.store.writes x)) is_forced
    → s'.log.sight.form.kind ≡ s.log.sight.form.kind
written_kind s s' e x is_forced made =
    ap (λ (k : LogSight). k.form.kind) made.sight
    ∙ ap (λ f. f.kind) (by_force is_forced s.log.sight (entry_record e x (writes_of s.store.writes x)))
  where
    by_force : (b : Bool) (k : LogSight) (l : LogRecord) → (with_record k l b).form ≡ k.form
    by_force true k l = refl
    by_force false k l = refl

pub kept_noted : (s s' : KvSight) (x : Xid) (c : Call) (turn : CallRow) (e : BranchRecord)
    → IsKvManager s → IsFollowed s e x → IsDueTurn s x c turn
    → turn.entry ≡ Some e → applies e ≡ false → TakesTurn s.store s'.store x turn
    → WritesRecord s.log s'.log (entry_record e x (writes_of s.store.writes x)) turn.is_forced
    → IsKvManager s'
kept_noted s s' x c turn e kept follows due is notes takes made = record {
  kind = written_kind s s' e x turn.is_forced made ∙ kept.kind;
  ordered = ap are_ordered (records_behind s s' e x ws turn.is_forced made) ∙ follows.ordered;
  counted = subst AreCountedCommits (sym (records_behind s s' e x ws turn.is_forced made)) follows.counted;
  stands = λ works. record {
    are_data = subst (AreData s'.store.versions) (sym behind)
        (same_data s'.store.versions (logged s) _ (noted_count (logged s) e x ws notes)
        (noted_pairs (logged s) e x ws notes)
        (subst (λ v. AreData v (logged s)) (sym takes.versions) stands.are_data));
    rise = ap (λ (d : Data). keys_rise d.pairs) behind
        ∙ ap keys_rise (noted_pairs (logged s) e x ws notes) ∙ stands.rise;
    promises = λ y here. promises_behind s s' x e turn.to stands (due_leads s x c turn e due is)
        takes.tables takes.keeps y here
        ∙ ap (λ (d : Data). promised_of (Foreign y) d.promised) (sym behind);
    marked = λ y here. marked_logged s s' e x ws turn.is_forced made y
        ∙ marked_behind s s' x e turn.to ws stands (due_leads s x c turn e due is) takes.tables y here;
    decided = still_decided s s' x c turn e stands due is takes.tables takes.decisions made;
    doubts = λ y. doubts_behind s s' x e turn.to ws stands (due_leads s x c turn e due is) takes.tables y
        ∙ ap marked_state (sym (marked_logged s s' e x ws turn.is_forced made y));
    begun = ap has_records (records_behind s s' e x ws turn.is_forced made)
        ∙ has_more (records_of s.log.sight.kept) (entry_record e x ws);
  };
}
  where
    ws : List Write
    ws = writes_of s.store.writes x

    stands : IsLogged s
    stands = kept.stands due.works

    behind : logged s' ≡ after_entry (logged s) e x ws
    behind = logged_behind s s' e x ws turn.is_forced made

-- a turn that commits, from its steps
pub record Commits (old new : KeySight) (x : Xid) (turn : CallRow) : Type 0 where
  pub tables : TakesTableRow old.tables new.tables x turn.to
  pub keeps : LetsBranchGo old new x turn.to
  pub versions : AppliesCommit old.versions new.versions (writes_of old.writes x)
  pub decisions : NotesDecision old.decisions new.decisions x
      (known_behind turn.entry (decision_in old.decisions x))

pub commits_by : (a b c d : KeySight) (x : Xid) (turn : CallRow) → StagesWrites a b x
    → PublishesWrites b c → TakesTurn c d x turn
    → Commits a d x turn
commits_by a b c d x turn staged published takes = record {
  tables = subst (λ t. TakesTableRow t d.tables x turn.to) (published.tables ∙ staged.tables) takes.tables;
  keeps = subst (λ w. MatchBool (is_let_go turn.to)
      (LeavesWrites w d.writes x [] × ReleasesLocks a.locks d.locks x)
      ((d.writes ≡ w) × (d.locks ≡ a.locks))) (published.writes ∙ staged.writes)
      (subst (λ l. MatchBool (is_let_go turn.to)
      (LeavesWrites c.writes d.writes x [] × ReleasesLocks l d.locks x)
      ((d.writes ≡ c.writes) × (d.locks ≡ l))) (published.locks ∙ staged.locks) takes.keeps);
  versions = subst (λ v. AppliesCommit a.versions v (writes_of a.writes x)) (sym takes.versions)
      (applies_staged a.versions b.versions c.versions (writes_of a.writes x)
      staged.versions published.versions);
  decisions = subst (λ t. NotesDecision t d.decisions x (known_behind turn.entry (decision_in t x)))
      (published.decisions ∙ staged.decisions) takes.decisions;
}

pub kept_committed : (s s' : KvSight) (x : Xid) (c : Call) (turn : CallRow) (e : BranchRecord)
    → IsKvManager s → IsFollowed s e x → IsDueTurn s x c turn
    → turn.entry ≡ Some e → applies e ≡ true → Commits s.store s'.store x turn
    → WritesRecord s.log s'.log (entry_record e x (writes_of s.store.writes x)) turn.is_forced
    → IsKvManager s'
kept_committed s s' x c turn e kept follows due is makes takes made = record {
  kind = written_kind s s' e x turn.is_forced made ∙ kept.kind;
  ordered = ap are_ordered (records_behind s s' e x ws turn.is_forced made) ∙ follows.ordered;
  counted = subst AreCountedCommits (sym (records_behind s s' e x ws turn.is_forced made)) follows.counted;
  stands = λ works. record {
    are_data = subst (AreData s'.store.versions) (sym committed) (applies_data s.store.versions
        s'.store.versions (logged s) ws stands.rise stands.are_data takes.versions);
    rise = ap (λ (d : Data). keys_rise d.pairs) committed
        ∙ (writes_pairs (logged s).pairs ws stands.rise).rise;
    promises = λ y here. promises_behind s s' x e turn.to stands (due_leads s x c turn e due is)
        takes.tables takes.keeps y here
        ∙ ap (λ (d : Data). promised_of (Foreign y) d.promised) (sym behind);
    marked = λ y here. marked_logged s s' e x ws turn.is_forced made y
        ∙ marked_behind s s' x e turn.to ws stands (due_leads s x c turn e due is) takes.tables y here;
    decided = still_decided s s' x c turn e stands due is takes.tables takes.decisions made;
    doubts = λ y. doubts_behind s s' x e turn.to ws stands (due_leads s x c turn e due is) takes.tables y
        ∙ ap marked_state (sym (marked_logged s s' e x ws turn.is_forced made y));
    begun = ap has_records (records_behind s s' e x ws turn.is_forced made)
        ∙ has_more (records_of s.log.sight.kept) (entry_record e x ws);
  };
}
  where
    ws : List Write
    ws = writes_of s.store.writes x

    stands : IsLogged s
    stands = kept.stands due.works

    behind : logged s' ≡ after_entry (logged s) e x ws
    behind = logged_behind s s' e x ws turn.is_forced made

    was : settles e ≡ true → promised_of (Foreign x) (logged s).promised ≡ ws
    was one = sym (stands.promises x (due_prepared s x c turn e due is one))

    committed : logged s' ≡ commits ws (logged s)
    committed = behind ∙ committed_data (logged s) e x ws makes was

-- A device that fails leaves nothing to hold.

pub kept_broken : (s s' : KvSight) (ls : List LogRecord) → IsKvManager s
    → AreFollowed s ls → Breaks s.log s'.log ls → IsKvManager s'
kept_broken s s' ls kept follows broke = record {
  kind = ap (λ f. f.kind) broke.form ∙ kept.kind;
  ordered = ap are_ordered broke.stand
      ∙ ordered_taken (records_of s.log.sight.kept) ls broke.appended follows.ordered;
  counted = subst AreCountedCommits (sym broke.stand)
      (counted_taken (records_of s.log.sight.kept) ls broke.appended follows.counted);
  stands = λ works. absurd (let never : true ≡ false = sym broke.failed ∙ works in cc);
}

-- From the room that was made first.

-- a turn stays one where neither the tables nor the writes nor the decisions change
pub turn_same : (a b : KeySight) (x : Xid) (c : Call) (turn : CallRow) → b.tables ≡ a.tables
    → b.writes ≡ a.writes → b.decisions ≡ a.decisions
    → IsTurn a x c turn → IsTurn b x c turn
turn_same a b x c turn tables writes decisions (OfCall one) =
    OfCall (one ∙ sym (λ i. turn_of (state_at (tables i) x) c (wrote_some (writes_of (writes i) x))
    (name_in x).1 (decision_or (decision_in (decisions i) x))))
turn_same a b x c turn tables writes decisions (OfOperator o here room one) =
    OfOperator o (ap (λ t. state_at t x) tables ∙ here)
    (subst (λ (t : DecisionTable). 1 ≤ t.room) (sym decisions) room) one

pub due_same : (a b : KvSight) (x : Xid) (c : Call) (turn : CallRow) → OnlyRoom a b
    → IsDueTurn a x c turn → IsDueTurn b x c turn
due_same a b x c turn room due = record {
  works = ap (λ (k : LogSight). k.failed) room.sight ∙ due.works;
  known = subst (λ (s : KeySight). is_known s.tables.branches.branches x ≡ true) (sym room.store) due.known;
  due = subst (λ (s : KeySight). IsTurn s x c turn) (sym room.store) due.due;
  listed = subst (λ (s : KeySight). IsRowListed s x c turn) (sym room.store) due.listed;
}

pub made_committed : (old s s' : KvSight) (x : Xid) (turn : CallRow) (e : BranchRecord)
    → OnlyRoom old s → turn.entry ≡ Some e
    → applies e ≡ true → Commits s.store s'.store x turn
    → WritesRecord s.log s'.log (entry_record e x (writes_of s.store.writes x)) turn.is_forced
    → s'.boot ≡ s.boot
    → KvMakes old s' x turn
made_committed old s s' x turn e room is makes done made boot = record {
  tables = commits_old.tables;
  keeps = commits_old.keeps;
  versions = subst (λ b. MatchBool b (AppliesCommit old.store.versions s'.store.versions
      (writes_of old.store.writes x)) (s'.store.versions ≡ old.store.versions))
      (sym (ap commits_data is ∙ makes)) commits_old.versions;
  decisions = commits_old.decisions;
  log = subst (λ o. LogsTurn old s' x turn.is_forced o) (sym is)
      (made.sight ∙ ap (λ (k : LogSight). with_record k
      (entry_record e x (writes_of s.store.writes x)) turn.is_forced) room.sight
      ∙ ap (λ (v : KeySight). with_record old.log.sight (entry_record e x (writes_of v.writes x))
      turn.is_forced) room.store);
  boot = boot ∙ room.boot;
}
  where
    commits_old : Commits old.store s'.store x turn
    commits_old = subst (λ (v : KeySight). Commits v s'.store x turn) room.store done

pub fails_by : (old s s' : KvSight) (x : Xid) (turn : CallRow) (e : BranchRecord) → OnlyRoom old s
    → turn.entry ≡ Some e
    → Breaks s.log s'.log (entry_record e x (writes_of s.store.writes x) ∷ [])
    → s'.store.tables ≡ s.store.tables → s'.store.writes ≡ s.store.writes → s'.store.locks ≡ s.store.locks
    → s'.store.decisions ≡ s.store.decisions → s'.boot ≡ s.boot → KvFails old s' x turn
fails_by old s s' x turn e room is broke tables writes locks decisions boot = record {
  entry = e;
  writes_it = is;
  log = subst (λ (v : KeySight). Breaks old.log s'.log
      (entry_record e x (writes_of v.writes x) ∷ [])) room.store (record {
        form = broke.form ∙ ap (λ (k : LogSight). k.form) room.sight;
        appended = broke.appended;
        stand = broke.stand ∙ ap (λ (k : LogSight). records_of k.kept ++ take broke.appended (l ∷ []))
            room.sight;
        no_less = subst (λ (k : LogSight). length k.kept.forced
            ≤ length s'.log.sight.kept.forced) room.sight broke.no_less;
        more = broke.more;
        leaves = λ keep. broke.leaves keep ∙ ap (λ (k : LogSight). left_by
            (longer k (take broke.appended (l ∷ []))) (broke.more + keep)) room.sight;
        failed = broke.failed;
        cause = subst (λ (k : LogSight). MoreFailures k.failures s'.log.sight.failures)
            room.sight broke.cause;
      });
  tables = tables ∙ ap (λ (v : KeySight). v.tables) room.store;
  writes = writes ∙ ap (λ (v : KeySight). v.writes) room.store;
  locks = locks ∙ ap (λ (v : KeySight). v.locks) room.store;
  decisions = decisions ∙ ap (λ (v : KeySight). v.decisions) room.store;
  boot = boot ∙ room.boot;
}
  where
    l : LogRecord
    l = entry_record e x (writes_of s.store.writes x)

-- A turn that writes nothing.

-- it ends its branch, or the branch stays as an operator decided it
abbrev pub StaysDecided : KeySight → Xid → CallRow → Type 0
StaysDecided old x turn = (turn.to ≡ S0) ⊎ ((turn.to ≡ S5) × (state_of old x ≡ S5))

pub silent_promises : (old new : KeySight) (x : Xid) (turn : CallRow) → TakesTurn old new x turn
    → turn.entry ≡ None → StaysDecided old x turn → doubt_of turn.to ≡ doubt_of (state_of old x)
    → KeepsPromises old new
silent_promises old new x turn takes none so one = record {
  doubts = moves_doubts old.tables new.tables x turn.to one takes.tables.branch;
  versions = one_data old.versions new.versions takes.versions;
  prepared = λ y is. prepared y is (same x y) refl;
  writes = λ y is. writes y is (same x y) refl;
  decided = λ y is. decided y is (same x y) refl;
  known = λ y is. known y (same x y) refl;
}
  where
    here : (y : Xid) (b : BranchState) → state_of new y ≡ b → same x y ≡ true → turn.to ≡ b
    here y b is t = sym takes.tables.branch.own ∙ ap (state_of new) (same_is x y t) ∙ is

    never_own : (y : Xid) → state_of new y ≡ S3 → same x y ≡ true → ⊥
    never_own y is t = elim so [
      | inl ended ↦ absurd (let never : true ≡ false = ap is_let_go (sym ended ∙ here y S3 is t) in cc)
      | inr stays ↦ absurd (let never : true ≡ false = ap is_let_go (sym stays.0 ∙ here y S3 is t) in cc)
    ]

    prepared : (y : Xid) → state_of new y ≡ S3 → (b : Bool) → same x y ≡ b → state_of old y ≡ S3
    prepared y is true t = absurd (never_own y is t)
    prepared y is false t = sym (takes.tables.branch.others y t) ∙ is

    writes : (y : Xid) → state_of new y ≡ S3 → (b : Bool) → same x y ≡ b
        → writes_of new.writes y ≡ writes_of old.writes y
    writes y is true t = absurd (never_own y is t)
    writes y is false t = writes_other old new x y turn.to takes.keeps t

    decided : (y : Xid) → state_of new y ≡ S5 → (b : Bool) → same x y ≡ b → state_of old y ≡ S5
    decided y is true t = elim so [
      | inl ended ↦ absurd (let never : false ≡ true = ap is_decided (sym ended ∙ here y S5 is t) in cc)
      | inr stays ↦ ap (state_of old) (sym (same_is x y t)) ∙ stays.1
    ]
    decided y is false t = sym (takes.tables.branch.others y t) ∙ is

    known : (y : Xid) (b : Bool) → same x y ≡ b → known_of new y ≡ known_of old y
    known y true t =
        let one : x ≡ y = same_is x y t in
        subst (λ z. known_of new z ≡ known_of old z) one
        (ap decision_or (takes.decisions.own ∙ ap (λ o. known_behind o (decision_in old.decisions x)) none))
    known y false t = ap decision_or (takes.decisions.others y t)

pub due_ends : (s : KvSight) (x : Xid) (c : Call) (turn : CallRow) → IsDueTurn s x c turn → turn.entry ≡ None
    → StaysDecided s.store x turn
due_ends s x c turn due is = by_turn due.due
  where
    none_decides : (o : Outcome) → (decide_turn o).entry ≡ None → ⊥
    none_decides CommittedOutcome h = absurd (cc)
    none_decides AbortedOutcome h = absurd (cc)

    by_turn : IsTurn s.store x c turn → StaysDecided s.store x turn
    by_turn (OfCall one) =
        subst (λ (t : CallRow). StaysDecided s.store x t) (sym one)
        (silent_ends (state_of s.store x) c _ _ _ (ap (λ (t : CallRow). t.entry) (sym one) ∙ is))
    by_turn (OfOperator o here room one) = absurd
        (none_decides o (ap (λ (t : CallRow). t.entry) (sym one) ∙ is))

-- nothing changed
pub same_self : (s : KvSight) → SameKv s s
same_self s = record {
  tables = record {
    init = refl;
    branches = stays s.store.tables.branches s.store.tables.branches
        refl;
    associations = refl;
  };
  writes = λ x. refl;
  locks = refl;
  versions = record { base = refl; count = refl; is_staged = refl; values = λ n k. refl };
  decisions = λ x. refl;
  log = refl;
  boot = refl;
}
