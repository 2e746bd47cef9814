-- An operator's decision: a turn, for which room was made first.
use Rattle.std.proofs.Common.{◌≡◌, ◌≤◌, ◌-◌, ◌^◌, ◌∙◌, true, false, not, nat_lt, Option, Some, None, List, [], ◌∷◌, Result, Ok, Err, refl, sym, ap, subst, arith}
use Rattle.std.specs.Prelude.{Contains, IfErr, MatchBool, OnOk, is_some, unwrap_or}
use Rattle.std.specs.Map.{lookup}
use Rattle.xa_codes.specs.declared.code.Code.{Code}
use Rattle.xa_words.specs.code
use Rattle.xa_tables.specs.Tables.{branch_rows}
use Rattle.xa_words.specs.call
use Rattle.xa_tables.specs.declared.states.BranchState.{BranchState}
use Rattle.xa_tables.specs.declared.states.BranchState.TheVariants.{S0, S3, S5}
use Rattle.xa_xid.specs.declared.xid.Xid.{Xid}
use Rattle.xa_branch.specs.Names.{same}
use Rattle.xa_assoc.specs.Answers.{SameStates, TakesTableRow}
use Rattle.xa_branch.specs.declared.decision.Decision.{Decision}
use Rattle.xa_branch.specs.Decisions.{decided_as, heur_code}
use Rattle.xa_branch.specs.Cases.{decision_in, decision_or}
use Rattle.protocol.specs.declared.names.Outcome.{Outcome}
use Rattle.protocol.specs.declared.names.Outcome.TheVariants.{Aborted, Committed}
use Rattle.log_records.specs.Sights.{Breaks, LogState}
use Rattle.process_state.specs.States.{wrote}
use Rattle.resource_manager.specs.Sights.{SameManager}
use Rattle.resource_manager.specs.Ends.{logged_under, state_of as state_of_log}
use Rattle.resource_manager.specs.Deciding.{DecideFails, ManagerDecides, ManagerNotDecided, decision_writes}
use Rattle.resource_manager.specs.declared.errors.DecideError.{DecideError}
use Rattle.resource_manager.specs.declared.errors.DecideError.TheVariants.{Device, Exhausted, Failed, Memory, NotInDoubt}
use Rattle.key_lists.specs.Holders.{without}
use Rattle.kv_locks.specs.Locks.{ReleasesLocks, holders_of}
use Rattle.kv_store.specs.Versions.{AppliesCommit, SameData, VersionTable}
use Rattle.kv_store.specs.writes.Writes.{LeavesWrites, writes_of}
use Rattle.kv_calls.specs.declared.entries.BranchRecord.{BranchRecord}
use Rattle.kv_calls.specs.Turns.{decide_turn, entry_record, heur_entry}
use Rattle.kv_state.specs.Stores.{state_of}
use Rattle.kv_state.specs.Ends.{OfOperator, Reserves, known_behind, known_of}
use Rattle.kv_manager.specs.Resources.{IsRefusal, sight_of}
use Rattle.xa_codes.specs.Codes.{is_own}
use Rattle.kv_manager.specs.Sights.{KvSight, SameKv}
use Rattle.kv_manager.specs.Turns
use Rattle.kv_manager.specs.Turns.{DecisionFails, KvFails, IsDueTurn, KvMakes, KvTakes, commits, with_record}
use Rattle.kv_manager.proofs.Resources.{same_sight, same_tables}

-- The turn.

listed_row : (o : Outcome) → Contains (branch_rows S3 call.Commit) ((decide_turn o).code, (decide_turn o).to)
listed_row Committed = (2, omega arith, refl)
listed_row Aborted = (3, omega arith, refl)

known_by : (o : Option BranchState) → unwrap_or o S0 ≡ S3 → is_some o ≡ true
known_by None h = absurd (cc)
known_by (Some s) h = refl

-- a prepared branch can take the turn of a decision, where there is room
pub can_decide : (s : KvSight) (x : Xid) (o : Outcome) → s.log.sight.failed ≡ false → state_of s.store x ≡ S3
    → 1 ≤ s.store.decisions.room
    → IsDueTurn s x call.Commit (decide_turn o)
can_decide s x o works here room = record {
  works = works;
  known = known_by (lookup (same x) s.store.tables.branches.branches) here;
  due = OfOperator o here room refl;
  listed = subst (λ b. Contains (branch_rows b call.Commit)
      ((decide_turn o).code, (decide_turn o).to)) (sym here) (listed_row o);
}

-- What it makes of a manager, after the room that was made.

module _ (old mid new : KvSight) (x : Xid) (o : Outcome) (works : old.log.sight.failed ≡ false)
    (here : state_of old.store x ≡ S3)
    (room : Reserves old.store mid.store) (log : mid.log.sight ≡ old.log.sight)
    (boot : mid.boot ≡ old.boot) where
  known_same : (y : Xid) → known_of mid.store y ≡ known_of old.store y
  known_same y = ap (λ (ds : List (Xid × Decision)). decision_or (lookup (same y) ds)) room.decisions

  wrote_as : (o : Outcome) → Turns.LogsTurn mid new x true (Some (heur_entry o))
      → new.log.sight ≡ wrote mid.log.sight (decision_writes x o) (logged_under x (decision_writes x o))
  wrote_as Committed is = is
  wrote_as Aborted is = is

  let_go : KvMakes mid new x (decide_turn o) → (writes_of new.store.writes x ≡ [])
      × ((y : Xid) → same x y ≡ false → writes_of new.store.writes y ≡ writes_of mid.store.writes y)
  let_go made = (made.keeps.0.own, made.keeps.0.others)

  known_so : (o : Outcome) (known : Option Decision)
      → decision_or (known_behind (Some (heur_entry o)) known) ≡ decided_as o
  known_so Committed known = refl
  known_so Aborted known = refl

  decides : KvMakes mid new x (decide_turn o) → ManagerDecides (sight_of old) (sight_of new) x o
  decides made = record {
    works = works;
    prepared = here;
    tables = subst (λ t. TakesTableRow t new.store.tables x S5) room.tables made.tables;
    log = wrote_as o made.log ∙ ap (λ k. wrote k (decision_writes x o)
        (logged_under x (decision_writes x o))) log;
    own = (let_go made).0;
    others = λ y apart. (let_go made).1 y apart ∙ ap (λ w. writes_of w y) room.writes;
    held = λ k. made.keeps.1.each k ∙ ap (λ t. without (holders_of t k) x) room.locks;
    decided = ap decision_or made.decisions.own ∙ known_so o (decision_in mid.store.decisions x);
    others_decided = λ y apart. ap decision_or (made.decisions.others y apart) ∙ known_same y;
    boot = made.boot ∙ boot;
  }

  some_is : (e f : BranchRecord) → Some e ≡ Some f → e ≡ f
  some_is e f h = cc

  records_so : (o : Outcome) → entry_record (heur_entry o) x (writes_of mid.store.writes x) ∷ []
      ≡ logged_under x (decision_writes x o)
  records_so Committed = refl
  records_so Aborted = refl

  fails : KvFails mid new x (decide_turn o) → DecideFails (sight_of old) (sight_of new) x o
  fails failed = record {
    works = works;
    prepared = here;
    log = subst (λ k. Breaks (state_of_log k) (state_of_log new.log.sight)
        (logged_under x (decision_writes x o))) log
        (subst (Breaks (state_of_log mid.log.sight) (state_of_log new.log.sight)) records (record {
          form = failed.log.form;
          appended = failed.log.appended;
          stand = failed.log.stand;
          no_less = failed.log.no_less;
          more = failed.log.more;
          leaves = failed.log.leaves;
          failed = failed.log.failed;
          cause = failed.log.cause;
        }));
    tables = same_tables old.store.tables new.store.tables (failed.tables ∙ room.tables);
    writes = λ y. ap (λ u. writes_of u y) (failed.writes ∙ room.writes);
    decided = λ y. ap (λ t. decision_or (decision_in t y)) failed.decisions ∙ known_same y;
    boot = failed.boot ∙ boot;
  }
    where
      records : entry_record failed.entry x (writes_of mid.store.writes x) ∷ []
          ≡ logged_under x (decision_writes x o)
      records =
          ap (λ e. entry_record e x (writes_of mid.store.writes x) ∷ [])
          (sym (some_is (heur_entry o) failed.entry failed.writes_it)) ∙ records_so o

  stays_same : SameKv mid new → SameKv old new
  stays_same alike = record {
    tables = subst (λ t. SameStates t new.store.tables) room.tables alike.tables;
    writes = λ y. alike.writes y ∙ ap (λ w. writes_of w y) room.writes;
    locks = alike.locks ∙ room.locks;
    versions = subst (λ v. SameData v new.store.versions) room.versions alike.versions;
    decisions = λ y. alike.decisions y ∙ ap (λ (ds : List (Xid × Decision)). lookup
        (same y) ds) room.decisions;
    log = alike.log ∙ log;
    boot = alike.boot ∙ boot;
  }

  pub nothing_changed : SameKv mid new → SameManager (sight_of old) (sight_of new)
  nothing_changed alike = same_sight old new (stays_same alike)

  no_refusal : (o : Outcome) → is_own (heur_code o) ≡ false
  no_refusal Committed = refl
  no_refusal Aborted = refl

  never : {A : Type 0} → true ≡ false → A
  never h = absurd (cc)

  other_codes : code.RmFail ≡ code.RmErr → ⊥
  other_codes h = absurd (cc)

  -- it was decided
  pub was_decided : (answer : Code) → KvTakes mid new x (decide_turn o) answer → is_own answer ≡ false
      → ManagerDecides (sight_of old) (sight_of new) x o
  was_decided answer (Turns.Made is made) h = decides made
  was_decided answer (Turns.Broke is failed) h = never (ap is_own (sym is) ∙ h)
  was_decided answer (Turns.Spent is commits few alike) h = never (ap is_own (sym is) ∙ h)

  -- or it was not
  pub was_not : (answer : Code) → KvTakes mid new x (decide_turn o) answer
      → (e : DecideError) → IsRefusal answer e
      → ManagerNotDecided (sight_of old) (sight_of new) x o e
  was_not answer (Turns.Made is made) Device h = never (ap is_own (sym h ∙ is) ∙ no_refusal o)
  was_not answer (Turns.Made is made) Exhausted h = never (ap is_own (sym h ∙ is) ∙ no_refusal o)
  was_not answer (Turns.Made is made) Memory h = absurd h
  was_not answer (Turns.Made is made) Failed h = absurd h
  was_not answer (Turns.Made is made) NotInDoubt h = absurd h
  was_not answer (Turns.Broke is failed) Device h = fails failed
  was_not answer (Turns.Broke is failed) Exhausted h = absurd (other_codes (sym is ∙ h))
  was_not answer (Turns.Broke is failed) Memory h = absurd h
  was_not answer (Turns.Broke is failed) Failed h = absurd h
  was_not answer (Turns.Broke is failed) NotInDoubt h = absurd h
  was_not answer (Turns.Spent is commits few alike) Device h = absurd (other_codes (sym h ∙ is))
  was_not answer (Turns.Spent is commits few alike) Exhausted h = (
    ap (λ (v : VersionTable). not (nat_lt v.count (2 ^ 63 - 1))) (sym room.versions) ∙ ap not few,
    nothing_changed alike,
  )
  was_not answer (Turns.Spent is commits few alike) Memory h = absurd h
  was_not answer (Turns.Spent is commits few alike) Failed h = absurd h
  was_not answer (Turns.Spent is commits few alike) NotInDoubt h = absurd h

-- The same of the key store itself.

module _ (old mid new : KvSight) (x : Xid) (o : Outcome) (room : Reserves old.store mid.store)
    (log : mid.log ≡ old.log) (boot : mid.boot ≡ old.boot) where
  known_alike : (y : Xid) → decision_in mid.store.decisions y ≡ decision_in old.store.decisions y
  known_alike y = ap (λ (ds : List (Xid × Decision)). lookup (same y) ds) room.decisions

  versions_by : (o : Outcome) → MatchBool (commits (Some (heur_entry o)))
      (AppliesCommit mid.store.versions new.store.versions (writes_of mid.store.writes x))
      (new.store.versions ≡ mid.store.versions)
      → MatchBool (commits (Some (heur_entry o)))
      (AppliesCommit old.store.versions new.store.versions (writes_of old.store.writes x))
      (new.store.versions ≡ old.store.versions)
  versions_by Committed applied =
      subst (λ w. AppliesCommit old.store.versions new.store.versions (writes_of w x)) room.writes
      (subst (λ v. AppliesCommit v new.store.versions (writes_of mid.store.writes x)) room.versions applied)
  versions_by Aborted stay = stay ∙ room.versions

  makes : KvMakes mid new x (decide_turn o) → KvMakes old new x (decide_turn o)
  makes made = record {
    tables = subst (λ t. TakesTableRow t new.store.tables x S5) room.tables made.tables;
    keeps = (
      subst (λ w. LeavesWrites w new.store.writes x []) room.writes made.keeps.0,
      subst (λ k. ReleasesLocks k new.store.locks x) room.locks made.keeps.1,
    );
    versions = versions_by o made.versions;
    decisions = record {
      own = made.decisions.own ∙ ap (known_behind (Some (heur_entry o))) (known_alike x);
      others = λ y apart. made.decisions.others y apart ∙ known_alike y;
    };
    log = made.log
        ∙ ap (λ (l : LogState). with_record l.sight
        (entry_record (heur_entry o) x (writes_of mid.store.writes x)) true) log
        ∙ ap (λ w. with_record old.log.sight (entry_record (heur_entry o) x (writes_of w x)) true)
        room.writes;
    boot = made.boot ∙ boot;
  }

  breaks : KvFails mid new x (decide_turn o) → DecisionFails old new x o
  breaks failed = record {
    log = subst (λ w. Breaks old.log new.log (entry_record (heur_entry o) x (writes_of w x) ∷ []))
        room.writes (subst (λ k. Breaks k new.log
        (entry_record (heur_entry o) x (writes_of mid.store.writes x) ∷ [])) log
        (subst (λ e. Breaks mid.log new.log (entry_record e x (writes_of mid.store.writes x) ∷ []))
        (sym (one_entry (heur_entry o) failed.entry failed.writes_it)) failed.log));
    tables = failed.tables ∙ room.tables;
    writes = failed.writes ∙ room.writes;
    locks = failed.locks ∙ room.locks;
    decisions = λ y. ap (λ t. decision_in t y) failed.decisions ∙ known_alike y;
    boot = failed.boot ∙ boot;
  }
    where
      one_entry : (e f : BranchRecord) → Some e ≡ Some f → e ≡ f
      one_entry e f h = cc

  stays : SameKv mid new → SameKv old new
  stays alike = record {
    tables = subst (λ t. SameStates t new.store.tables) room.tables alike.tables;
    writes = λ y. alike.writes y ∙ ap (λ w. writes_of w y) room.writes;
    locks = alike.locks ∙ room.locks;
    versions = subst (λ v. SameData v new.store.versions) room.versions alike.versions;
    decisions = λ y. alike.decisions y ∙ known_alike y;
    log = alike.log ∙ ap (λ (l : LogState). l.sight) log;
    boot = alike.boot ∙ boot;
  }

  no_code : (o : Outcome) → is_own (heur_code o) ≡ false
  no_code Committed = refl
  no_code Aborted = refl

  clash : {A : Type 0} → true ≡ false → A
  clash h = absurd (cc)

  apart_codes : code.RmFail ≡ code.RmErr → ⊥
  apart_codes h = absurd (cc)

  pub was_taken : (answer : Code) → KvTakes mid new x (decide_turn o) answer → is_own answer ≡ false
      → KvMakes old new x (decide_turn o)
  was_taken answer (Turns.Made is made) h = makes made
  was_taken answer (Turns.Broke is failed) h = clash (ap is_own (sym is) ∙ h)
  was_taken answer (Turns.Spent is commits few alike) h = clash (ap is_own (sym is) ∙ h)

  pub was_not_taken : (answer : Code) → KvTakes mid new x (decide_turn o) answer
      → (e : DecideError) → IsRefusal answer e → Turns.DecisionNotTaken old new x o e
  was_not_taken answer (Turns.Made is made) Device h = clash (ap is_own (sym h ∙ is) ∙ no_code o)
  was_not_taken answer (Turns.Made is made) Exhausted h = clash (ap is_own (sym h ∙ is) ∙ no_code o)
  was_not_taken answer (Turns.Made is made) Memory h = absurd h
  was_not_taken answer (Turns.Made is made) Failed h = absurd h
  was_not_taken answer (Turns.Made is made) NotInDoubt h = absurd h
  was_not_taken answer (Turns.Broke is failed) Device h = breaks failed
  was_not_taken answer (Turns.Broke is failed) Exhausted h = absurd (apart_codes (sym is ∙ h))
  was_not_taken answer (Turns.Broke is failed) Memory h = absurd h
  was_not_taken answer (Turns.Broke is failed) Failed h = absurd h
  was_not_taken answer (Turns.Broke is failed) NotInDoubt h = absurd h
  was_not_taken answer (Turns.Spent is commits few alike) Device h = absurd (apart_codes (sym h ∙ is))
  was_not_taken answer (Turns.Spent is commits few alike) Exhausted h = stays alike
  was_not_taken answer (Turns.Spent is commits few alike) Memory h = absurd h
  was_not_taken answer (Turns.Spent is commits few alike) Failed h = absurd h
  was_not_taken answer (Turns.Spent is commits few alike) NotInDoubt h = absurd h

-- that it went well, said in other words
pub map_on : {A E : Type 0} (P Q : Type 0) (r : Result A E) → (P → Q) → OnOk r P → OnOk r Q
map_on P Q (Ok a) f p = f p
map_on P Q (Err e) f p = p

-- an error, said of in other words
pub map_err : {A E : Type 0} (P Q : E → Type 0) (r : Result A E)
    → ((e : E) → P e → Q e) → IfErr r P → IfErr r Q
map_err P Q (Ok a) each h = tt
map_err P Q (Err e) each h = each e h
