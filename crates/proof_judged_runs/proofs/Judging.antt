-- The judge's data stay those of a key store with a log, and of what a crash may leave of it.
use Rattle.std.proofs.Common.{◌≡◌, ℕ, Bool, true, false, not, cond, Option, Some, None, List, [], ◌∷◌, ◌++◌, find, ◌||◌, ◌&&◌, refl, ap, sym, subst, ◌∙◌, inl, inr}
use Rattle.std.specs.Prelude.{◌⊎◌, MatchBool, if◌then◌else◌}
use Rattle.std.proofs.lemmas.Bool.{and_from, and_parts, false≢true, not-true}
use Rattle.xa_tables.specs.Tables.{is_in_doubt}
use Rattle.xa_tables.specs.declared.states.BranchState.{BranchState}
use Rattle.xa_tables.specs.declared.states.BranchState.TheVariants.{S0, S1, S2, S3, S4, S5}
use Rattle.xa_xid.specs.declared.xid.Xid.{Xid}
use Rattle.xa_branch.specs.Names.{same}
use Rattle.xa_branch.proofs.Names.{same_is}
use Rattle.protocol.specs.declared.records.BranchName.TheVariants.{Foreign}
use Rattle.protocol.specs.declared.records.LogRecord.{LogRecord}
use Rattle.protocol.specs.declared.records.Write.{Write}
use Rattle.protocol.specs.Plays.{with_write}
use Rattle.protocol.specs.Standings.{mark_at}
use Rattle.protocol.specs.Store.{data_of, writes_of as promised_of}
use Rattle.log_rules.specs.order.Orders.{keys_once}
use Rattle.log_records.specs.Sights.{LogSight, left_by, records_of}
use Rattle.kv_store.specs.Pairs.{found_in}
use Rattle.kv_store.specs.Versions.{AppliesCommit, SameData, VersionTable, value_at, written}
use Rattle.kv_store.specs.writes.Writes.{LeavesWrites, is_of, writes_of}
use Rattle.kv_calls.specs.declared.entries.BranchRecord.{BranchRecord}
use Rattle.kv_calls.specs.declared.entries.BranchRecord.TheVariants.{Prepared, Committed, RolledBack, Direct, HeurCommit, HeurRollback, Told, Forgot}
use Rattle.kv_calls.specs.declared.turns.CallRow.{CallRow}
use Rattle.kv_calls.specs.Turns.{applies, entry_record}
use Rattle.xa_branch.specs.Decisions.{decided_in}
use Rattle.kv_state.specs.Ends.{LetsBranchGo, known_of}
use Rattle.kv_state.specs.Stores.{is_let_go, state_of}
use Rattle.kv_state.specs.Works.{left_or}
use Rattle.kv_manager.specs.Sights.{KvSight, doubt_of}
use Rattle.kv_manager.specs.Turns.{LogsTurn, KvMakes, commits, with_record}
use Rattle.kv_manager.proofs.From.{comes_from}
use Rattle.kv_manager.proofs.Keeping.{one_data}
use Rattle.kv_manager.proofs.Staying.{SameDoubts, moves_doubts}
use Rattle.kv_manager.proofs.Turns.{leads, settles}
use Rattle.resource_manager.specs.Restarting.{marked_state}
use Rattle.judge_state.specs.declared.parts.JudgedDecision.{JudgedDecision}
use Rattle.judge_words.specs.decision
use Rattle.judge_state.specs.declared.parts.Work.{Work}
use Rattle.judge_state.specs.Moves.{committed, decided, gone, is_prepared_at, others, rolled, was_prepared, worked, works_of, works_without}
use Rattle.judge_state.specs.Sights.{Sight}
use Rattle.proof_judged_deeds.specs.Data.{HasWritten, JudgeHolds, IsHeard, MayLeave}
use Rattle.proof_judged_deeds.specs.Names.{NameNumbers, value_number}
use Rattle.proof_judged_deeds.proofs.Hearing.{commit_heard, commit_leave, drop_heard, now_leave, publish_heard, roll_heard, roll_leave, same_heard, same_leave, silent_leave, unnamed_none, write_heard}
use Rattle.proof_judged_deeds.proofs.Ledgers.{Ledger, ledger}
use Rattle.proof_judged_deeds.proofs.Losing.{prepared_same, unprepared}
use Rattle.proof_judged_deeds.proofs.Mirrors.{Mirrors}
use Rattle.proof_judged_runs.proofs.Recorded.{IsLoose, IsRecorded, IsSaid}
use Rattle.proof_judged_runs.proofs.Stored.{IsStored, doubts_alike, five_doubt, fronts_more, kept_written, none_written, other_written, quiet_stored, three_doubt, turn_once, turned_stored, value_of, value_stays, write_once, written_by}

-- a branch is prepared
abbrev pub is_three : BranchState → Bool
is_three S3 = true
is_three _ = false

pub three_is : (s : BranchState) → is_three s ≡ true → s ≡ S3
three_is S3 h = refl
three_is S0 h = absurd (false≢true h)
three_is S1 h = absurd (false≢true h)
three_is S2 h = absurd (false≢true h)
three_is S4 h = absurd (false≢true h)
three_is S5 h = absurd (false≢true h)

-- what a crash that keeps N of the unforced bytes leaves under a key, what it leaves of a branch's promises,
-- and whether the branch is back in S3
abbrev pub value_left : KvSight → ℕ → List ℕ → Option (List ℕ)
value_left m keep k = found_in (data_of (left_by m.log.sight keep)).pairs k

abbrev pub promised_left : KvSight → ℕ → Xid → List Write
promised_left m keep x = promised_of (Foreign x) (data_of (left_by m.log.sight keep)).promised

abbrev pub comes_back : KvSight → ℕ → Xid → Bool
comes_back m keep x = is_three (marked_state (mark_at (left_by m.log.sight keep) x))
    && not (is_in_doubt (state_of m.store x))

-- the judge's data are those of the store, and of what a crash may leave of it
pub record IsJudged (n : NameNumbers) (m : KvSight) (s : Sight) : Type 0 where
  pub stored : IsStored m
  pub heard : IsHeard n (value_of m) (written_by m) s
  pub leave : (keep : ℕ) → MayLeave n (value_left m keep) (promised_left m keep) (comes_back m keep) s
  pub promised : (keep : ℕ) (x : Xid) → state_of m.store x ≡ S3 → promised_left m keep x ≡ written_by m x

-- What leaves log and data.

module _ (n : NameNumbers) (old new : KvSight) (s u : Sight) (j : IsJudged n old s)
    (log : new.log.sight ≡ old.log.sight)
    (doubts : SameDoubts old.store.tables new.store.tables)
    (same_versions : SameData old.store.versions new.store.versions) where
  -- what a crash may leave is the same
  quiet_leave : (keep : ℕ) → MayLeave n (value_left new keep) (promised_left new keep) (comes_back new keep) s
  quiet_leave keep = same_leave n (value_left old keep) (value_left new keep) (promised_left old keep)
      (promised_left new keep)
      (comes_back old keep) (comes_back new keep) s s refl refl
      (λ k. ap (λ (g : LogSight). found_in (data_of (left_by g keep)).pairs k) log)
      (λ x e. ap (λ (g : LogSight). promised_of (Foreign x) (data_of (left_by g keep)).promised) log)
      (λ x. ap (λ (g : LogSight). is_three (marked_state (mark_at (left_by g keep) x))
      && not (is_in_doubt (state_of new.store x))) log
      ∙ ap (λ b. is_three (marked_state (mark_at (left_by old.log.sight keep) x)) && not b)
      (doubts_alike (state_of new.store x) (state_of old.store x) (doubts x)))
      (j.leave keep)

  quiet_promised : ((x : Xid) → state_of old.store x ≡ S3 → written_by new x ≡ written_by old x)
      → (keep : ℕ) (x : Xid)
      → state_of new.store x ≡ S3 → promised_left new keep x ≡ written_by new x
  quiet_promised stays keep x e =
      let was = three_doubt (state_of old.store x) (sym (doubts x) ∙ ap doubt_of e) in
      ap (λ (g : LogSight). promised_of (Foreign x) (data_of (left_by g keep)).promised) log
      ∙ j.promised keep x was
      ∙ sym (stays x was)

  -- a call that writes nothing
  pub quiet_judged : ((x : Xid) → written_by new x ≡ written_by old x) → ledger u ≡ ledger s
      → IsJudged n new u
  quiet_judged writes books = record {
    stored = quiet_stored old new log doubts same_versions (λ x e. writes x) (λ x e. writes x)
        (λ x. ap keys_once (writes x) ∙ j.stored.once x) j.stored;
    heard = same_heard n (value_of old) (value_of new) (written_by old) (written_by new) s u books
        (value_stays old new same_versions) writes j.heard;
    leave = λ keep. same_leave n (value_left new keep) (value_left new keep) (promised_left new keep)
        (promised_left new keep)
        (comes_back new keep) (comes_back new keep) s u (ap (λ (g : Ledger). g.values) books)
        (ap (λ (g : Ledger). g.lost_works) books) (λ k. refl) (λ x e. refl) (λ x. refl) (quiet_leave keep);
    promised = quiet_promised (λ x e. writes x);
  }

  -- a branch writes a key
  pub write_judged : (x : Xid) (k : List ℕ) (v : Option (List ℕ)) → (state_of old.store x ≡ S3 → ⊥)
      → (state_of old.store x ≡ S5 → ⊥) → LeavesWrites old.store.writes new.store.writes x
      (with_write (written_by old x) k v)
      → ledger u ≡ ledger (worked (n.xid x) (n.word k) (value_number n v) s) → IsJudged n new u
  write_judged x k v not_three not_five leaves books = record {
    stored = quiet_stored old new log doubts same_versions (λ y e. elsewhere y S3 e not_three)
        (λ y e. elsewhere y S5 e not_five)
        (λ y. by_once y (same x y) refl) j.stored;
    heard = same_heard n (value_of old) (value_of new) (written_by new) (written_by new)
        (worked (n.xid x) (n.word k) (value_number n v) s) u books
        (value_stays old new same_versions) (λ y. refl)
        (write_heard n (value_of old) (written_by old) (written_by new) s x k v leaves.own
        leaves.others j.heard);
    leave = λ keep. same_leave n (value_left new keep) (value_left new keep) (promised_left new keep)
        (promised_left new keep)
        (comes_back new keep) (comes_back new keep) s u (ap (λ (g : Ledger). g.values) books)
        (ap (λ (g : Ledger). g.lost_works) books) (λ k. refl) (λ x e. refl) (λ x. refl) (quiet_leave keep);
    promised = quiet_promised (λ y e. elsewhere y S3 e not_three);
  } where
    elsewhere : (y : Xid) (at : BranchState) → state_of old.store y ≡ at → (state_of old.store x ≡ at → ⊥)
        → written_by new y ≡ written_by old y
    elsewhere y at e off = by (same x y) refl where
      by : (b : Bool) → same x y ≡ b → written_by new y ≡ written_by old y
      by true q = absurd (off (subst (λ (z : Xid). state_of old.store z ≡ at) (sym (same_is x y q)) e))
      by false q = leaves.others y q

    by_once : (y : Xid) (b : Bool) → same x y ≡ b → keys_once (written_by new y) ≡ true
    by_once y true q = subst (λ (z : Xid). keys_once (written_by new z) ≡ true) (same_is x y q)
        (ap keys_once leaves.own ∙ write_once (written_by old x) k v (j.stored.once x))
    by_once y false q = ap keys_once (leaves.others y q) ∙ j.stored.once y

-- What a crash leaves is all.

module _ (n : NameNumbers) (new : KvSight) (l : Xid → Bool) (u : Sight) (r : IsRecorded new l)
    (stored : IsStored new)
    (heard : IsHeard n (value_of new) (written_by new) u) (keep : ℕ)
    (whole : left_by new.log.sight keep ≡ records_of new.log.sight.kept) where
  pub whole_leave : MayLeave n (value_left new keep) (promised_left new keep) (comes_back new keep) u
  whole_leave = now_leave n (value_of new) (value_left new keep) (written_by new) (promised_left new keep)
      (comes_back new keep) u heard
      (λ k. ap (λ ks. found_in (data_of ks).pairs k) whole ∙ sym (stored.are.values k))
      (λ x e.
      let parts = and_parts (is_three (marked_state (mark_at (left_by new.log.sight keep) x)))
      (not (is_in_doubt (state_of new.store x))) e in
      let three : state_of new.store x ≡ S3 = three_doubt (state_of new.store x)
      (sym (ap (λ ks. marked_state (mark_at ks x)) whole ∙ r.now x)
      ∙ three_is (marked_state (mark_at (left_by new.log.sight keep) x)) parts.0) in
      false≢true (sym (not-true (is_in_doubt (state_of new.store x)) parts.1) ∙ ap is_in_doubt three))

  pub whole_promised : (x : Xid) → state_of new.store x ≡ S3 → promised_left new keep x ≡ written_by new x
  whole_promised x e = ap (λ ks. promised_of (Foreign x) (data_of ks).promised) whole
      ∙ sym (stored.prepared x e)

-- all records are forced
pub forced_judged : (n : NameNumbers) (new : KvSight) (l : Xid → Bool) (u : Sight) → IsRecorded new l
    → IsStored new
    → IsHeard n (value_of new) (written_by new) u
    → ((keep : ℕ) → left_by new.log.sight keep ≡ records_of new.log.sight.kept) → IsJudged n new u
forced_judged n new l u r stored heard whole = record {
  stored = stored;
  heard = heard;
  leave = λ keep. whole_leave n new l u r stored heard keep (whole keep);
  promised = λ keep. whole_promised n new l u r stored heard keep (whole keep);
}

-- A turn.

settles_from : (e : BranchRecord) (st : BranchState) → settles e ≡ true → st ≡ comes_from e → st ≡ S3
settles_from Committed st h q = q
settles_from HeurCommit st h q = q
settles_from Prepared st h q = absurd (false≢true h)
settles_from RolledBack st h q = absurd (false≢true h)
settles_from Direct st h q = absurd (false≢true h)
settles_from HeurRollback st h q = absurd (false≢true h)
settles_from (Told o) st h q = absurd (false≢true h)
settles_from Forgot st h q = absurd (false≢true h)

loose_leads : (e : BranchRecord) → IsLoose e → leads e ≡ S3 → ⊥
loose_leads Committed h q = absurd cc
loose_leads RolledBack h q = absurd cc
loose_leads (Told o) h q = absurd cc
loose_leads Prepared h q = h
loose_leads Direct h q = h
loose_leads HeurCommit h q = h
loose_leads HeurRollback h q = h
loose_leads Forgot h q = h

module _ (n : NameNumbers) (old new : KvSight) (d : Xid → JudgedDecision) (l l' : Xid → Bool)
    (s u : Sight) (x : Xid)
    (turn : CallRow) (j : IsJudged n old s) (r : IsRecorded old l) (r' : IsRecorded new l')
    (mirrors : Mirrors n old.store.tables d s) (made : KvMakes old new x turn) where
  abbrev Judged_so : Type 0
  Judged_so = IsJudged n new u

  abbrev ws : List Write
  ws = written_by old x

  others_written : (y : Xid) → same x y ≡ false → written_by new y ≡ written_by old y
  others_written y apart = other_written old.store new.store x y turn.to made.keeps apart

  lets_go : is_let_go turn.to ≡ true → written_by new x ≡ []
  lets_go h = none_written old.store new.store x turn.to made.keeps h

  state_now : state_of new.store x ≡ turn.to
  state_now = made.tables.branch.own

  others_stay : (y : Xid) → same x y ≡ false → state_of new.store y ≡ state_of old.store y
  others_stay = made.tables.branch.others

  -- Turns that write a record.

  module _ (e : BranchRecord) (is : turn.entry ≡ Some e) (leads_to : turn.to ≡ leads e)
      (from : state_of old.store x ≡ comes_from e)
      (is_loose : turn.is_forced ≡ false → IsLoose e) where
    versions : MatchBool (applies e) (AppliesCommit old.store.versions new.store.versions ws)
        (new.store.versions ≡ old.store.versions)
    versions = subst (λ (o : Option BranchRecord). MatchBool (commits o)
        (AppliesCommit old.store.versions new.store.versions ws)
        (new.store.versions ≡ old.store.versions)) is made.versions

    log : new.log.sight ≡ with_record old.log.sight (entry_record e x ws) turn.is_forced
    log = subst (λ (o : Option BranchRecord). LogsTurn old new x turn.is_forced o) is made.log

    stored : IsStored new
    stored = turned_stored old new x e turn.is_forced log j.stored turn.to leads_to state_now
        others_stay made.keeps
        (λ h. settles_from e (state_of old.store x) h from) versions

    -- the commit of what the branch has written
    applied : applies e ≡ true → (k : List ℕ) → value_of new k ≡ written ws k (value_of old k)
    applied h k = (subst (λ (b : Bool). MatchBool b (AppliesCommit old.store.versions new.store.versions ws)
        (new.store.versions ≡ old.store.versions)) h versions).next k

    same_values : applies e ≡ false → (k : List ℕ) → value_of new k ≡ value_of old k
    same_values h = value_stays old new (one_data old.store.versions new.store.versions
        (subst (λ (b : Bool). MatchBool b (AppliesCommit old.store.versions new.store.versions ws)
        (new.store.versions ≡ old.store.versions)) h versions))

    -- the judge's data stay, if they are those of the store, and, where the record is not forced, of what was
    -- before it
    with_entry : IsHeard n (value_of new) (written_by new) u
        → (turn.is_forced ≡ false → (keep : ℕ)
        → MayLeave n (value_left old keep) (promised_left old keep)
        (λ y. is_three (marked_state (mark_at (left_by old.log.sight keep) y))
        && not (is_in_doubt (state_of new.store y))) u)
        → Judged_so
    with_entry heard front = record {
      stored = stored;
      heard = heard;
      leave = λ keep. elim (fronts_more old new x e turn.is_forced log keep) [
        | inl whole ↦ whole_leave n new l' u r' stored heard keep whole
        | inr loose ↦ same_leave n (value_left old keep) (value_left new keep) (promised_left old keep)
            (promised_left new keep)
            (λ y. is_three (marked_state (mark_at (left_by old.log.sight keep) y))
            && not (is_in_doubt (state_of new.store y)))
            (comes_back new keep) u u refl refl
            (λ k. ap (λ ks. found_in (data_of ks).pairs k) loose.1)
            (λ y q. ap (λ ks. promised_of (Foreign y) (data_of ks).promised) loose.1)
            (λ y. ap (λ ks. is_three (marked_state (mark_at ks y))
            && not (is_in_doubt (state_of new.store y))) loose.1)
            (front loose.0 keep)
      ];
      promised = λ keep y three. elim (fronts_more old new x e turn.is_forced log keep) [
        | inl whole ↦ whole_promised n new l' u r' stored heard keep whole y three
        | inr loose ↦ ap (λ ks. promised_of (Foreign y) (data_of ks).promised) loose.1
            ∙ before keep y three (same x y) refl
            (is_loose loose.0)
      ];
    } where
      before : (keep : ℕ) (y : Xid) → state_of new.store y ≡ S3 → (b : Bool) → same x y ≡ b → IsLoose e
          → promised_left old keep y ≡ written_by new y
      before keep y three true q ok = absurd (loose_leads e ok (sym leads_to ∙ sym state_now
          ∙ subst (λ (z : Xid). state_of new.store z ≡ S3) (sym (same_is x y q)) three))
      before keep y three false q ok = j.promised keep y (sym (others_stay y q) ∙ three)
          ∙ sym (others_written y q)

    never_loose : turn.is_forced ≡ true → (X : Type 0) → turn.is_forced ≡ false → X
    never_loose f X h = absurd (false≢true (sym h ∙ f))

    -- the judge does nothing: the branch promises
    pub promise_judged : turn.is_forced ≡ true → applies e ≡ false → is_let_go (leads e) ≡ false
        → ledger u ≡ ledger s
        → Judged_so
    promise_judged f a keeps books = with_entry
        (same_heard n (value_of old) (value_of new) (written_by old) (written_by new) s u
        books (same_values a)
        (kept_written old.store new.store x turn.to made.keeps (ap is_let_go leads_to ∙ keeps)) j.heard)
        (λ h. never_loose f _ h)

    -- a crash brings the branch back
    back_here : (keep : ℕ) → state_of old.store x ≡ S3 → is_in_doubt (leads e) ≡ false
        → (is_three (marked_state (mark_at (left_by old.log.sight keep) x))
        && not (is_in_doubt (state_of new.store x))) ≡ true
    back_here keep three ends =
        let said : marked_state (mark_at (left_by old.log.sight keep) x) ≡ S3 =
        subst (λ (st : BranchState). IsSaid (doubt_of st) (known_of old.store x)
        (marked_state (mark_at (left_by old.log.sight keep) x))
        (decided_in (left_by old.log.sight keep) x) (l x)) three
        (r.left keep x) in
        and_from (is_three (marked_state (mark_at (left_by old.log.sight keep) x)))
        (not (is_in_doubt (state_of new.store x)))
        (ap is_three said) (ap (λ st. not (is_in_doubt st)) (state_now ∙ leads_to) ∙ ap not ends)

    others_back : (keep : ℕ) (y : Xid) → same x y ≡ false
        → (is_three (marked_state (mark_at (left_by old.log.sight keep) y))
        && not (is_in_doubt (state_of new.store y)))
        ≡ comes_back old keep y
    others_back keep y apart = ap (λ st. is_three (marked_state (mark_at (left_by old.log.sight keep) y))
        && not (is_in_doubt st))
        (others_stay y apart)

    -- it commits
    pub commit_judged : applies e ≡ true → leads e ≡ S0 → (turn.is_forced ≡ false → state_of old.store x ≡ S3)
        → ledger u ≡ ledger (committed (n.xid x) s) → Judged_so
    commit_judged a ends three books = with_entry
        (same_heard n (value_of new) (value_of new) (written_by new) (written_by new)
        (committed (n.xid x) s) u books
        (λ k. refl) (λ y. refl)
        (commit_heard n (value_of old) (value_of new) (written_by old) (written_by new) s x j.heard
        (lets_go (ap is_let_go (leads_to ∙ ends))) others_written (j.stored.once x) (applied a)))
        (λ f keep. same_leave n (value_left old keep) (value_left old keep) (promised_left old keep)
        (promised_left old keep)
        (λ y. is_three (marked_state (mark_at (left_by old.log.sight keep) y))
        && not (is_in_doubt (state_of new.store y)))
        (λ y. is_three (marked_state (mark_at (left_by old.log.sight keep) y))
        && not (is_in_doubt (state_of new.store y)))
        (committed (n.xid x) s) u (ap (λ (g : Ledger). g.values) books)
        (ap (λ (g : Ledger). g.lost_works) books)
        (λ k. refl) (λ y q. refl) (λ y. refl)
        (commit_leave n (value_left old keep) (written_by old) (promised_left old keep) (comes_back old keep)
        (λ y. is_three (marked_state (mark_at (left_by old.log.sight keep) y))
        && not (is_in_doubt (state_of new.store y)))
        s x (j.leave keep) (others_back keep)
        (prepared_same n old.store.tables d s x mirrors (three f)) (j.promised keep x (three f))
        (j.heard.works x)
        (back_here keep (three f) (ap is_in_doubt ends))))

    -- it rolls back
    pub roll_judged : applies e ≡ false → leads e ≡ S0 → state_of old.store x ≡ S3
        → ledger u ≡ ledger (rolled (n.xid x) s) → Judged_so
    roll_judged a ends three books = with_entry
        (same_heard n (value_of new) (value_of new) (written_by new) (written_by new)
        (rolled (n.xid x) s) u books
        (λ k. refl) (λ y. refl)
        (roll_heard n (value_of old) (value_of new) (written_by old) (written_by new) s x j.heard
        (lets_go (ap is_let_go (leads_to ∙ ends))) others_written (same_values a)))
        (λ f keep. same_leave n (value_left old keep) (value_left old keep) (promised_left old keep)
        (promised_left old keep)
        (λ y. is_three (marked_state (mark_at (left_by old.log.sight keep) y))
        && not (is_in_doubt (state_of new.store y)))
        (λ y. is_three (marked_state (mark_at (left_by old.log.sight keep) y))
        && not (is_in_doubt (state_of new.store y)))
        (rolled (n.xid x) s) u (ap (λ (g : Ledger). g.values) books) (ap (λ (g : Ledger). g.lost_works) books)
        (λ k. refl) (λ y q. refl) (λ y. refl)
        (roll_leave n (value_left old keep) (written_by old) (promised_left old keep) (comes_back old keep)
        (λ y. is_three (marked_state (mark_at (left_by old.log.sight keep) y))
        && not (is_in_doubt (state_of new.store y)))
        s x (j.leave keep) (others_back keep)
        (prepared_same n old.store.tables d s x mirrors three) (j.promised keep x three) (j.heard.works x)
        (back_here keep three (ap is_in_doubt ends))))

    -- one that an operator decided is told
    pub tell_judged : applies e ≡ false → leads e ≡ S5 → comes_from e ≡ S5 → ledger u ≡ ledger s → Judged_so
    tell_judged a ends five books = with_entry
        (same_heard n (value_of old) (value_of new) (written_by old) (written_by new) s u books
        (same_values a) writes j.heard)
        (λ f keep. same_leave n (value_left old keep) (value_left old keep) (promised_left old keep)
        (promised_left old keep)
        (comes_back old keep)
        (λ y. is_three (marked_state (mark_at (left_by old.log.sight keep) y))
        && not (is_in_doubt (state_of new.store y)))
        s u (ap (λ (g : Ledger). g.values) books) (ap (λ (g : Ledger). g.lost_works) books)
        (λ k. refl) (λ y q. refl) (λ y. backs keep y (same x y) refl) (j.leave keep))
      where
        writes : (y : Xid) → written_by new y ≡ written_by old y
        writes y = by (same x y) refl where
          by : (b : Bool) → same x y ≡ b → written_by new y ≡ written_by old y
          by true q = subst (λ (z : Xid). written_by new z ≡ written_by old z) (same_is x y q)
              (lets_go (ap is_let_go (leads_to ∙ ends)) ∙ sym (j.stored.decided x (from ∙ five)))
          by false q = others_written y q

        backs : (keep : ℕ) (y : Xid) (b : Bool) → same x y ≡ b
            → (is_three (marked_state (mark_at (left_by old.log.sight keep) y))
            && not (is_in_doubt (state_of new.store y)))
            ≡ comes_back old keep y
        backs keep y true q = subst (λ (z : Xid).
            (is_three (marked_state (mark_at (left_by old.log.sight keep) z))
            && not (is_in_doubt (state_of new.store z)))
            ≡ comes_back old keep z) (same_is x y q)
            (ap (λ st. is_three (marked_state (mark_at (left_by old.log.sight keep) x))
            && not (is_in_doubt st))
            (state_now ∙ leads_to ∙ ends ∙ sym (from ∙ five)))
        backs keep y false q = others_back keep y q

    -- what it has written is gone
    pub drop_judged : turn.is_forced ≡ true → applies e ≡ false → is_let_go (leads e) ≡ true → (v : Sight)
        → IsHeard n (value_of new) (written_by new) v → ledger u ≡ ledger v → Judged_so
    drop_judged f a ends v heard books = with_entry
        (same_heard n (value_of new) (value_of new) (written_by new) (written_by new) v u books (λ k. refl)
        (λ y. refl) heard)
        (λ h. never_loose f _ h)

    -- a branch that was decided is forgotten
    pub forget_judged : turn.is_forced ≡ true → applies e ≡ false → is_let_go (leads e) ≡ true
        → ledger u ≡ ledger (gone (n.xid x) s) → Judged_so
    forget_judged f a ends books = drop_judged f a ends (gone (n.xid x) s)
        (drop_heard n (value_of old) (value_of new) (written_by old) (written_by new) s x j.heard
        (lets_go (ap is_let_go leads_to ∙ ends)) others_written (gone (n.xid x) s) refl refl (same_values a))
        books

    -- an operator rolls it back
    pub abort_judged : turn.is_forced ≡ true → applies e ≡ false → is_let_go (leads e) ≡ true
        → ledger u ≡ ledger (decided (n.xid x) decision.Rollback s) → Judged_so
    abort_judged f a ends books = drop_judged f a ends (decided (n.xid x) decision.Rollback s)
        (drop_heard n (value_of old) (value_of new) (written_by old) (written_by new) s x j.heard
        (lets_go (ap is_let_go leads_to ∙ ends)) others_written (decided (n.xid x) decision.Rollback s) refl
        refl (same_values a))
        books

    -- an operator commits it
    pub decide_judged : turn.is_forced ≡ true → applies e ≡ true → is_let_go (leads e) ≡ true
        → ledger u ≡ ledger (decided (n.xid x) decision.Commit s) → Judged_so
    decide_judged f a ends books = with_entry
        (same_heard n (value_of new) (value_of new) (written_by new) (written_by new)
        (decided (n.xid x) decision.Commit s) u books
        (λ k. refl) (λ y. refl)
        (publish_heard n (value_of old) (value_of new) (written_by old) (written_by new) s x j.heard
        (lets_go (ap is_let_go leads_to ∙ ends)) others_written (j.stored.once x) (applied a)
        (decided (n.xid x) decision.Commit s) refl refl))
        (λ h. never_loose f _ h)

  -- Turns that write none.

  module _ (is : turn.entry ≡ None) (doubt : doubt_of turn.to ≡ doubt_of (state_of old.store x)) where
    same_log : new.log.sight ≡ old.log.sight
    same_log = subst (λ (o : Option BranchRecord). LogsTurn old new x turn.is_forced o) is made.log

    one_versions : new.store.versions ≡ old.store.versions
    one_versions = subst (λ (o : Option BranchRecord).
        MatchBool (commits o) (AppliesCommit old.store.versions new.store.versions ws)
        (new.store.versions ≡ old.store.versions)) is made.versions

    same_doubts : SameDoubts old.store.tables new.store.tables
    same_doubts = moves_doubts old.store.tables new.store.tables x turn.to doubt made.tables.branch

    versions_same : SameData old.store.versions new.store.versions
    versions_same = one_data old.store.versions new.store.versions one_versions

    silent_stored : (state_of old.store x ≡ S3 → ⊥) → IsStored new
    silent_stored off = quiet_stored old new same_log same_doubts versions_same
        (λ y e. elsewhere y (same x y) refl e) (λ y e. at_five y (same x y) refl e)
        (turn_once old.store new.store x turn.to made.keeps j.stored.once) j.stored
      where
        elsewhere : (y : Xid) (b : Bool) → same x y ≡ b → state_of old.store y ≡ S3
            → written_by new y ≡ written_by old y
        elsewhere y true q e = absurd (off (subst (λ (z : Xid). state_of old.store z ≡ S3)
            (sym (same_is x y q)) e))
        elsewhere y false q e = others_written y q

        at_five : (y : Xid) (b : Bool) → same x y ≡ b → state_of old.store y ≡ S5
            → written_by new y ≡ written_by old y
        at_five y true q e = subst (λ (z : Xid). written_by new z ≡ written_by old z) (same_is x y q)
            (own (subst (λ (z : Xid). state_of old.store z ≡ S5) (sym (same_is x y q)) e))
          where
            own : state_of old.store x ≡ S5 → written_by new x ≡ written_by old x
            own five = lets_go (ap is_let_go (five_doubt turn.to (doubt ∙ ap doubt_of five)))
                ∙ sym (j.stored.decided x five)
        at_five y false q e = others_written y q

    silent_promised : (state_of old.store x ≡ S3 → ⊥) → (keep : ℕ) (y : Xid) → state_of new.store y ≡ S3
        → promised_left new keep y ≡ written_by new y
    silent_promised off keep y e = by (same x y) refl where
      was : state_of old.store y ≡ S3
      was = three_doubt (state_of old.store y) (sym (same_doubts y) ∙ ap doubt_of e)

      by : (b : Bool) → same x y ≡ b → promised_left new keep y ≡ written_by new y
      by true q = absurd (off (subst (λ (z : Xid). state_of old.store z ≡ S3) (sym (same_is x y q)) was))
      by false q = ap (λ (g : LogSight). promised_of (Foreign y) (data_of (left_by g keep)).promised) same_log
          ∙ j.promised keep y was ∙ sym (others_written y q)

    silent_judged : (state_of old.store x ≡ S3 → ⊥) → (v : Sight)
        → IsHeard n (value_of new) (written_by new) v
        → ((keep : ℕ) → MayLeave n (value_left new keep) (promised_left new keep) (comes_back new keep) v)
        → ledger u ≡ ledger v → Judged_so
    silent_judged off v heard leave books = record {
      stored = silent_stored off;
      heard = same_heard n (value_of new) (value_of new) (written_by new) (written_by new) v u books
          (λ k. refl) (λ y. refl) heard;
      leave = λ keep. same_leave n (value_left new keep) (value_left new keep) (promised_left new keep)
          (promised_left new keep)
          (comes_back new keep) (comes_back new keep) v u (ap (λ (g : Ledger). g.values) books)
          (ap (λ (g : Ledger). g.lost_works) books) (λ k. refl) (λ y q. refl) (λ y. refl) (leave keep);
      promised = silent_promised off;
    }

    -- a branch that has written nothing commits
    pub empty_judged : (state_of old.store x ≡ S3 → ⊥) → is_let_go turn.to ≡ true → ws ≡ []
        → ledger u ≡ ledger (committed (n.xid x) s) → Judged_so
    empty_judged off ends none books = silent_judged off (committed (n.xid x) s)
        (commit_heard n (value_of old) (value_of new) (written_by old) (written_by new) s x j.heard
        (lets_go ends) others_written
        (j.stored.once x)
        (λ k. value_stays old new versions_same k ∙ sym (ap (λ vs. written vs k (value_of old k)) none
        ∙ unnamed_none k (value_of old k))))
        (λ keep. silent_leave n (value_left new keep) (promised_left new keep) (comes_back new keep) s x
        (unprepared n old.store.tables d s x mirrors off)
        (λ k. subst (λ (vs : List Write). JudgeHolds n (find (is_of k) vs) (n.xid x) (n.word k) s.works) none
        (j.heard.works x k))
        (quiet_leave n old new s u j same_log same_doubts versions_same keep))
        books

    -- one that is not prepared rolls back
    pub undo_judged : (state_of old.store x ≡ S3 → ⊥) → is_let_go turn.to ≡ true
        → ledger u ≡ ledger (rolled (n.xid x) s) → Judged_so
    undo_judged off ends books = silent_judged off (gone (n.xid x) s)
        (drop_heard n (value_of old) (value_of new) (written_by old) (written_by new) s x j.heard
        (lets_go ends) others_written
        (gone (n.xid x) s) refl refl (value_stays old new versions_same))
        (λ keep. same_leave n (value_left new keep) (value_left new keep) (promised_left new keep)
        (promised_left new keep)
        (comes_back new keep) (comes_back new keep) s (gone (n.xid x) s) refl refl (λ k. refl)
        (λ y q. refl) (λ y. refl)
        (quiet_leave n old new s u j same_log same_doubts versions_same keep))
        (books ∙ not_remembered (is_prepared_at (n.xid x) s)
        (unprepared n old.store.tables d s x mirrors off))
      where
        not_remembered : (b : Bool) → is_prepared_at (n.xid x) s ≡ false
            → ledger (rolled (n.xid x) s) ≡ ledger (gone (n.xid x) s)
        not_remembered b e = ap (λ (q : Bool). ledger (gone (n.xid x) (if q then record s {
          lost = others (n.xid x) s.lost ++ was_prepared (n.xid x) s.branches;
          lost_works = works_without (n.xid x) s.lost_works ++ works_of (n.xid x) s.works;
        } else s))) e

    -- one that an operator decided answers again
    pub again_judged : (state_of old.store x ≡ S3 → ⊥) → state_of old.store x ≡ S5 → is_let_go turn.to ≡ true
        → ledger u ≡ ledger s → Judged_so
    again_judged off five ends books = silent_judged off s
        (same_heard n (value_of old) (value_of new) (written_by old) (written_by new) s s refl
        (value_stays old new versions_same) writes j.heard)
        (λ keep. quiet_leave n old new s u j same_log same_doubts versions_same keep) books
      where
        writes : (y : Xid) → written_by new y ≡ written_by old y
        writes y = by (same x y) refl where
          by : (b : Bool) → same x y ≡ b → written_by new y ≡ written_by old y
          by true q = subst (λ (z : Xid). written_by new z ≡ written_by old z) (same_is x y q)
              (lets_go ends ∙ sym (j.stored.decided x five))
          by false q = others_written y q
