-- What keeps the data those of the log.
use Rattle.std.proofs.Common.{◌≡◌, ℕ, Bool, true, false, List, Option, Some, None, Result, Ok, Err, refl, sym, ap, subst, ◌∙◌, if◌then◌else◌}
use Rattle.std.specs.Prelude.{◌==◌, IfOk, IfErr, IsErrAnd, MatchResult, is_some, length, nat_lt, unwrap_or}
use Rattle.std.specs.Map.{lookup}
use Rattle.std.proofs.lemmas.Bool.{eqb-true}
use Rattle.xa_codes.specs.declared.code.Code.{Code}
use Rattle.xa_words.specs.code
use Rattle.xa_tables.specs.Calls.{legal}
use Rattle.xa_tables.specs.declared.call.Call.{Call}
use Rattle.xa_words.specs.verb
use Rattle.xa_assoc.specs.Associations.{IsBare}
use Rattle.xa_branch.specs.Branches.{BranchList, state_in}
use Rattle.xa_assoc.specs.Answers.{BeginsIdle, Closed, Closes, Opened, OpensManager, state_at}
use Rattle.xa_tables.specs.declared.states.BranchState.{BranchState}
use Rattle.xa_tables.specs.declared.states.BranchState.TheVariants.{S0, S1, S2, S3, S4, S5}
use Rattle.xa_xid.specs.declared.xid.Xid.{Xid}
use Rattle.xa_assoc.specs.declared.states.States.{States}
use Rattle.xa_branch.proofs.Names.{same_is}
use Rattle.xa_branch.specs.Names.{same}
use Rattle.xa_assoc.specs.declared.errors.WorkError.{WorkError}
use Rattle.xa_assoc.specs.declared.errors.WorkError.TheVariants.{Memory, NotAssociated, Locked, TooLong, TooManyWrites, RmFail, RollbackOnly}
use Rattle.protocol.specs.Store.{Data}
use Rattle.protocol.specs.declared.messages.Op.{Op}
use Rattle.protocol.specs.declared.messages.Op.TheVariants.{Put, Get, Delete}
use Rattle.kv_store.specs.Versions.{SameData, VersionTable, value_at}
use Rattle.kv_state.specs.Folds.{AreData}
use Rattle.kv_store.specs.writes.Writes.{writes_of}
use Rattle.xa_branch.specs.Cases.{decision_in, decision_or}
use Rattle.kv_state.specs.Stores.{KeySight, MovesTables, SameKeyStore, is_decided, state_of}
use Rattle.kv_state.specs.Ends.{Reserves, SameButData, known_of}
use Rattle.kv_state.specs.Works.{DoesOperation, IsRefusedWork, WritesKey, WritesFor, KeyStoreWorksIdle}
use Rattle.kv_state.proofs.Moves.{KeepsTest, moves_keep, same_keeps}
use Rattle.kv_state.proofs.Working.{works_apart}
use Rattle.xa_branch.specs.declared.decision.Decision.{Decision}
use Rattle.log_records.specs.Sights.{records_of}
use Rattle.kv_manager.specs.Sights.{IsKvManager, KvSight, SaysDecided, doubt_of, logged}
use Rattle.kv_manager.proofs.Staying.{SameDoubts, moves_doubts, same_doubts}

-- a branch is prepared
abbrev pub is_prepared : BranchState → Bool
is_prepared S3 = true
is_prepared _ = false

pub prepared_is : (b : BranchState) → is_prepared b ≡ true → b ≡ S3
prepared_is S3 e = refl
prepared_is S0 e = absurd (cc)
prepared_is S1 e = absurd (cc)
prepared_is S2 e = absurd (cc)
prepared_is S4 e = absurd (cc)
prepared_is S5 e = absurd (cc)

pub decided_is : (b : BranchState) → is_decided b ≡ true → b ≡ S5
decided_is S5 e = refl
decided_is S0 e = absurd (cc)
decided_is S1 e = absurd (cc)
decided_is S2 e = absurd (cc)
decided_is S3 e = absurd (cc)
decided_is S4 e = absurd (cc)

one_doubts : (old new : States) → new ≡ old → SameDoubts old new
one_doubts old new one x = ap (λ (m : States). doubt_of (state_at m x)) one

-- the data stay, the same branches are in doubt, a branch that is prepared was, with the same writes, and one
-- that an operator decided was decided so
pub record KeepsPromises (old new : KeySight) : Type 0 where
  pub versions : SameData old.versions new.versions
  pub prepared : (x : Xid) → state_of new x ≡ S3 → state_of old x ≡ S3
  pub writes : (x : Xid) → state_of new x ≡ S3 → writes_of new.writes x ≡ writes_of old.writes x
  pub decided : (x : Xid) → state_of new x ≡ S5 → state_of old x ≡ S5
  pub known : (x : Xid) → state_of new x ≡ S5 → known_of new x ≡ known_of old x
  pub doubts : SameDoubts old.tables new.tables

pub data_stay : (v v' : VersionTable) (d : Data) → SameData v v' → AreData v d → AreData v' d
data_stay v v' d stays are = record {
  count = stays.count ∙ are.count;
  unstaged = stays.is_staged ∙ are.unstaged;
  values = λ k. ap (λ n. value_at v' n k) stays.count ∙ stays.values v.count k ∙ are.values k;
}

-- data that are the same say the same
pub one_data : (v v' : VersionTable) → v' ≡ v → SameData v v'
one_data v v' one = subst (λ w. SameData v w) (sym one)
    (record { base = refl; count = refl; is_staged = refl; values = λ n k. refl })

pub kept_by : (s : KvSight) (store : KeySight) → IsKvManager s → KeepsPromises s.store store
    → IsKvManager (record s { store = store })
kept_by s store kept keeps = record {
  kind = kept.kind;
  ordered = kept.ordered;
  counted = kept.counted;
  stands = λ works. record {
    are_data = data_stay s.store.versions store.versions (logged s) keeps.versions
        (kept.stands works).are_data;
    rise = (kept.stands works).rise;
    promises = λ x is. keeps.writes x is ∙ (kept.stands works).promises x (keeps.prepared x is);
    marked = λ x is. (kept.stands works).marked x (keeps.prepared x is);
    decided = λ x is. subst (SaysDecided (records_of s.log.sight.kept) x) (sym (keeps.known x is))
        ((kept.stands works).decided x (keeps.decided x is));
    doubts = λ x. keeps.doubts x ∙ (kept.stands works).doubts x;
    begun = (kept.stands works).begun;
  };
}

prepared_by : (old new : States) → KeepsTest is_prepared old new → (s s' : KeySight)
    → s.tables ≡ old → s'.tables ≡ new
    → (x : Xid) → state_of s' x ≡ S3 → state_of s x ≡ S3
prepared_by old new keeps s s' is_old is_new x is =
    prepared_is (state_of s x)
    (ap (λ t. is_prepared (state_of (record s { tables = t }) x)) is_old
    ∙ keeps x (ap (λ t. is_prepared (state_of (record s' { tables = t }) x))
    (sym is_new) ∙ ap is_prepared is))

decided_by : (old new : States) → KeepsTest is_decided old new → (s s' : KeySight)
    → s.tables ≡ old → s'.tables ≡ new
    → (x : Xid) → state_of s' x ≡ S5 → state_of s x ≡ S5
decided_by old new keeps s s' is_old is_new x is =
    decided_is (state_of s x)
    (ap (λ t. is_decided (state_of (record s { tables = t }) x)) is_old
    ∙ keeps x (ap (λ t. is_decided (state_of (record s' { tables = t }) x)) (sym is_new) ∙ ap is_decided is))

pub same_promises : (old new : KeySight) → SameKeyStore old new → KeepsPromises old new
same_promises old new stays = record {
  versions = one_data old.versions new.versions stays.versions;
  prepared = prepared_by old.tables new.tables
      (same_keeps is_prepared old.tables new.tables stays.tables) old new refl refl;
  writes = λ x is. stays.writes x;
  decided = decided_by old.tables new.tables (same_keeps is_decided old.tables new.tables
      stays.tables) old new refl refl;
  known = λ x is. ap decision_or (stays.decisions x);
  doubts = same_doubts old.tables new.tables stays.tables;
}

pub moved_promises : (old new : KeySight) → SameDoubts old.tables new.tables
    → KeepsTest is_prepared old.tables new.tables
    → KeepsTest is_decided old.tables new.tables
    → new.writes ≡ old.writes → new.versions ≡ old.versions
    → new.decisions ≡ old.decisions → KeepsPromises old new
moved_promises old new doubts keeps still writes versions decisions = record {
  doubts = doubts;
  versions = one_data old.versions new.versions versions;
  prepared = prepared_by old.tables new.tables keeps old new refl refl;
  writes = λ x is. ap (λ w. writes_of w x) writes;
  decided = decided_by old.tables new.tables still old new refl refl;
  known = λ x is. ap (λ t. decision_or (decision_in t x)) decisions;
}

pub refused_same : (old new : KeySight) (refusal : Option WorkError) (e : WorkError)
    → IsRefusedWork old new refusal e → SameKeyStore old new
refused_same old new refusal Memory h = h.1
refused_same old new refusal NotAssociated h = h.1
refused_same old new refusal (Locked y) h = h.1
refused_same old new refusal TooLong h = h.1
refused_same old new refusal TooManyWrites h = h.1
refused_same old new refusal RmFail h = h.1
refused_same old new refusal RollbackOnly h = h.1

-- a branch that is not prepared wrote a key
kept_writes : (old new : KeySight) (w : Xid) (k : List ℕ) (v : Option (List ℕ))
    → is_prepared (state_of old w) ≡ false → WritesFor old new w k v → KeepsPromises old new
kept_writes old new w k v apart wrote = record {
  doubts = one_doubts old.tables new.tables wrote.tables;
  versions = one_data old.versions new.versions wrote.versions;
  prepared = λ x is. ap (λ s. state_of (record old { tables = s }) x) (sym wrote.tables) ∙ is;
  writes = λ x is. writes x (ap (λ s. state_of (record old { tables = s }) x) (sym wrote.tables)
      ∙ is) (same w x) refl;
  decided = λ x is. ap (λ s. state_of (record old { tables = s }) x) (sym wrote.tables) ∙ is;
  known = λ x is. ap (λ d. decision_or (decision_in d x)) wrote.decisions;
}
  where
    writes : (x : Xid) → state_of old x ≡ S3 → (b : Bool) → same w x ≡ b
        → writes_of new.writes x ≡ writes_of old.writes x
    writes x is true e = absurd (let never : true ≡ false = sym (ap is_prepared is)
        ∙ ap (λ z. is_prepared (state_of old z)) (sym (same_is w x e)) ∙ apart in cc)
    writes x is false e = wrote.writes.others x e

pub wrote_promises : (old new : KeySight) (t : ℕ) (k : List ℕ) (v : Option (List ℕ))
    → WritesKey old new t k v → KeepsPromises old new
wrote_promises old new t k v wrote =
    kept_writes old new wrote.branch k v (works_apart is_prepared old t wrote.branch refl refl wrote.works)
    (record {
      allowed = wrote.allowed;
      locks = wrote.locks;
      writes = wrote.writes;
      tables = wrote.tables;
      versions = wrote.versions;
      decisions = wrote.decisions;
    })

-- results, both ways
pub either_way : {A E : Type 0} (P : A → Type 0) (Q : E → Type 0) (X : Type 0)
    (r : Result A E) → IfOk r P → IfErr r Q
    → ((a : A) → P a → X) → ((e : E) → Q e → X) → X
either_way P Q X (Ok a) ok err made refused = made a ok
either_way P Q X (Err e) ok err made refused = refused e err

pub map_ok : {A E : Type 0} (P Q : A → Type 0) (r : Result A E) → IfOk r P → ((a : A) → P a → Q a) → IfOk r Q
map_ok P Q (Ok a) ok each = each a ok
map_ok P Q (Err e) ok each = tt

-- an error that another was turned into
pub made_error : {A E : Type 0} (Q : E → Type 0) (e : E) (r : Result A E)
    → IsErrAnd r (λ f. f ≡ e) → Q e → IfErr r Q
made_error Q e (Ok a) is q = absurd is
made_error Q e (Err f) is q = subst Q (sym is) q

-- what was staged is taken back
pub data_only : (old new : KeySight) → SameButData old new → KeepsPromises old new
data_only old new stays = record {
  doubts = one_doubts old.tables new.tables stays.tables;
  versions = stays.versions;
  prepared = λ x is. ap (λ s. state_of (record old { tables = s }) x) (sym stays.tables) ∙ is;
  writes = λ x is. ap (λ w. writes_of w x) stays.writes;
  decided = λ x is. ap (λ s. state_of (record old { tables = s }) x) (sym stays.tables) ∙ is;
  known = λ x is. ap (λ d. decision_or (decision_in d x)) stays.decisions;
}

-- room was made for a decision
pub room_alone : (old new : KeySight) → Reserves old new → KeepsPromises old new
room_alone old new stays = record {
  doubts = one_doubts old.tables new.tables stays.tables;
  versions = one_data old.versions new.versions stays.versions;
  prepared = λ x is. ap (λ s. state_of (record old { tables = s }) x) (sym stays.tables) ∙ is;
  writes = λ x is. ap (λ w. writes_of w x) stays.writes;
  decided = λ x is. ap (λ s. state_of (record old { tables = s }) x) (sym stays.tables) ∙ is;
  known = λ x is. ap (λ (ds : List (Xid × Decision)). decision_or
      (decision_in (record old.decisions { decisions = ds }) x)) stays.decisions;
}

-- Opening and closing move no branch.

not_zero : (n : ℕ) → (n == 0) ≡ false → n ≡ 0 → ⊥
not_zero n e z = absurd (let f : (0 == 0) ≡ false = subst (λ (k : ℕ). (k == 0) ≡ false) z e in cc)

closed_one : (old new : States) (c : Code) → Closed old new c → new.branches ≡ old.branches
closed_one old new c h = by_tests (length old.associations.holders == 0)
    (length old.associations.moved == 0) refl refl
  where
    held : (IsBare old.associations → ⊥) → new.branches ≡ old.branches
    held n = ap (λ (m : States). m.branches) (h.held n).1

    by_tests : (a b : Bool) → (length old.associations.holders == 0) ≡ a
        → (length old.associations.moved == 0) ≡ b → new.branches ≡ old.branches
    by_tests true true e f = (h.done (record {
      holders = eqb-true (length old.associations.holders) 0 e;
      moved = eqb-true (length old.associations.moved) 0 f;
    })).2
    by_tests true false e f = held (λ bare. not_zero (length old.associations.moved) f bare.moved)
    by_tests false b e f = held (λ bare. not_zero (length old.associations.holders) e bare.holders)

pub closes_one : (old new : States) (flags : ℕ) (c : Code) → Closes old new flags c
    → new.branches ≡ old.branches
closes_one old new flags c h = by_legal (legal verb.Close flags) h
  where
    by_legal : (r : Result Call Code) → MatchResult r (λ _. Closed old new c)
        (λ refusal. (c ≡ refusal) × (new ≡ old)) → new.branches ≡ old.branches
    by_legal (Ok k) h = closed_one old new c h
    by_legal (Err e) h = ap (λ (m : States). m.branches) h.1

pub opens_one : (old new : States) (flags : ℕ) (migrates : Bool) (c : Code)
    → OpensManager old new flags migrates c
    → new.branches ≡ old.branches
opens_one old new flags migrates c h = by_legal (legal verb.Open flags) h
  where
    by_legal : (r : Result Call Code) → MatchResult r (λ _. Opened old new migrates c)
        (λ refusal. (c ≡ refusal) × (new ≡ old)) → new.branches ≡ old.branches
    by_legal (Ok k) h = h.branches
    by_legal (Err e) h = ap (λ (m : States). m.branches) h.1

-- a call that moves no branch keeps the promises
pub called_promises : (old new : KeySight) → new.tables.branches
    ≡ old.tables.branches → new.writes ≡ old.writes
    → new.versions ≡ old.versions → new.decisions ≡ old.decisions → KeepsPromises old new
called_promises old new one writes versions decisions =
    moved_promises old new (λ x. ap (λ (b : BranchList). doubt_of (state_in b.branches x)) one)
    (keeps is_prepared) (keeps is_decided) writes versions decisions
  where
    keeps : (q : BranchState → Bool) → KeepsTest q old.tables new.tables
    keeps q x h = ap (λ (b : BranchList). q (state_in b.branches x)) (sym one) ∙ h

-- Work of a branch that no thread is in.

not_known : (o : Option BranchState) (below : Bool)
    → (if is_some o then code.DupId else if below then code.Ok else code.RmErr) ≡ code.Ok
    → unwrap_or o S0 ≡ S0
not_known None below e = refl
not_known (Some s) below e = absurd cc

-- one begins
pub begins_promises : (old new : KeySight) (x : Xid) (begun : Bool)
    → MovesTables old new (λ t u. BeginsIdle t u x begun) → KeepsPromises old new
begins_promises old new x true made =
    let was : state_of old x ≡ S0 = not_known (lookup (same x) old.tables.branches.branches)
    (nat_lt (length old.tables.branches.branches) 1024) made.tables.0 in
    moved_promises old new
    (moves_doubts old.tables new.tables x S2 (sym (ap doubt_of was)) made.tables.1.branch)
    (moves_keep is_prepared old.tables new.tables x S2 refl made.tables.1.branch)
    (moves_keep is_decided old.tables new.tables x S2 refl made.tables.1.branch)
    made.writes made.versions made.decisions
begins_promises old new x false made =
    moved_promises old new (same_doubts old.tables new.tables made.tables.1)
    (same_keeps is_prepared old.tables new.tables made.tables.1)
    (same_keeps is_decided old.tables new.tables made.tables.1) made.writes made.versions made.decisions

did_promises : (old new : KeySight) (x : Xid) (op : Op) → state_of old x ≡ S2 → DoesOperation old new x op
    → KeepsPromises old new
did_promises old new x (Put k v) at wrote = kept_writes old new x k (Some v) (ap is_prepared at) wrote
did_promises old new x (Get k) at reads =
    called_promises old new (ap (λ (m : States). m.branches) reads.1.tables) reads.1.writes reads.1.versions
    reads.1.decisions
did_promises old new x (Delete k) at wrote = kept_writes old new x k None (ap is_prepared at) wrote

-- an idle one does an operation, or is refused it
pub works_promises : (old new : KeySight) (x : Xid) (op : Op) (done : Bool) → state_of old x ≡ S2
    → KeyStoreWorksIdle old new x op done → KeepsPromises old new
works_promises old new x op true at did = did_promises old new x op at did
works_promises old new x op false at spoils = record {
  doubts = moves_doubts old.tables new.tables x S4 (sym (ap doubt_of at)) spoils.tables.branch;
  versions = one_data old.versions new.versions spoils.versions;
  prepared = prepared_by old.tables new.tables
      (moves_keep is_prepared old.tables new.tables x S4 refl spoils.tables.branch) old new refl refl;
  writes = λ y is. spoils.writes y;
  decided = decided_by old.tables new.tables
      (moves_keep is_decided old.tables new.tables x S4 refl spoils.tables.branch) old new refl refl;
  known = λ y is. ap decision_or (spoils.decisions y);
}
