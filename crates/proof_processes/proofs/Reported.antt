-- What is reported of a case: it has ended.
use Rattle.std.proofs.Common.{◌≡◌, ◌||◌, inl, inr, Bool, true, false, if◌then◌else◌, List, [], ◌∷◌, fold, is_some, refl, ap, arith}
use Rattle.protocol.specs.declared.names.Case.{Case}
use Rattle.protocol.specs.declared.records.Record.{Record}
use Rattle.protocol.specs.declared.records.Record.TheVariants.{Opened, Collecting, Prepare, Commit, Abort, End, Prepared, Committed, RolledBack, Direct, HeurCommit, HeurRollback, Told, Forgot, Base, Pair, Cleared}
use Rattle.protocol.specs.Names.{same_case}
use Rattle.protocol.specs.Records.{has, is_end, is_reported, reported_after}
use Rattle.proof_processes.specs.WorldHolds.{is_record_of}
use Rattle.proof_processes.proofs.Tests.{left, right, either}

-- a report that is after these records stood before them, or the case ended among them
reported_ended : (c : Case) (b : Bool) (rs : List Record)
    → fold (reported_after c) b rs ≡ true → (b || has (is_end c) rs) ≡ true
unfolding has
reported_ended c b [] e = ap (λ k. k || false) e
reported_ended c b (r ∷ rs) e = one r (reported_ended c (reported_after c b r) rs e)
  where
    ended : (same some : Bool) → ((if same then some else b) || has (is_end c) rs) ≡ true
        → (b || (same || has (is_end c) rs)) ≡ true
    ended true some h = right b true refl
    ended false some h = h

    cleared : (same : Bool) → ((if same then false else b) || has (is_end c) rs) ≡ true
        → (b || has (is_end c) rs) ≡ true
    cleared true h = right b (has (is_end c) rs) h
    cleared false h = h

    one : (r : Record) → (reported_after c b r || has (is_end c) rs) ≡ true
        → (b || (is_end c r || has (is_end c) rs)) ≡ true
    one (End d rep) h = ended (same_case d c) (is_some rep) h
    one (Cleared d) h = cleared (same_case d c) h
    one (Opened n) h = h
    one (Collecting d ts) h = h
    one (Prepare d ts) h = h
    one (Commit d ts) h = h
    one (Abort d ts) h = h
    one (Prepared k ws) h = h
    one (Committed k) h = h
    one (RolledBack k) h = h
    one (Direct k ws) h = h
    one (HeurCommit k) h = h
    one (HeurRollback k) h = h
    one (Told k o) h = h
    one (Forgot k) h = h
    one (Base n) h = h
    one (Pair k v) h = h

pub reported_end : (rs : List Record) (c : Case) → is_reported rs c ≡ true → has (is_end c) rs ≡ true
unfolding is_reported
reported_end rs c e = reported_ended c false rs e

end_recorded : (c : Case) (rs : List Record) → has (is_end c) rs ≡ true → has (is_record_of c) rs ≡ true
unfolding has
end_recorded c [] e = e
end_recorded c (r ∷ rs) e = elim (either (is_end c r) (has (is_end c) rs) e) [
  | inl now ↦ left (is_record_of c r) (has (is_record_of c) rs) (of_it r now)
  | inr rest ↦ right (is_record_of c r) (has (is_record_of c) rs) (end_recorded c rs rest)
]
  where
    of_it : (r : Record) → is_end c r ≡ true → is_record_of c r ≡ true
    of_it r f = grind arith

-- so the log has a record of it
pub reported_recorded : (rs : List Record) (c : Case) → is_reported rs c ≡ true
    → has (is_record_of c) rs ≡ true
reported_recorded rs c e = end_recorded c rs (reported_end rs c e)
