-- What one more record adds to which records a case has, and that what follows from them is what the
-- definitions say.
use Rattle.std.proofs.Common.{◌≡◌, ◌∙◌, Bool, true, false, ◌||◌, if◌then◌else◌, List, [], ◌∷◌, ◌++◌, refl, sym, ap}
use Rattle.std.proofs.lemmas.List.Folds.{list_any-append}
use Rattle.protocol.specs.declared.names.Case.{Case}
use Rattle.protocol.specs.declared.names.Outcome.{Outcome}
use Rattle.protocol_words.specs.Variants.{AbortedOutcome, CaseBranch, CommittedOutcome}
use Rattle.protocol.specs.declared.records.BranchName.TheVariants.{Foreign}
use Rattle.protocol.specs.declared.records.Record.{Record}
use Rattle.protocol.specs.declared.records.Record.TheVariants.{Opened, Collecting, Prepare, Commit, Abort, End, Prepared, Committed, RolledBack, Direct, HeurCommit, HeurRollback, Told, Forgot, Base, Pair, Cleared}
use Rattle.protocol.specs.Names.{same_case}
use Rattle.protocol.specs.Records.{has, is_abort, is_collecting, is_commit, is_committed, is_decided, is_end, is_forgot, is_prepare, is_prepared, is_rolled_back}
use Rattle.protocol.specs.Nodes.{Role, AtRoot, Below, AtLeaf}
use Rattle.protocol.specs.Audits.{is_committing, is_learnt_abort, is_learnt_commit, is_promise, is_told_of}
use Rattle.protocol.specs.Audits.{decision_by, has_line_in, is_abort_learnt, own_decision, since_promise}
use Rattle.coord_records.proofs.Summaries.{is_of}
use Rattle.audit_cases.specs.declared.kinds.Kinds.{Kinds}
use Rattle.audit_cases.specs.Kinds.{decided_in, decision_in, is_aborting, kinds_after, kinds_of, line_in, no_kinds, own_by, own_in, own_of}

or_true : (b : Bool) → (b || true) ≡ true
or_true true = refl
or_true false = refl

or_none : (b : Bool) → (b || false) ≡ b
or_none true = refl
or_none false = refl

has_more : (q : Record → Bool) (rs : List Record) (r : Record)
    → has q (rs ++ r ∷ []) ≡ (has q rs || has q (r ∷ []))
unfolding has
has_more q rs r = list_any-append q rs (r ∷ [])

has_one : (q : Record → Bool) (r : Record) → has q (r ∷ []) ≡ q r
unfolding has
has_one q r = or_none (q r)

-- From the last Prepared on.

module _ (c : Case) (r : Record) where
  behind_prepared : (b : Bool) (x : Record) (xs ys : List Record) → b ≡ true → (if b then ys else x ∷ xs) ≡ ys
  behind_prepared true x xs ys h = refl
  behind_prepared false x xs ys h = absurd (cc)

  -- a Prepared begins again
  since_prepared : (rs : List Record) → is_prepared c r ≡ true → since_promise c (rs ++ r ∷ []) ≡ r ∷ []
  unfolding has
  since_prepared [] is = refl
  since_prepared (x ∷ xs) is =
      behind_prepared (has (is_prepared c) (xs ++ r ∷ [])) x (xs ++ r ∷ []) (since_promise c (xs ++ r ∷ []))
      (has_more (is_prepared c) xs r ∙ ap (λ b. has (is_prepared c) xs || b) (has_one (is_prepared c) r ∙ is)
      ∙ or_true (has (is_prepared c) xs))
      ∙ since_prepared xs is

  by_rest : (x : Record) (xs : List Record) (b : Bool)
      → since_promise c (xs ++ r ∷ []) ≡ since_promise c xs ++ r ∷ []
      → (if b then since_promise c (xs ++ r ∷ []) else x ∷ (xs ++ r ∷ []))
      ≡ (if b then since_promise c xs else x ∷ xs) ++ r ∷ []
  by_rest x xs true rest = rest
  by_rest x xs false rest = refl

  -- any other record goes after the others
  since_other : (rs : List Record) → is_prepared c r ≡ false
      → since_promise c (rs ++ r ∷ []) ≡ since_promise c rs ++ r ∷ []
  unfolding has
  since_other [] is = refl
  since_other (x ∷ xs) is =
      ap (λ b. if b then since_promise c (xs ++ r ∷ []) else x ∷ (xs ++ r ∷ []))
      (has_more (is_prepared c) xs r ∙ ap (λ b. has (is_prepared c) xs || b) (has_one (is_prepared c) r ∙ is)
      ∙ or_none (has (is_prepared c) xs))
      ∙ by_rest x xs (has (is_prepared c) xs) (since_other xs is)

-- One more record.

-- the kinds of either
either : Kinds → Kinds → Kinds
either k m = record {
  collecting = k.collecting || m.collecting;
  prepare = k.prepare || m.prepare;
  commit = k.commit || m.commit;
  abort = k.abort || m.abort;
  ended = k.ended || m.ended;
  prepared = k.prepared || m.prepared;
  committed = k.committed || m.committed;
  rolled_back = k.rolled_back || m.rolled_back;
  heur_commit = k.heur_commit || m.heur_commit;
  heur_rollback = k.heur_rollback || m.heur_rollback;
  told_commit = k.told_commit || m.told_commit;
  told_abort = k.told_abort || m.told_abort;
  forgot = k.forgot || m.forgot;
}

kinds_more : (c : Case) (rs : List Record) (r : Record)
    → kinds_of c (rs ++ r ∷ []) ≡ either (kinds_of c rs) (kinds_of c (r ∷ []))
unfolding either
kinds_more c rs r = λ i. record {
  collecting = has_more (is_collecting c) rs r i;
  prepare = has_more (is_prepare c) rs r i;
  commit = has_more (is_commit c) rs r i;
  abort = has_more (is_abort c) rs r i;
  ended = has_more (is_end c) rs r i;
  prepared = has_more (is_prepared c) rs r i;
  committed = has_more (is_committed c) rs r i;
  rolled_back = has_more (is_rolled_back c) rs r i;
  heur_commit = has_more (is_decided c CommittedOutcome) rs r i;
  heur_rollback = has_more (is_decided c AbortedOutcome) rs r i;
  told_commit = has_more (is_told_of c CommittedOutcome) rs r i;
  told_abort = has_more (is_told_of c AbortedOutcome) rs r i;
  forgot = has_more (is_forgot c) rs r i;
}

-- a test that sets one kind, or none
set_by : (f : Bool → Kinds) (b : Bool) → f (b || false) ≡ (if b then f true else f false)
set_by f true = refl
set_by f false = refl

none_by : (b : Bool) → no_kinds ≡ (if b then no_kinds else no_kinds)
none_by true = refl
none_by false = refl

-- which kinds one record has
one_kind : (c : Case) (r : Record) → kinds_of c (r ∷ [])
    ≡ (if is_of c r then kinds_after no_kinds r else no_kinds)
unfolding has
one_kind c (Collecting d ts) = set_by (λ b. record no_kinds { collecting = b }) (same_case d c)
one_kind c (Prepare d ts) = set_by (λ b. record no_kinds { prepare = b }) (same_case d c)
one_kind c (Commit d ts) = set_by (λ b. record no_kinds { commit = b }) (same_case d c)
one_kind c (Abort d ts) = set_by (λ b. record no_kinds { abort = b }) (same_case d c)
one_kind c (End d rep) = set_by (λ b. record no_kinds { ended = b }) (same_case d c)
one_kind c (Cleared d) = none_by (same_case d c)
one_kind c (Prepared (CaseBranch d) ws) = set_by (λ b. record no_kinds { prepared = b }) (same_case d c)
one_kind c (Prepared (Foreign x) ws) = refl
one_kind c (Committed (CaseBranch d)) = set_by (λ b. record no_kinds { committed = b }) (same_case d c)
one_kind c (Committed (Foreign x)) = refl
one_kind c (RolledBack (CaseBranch d)) = set_by (λ b. record no_kinds { rolled_back = b }) (same_case d c)
one_kind c (RolledBack (Foreign x)) = refl
one_kind c (HeurCommit (CaseBranch d)) = set_by (λ b. record no_kinds { heur_commit = b }) (same_case d c)
one_kind c (HeurCommit (Foreign x)) = refl
one_kind c (HeurRollback (CaseBranch d)) = set_by (λ b. record no_kinds { heur_rollback = b }) (same_case d c)
one_kind c (HeurRollback (Foreign x)) = refl
one_kind c (Told (CaseBranch d) CommittedOutcome) =
    set_by (λ b. record no_kinds { told_commit = b }) (same_case d c)
one_kind c (Told (CaseBranch d) AbortedOutcome) =
    set_by (λ b. record no_kinds { told_abort = b }) (same_case d c)
one_kind c (Told (Foreign x) CommittedOutcome) = refl
one_kind c (Told (Foreign x) AbortedOutcome) = refl
one_kind c (Forgot (CaseBranch d)) = set_by (λ b. record no_kinds { forgot = b }) (same_case d c)
one_kind c (Forgot (Foreign x)) = refl
one_kind c (Direct (CaseBranch d) ws) = none_by (same_case d c)
one_kind c (Direct (Foreign x) ws) = refl
one_kind c (Opened n) = refl
one_kind c (Base n) = refl
one_kind c (Pair key value) = refl

module _ (k : Kinds) where
  no_more : either k no_kinds ≡ k
  unfolding either
  no_more = λ i. record {
    collecting = or_none k.collecting i;
    prepare = or_none k.prepare i;
    commit = or_none k.commit i;
    abort = or_none k.abort i;
    ended = or_none k.ended i;
    prepared = or_none k.prepared i;
    committed = or_none k.committed i;
    rolled_back = or_none k.rolled_back i;
    heur_commit = or_none k.heur_commit i;
    heur_rollback = or_none k.heur_rollback i;
    told_commit = or_none k.told_commit i;
    told_abort = or_none k.told_abort i;
    forgot = or_none k.forgot i;
  }

  -- a kind more, where the others stay
  one_more : (f : Bool → Kinds → Kinds) (b : Bool) → f (b || true) (either k no_kinds) ≡ f true k
  one_more f b = ap (λ x. f x (either k no_kinds)) (or_true b) ∙ ap (f true) no_more

  by_test : (b : Bool) (m n : Kinds) → either k m ≡ n
      → either k (if b then m else no_kinds) ≡ (if b then n else k)
  by_test true m n h = h
  by_test false m n h = no_more

  -- with the kinds of one record that is no Prepared of the case
  with_one : (c : Case) (r : Record) → is_prepared c r ≡ false
      → either k (if is_of c r then kinds_after no_kinds r else no_kinds)
      ≡ (if is_of c r then kinds_after k r else k)
  unfolding either
  with_one c (Collecting d ts) is = by_test (same_case d c) _ _
      (one_more (λ b m. record m { collecting = b }) k.collecting)
  with_one c (Prepare d ts) is = by_test (same_case d c) _ _
      (one_more (λ b m. record m { prepare = b }) k.prepare)
  with_one c (Commit d ts) is = by_test (same_case d c) _ _
      (one_more (λ b m. record m { commit = b }) k.commit)
  with_one c (Abort d ts) is = by_test (same_case d c) _ _ (one_more (λ b m. record m { abort = b }) k.abort)
  with_one c (End d rep) is = by_test (same_case d c) _ _ (one_more (λ b m. record m { ended = b }) k.ended)
  with_one c (Cleared d) is = by_test (same_case d c) _ _ no_more
  with_one c (Committed b) is = by_test (is_of c (Committed b)) _ _
      (one_more (λ b m. record m { committed = b }) k.committed)
  with_one c (RolledBack b) is = by_test (is_of c (RolledBack b)) _ _
      (one_more (λ b m. record m { rolled_back = b }) k.rolled_back)
  with_one c (HeurCommit b) is = by_test (is_of c (HeurCommit b)) _ _
      (one_more (λ b m. record m { heur_commit = b }) k.heur_commit)
  with_one c (HeurRollback b) is =
      by_test (is_of c (HeurRollback b)) _ _ (one_more
      (λ b m. record m { heur_rollback = b }) k.heur_rollback)
  with_one c (Told b CommittedOutcome) is =
      by_test (is_of c (Told b CommittedOutcome)) _ _
      (one_more (λ b m. record m { told_commit = b }) k.told_commit)
  with_one c (Told b AbortedOutcome) is =
      by_test (is_of c (Told b AbortedOutcome)) _ _
      (one_more (λ b m. record m { told_abort = b }) k.told_abort)
  with_one c (Forgot b) is = by_test (is_of c (Forgot b)) _ _
      (one_more (λ b m. record m { forgot = b }) k.forgot)
  with_one c (Direct b ws) is = by_test (is_of c (Direct b ws)) _ _ no_more
  with_one c (Prepared (CaseBranch d) ws) is = never (same_case d c) is
    where
      never : (b : Bool) → b ≡ false → either k (if b then record no_kinds { prepared = true } else no_kinds)
          ≡ (if b then record no_kinds { prepared = true } else k)
      never true h = absurd (cc)
      never false h = no_more
  with_one c (Prepared (Foreign x) ws) is = no_more
  with_one c (Opened n) is = no_more
  with_one c (Base n) is = no_more
  with_one c (Pair key value) is = no_more

  -- a Prepared of the case begins again
  begun : (c : Case) (r : Record) → is_prepared c r ≡ true
      → (if is_of c r then kinds_after no_kinds r else no_kinds) ≡ (if is_of c r then kinds_after k r else k)
  begun c (Prepared (CaseBranch d) ws) is = here (same_case d c) is
    where
      here : (b : Bool) → b ≡ true → (if b then record no_kinds { prepared = true } else no_kinds)
          ≡ (if b then record no_kinds { prepared = true } else k)
      here true h = refl
      here false h = absurd (cc)
  begun c r is = absurd (cc)

-- which records a case has after one more
pub kinds_behind : (rs : List Record) (c : Case) (r : Record) → kinds_of c (since_promise c (rs ++ r ∷ []))
    ≡ (if is_of c r then kinds_after (kinds_of c (since_promise c rs)) r else kinds_of c (since_promise c rs))
kinds_behind rs c r = by_kind (is_prepared c r) refl
  where
    by_kind : (b : Bool) → is_prepared c r ≡ b → kinds_of c (since_promise c (rs ++ r ∷ []))
        ≡ (if is_of c r then kinds_after (kinds_of c (since_promise c rs)) r
        else kinds_of c (since_promise c rs))
    by_kind true is =
        ap (kinds_of c) (since_prepared c r rs is) ∙ one_kind c r
        ∙ begun (kinds_of c (since_promise c rs)) c r is
    by_kind false is =
        ap (kinds_of c) (since_other c r rs is) ∙ kinds_more c (since_promise c rs) r
        ∙ ap (either (kinds_of c (since_promise c rs))) (one_kind c r)
        ∙ with_one (kinds_of c (since_promise c rs)) c r is

pub no_kinds_of : (c : Case) → kinds_of c [] ≡ no_kinds
unfolding has
no_kinds_of c = refl

-- What follows from them is what the definitions say.

sorted : (a b c d : Bool) → ((a || b) || (c || d)) ≡ ((a || c) || (b || d))
sorted true b c d = refl
sorted false true true d = refl
sorted false true false d = refl
sorted false false c d = refl

has_or : (q p : Record → Bool) (rs : List Record) → has (λ r. q r || p r) rs ≡ (has q rs || has p rs)
unfolding has
has_or q p [] = refl
has_or q p (r ∷ rs) = ap (λ b. (q r || p r) || b) (has_or q p rs) ∙ sorted (q r) (p r) (has q rs) (has p rs)

module _ (c : Case) (rs : List Record) where
  commits : has (is_learnt_commit c) rs
      ≡ ((has (is_committed c) rs || has (is_commit c) rs) || has (is_told_of c CommittedOutcome) rs)
  commits =
      has_or (λ r. is_committed c r || is_commit c r) (is_told_of c CommittedOutcome) rs
      ∙ ap (λ b. b || has (is_told_of c CommittedOutcome) rs) (has_or (is_committed c) (is_commit c) rs)

  aborts : has (is_abort_learnt c) rs
      ≡ ((has (is_rolled_back c) rs || has (is_told_of c AbortedOutcome) rs) || has (is_abort c) rs)
  aborts =
      has_or (is_learnt_abort c) (is_abort c) rs
      ∙ ap (λ b. b || has (is_abort c) rs) (has_or (is_rolled_back c) (is_told_of c AbortedOutcome) rs)

  promises : has (is_promise c) rs ≡ (has (is_prepared c) rs || has (is_prepare c) rs)
  promises = has_or (is_prepared c) (is_prepare c) rs

  committing : has (is_committing c) rs ≡ (has (is_committed c) rs || has (is_commit c) rs)
  committing = has_or (is_committed c) (is_commit c) rs

  aborting : has (is_aborting c) rs ≡ (has (is_rolled_back c) rs || has (is_abort c) rs)
  aborting = has_or (is_rolled_back c) (is_abort c) rs

  decision_by_kinds : decision_in (kinds_of c rs)
      ≡ decision_by (has (is_learnt_commit c) rs) (has (is_abort_learnt c) rs)
      (has (is_promise c) rs || has (is_end c) rs)
  decision_by_kinds = λ i. decision_by (sym commits i) (sym aborts i) (sym promises i || has (is_end c) rs)

  pub own_is : own_in (kinds_of c rs) ≡ own_of c rs
  own_is = λ i.
      own_by (has (is_decided c CommittedOutcome) rs)
      (has (is_decided c AbortedOutcome) rs) (sym committing i)
      (sym aborting i) (sym promises i)

pub decision_is : (c : Case) (rs : List Record)
    → decision_in (kinds_of c (since_promise c rs)) ≡ own_decision c rs
decision_is c rs = decision_by_kinds c (since_promise c rs)

pub line_is : (role : Role) (c : Case) (rs : List Record)
    → line_in role (kinds_of c rs) ≡ has_line_in role c rs
line_is AtRoot c rs = refl
line_is (Below p) c rs = refl
line_is (AtLeaf p) c rs = refl

pub decided_is : (c : Case) (o : Outcome) (rs : List Record)
    → decided_in (kinds_of c rs) o ≡ has (is_decided c o) rs
decided_is c CommittedOutcome rs = refl
decided_is c AbortedOutcome rs = refl
