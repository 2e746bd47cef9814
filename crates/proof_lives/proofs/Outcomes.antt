-- What the root's records tell of how a transaction ended is its outcome.
use Rattle.std.proofs.Common.{◌≡◌, ◌∙◌, ◌⊎◌, ◌||◌, ap, sym, subst, refl, inl, inr, Bool, true, false, if◌then◌else◌, Option, Some, List, [], ◌∷◌, ◌++◌, map, fold}
use Rattle.std.specs.List.{list_any}
use Rattle.protocol.specs.declared.names.Case.{Case}
use Rattle.protocol.specs.declared.names.Outcome.{Outcome}
use Rattle.protocol_words.specs.outcome
use Rattle.protocol.specs.declared.names.ProcessId.{ProcessId}
use Rattle.protocol.specs.declared.names.Ticket.{Ticket}
use Rattle.protocol.specs.declared.names.Txn.{Txn}
use Rattle.protocol.specs.declared.records.BranchName.TheVariants.{Foreign}
use Rattle.protocol_words.specs.Variants.{CaseBranch}
use Rattle.protocol.specs.declared.records.LogRecord.{LogRecord}
use Rattle.protocol.specs.declared.records.Record.{Record}
use Rattle.protocol.specs.declared.records.Record.TheVariants.{Opened, Collecting, Prepare, Commit, Abort, End, Cleared, Prepared, Committed, RolledBack, Direct, HeurCommit, HeurRollback, Told, Forgot, Base, Pair}
use Rattle.protocol.specs.LogNames.{in_log, parent_of}
use Rattle.protocol.specs.declared.trees.TreeProcess.{TreeProcess}
use Rattle.protocol.specs.Names.{process_of, root_case, same_txn}
use Rattle.protocol.specs.NameLaws.{same_case-refl, same_txn_tells}
use Rattle.protocol.specs.Nodes.{AtRoot, Node, kept, role_of}
use Rattle.protocol.specs.Outcomes.{outcome_of}
use Rattle.protocol.specs.Records.{has, is_abort, is_commit}
use Rattle.protocol.specs.World.{IsRun, Made, World}
use Rattle.proof_processes.specs.Marks.{is_branch_record}
use Rattle.proof_processes.specs.WorldHolds.{is_record_of}
use Rattle.proof_processes.proofs.RootsHold.{roots_begin}
use Rattle.proof_processes.proofs.Tests.{left, right}
use Rattle.proof_processes.proofs.Worlds.{all_last}
use Rattle.proof_headline.proofs.auditor.RootLines.{kept_abort, kept_commit, none_of_branch}
use Rattle.log_records.specs.Sights.{records_of}
use Rattle.process_state.specs.States.{CoreState}
use Rattle.tree_state.specs.Worlds.{WorldState}
use Rattle.proof_runs.specs.worlds.Follows.{FollowsBehindFaults}
use Rattle.log_outcomes.specs.declared.news.News.{News}
use Rattle.log_outcomes.specs.declared.news.News.TheVariants as news
use Rattle.log_outcomes.specs.News.{forgotten, news_after, news_in, said_behind}
use Rattle.log_outcomes.specs.Sayings.{saying_of}
use Rattle.proof_lives.specs.Outcomes.{NewsAreSo, RootsTellSo}

-- Who says an end.

abbrev news_of : Outcome → News
news_of outcome.Committed = news.Committed
news_of outcome.Aborted = news.Aborted

-- a Commit or an Abort of the case, as the end is
abbrev Decides : Outcome → Case → Record → Type 0
Decides outcome.Committed d r = is_commit d r ≡ true
Decides outcome.Aborted d r = is_abort d r ≡ true

-- a record says that the transaction ended so
pub record Ending (x : Txn) (o : Outcome) (r : Record) : Type 0 where
  pub own : Case
  pub txn : own.txn ≡ x
  pub of : is_record_of own r ≡ true
  pub by : (is_branch_record own r ≡ true) ⊎ Decides o own r

-- what was known before, or what the record says
abbrev Said : Txn → Outcome → News → Record → Type 0
Said x o n r = (n ≡ news_of o) ⊎ Ending x o r

forgot_none : (o : Outcome) (n : News) → forgotten n ≡ news_of o → n ≡ news_of o
forgot_none outcome.Committed news.Open h = absurd (cc)
forgot_none outcome.Aborted news.Open h = absurd (cc)
forgot_none o news.Unknown h = h
forgot_none o news.Committed h = h
forgot_none o news.Aborted h = h

not_open : (o : Outcome) → news.Open ≡ news_of o → ⊥
not_open outcome.Committed h = cc
not_open outcome.Aborted h = cc

txn_is : (y x : Txn) → same_txn y x ≡ true → y ≡ x
txn_is y x h = elim (same_txn_tells y x) [
  | inl t ↦ t.1
  | inr z ↦ absurd (let clash : true ≡ false = sym h ∙ z.0 in cc)
]

module _ (x : Txn) (o : Outcome) (n : News) (r : Record) where
  -- of another transaction nothing is said
  of_this : (c : Case) (m : News) → (if same_txn c.txn x then m else n) ≡ news_of o
      → (m ≡ news_of o → c.txn ≡ x → Said x o n r) → Said x o n r
  of_this c m h here = by_test (same_txn c.txn x) refl h
    where
      by_test : (b : Bool) → same_txn c.txn x ≡ b → (if b then m else n) ≡ news_of o → Said x o n r
      by_test true is g = here g (txn_is c.txn x is)
      by_test false is g = inl g

  waits : (c : Case) → (if same_txn c.txn x then news.Open else n) ≡ news_of o → Said x o n r
  waits c h = of_this c news.Open h (λ m is. absurd (not_open o m))

  is_over : (c : Case) → (if same_txn c.txn x then forgotten n else n) ≡ news_of o → Said x o n r
  is_over c h = of_this c (forgotten n) h (λ m is. inl (forgot_none o n m))

  of_branch : (c : Case) (m : News) → is_record_of c r ≡ true → is_branch_record c r ≡ true
      → (if same_txn c.txn x then m else n) ≡ news_of o → Said x o n r
  of_branch c m of branch h =
      of_this c m h (λ e is. inr (record { own = c; txn = is; of = of; by = inl branch }))

  of_case : (c : Case) (m : News) → is_record_of c r ≡ true → (m ≡ news_of o → Decides o c r)
      → (if same_txn c.txn x then m else n) ≡ news_of o → Said x o n r
  of_case c m of decides h =
      of_this c m h (λ e is. inr (record { own = c; txn = is; of = of; by = inr (decides e) }))

commit_decides : (o : Outcome) (c : Case) (ts : List Ticket) → news.Committed ≡ news_of o
    → Decides o c (Commit c ts)
commit_decides outcome.Committed c ts h = same_case-refl c
commit_decides outcome.Aborted c ts h = absurd (cc)

abort_decides : (o : Outcome) (c : Case) (ts : List Ticket) → news.Aborted ≡ news_of o
    → Decides o c (Abort c ts)
abort_decides outcome.Committed c ts h = absurd (cc)
abort_decides outcome.Aborted c ts h = same_case-refl c

said : (x : Txn) (o : Outcome) (n : News) (r : Record) → said_behind x n (saying_of r) ≡ news_of o
    → Said x o n r
said x o n (Commit c ts) h =
    of_case x o n (Commit c ts) c news.Committed (same_case-refl c) (commit_decides o c ts) h
said x o n (Abort c ts) h =
    of_case x o n (Abort c ts) c news.Aborted (same_case-refl c) (abort_decides o c ts) h
said x o n (Collecting c ts) h = waits x o n (Collecting c ts) c h
said x o n (Prepare c ts) h = waits x o n (Prepare c ts) c h
said x o n (End c rs) h = is_over x o n (End c rs) c h
said x o n (Cleared c) h = is_over x o n (Cleared c) c h
said x o n (Committed (CaseBranch c)) h =
    of_branch x o n (Committed (CaseBranch c)) c news.Committed (same_case-refl c) (same_case-refl c) h
said x o n (RolledBack (CaseBranch c)) h =
    of_branch x o n (RolledBack (CaseBranch c)) c news.Aborted (same_case-refl c) (same_case-refl c) h
said x o n (Direct (CaseBranch c) ws) h =
    of_branch x o n (Direct (CaseBranch c) ws) c news.Committed (same_case-refl c) (same_case-refl c) h
said x o n (Told (CaseBranch c) outcome.Committed) h =
    of_branch x o n (Told (CaseBranch c) outcome.Committed) c news.Committed
    (same_case-refl c) (same_case-refl c) h
said x o n (Told (CaseBranch c) outcome.Aborted) h =
    of_branch x o n (Told (CaseBranch c) outcome.Aborted) c news.Aborted (same_case-refl c)
    (same_case-refl c) h
said x o n (Prepared (CaseBranch c) ws) h = waits x o n (Prepared (CaseBranch c) ws) c h
said x o n (HeurCommit (CaseBranch c)) h = waits x o n (HeurCommit (CaseBranch c)) c h
said x o n (HeurRollback (CaseBranch c)) h = waits x o n (HeurRollback (CaseBranch c)) c h
said x o n (Forgot (CaseBranch c)) h = is_over x o n (Forgot (CaseBranch c)) c h
said x o n (Committed (Foreign y)) h = inl h
said x o n (RolledBack (Foreign y)) h = inl h
said x o n (Direct (Foreign y) ws) h = inl h
said x o n (Told (Foreign y) p) h = inl h
said x o n (Prepared (Foreign y) ws) h = inl h
said x o n (HeurCommit (Foreign y)) h = inl h
said x o n (HeurRollback (Foreign y)) h = inl h
said x o n (Forgot (Foreign y)) h = inl h
said x o n (Opened k) h = inl h
said x o n (Base k) h = inl h
said x o n (Pair k v) h = inl h

-- one of these records says that the transaction ended so
pub record Found (x : Txn) (o : Outcome) (ls : List LogRecord) : Type 0 where
  pub one : Record
  pub ends : Ending x o one
  pub among : (p : Record → Bool) → p one ≡ true → list_any (λ l. p l.entry) ls ≡ true

news_end : (x : Txn) (o : Outcome) (ls : List LogRecord) (n : News) → fold (news_after x) n ls ≡ news_of o
    → (n ≡ news_of o) ⊎ Found x o ls
news_end x o [] n h = inl h
news_end x o (l ∷ ls) n h = elim (news_end x o ls (news_after x n l) h) [
  | inl now ↦ elim (said x o n l.entry now) [
    | inl before ↦ inl before
    | inr e ↦ inr (record { one = l.entry; ends = e; among = λ p g. left _ _ g })
  ]
  | inr f ↦ inr (record { one = f.one; ends = f.ends; among = λ p g. right _ _ (f.among p g) })
]

-- The records of the model's process.

any_map : (q : Option ProcessId) (p : Record → Bool) (rs : List Record)
    → list_any (λ l. p l.entry) (map (in_log q) rs) ≡ has p rs
unfolding has
any_map q p [] = refl
any_map q p (r ∷ rs) = ap (λ b. p r || b) (any_map q p rs)

any_logged : (q : Option ProcessId) (p : Record → Bool) (rs ss : List Record)
    → list_any (λ l. p l.entry) (map (in_log q) rs ++ map (in_log q) ss) ≡ has p (rs ++ ss)
unfolding has
any_logged q p [] ss = any_map q p ss
any_logged q p (r ∷ rs) ss = ap (λ b. p r || b) (any_logged q p rs ss)

-- At the root.

module _ (tree : List TreeProcess) (es : List Made) (w : World) (run : IsRun tree es w) (q : ProcessId)
    (role : role_of tree q ≡ AtRoot) (up : (w.at q).failed ≡ false) (x : Txn) (o : Outcome) where
  abbrev n : Node
  n = w.at q

  -- what its end is of, is the root's own case
  pub record OwnEnd : Type 0 where
    pub root : x.root ≡ q
    pub by : (has (is_branch_record (root_case x)) (kept n) ≡ true)
        ⊎ ((r : Record) × Decides o (root_case x) r
        × ((p : Record → Bool) → p r ≡ true → has p (kept n) ≡ true))

  own_end : (r : Record) → Ending x o r → ((p : Record → Bool) → p r ≡ true → has p (kept n) ≡ true) → OwnEnd
  own_end r e among =
      let life : has (is_record_of e.own) n.life ≡ true =
      (all_last tree es w run q).nested.kept_was_written (is_record_of e.own) (λ k. refl)
      (among (is_record_of e.own) e.of) in
      let own = (roots_begin tree es w run q role).own_records e.own life in
      let whole : e.own ≡ root_case x =
      ap (λ (t : Option Ticket). record { txn = e.own.txn; ticket = t }) own.0
      ∙ ap (λ (y : Txn). root_case y) e.txn in
      record {
        root = ap process_of (sym whole) ∙ own.1.0;
        by = elim e.by [
          | inl branch ↦ inl (subst (λ (c : Case). has (is_branch_record c) (kept n) ≡ true) whole
              (among (is_branch_record e.own) branch))
          | inr decides ↦ inr (r, subst (λ (c : Case). Decides o c r) whole decides, among)
        ];
      }

module _ (tree : List TreeProcess) (es : List Made) (w : World) (run : IsRun tree es w) (q : ProcessId)
    (role : role_of tree q ≡ AtRoot) (up : (w.at q).failed ≡ false) (x : Txn) where
  at_own : (root : x.root ≡ q) → (role_of tree x.root ≡ AtRoot) × ((w.at x.root).failed ≡ false)
  at_own root = (
    ap (λ (p : ProcessId). role_of tree p) root ∙ role,
    ap (λ (p : ProcessId). (w.at p).failed) root ∙ up,
  )

  no_branch : (root : x.root ≡ q) → has (is_branch_record (root_case x)) (kept (w.at q)) ≡ false
  no_branch root =
      ap (λ (p : ProcessId). has (is_branch_record (root_case x)) (kept (w.at p))) (sym root)
      ∙ none_of_branch tree es w run x (at_own root).0 (at_own root).1

  commit_so : OwnEnd tree es w run q role up x outcome.Committed → outcome_of w x ≡ outcome.Committed
  commit_so e = elim e.by [
    | inl branch ↦ absurd (let clash : true ≡ false = sym branch ∙ no_branch e.root in cc)
    | inr r ↦
        (let here : has (is_commit (root_case x)) (kept (w.at x.root)) ≡ true =
        ap (λ (p : ProcessId). has (is_commit (root_case x)) (kept (w.at p))) e.root
        ∙ r.2 (is_commit (root_case x)) r.1 in
        rw (kept_commit tree es w run x (at_own e.root).0 (at_own e.root).1 here) refl)
  ]

  abort_so : OwnEnd tree es w run q role up x outcome.Aborted → outcome_of w x ≡ outcome.Aborted
  abort_so e = elim e.by [
    | inl branch ↦ absurd (let clash : true ≡ false = sym branch ∙ no_branch e.root in cc)
    | inr r ↦
        (let here : has (is_abort (root_case x)) (kept (w.at x.root)) ≡ true =
        ap (λ (p : ProcessId). has (is_abort (root_case x)) (kept (w.at p))) e.root
        ∙ r.2 (is_abort (root_case x)) r.1 in
        rw (kept_abort tree es w run x (at_own e.root).0 (at_own e.root).1 here) refl)
  ]

module _ (s : WorldState) (es : List Made) (w : World) (f : FollowsBehindFaults es w s) (q : ProcessId)
    (c : CoreState) (there : s.node_at q ≡ Some c) (role : role_of s.tree q ≡ AtRoot)
    (works : c.log.failed ≡ false) (x : Txn) where
  up : (w.at q).failed ≡ false
  up = sym (f.follows.nodes q c there).stands.failed ∙ works

  -- an end that the log tells is an end among the records of the model's process
  ended : (o : Outcome) → news_in (records_of c.log.kept) x ≡ news_of o
      → OwnEnd s.tree es w f.follows.is_run q role up x o
  ended o h =
      let stands = (f.follows.nodes q c there).stands in
      let p = parent_of c.place.role in
      let n = w.at q in
      let logged : records_of c.log.kept ≡ map (in_log p) n.forced ++ map (in_log p) n.unforced =
      ap (λ (ls : List LogRecord). ls ++ c.log.kept.unforced) stands.forced
      ∙ ap (λ (ls : List LogRecord). map (in_log p) n.forced ++ ls) stands.unforced in
      elim (news_end x o (records_of c.log.kept) news.Unknown h) [
        | inl none ↦ unknown o none
        | inr e ↦ own_end s.tree es w f.follows.is_run q role up x o e.one e.ends
            (λ t g. sym (any_logged p t n.forced n.unforced)
            ∙ (ap (λ (ls : List LogRecord). list_any (λ l. t l.entry) ls) (sym logged) ∙ e.among t g))
      ]
    where
      unknown : (o : Outcome) → news.Unknown ≡ news_of o → OwnEnd s.tree es w f.follows.is_run q role up x o
      unknown outcome.Committed e = absurd (cc)
      unknown outcome.Aborted e = absurd (cc)

  news_so : (k : News) → news_in (records_of c.log.kept) x ≡ k → NewsAreSo w x k
  news_so news.Committed h =
      commit_so s.tree es w f.follows.is_run q role up x (ended outcome.Committed h)
  news_so news.Aborted h = abort_so s.tree es w f.follows.is_run q role up x (ended outcome.Aborted h)
  news_so news.Open h = tt
  news_so news.Unknown h = tt

pub roots_tell_so : RootsTellSo
roots_tell_so s es w f q c there role works x =
    news_so s es w f q c there role works x (news_in (records_of c.log.kept) x) refl
