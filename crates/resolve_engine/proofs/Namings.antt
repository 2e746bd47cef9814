-- What a process finds of a child's case is the case that an audit asks.
use Rattle.std.proofs.Common.{◌≡◌, ◌∙◌, ◌&&◌, ◌||◌, Bool, true, false, if◌then◌else◌, Some, option_map, List, [], ◌∷◌, find, map, refl, sym, ap}
use Rattle.std.specs.List.{list_all, list_any}
use Rattle.protocol.specs.declared.names.Case.{Case}
use Rattle.protocol.specs.declared.names.ProcessId.{ProcessId}
use Rattle.protocol.specs.declared.names.Ticket.{Ticket}
use Rattle.protocol.specs.declared.names.Txn.{Txn}
use Rattle.protocol.specs.declared.records.Record.{Record}
use Rattle.protocol.specs.declared.trees.TreeProcess.{TreeProcess}
use Rattle.protocol.specs.LogNames.{own_records}
use Rattle.protocol.specs.Names.{same_process, same_txn}
use Rattle.protocol.specs.Nodes.{AtRoot, is_listed, place_of}
use Rattle.protocol.specs.Records.{cases_in, has, same_bytes}
use Rattle.protocol.specs.Trees.{IsTree}
use Rattle.protocol.specs.Audits.{is_naming}
use Rattle.proof_processes.proofs.Tests.{both}
use Rattle.proof_steps.proofs.crashes.Named.{named-by}
use Rattle.protocol.specs.Audits.{is_case_at, naming_case}
use Rattle.audit_cases.specs.Notes.{listed_cases, note_of, notes_of}
use Rattle.audit_cases.specs.Sayings.{names}
use Rattle.log_rules.specs.order.Logs.{Damaged, Whole, read_as, read_log}
use Rattle.log_script.specs.declared.line.ProcessLog.{ProcessLog}
use Rattle.log_script.specs.Logs.{bytes_of, has_log}
use Rattle.audit_tree.specs.Reports.{kept_lists, kind_in, whole_records}
use Rattle.audit_tree.proofs.OwnCases.{EachCase, each_if}
use Rattle.audit_tree.proofs.Passes.{kept_own}
use Rattle.audit_engine.specs.declared.steps.StepFound.TheVariants.{Nothing}
use Rattle.audit_engine.specs.Namings.{finds, found_by}

-- A log that is not here.

no_bytes : (logs : List ProcessLog) (q : ProcessId) → has_log logs q ≡ false → bytes_of logs q ≡ []
unfolding has_log bytes_of
no_bytes [] q none = refl
no_bytes (l ∷ ls) q none = by_test (same_process l.process q) none (no_bytes ls q)
  where
    by_test : (b : Bool) → (b || list_any (λ x. same_process x.process q) ls) ≡ false
        → (list_any (λ x. same_process x.process q) ls ≡ false → bytes_of ls q ≡ [])
        → (if b then l.bytes else bytes_of ls q) ≡ []
    by_test true h rest = absurd (cc)
    by_test false h rest = rest h

-- a process without a log keeps nothing
pub no_log_keeps : (tree : List TreeProcess) (logs : List ProcessLog) (q : ProcessId) → has_log logs q ≡ false
    → kept_lists tree logs q ≡ []
unfolding kept_lists own_records read_log
no_log_keeps tree logs q none =
    ap (λ bytes. own_records (place_of tree q) (whole_records (read_as q (kind_in tree q) bytes)))
    (no_bytes logs q none)
    ∙ by_test (same_bytes [] _)
  where
    by_test : (b : Bool) → own_records (place_of tree q)
        (whole_records (if b then Whole [] 0 else Damaged 0)) ≡ []
    by_test true = refl
    by_test false = refl

-- if nothing is kept, nothing is found
pub none_finds : (x : Txn) (u : Ticket) → finds (notes_of []) x u ≡ Nothing
unfolding cases_in
none_finds x u = refl

-- The first case that names a ticket.

module _ (tree : List TreeProcess) (p : ProcessId) (rs : List Record) (x : Txn) (u : Ticket) where
  with_true : (b c : Bool) → c ≡ true → b ≡ (b && c)
  with_true true c h = sym h
  with_true false c h = refl

  first_is : (cs : List Case) → EachCase (λ c. is_case_at tree p c ≡ true) cs
      → find (names x u) (map (λ c. (c, note_of rs c)) cs)
      ≡ option_map (λ c. (c, note_of rs c))
      (find (λ c. (same_txn c.txn x && has (is_naming c u) rs) && is_case_at tree p c) cs)
  unfolding EachCase
  first_is [] all = refl
  first_is (c ∷ cs) all =
      by_test (names x u (c, note_of rs c)) (first_is cs all.1)
      ∙ ap (λ b. option_map (λ d. (d, note_of rs d)) (if b then Some c
      else find (λ d. (same_txn d.txn x && has (is_naming d u) rs) && is_case_at tree p d) cs))
      (ap (λ b. same_txn c.txn x && b) (named-by c u rs)
      ∙ with_true (same_txn c.txn x && has (is_naming c u) rs) (is_case_at tree p c) all.0)
    where
      by_test : (b : Bool) → find (names x u) (map (λ d. (d, note_of rs d)) cs)
          ≡ option_map (λ d. (d, note_of rs d))
          (find (λ d. (same_txn d.txn x && has (is_naming d u) rs) && is_case_at tree p d) cs)
          → (if b then Some (c, note_of rs c) else find (names x u) (map (λ d. (d, note_of rs d)) cs))
          ≡ option_map (λ d. (d, note_of rs d)) (if b then Some c
          else find (λ d. (same_txn d.txn x && has (is_naming d u) rs) && is_case_at tree p d) cs)
      by_test true rest = refl
      by_test false rest = rest

-- what a listed process finds in its kept list is its case that an audit asks
pub finds_naming : (tree : List TreeProcess) (logs : List ProcessLog) → IsTree tree → (p : ProcessId)
    → is_listed tree p ≡ true → (rs : List Record) → kept_lists tree logs p ≡ rs → (x : Txn) (u : Ticket)
    → finds (notes_of rs) x u ≡ found_by (option_map (λ c. (c, note_of rs c)) (naming_case tree p x u rs))
finds_naming tree logs t p listed rs is x u =
    ap found_by (first_is tree p rs x u (cases_in rs)
    (each_if (is_case_at tree p) (cases_in rs)
    (ap (λ ks. list_all (is_case_at tree p) (listed_cases AtRoot ks)) (sym is)
    ∙ kept_own tree logs t p listed AtRoot)))

-- The case that is asked.

some_one : (a b : Case) → Some a ≡ Some b → a ≡ b
some_one a b e = cc

passes : (g : Case → Bool) (cs : List Case) (c : Case) → find g cs ≡ Some c → g c ≡ true
passes g [] c h = absurd (cc)
passes g (d ∷ cs) c h = by_test (g d) refl h (passes g cs c)
  where
    by_test : (b : Bool) → g d ≡ b → (if b then Some d else find g cs) ≡ Some c
        → (find g cs ≡ Some c → g c ≡ true) → g c ≡ true
    by_test true is here rest = ap g (sym (some_one d c here)) ∙ is
    by_test false is here rest = rest here

-- it is of the transaction, and names the ticket
pub asked_so : (tree : List TreeProcess) (p : ProcessId) (x : Txn) (u : Ticket) (rs : List Record) (c : Case)
    → naming_case tree p x u rs ≡ Some c → (same_txn c.txn x && has (is_naming c u) rs) ≡ true
asked_so tree p x u rs c is =
    (both (same_txn c.txn x && has (is_naming c u) rs) (is_case_at tree p c)
    (passes (λ d. (same_txn d.txn x && has (is_naming d u) rs) && is_case_at tree p d) (cases_in rs) c is)).0
