-- What a log says of a coordinator's own case, by its whole name and as the process reads it.
use Rattle.std.proofs.Common.{◌≡◌, Bool, true, false, not, ◌&&◌, ◌||◌, if◌then◌else◌, List, [], ◌∷◌, ◌++◌, Option, fold, is_some, refl, sym, ap, subst, ◌∙◌, Some, None}
use Rattle.std.proofs.lemmas.List.Folds.{list_any-append}
use Rattle.std.specs.List.{AllByRecursion}
use Rattle.xa_xid.specs.declared.xid.Xid.{Xid}
use Rattle.protocol.specs.declared.names.Case.{Case}
use Rattle.protocol.specs.declared.names.Kind.TheVariants.{Coordinator}
use Rattle.protocol.specs.declared.names.ProcessId.{ProcessId}
use Rattle.protocol.specs.declared.names.Ticket.{Ticket}
use Rattle.protocol_words.specs.Variants.{CaseBranch}
use Rattle.protocol.specs.declared.records.LogRecord.{LogRecord}
use Rattle.protocol.specs.declared.records.Record.{Record}
use Rattle.protocol.specs.declared.records.Reports.{Reports}
use Rattle.protocol.specs.declared.records.Record.TheVariants.{Opened, Collecting, Prepare, Commit, Abort, End, Prepared, Committed, RolledBack, Direct, HeurCommit, HeurRollback, Told, Forgot, Base, Pair, Cleared}
use Rattle.protocol.specs.LogNames.{foreign_to, is_own, name_xid, own_by, own_records}
use Rattle.protocol.specs.Names.{same_case}
use Rattle.protocol.specs.Nodes.{AtLeaf, AtRoot, Below, Place, Role, IsCoordinator}
use Rattle.protocol.specs.Records.{has, is_abort, is_collecting, is_commit, is_end, is_prepare, none_of, owing_in, record_case, reported_after}
use Rattle.log_rules.specs.declared.trim.lives.Said.{Said}
use Rattle.log_rules.specs.declared.trim.lives.Said.TheVariants.{Nothing, Waits, Settled, Owes, Over, Reported}
use Rattle.log_rules.specs.trim.Tables.{said_after, same}
use Rattle.log_rules.specs.trim.Trims.{is_of, said_behind}
use Rattle.log_rules.specs.sound.Sound.{IsSound, IsSoundName}
use Rattle.log_rules.proofs.reads.OwnNames.{other_is, own_is}
use Rattle.log_rules.proofs.reads.Sayings.{IsOfCase, behind, decides, ends, is_reporting, owes, reporting_one, reports_next, said_one, starts}

-- The tests of a case's records.

abbrev pub decided : Case → Record → Bool
decided c r = is_commit c r || is_abort c r

abbrev pub started : Case → Record → Bool
started c r = is_prepare c r || is_collecting c r

abbrev pub owed : Case → Record → Bool
owed c r = not (none_of (owing_in c r))

-- One record.

yes : (t m : Bool) → t ≡ m → (m || false) ≡ (t && true)
yes t true e = ap (λ b. b && true) (sym e)
yes t false e = ap (λ b. b && true) (sym e)

yes_first : (t m : Bool) → t ≡ m → ((m || false) || false) ≡ (t && true)
yes_first t true e = ap (λ b. b && true) (sym e)
yes_first t false e = ap (λ b. b && true) (sym e)

yes_second : (t m : Bool) → t ≡ m → ((false || m) || false) ≡ (t && true)
yes_second t true e = ap (λ b. b && true) (sym e)
yes_second t false e = ap (λ b. b && true) (sym e)

no : (t : Bool) → false ≡ (t && false)
no true = refl
no false = refl

same_either : (t b : Bool) → b ≡ (if t then b else b)
same_either true b = refl
same_either false b = refl

owes_some : (t m : Bool) (ts : List Ticket) → t ≡ m
    → (not (none_of (if m then ts else [])) || false) ≡ (t && not (none_of ts))
unfolding none_of
owes_some t true ts e = or_false (not (none_of ts)) ∙ ap (λ b. b && not (none_of ts)) (sym e)
  where
    or_false : (b : Bool) → (b || false) ≡ b
    or_false true = refl
    or_false false = refl
owes_some t false ts e = ap (λ b. b && not (none_of ts)) (sym e)

-- what a record that the process reads says of a case is what the log's record of the name says
pub record RecordSays (c : Case) (t : Bool) (entry : Record) (read : List Record) : Type 0 where
  pub ended : has (is_end c) read ≡ (t && ends entry)
  pub owing : has (owed c) read ≡ (t && owes entry)
  pub deciding : has (decided c) read ≡ (t && decides entry)
  pub starting : has (started c) read ≡ (t && starts entry)
  pub reporting : (b : Bool) → fold (reported_after c) b read ≡ (if t then reports_next b entry else b)
  pub of_case : t ≡ true → IsOfCase entry

-- a record of another name, which is read as none or does not touch the case
silent : (c : Case) (t : Bool) (entry : Record) → t ≡ false → RecordSays c t entry []
unfolding has
silent c t entry none = record {
  ended = ap (λ b. b && ends entry) (sym none);
  owing = ap (λ b. b && owes entry) (sym none);
  deciding = ap (λ b. b && decides entry) (sym none);
  starting = ap (λ b. b && starts entry) (sym none);
  reporting = λ b. ap (λ k. if k then reports_next b entry else b) (sym none);
  of_case = λ is. absurd (cc);
}

says_opened : (c : Case) (n : _) → RecordSays c false (Opened n) (Opened n ∷ [])
unfolding has none_of
says_opened c n = record {
  ended = refl;
  owing = refl;
  deciding = refl;
  starting = refl;
  reporting = λ b. refl;
  of_case = λ is. absurd (cc);
}

says_collecting : (c d : Case) (ts : List Ticket) (t : Bool) → t ≡ same_case d c
    → RecordSays c t (Collecting d ts) (Collecting d ts ∷ [])
unfolding has none_of
says_collecting c d ts t e = record {
  ended = no t;
  owing = no t;
  deciding = no t;
  starting = yes_second t
      (same_case d c) e;
  reporting = λ b. same_either t b;
  of_case = λ is. tt;
}

says_prepare : (c d : Case) (ts : List Ticket) (t : Bool) → t ≡ same_case d c
    → RecordSays c t (Prepare d ts) (Prepare d ts ∷ [])
unfolding has none_of
says_prepare c d ts t e = record {
  ended = no t;
  owing = no t;
  deciding = no t;
  starting = yes_first t
      (same_case d c) e;
  reporting = λ b. same_either t b;
  of_case = λ is. tt;
}

says_commit : (c d : Case) (ts : List Ticket) (t : Bool) → t ≡ same_case d c
    → RecordSays c t (Commit d ts) (Commit d ts ∷ [])
unfolding has none_of
says_commit c d ts t e = record {
  ended = no t;
  owing = owes_some t (same_case d c) ts e;
  deciding =
      yes_first t (same_case d c) e;
  starting = no t;
  reporting = λ b. same_either t b;
  of_case = λ is. tt;
}

says_abort : (c d : Case) (ts : List Ticket) (t : Bool) → t ≡ same_case d c
    → RecordSays c t (Abort d ts) (Abort d ts ∷ [])
unfolding has none_of
says_abort c d ts t e = record {
  ended = no t;
  owing = owes_some t (same_case d c) ts e;
  deciding =
      yes_second t (same_case d c) e;
  starting = no t;
  reporting = λ b. same_either t b;
  of_case = λ is. tt;
}

same_if : (t m b k : Bool) → t ≡ m → (if m then k else b) ≡ (if t then k else b)
same_if t m b k e = ap (λ x. if x then k else b) (sym e)

says_end : (c d : Case) (rep : Option Reports) (t : Bool) → t ≡ same_case d c
    → RecordSays c t (End d rep) (End d rep ∷ [])
unfolding has none_of
says_end c d rep t e = record {
  ended = yes t (same_case d c) e;
  owing = no t;
  deciding = no t;
  starting = no t;
  reporting = λ b. same_if t (same_case d c) b (is_some rep) e;
  of_case = λ is. tt;
}

says_cleared : (c d : Case) (t : Bool) → t ≡ same_case d c → RecordSays c t (Cleared d) (Cleared d ∷ [])
unfolding has none_of
says_cleared c d t e = record {
  ended = no t;
  owing = no t;
  deciding = no t;
  starting = no t;
  reporting = λ b. same_if t (same_case d c) b false e;
  of_case = λ is. tt;
}

pub foreign_none : (role : Role) (p : Option ProcessId) (d : Case) (r : Record) → IsCoordinator role
    → foreign_to role p d r ≡ []
foreign_none AtRoot p d r h = refl
foreign_none (Below q) p d r h = refl
foreign_none (AtLeaf q) p d r h = absurd h

module _ (place : Place) (p : Option ProcessId) (c : Case) (coordinates : IsCoordinator place.role) (own :
    is_own place p c ≡ true) (sound : IsSoundName p (CaseBranch c)) where
  abbrev pub name : Xid
  name = name_xid p (CaseBranch c)

  by_own : (q : Option ProcessId) (d : Case) (r : Record) → IsSoundName q (CaseBranch d)
      → (same name (name_xid q (CaseBranch d)) ≡ same_case d c
      → RecordSays c (same name (name_xid q (CaseBranch d))) r (r ∷ []))
      → (b : Bool) → is_own place q d ≡ b
      → RecordSays c (same name (name_xid q (CaseBranch d))) r
      (if b then r ∷ [] else foreign_to place.role q d r)
  by_own q d r h says true is = says (own_is place p c own sound q d h is)
  by_own q d r h says false is =
      subst (λ rs. RecordSays c (same name (name_xid q (CaseBranch d))) r rs) (sym (foreign_none place.role q
      d r coordinates))
      (silent c (same name (name_xid q (CaseBranch d))) r (other_is place p c own sound q d h is))

  pub record_says : (l : LogRecord) → IsSound Coordinator l
      → RecordSays c (is_of name l) l.entry (own_by place l (record_case l.entry))
  record_says l h = by_entry l.entry l.parent h
    where
      by_entry : (r : Record) (q : Option ProcessId) → IsSound Coordinator (record { entry = r; parent = q })
          → RecordSays c (is_of name (record { entry = r; parent = q })) r (own_by place (record {
            entry = r;
            parent = q;
          }) (record_case r))
      by_entry (Opened n) q h = says_opened c n
      by_entry (Collecting d ts) q h = by_own q d (Collecting d ts) h.0 (says_collecting c d ts _) (is_own
          place q d) refl
      by_entry (Prepare d ts) q h = by_own q d (Prepare d ts) h.0 (says_prepare c d ts _)
          (is_own place q d) refl
      by_entry (Commit d ts) q h = by_own q d (Commit d ts) h.0 (says_commit c d ts _) (is_own place q d) refl
      by_entry (Abort d ts) q h = by_own q d (Abort d ts) h.0 (says_abort c d ts _) (is_own place q d) refl
      by_entry (End d None) q h = by_own q d (End d None) h (says_end c d None _) (is_own place q d) refl
      by_entry (End d (Some r)) q h = by_own q d (End d (Some r)) h.0 (says_end c d (Some r) _)
          (is_own place q d) refl
      by_entry (Cleared d) q h = by_own q d (Cleared d) h (says_cleared c d _) (is_own place q d) refl
      by_entry (Prepared b ws) q h = absurd h.1
      by_entry (Committed b) q h = absurd h.1
      by_entry (RolledBack b) q h = absurd h.1
      by_entry (Direct b ws) q h = absurd h.1
      by_entry (HeurCommit b) q h = absurd h.1
      by_entry (HeurRollback b) q h = absurd h.1
      by_entry (Told b o) q h = absurd h.1
      by_entry (Forgot b) q h = absurd h.1
      by_entry (Base n) q h = absurd h.1
      by_entry (Pair k v) q h = absurd h.1

  -- Whole logs.

  nothing_more : (s : Said) → s ≡ behind s false (is_reporting s) false false false
  nothing_more Nothing = refl
  nothing_more Waits = refl
  nothing_more Settled = refl
  nothing_more Owes = refl
  nothing_more Over = refl
  nothing_more Reported = refl

  abbrev pub of_case : Said → List Record → Said
  of_case s rs = behind s (has (is_end c) rs) (fold (reported_after c) (is_reporting s) rs) (has (owed c) rs)
      (has (decided c) rs) (has (started c) rs)

  one_more : (s : Said) (entry : Record) (t : Bool) (read rs : List Record) → RecordSays c t entry read
      → of_case (if t then said_after s entry else s) rs ≡ of_case s (read ++ rs)
  unfolding has
  one_more s entry t read rs says =
      by_test t refl ∙ sym (
      ap (λ b. behind s b (fold (reported_after c) (is_reporting s) (read ++ rs)) (has (owed c) (read ++ rs))
      (has (decided c) (read ++ rs)) (has (started c) (read ++ rs))) (more (is_end c) (ends entry) says.ended)
      ∙ ap (λ b. behind s ((t && ends entry) || has (is_end c) rs) b (has (owed c) (read ++ rs))
      (has (decided c) (read ++ rs)) (has (started c) (read ++ rs))) reporting
      ∙ ap (λ b. behind s ((t && ends entry) || has (is_end c) rs) final b (has (decided c) (read ++ rs)) (has
      (started c) (read ++ rs))) (more (owed c) (owes entry) says.owing)
      ∙ ap (λ b. behind s ((t && ends entry) || has (is_end c) rs) final
      ((t && owes entry) || has (owed c) rs) b
      (has (started c) (read ++ rs))) (more (decided c) (decides entry) says.deciding)
      ∙ ap (λ b. behind s ((t && ends entry) || has (is_end c) rs) final
      ((t && owes entry) || has (owed c) rs) ((t
      && decides entry) || has (decided c) rs) b) (more (started c) (starts entry) says.starting))
    where
      -- the report after the record and the rest
      final : Bool
      final = fold (reported_after c) (if t then reports_next (is_reporting s) entry else is_reporting s) rs

      behind_all : (b : Bool) (xs ys : List Record)
          → fold (reported_after c) b (xs ++ ys) ≡ fold (reported_after c) (fold (reported_after c) b xs) ys
      behind_all b [] ys = refl
      behind_all b (x ∷ xs) ys = behind_all (reported_after c b x) xs ys

      reporting : fold (reported_after c) (is_reporting s) (read ++ rs) ≡ final
      reporting = behind_all (is_reporting s) read rs
          ∙ ap (λ b. fold (reported_after c) b rs) (says.reporting (is_reporting s))

      more : (q : Record → Bool) (b : Bool) → has q read ≡ (t && b)
          → has q (read ++ rs) ≡ ((t && b) || has q rs)
      more q b e = list_any-append q read rs ∙ ap (λ k. k || has q rs) e

      by_test : (b : Bool) → t ≡ b
          → of_case (if b then said_after s entry else s) rs
          ≡ behind s ((b && ends entry) || has (is_end c) rs)
          (fold (reported_after c) (if b then reports_next (is_reporting s) entry else is_reporting s) rs)
          ((b && owes entry) || has (owed c) rs) ((b &&
          decides entry) || has (decided c) rs) ((b && starts entry) || has (started c) rs)
      by_test true is =
          ap (λ k. behind (said_after s entry) (has (is_end c) rs) (fold (reported_after c) k rs)
          (has (owed c) rs)
          (has (decided c) rs) (has (started c) rs)) (reporting_one s entry true (says.of_case is))
          ∙ said_one s entry (has (is_end c) rs)
          (fold (reported_after c) (reports_next (is_reporting s) entry) rs) (has (owed c) rs)
          (has (decided c) rs)
          (has (started c) rs) (says.of_case is)
      by_test false is = refl

  -- what the records of the name say is what the records of the case say that the process reads
  pub says : (ls : List LogRecord) (s : Said) → AllByRecursion (IsSound Coordinator) ls
      → fold (said_behind name) s ls ≡ of_case s (own_records place ls)
  unfolding has own_records
  says [] s h = nothing_more s
  says (l ∷ ls) s h =
      says ls (said_behind name s l) h.1
      ∙ one_more s l.entry (is_of name l) (own_by place l (record_case l.entry)) (own_records place ls)
      (record_says l h.0)
