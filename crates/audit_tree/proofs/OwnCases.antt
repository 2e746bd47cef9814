-- The cases that a log of a process keeps, as the process reads it, are its own.
use Rattle.std.proofs.Common.{◌≡◌, ◌∙◌, ◌&&◌, Bool, true, false, if◌then◌else◌, Option, Some, None, List, [], ◌∷◌, ◌++◌, fold, refl, sym, ap}
use Rattle.std.specs.List.{flat_map, list_all}
use Rattle.xa_xid.specs.Xids.{XidParts}
use Rattle.protocol.specs.declared.names.Case.{Case}
use Rattle.protocol.specs.declared.names.Kind.{Kind}
use Rattle.protocol.specs.declared.names.Kind.TheVariants.{Coordinator, Manager}
use Rattle.protocol.specs.declared.names.ProcessId.{ProcessId}
use Rattle.protocol.specs.declared.names.Ticket.{Ticket}
use Rattle.protocol.specs.declared.records.BranchName.TheVariants.{Foreign}
use Rattle.protocol_words.specs.Variants.{CaseBranch}
use Rattle.protocol.specs.declared.records.LogRecord.{LogRecord}
use Rattle.protocol.specs.declared.records.Record.{Record}
use Rattle.protocol.specs.declared.records.Record.TheVariants.{Opened, Collecting, Prepare, Commit, Abort, End, Prepared, Committed, RolledBack, Direct, HeurCommit, HeurRollback, Told, Forgot, Base, Pair, Cleared}
use Rattle.protocol.specs.declared.trees.TreeProcess.{TreeProcess}
use Rattle.protocol.specs.LogNames.{foreign_to, is_own, is_ticketed, name_xid, own_by, own_records, renamed}
use Rattle.protocol.specs.Names.{process_of, same_process}
use Rattle.protocol.specs.Nodes.{Role, AtRoot, Below, AtLeaf, is_listed, role_by, role_of}
use Rattle.protocol.specs.Records.{cases_in, has_case, record_case, with_case, with_record}
use Rattle.protocol.specs.Trees.{IsTree, root_of}
use Rattle.protocol.specs.Audits.{has_place, is_case_at, is_root_role}
use Rattle.audit_cases.specs.Notes.{IsRecordAt, is_coordinators, last_places, listed_cases, place_at, promised_by, promised_in}
use Rattle.audit_tree.proofs.RecordsAt.{AllAt}
use Rattle.audit_tree.proofs.TreePlaces.{IsFound, is_one, role_if, root_on_top}

first_of : (a b : Bool) → (a && b) ≡ true → a ≡ true
first_of true b h = refl
first_of false b h = absurd (cc)

second_of : (a b : Bool) → (a && b) ≡ true → b ≡ true
second_of true b h = h
second_of false b h = absurd (cc)

both : (a b : Bool) → a ≡ true → b ≡ true → (a && b) ≡ true
both true b h k = k
both false b h k = absurd (cc)

-- these are cases of the process
unfoldable pub EachCase : (Case → Type 0) → List Case → Type 0
EachCase P [] = Unit {0}
EachCase P (c ∷ cs) = P c × EachCase P cs

pub each_if : (f : Case → Bool) (cs : List Case) → list_all f cs ≡ true → EachCase (λ c. f c ≡ true) cs
unfolding EachCase
each_if f [] h = tt
each_if f (c ∷ cs) h = (first_of (f c) (list_all f cs) h, each_if f cs (second_of (f c) (list_all f cs) h))

all_if : (f : Case → Bool) (cs : List Case) → EachCase (λ c. f c ≡ true) cs → list_all f cs ≡ true
unfolding EachCase
all_if f [] h = refl
all_if f (c ∷ cs) h = both (f c) (list_all f cs) h.0 (all_if f cs h.1)

-- the records that are of cases are of ones that are so
EachOf : (Case → Type 0) → List Record → Type 0
EachOf P [] = Unit {0}
EachOf P (r ∷ rs) = ((c : Case) → record_case r ≡ Some c → P c) × EachOf P rs

of_both : (P : Case → Type 0) (rs qs : List Record) → EachOf P rs → EachOf P qs → EachOf P (rs ++ qs)
unfolding EachOf
of_both P [] qs h k = k
of_both P (r ∷ rs) qs h k = (h.0, of_both P rs qs h.1 k)

with_last : (P : Case → Type 0) (cs : List Case) (c : Case) → EachCase P cs → P c → EachCase P (cs ++ c ∷ [])
unfolding EachCase
with_last P [] c h k = (k, tt)
with_last P (d ∷ cs) c h k = (h.0, with_last P cs c h.1 k)

one_more : (P : Case → Type 0) (cs : List Case) (o : Option Case)
    → ((c : Case) → o ≡ Some c → P c) → EachCase P cs
    → EachCase P (with_case cs o)
one_more P cs None is h = h
one_more P cs (Some c) is h = by_test (has_case cs c)
  where
    by_test : (b : Bool) → EachCase P (if b then cs else cs ++ c ∷ [])
    by_test true = h
    by_test false = with_last P cs c h (is c refl)

cases_from : (P : Case → Type 0) (rs : List Record) (cs : List Case) → EachOf P rs → EachCase P cs
    → EachCase P (fold with_record cs rs)
unfolding EachOf
cases_from P [] cs of h = h
cases_from P (r ∷ rs) cs of h = cases_from P rs (with_record cs r) of.1 (one_more P cs (record_case r) of.0 h)

cases_so : (P : Case → Type 0) (rs : List Record) → EachOf P rs → EachCase P (cases_in rs)
unfolding EachCase cases_in
cases_so P rs of = cases_from P rs [] of tt

one_promised : (P : Case → Type 0) (r : Record) → ((c : Case) → record_case r ≡ Some c → P c)
    → EachCase P (promised_in r)
unfolding EachCase
one_promised P (Prepared (CaseBranch c) ws) of = (of c refl, tt)
one_promised P (Prepared (Foreign x) ws) of = tt
one_promised P (Committed b) of = tt
one_promised P (RolledBack b) of = tt
one_promised P (Direct b ws) of = tt
one_promised P (HeurCommit b) of = tt
one_promised P (HeurRollback b) of = tt
one_promised P (Told b o) of = tt
one_promised P (Forgot b) of = tt
one_promised P (Opened n) of = tt
one_promised P (Base n) of = tt
one_promised P (Pair k v) of = tt
one_promised P (Collecting c ts) of = tt
one_promised P (Prepare c ts) of = tt
one_promised P (Commit c ts) of = tt
one_promised P (Abort c ts) of = tt
one_promised P (End c rep) of = tt
one_promised P (Cleared c) of = tt

all_both : (P : Case → Type 0) (cs ds : List Case) → EachCase P cs → EachCase P ds → EachCase P (cs ++ ds)
unfolding EachCase
all_both P [] ds h k = k
all_both P (c ∷ cs) ds h k = (h.0, all_both P cs ds h.1 k)

promised_so : (P : Case → Type 0) (rs : List Record) → EachOf P rs → EachCase P (promised_by rs)
unfolding EachOf EachCase
promised_so P [] of = tt
promised_so P (r ∷ rs) of =
    all_both P (promised_in r) (promised_by rs) (one_promised P r of.0) (promised_so P rs of.1)

last_so : (P : Case → Type 0) (cs : List Case) → EachCase P cs → EachCase P (last_places cs)
unfolding EachCase
last_so P [] h = tt
last_so P (c ∷ cs) h = by_test (last_so P cs h.1) (has_case cs c)
  where
    by_test : EachCase P (last_places cs) → (b : Bool)
        → EachCase P (if b then last_places cs else c ∷ last_places cs)
    by_test rest true = rest
    by_test rest false = (h.0, rest)

listed_so : (P : Case → Type 0) (role : Role) (rs : List Record) → EachOf P rs
    → EachCase P (listed_cases role rs)
listed_so P AtRoot rs of = cases_so P rs of
listed_so P (Below p) rs of = cases_so P rs of
listed_so P (AtLeaf p) rs of = last_so P (promised_by rs) (promised_so P rs of)

-- a manager's record under a foreign name is of no case
foreign_none : (x : XidParts) (r : Record) → is_coordinators r ≡ false
    → record_case (renamed (Foreign x) r) ≡ None
foreign_none x (Prepared b ws) h = refl
foreign_none x (Committed b) h = refl
foreign_none x (RolledBack b) h = refl
foreign_none x (Direct b ws) h = refl
foreign_none x (HeurCommit b) h = refl
foreign_none x (HeurRollback b) h = refl
foreign_none x (Told b o) h = refl
foreign_none x (Forgot b) h = refl
foreign_none x (Opened n) h = refl
foreign_none x (Base n) h = refl
foreign_none x (Pair k v) h = refl
foreign_none x (Collecting c ts) h = absurd (cc)
foreign_none x (Prepare c ts) h = absurd (cc)
foreign_none x (Commit c ts) h = absurd (cc)
foreign_none x (Abort c ts) h = absurd (cc)
foreign_none x (End c rep) h = absurd (cc)
foreign_none x (Cleared c) h = absurd (cc)

foreign_of : (P : Case → Type 0) (k : Kind) (up q : Option ProcessId) (d : Case) (r : Record) → IsRecordAt k r
    → EachOf P (foreign_to (role_by k up) q d r)
unfolding EachOf
foreign_of P Coordinator None q d r at = tt
foreign_of P Coordinator (Some p) q d r at = tt
foreign_of P Manager None q d r at = tt
foreign_of P Manager (Some p) q d r at = (
  λ c is. absurd (nothing (record_case (renamed (Foreign (name_xid q (CaseBranch d))) r)) c
      (foreign_none (name_xid q (CaseBranch d)) r at) is),
  tt,
)
  where
    nothing : (o : Option Case) (c : Case) → o ≡ None → o ≡ Some c → ⊥
    nothing o c e f = absurd (cc)

places_of : (role : Role) (o : Option Ticket) → is_ticketed role o ≡ true → has_place role o ≡ true
places_of AtRoot None h = refl
places_of AtRoot (Some t) h = absurd (cc)
places_of (Below p) None h = absurd (cc)
places_of (Below p) (Some t) h = refl
places_of (AtLeaf p) None h = absurd (cc)
places_of (AtLeaf p) (Some t) h = refl

module _ (tree : List TreeProcess) (t : IsTree tree) (e : TreeProcess) (found : IsFound tree e) where
  -- a case of the process's own counts in its tree
  own_counts : (p : Option ProcessId) (c : Case) → is_own (place_at tree e) p c ≡ true
      → is_case_at tree e.id c ≡ true
  own_counts p c own =
      let behind = second_of (same_process c.txn.root (root_of tree)) _ own in
      let last = second_of (same_process (process_of c) e.id) _ behind in
      let top : c.txn.root ≡ root_of tree = is_one c.txn.root (root_of tree) (first_of _ _ own) in
      let place : has_place (role_of tree e.id) c.ticket ≡ true =
      ap (λ r. has_place r c.ticket) (role_if tree e.id e found)
      ∙ places_of (role_by e.kind e.parent) c.ticket (first_of _ _ last) in
      both (same_process (process_of c) e.id && has_place (role_of tree e.id) c.ticket) _
      (both (same_process (process_of c) e.id) _ (first_of _ _ behind) place)
      (both (is_listed tree c.txn.root) (is_root_role (role_of tree c.txn.root))
      (ap (is_listed tree) top ∙ (root_on_top tree t).0)
      (ap (λ q. is_root_role (role_of tree q)) top ∙ ap is_root_role (root_on_top tree t).1))

  own_of : (l : LogRecord) → IsRecordAt e.kind l.entry → (o : Option Case) → record_case l.entry ≡ o
      → EachOf (λ c. is_case_at tree e.id c ≡ true) (own_by (place_at tree e) l o)
  unfolding EachOf
  own_of l at None is = (λ c there. absurd (nothing c (sym is ∙ there)), tt)
    where
      nothing : (c : Case) → None ≡ Some c → ⊥
      nothing c h = absurd (cc)
  own_of l at (Some c) is = by_test (is_own (place_at tree e) l.parent c) refl
    where
      same : (a b : Case) → Some a ≡ Some b → a ≡ b
      same a b h = cc

      by_test : (b : Bool) → is_own (place_at tree e) l.parent c ≡ b
          → EachOf (λ d. is_case_at tree e.id d ≡ true)
          (if b then l.entry ∷ [] else foreign_to (role_by e.kind e.parent) l.parent c l.entry)
      by_test true own = (
        λ d there. ap (is_case_at tree e.id) (sym (same c d (sym is ∙ there)))
            ∙ own_counts l.parent c own,
        tt,
      )
      by_test false own = foreign_of (λ d. is_case_at tree e.id d ≡ true) e.kind
          e.parent l.parent c l.entry at

  all_of : (ls : List LogRecord) → AllAt e.kind ls
      → EachOf (λ c. is_case_at tree e.id c ≡ true) (own_records (place_at tree e) ls)
  unfolding EachOf AllAt own_records
  all_of [] at = tt
  all_of (l ∷ ls) at =
      of_both (λ c. is_case_at tree e.id c ≡ true) (own_by (place_at tree e) l (record_case l.entry))
      (flat_map (λ m. own_by (place_at tree e) m (record_case m.entry)) ls)
      (own_of l at.0 (record_case l.entry) refl) (all_of ls at.1)

  -- the cases of the records that a process reads in its log are its own
  pub own_cases : (ls : List LogRecord) → AllAt e.kind ls → (role : Role)
      → list_all (is_case_at tree e.id) (listed_cases role (own_records (place_at tree e) ls)) ≡ true
  own_cases ls at role =
      all_if (is_case_at tree e.id) (listed_cases role (own_records (place_at tree e) ls))
      (listed_so (λ c. is_case_at tree e.id c ≡ true) role (own_records (place_at tree e) ls) (all_of ls at))
