-- The mark of a record is read off the bytes of its frame.
use Rattle.std.proofs.Common.{◌≡◌, ℕ, zero, suc, Bool, true, false, ◌&&◌, ◌||◌, cond, nat_le, List, [], ◌∷◌, ◌++◌, length, drop, Option, Some, None, option_map, refl, sym, ap, subst, ◌∙◌, arith}
use Rattle.std.specs.Prelude.{◌==◌, unwrap_or}
use Rattle.std.proofs.lemmas.Bool.Decides.{nat_tests}
use Rattle.xa_xid.specs.declared.error.XidError.{XidError}
use Rattle.xa_xid.specs.Bytes.{front_fault, xid_bytes}
use Rattle.xa_xid.specs.Xids.{IsXid, XidParts}
use Rattle.protocol.specs.declared.names.Case.{Case}
use Rattle.protocol.specs.declared.names.Kind.{Kind}
use Rattle.protocol.specs.declared.names.Kind.TheVariants.{Coordinator, Manager}
use Rattle.protocol_words.specs.Variants.{AbortedOutcome, CaseBranch, CommittedOutcome}
use Rattle.protocol.specs.declared.names.ProcessId.{ProcessId}
use Rattle.protocol.specs.declared.names.Ticket.{Ticket}
use Rattle.protocol.specs.declared.records.BranchName.{BranchName}
use Rattle.protocol.specs.declared.records.BranchName.TheVariants.{Foreign}
use Rattle.protocol.specs.declared.records.LogRecord.{LogRecord}
use Rattle.protocol.specs.declared.records.Record.{Record}
use Rattle.protocol.specs.declared.records.Record.TheVariants.{Opened, Collecting, Prepare, Commit, Abort, End, Prepared, Committed, RolledBack, Direct, HeurCommit, HeurRollback, Told, Forgot, Base, Pair, Cleared}
use Rattle.protocol.specs.declared.records.Reports.{Reports}
use Rattle.protocol.specs.declared.records.Write.{Write}
use Rattle.protocol.specs.LogNames.{name_by, name_xid, record_name, unnamed}
use Rattle.protocol.specs.Records.{branch_case, none_of}
use Rattle.log_text.specs.declared.form.LogForm.{LogForm}
use Rattle.log_text.specs.declared.mark.MarkDeed.{MarkDeed}
use Rattle.log_text.specs.declared.mark.MarkDeed.TheVariants as deed
use Rattle.log_text.specs.declared.mark.TrimMark.{TrimMark}
use Rattle.log_text.specs.Marks.{decision_by, decision_in, deed_in, deed_of, mark_of, nameless}
use Rattle.log_text.specs.Parts.{Front, Name, alone, and_more, front_of, key_at, name_at, name_in, reports_of, ticket_at, tickets_of, value_at, with_first, writes_of, xid_at}
use Rattle.log_text.specs.Reading.{alone_record, bare, below, branch_record, case_record, coordinator_record, kind_record, listing, manager_record, named, of_branch, of_case, of_name, opened_boot, pair_by, pair_of, read_record, told, writing}
use Rattle.log_text.proofs.NameReading.{name_again, xid_front}

some_is : {A : Type 0} (a b : A) → Some a ≡ Some b → a ≡ b
some_is {A} a b h = ap (λ o. unwrap_or o a) h

none_some : {A : Type 0} (a : A) → ◌≡◌ {A = Option A} None (Some a) → ⊥
none_some a h = absurd (cc)

is_number : (n m : ℕ) → (n == m) ≡ true → n ≡ m
is_number n m h = grind (arith, nat_tests)

-- What a decision names.

names_none : (ts : List Ticket) → ◌≡◌ {A = List Ticket} [] ts → decision_by ts ≡ deed.Settles
unfolding none_of
names_none ts e = ap decision_by (sym e)

names_some : (t : Ticket) (more ts : List Ticket) → t ∷ more ≡ ts → decision_by ts ≡ deed.Owes
unfolding none_of
names_some t more ts e = ap decision_by (sym e)

names_more : (t : Ticket) (o : Front (List Ticket)) (ts : List Ticket) → alone (with_first t o) ≡ Some ts
    → decision_by ts ≡ deed.Owes
names_more t None ts e = absurd (none_some ts e)
names_more t (Some p) ts e = by_rest (length p.1 == 0) e
  where
    by_rest : (b : Bool) → cond b (Some (t ∷ p.0)) None ≡ Some ts → decision_by ts ≡ deed.Owes
    by_rest true f = names_some t p.0 ts (some_is _ _ f)
    by_rest false f = absurd (none_some ts f)

names_first : (o : Front Ticket) (more : List ℕ → Front (List Ticket)) (ts : List Ticket)
    → alone (and_more o more) ≡ Some ts → decision_by ts ≡ deed.Owes
names_first None more ts e = absurd (none_some ts e)
names_first (Some p) more ts e = names_more p.0 (more p.1) ts e

decided : (rest : List ℕ) (ts : List Ticket) → tickets_of rest ≡ Some ts → decision_by ts ≡ decision_in rest
unfolding front_of
decided [] ts e = absurd (none_some ts e)
decided (zero ∷ rest) ts e = by_rest (length rest == 0) e
  where
    by_rest : (b : Bool) → cond b (Some []) None ≡ Some ts → decision_by ts ≡ deed.Settles
    by_rest true f = names_none ts (some_is _ _ f)
    by_rest false f = absurd (none_some ts f)
decided (suc n ∷ rest) ts e = names_first (ticket_at rest) (front_of ticket_at n) ts e
    ∙ ap (λ b. cond b deed.Settles deed.Owes) (sym (not_none n))
  where
    not_none : (m : ℕ) → (suc m == 0) ≡ false
    not_none m = grind (arith, nat_tests)

-- Records with a name.

-- the mark of a record of this kind under this name, with these bytes after it
abbrev IsMarked : Option ProcessId → BranchName → ℕ → List ℕ → LogRecord → Type 0
IsMarked p b kind rest l = ◌≡◌ {A = TrimMark}
    (record { name = Some (name_xid p b); deed = deed_in kind rest }) (mark_of l)

-- of a record that is known, by its kind
marked_as : (p : Option ProcessId) (b : BranchName) (kind n : ℕ) (rest : List ℕ) (l r : LogRecord) → kind ≡ n
    → r ≡ l
    → IsMarked p b n rest r → IsMarked p b kind rest l
marked_as p b kind n rest l r is e m =
    subst (λ (k : LogRecord). IsMarked p b kind rest k) e
    (subst (λ (k : ℕ). IsMarked p b k rest r) (sym is) m)

-- a case's record that lists tickets
listed_mark : (kind : ℕ) (p : Option ProcessId) (c : Case) (rest : List ℕ) (l : LogRecord) (ts : List Ticket)
    → (nat_le 2 kind && nat_le kind 5) ≡ true → tickets_of rest ≡ Some ts → named p (listing kind c ts) ≡ l
    → IsMarked p (CaseBranch c) kind rest l
listed_mark kind p c rest l ts bounds is e = by_tests (kind == 2) (kind == 3) (kind == 4) refl refl refl e
  where
    named_as : TrimMark → MarkDeed → TrimMark
    named_as m d = record { name = m.name; deed = d }

    by_tests : (a b d : Bool) → (kind == 2) ≡ a → (kind == 3) ≡ b → (kind == 4) ≡ d
        → named p (cond a (Collecting c ts) (cond b (Prepare c ts) (cond d (Commit c ts) (Abort c ts)))) ≡ l
        → IsMarked p (CaseBranch c) kind rest l
    by_tests true b d two three four f = marked_as p (CaseBranch c) kind 2 rest l _
        (is_number kind 2 two) f refl
    by_tests false true d two three four f = marked_as p (CaseBranch c) kind 3 rest l _
        (is_number kind 3 three) f refl
    by_tests false false true two three four f =
        marked_as p (CaseBranch c) kind 4 rest l _ (is_number kind 4 four) f
        (ap (named_as (mark_of (named p (Commit c ts)))) (sym (decided rest ts is)))
    by_tests false false false two three four f =
        marked_as p (CaseBranch c) kind 5 rest l _ (grind (arith, nat_tests)) f
        (ap (named_as (mark_of (named p (Abort c ts)))) (sym (decided rest ts is)))

case_mark : (kind : ℕ) (p : Option ProcessId) (c : Case) (rest : List ℕ) (l : LogRecord)
    → case_record kind p c rest ≡ Some l → IsMarked p (CaseBranch c) kind rest l
case_mark kind p c rest l e = by_kind (kind == 6) (kind == 7) (kind == 8) (nat_le 2 kind && nat_le kind 5)
    refl refl refl refl e
  where
    by_rest : (n : ℕ) (r : Record) (b : Bool) → kind ≡ n → IsMarked p (CaseBranch c) n rest (named p r)
        → cond b (Some (named p r)) None ≡ Some l → IsMarked p (CaseBranch c) kind rest l
    by_rest n r true is m f = marked_as p (CaseBranch c) kind n rest l _ is (some_is _ _ f) m
    by_rest n r false is m f = absurd (none_some l f)

    by_reports : (o : Option Reports) → kind ≡ 7 → option_map (λ r. named p (End c (Some r))) o ≡ Some l
        → IsMarked p (CaseBranch c) kind rest l
    by_reports None is f = absurd (none_some l f)
    by_reports (Some r) is f = marked_as p (CaseBranch c) kind 7 rest l _ is (some_is _ _ f) refl

    by_tickets : (o : Option (List Ticket)) → (nat_le 2 kind && nat_le kind 5) ≡ true → tickets_of rest ≡ o
        → option_map (λ ts. named p (listing kind c ts)) o ≡ Some l → IsMarked p (CaseBranch c) kind rest l
    by_tickets None bounds is f = absurd (none_some l f)
    by_tickets (Some ts) bounds is f = listed_mark kind p c rest l ts bounds is (some_is _ _ f)

    by_kind : (a b d f : Bool) → (kind == 6) ≡ a → (kind == 7) ≡ b → (kind == 8) ≡ d
        → (nat_le 2 kind && nat_le kind 5) ≡ f
        → cond a (alone_record p (End c None) rest)
        (cond b (option_map (λ r. named p (End c (Some r))) (reports_of rest))
        (cond d (alone_record p (Cleared c) rest)
        (cond f (option_map (λ ts. named p (listing kind c ts)) (tickets_of rest)) None))) ≡ Some l
        → IsMarked p (CaseBranch c) kind rest l
    by_kind true b d f six seven eight r g = by_rest 6 (End c None) (length rest == 0)
        (is_number kind 6 six) refl g
    by_kind false true d f six seven eight r g = by_reports (reports_of rest) (is_number kind 7 seven) g
    by_kind false false true f six seven eight r g =
        by_rest 8 (Cleared c) (length rest == 0) (is_number kind 8 eight) refl g
    by_kind false false false true six seven eight r g = by_tickets (tickets_of rest) r refl g
    by_kind false false false false six seven eight r g = absurd (none_some l g)

-- Records of branches.

branch_name : (b : BranchName) → name_by (branch_case b) (Some b) ≡ Some b
branch_name (CaseBranch c) = refl
branch_name (Foreign x) = refl

-- of a record of a branch that is known, by its kind
branch_as : (p : Option ProcessId) (b : BranchName) (kind n : ℕ) (rest : List ℕ) (r s : Record) → kind ≡ n
    → s ≡ r
    → record_name s ≡ Some b → deed_of s ≡ deed_in n rest → IsMarked p b kind rest (named p r)
branch_as p b kind n rest r s is e name does = marked_as p b kind n rest (named p r) (named p s) is
    (ap (named p) e)
    (λ i. record { name = option_map (name_xid p) (sym name i); deed = sym does i })

bare_mark : (p : Option ProcessId) (b : BranchName) (kind : ℕ) (rest : List ℕ) (r : Record)
    → bare kind b ≡ Some r
    → IsMarked p b kind rest (named p r)
bare_mark p b kind rest r e = by_tests (kind == 18) (kind == 19) (kind == 21) (kind == 22) (kind == 24)
    refl refl refl refl refl e
  where
    by_tests : (a c d f g : Bool) → (kind == 18) ≡ a → (kind == 19) ≡ c → (kind == 21) ≡ d → (kind == 22) ≡ f
        → (kind == 24) ≡ g
        → cond a (Some (Committed b)) (cond c (Some (RolledBack b))
        (cond d (Some (HeurCommit b)) (cond f (Some (HeurRollback b)) (cond g (Some (Forgot b)) None))))
        ≡ Some r
        → IsMarked p b kind rest (named p r)
    by_tests true c d f g i j k m n q = branch_as p b kind 18 rest r _ (is_number kind 18 i) (some_is _ _ q)
        (branch_name b) refl
    by_tests false true d f g i j k m n q = branch_as p b kind 19 rest r _ (is_number kind 19 j)
        (some_is _ _ q) (branch_name b) refl
    by_tests false false true f g i j k m n q =
        branch_as p b kind 21 rest r _ (is_number kind 21 k) (some_is _ _ q) (branch_name b) refl
    by_tests false false false true g i j k m n q =
        branch_as p b kind 22 rest r _ (is_number kind 22 m) (some_is _ _ q) (branch_name b) refl
    by_tests false false false false true i j k m n q =
        branch_as p b kind 24 rest r _ (is_number kind 24 n) (some_is _ _ q) (branch_name b) refl
    by_tests false false false false false i j k m n q = absurd (none_some r q)

told_mark : (p : Option ProcessId) (b : BranchName) (kind : ℕ) (rest : List ℕ) (r : Record) → kind ≡ 23
    → told b rest ≡ Some r → IsMarked p b kind rest (named p r)
told_mark p b kind [] r is e = absurd (none_some r e)
told_mark p b kind (o ∷ q ∷ rest) r is e = absurd (none_some r e)
told_mark p b kind (o ∷ []) r is e = by_tests (o == 1) (o == 0) e
  where
    by_tests : (a c : Bool)
        → cond a (Some (Told b CommittedOutcome)) (cond c (Some (Told b AbortedOutcome)) None) ≡ Some r
        → IsMarked p b kind (o ∷ []) (named p r)
    by_tests true c f = branch_as p b kind 23 (o ∷ []) r _ is (some_is _ _ f) (branch_name b) refl
    by_tests false true f = branch_as p b kind 23 (o ∷ []) r _ is (some_is _ _ f) (branch_name b) refl
    by_tests false false f = absurd (none_some r f)

writing_mark : (p : Option ProcessId) (b : BranchName) (kind : ℕ) (rest : List ℕ) (r : Record)
    (o : Option (List Write))
    → ((kind == 17) || (kind == 20)) ≡ true → option_map (writing kind b) o ≡ Some r
    → IsMarked p b kind rest (named p r)
writing_mark p b kind rest r None of e = absurd (none_some r e)
writing_mark p b kind rest r (Some ws) of e = by_kind (kind == 17) refl (some_is _ _ e)
  where
    by_kind : (a : Bool) → (kind == 17) ≡ a → cond a (Prepared b ws) (Direct b ws) ≡ r
        → IsMarked p b kind rest (named p r)
    by_kind true i f = branch_as p b kind 17 rest r _ (is_number kind 17 i) f (branch_name b) refl
    by_kind false i f = branch_as p b kind 20 rest r _
        (is_number kind 20 (ap (λ a. a || (kind == 20)) (sym i) ∙ of)) f (branch_name b) refl

branch_mark : (p : Option ProcessId) (b : BranchName) (kind : ℕ) (rest : List ℕ) (r : Record)
    → branch_record kind b rest ≡ Some r → IsMarked p b kind rest (named p r)
branch_mark p b kind rest r e = by_tests ((kind == 17) || (kind == 20)) (kind == 23)
    (length rest == 0) refl refl e
  where
    by_tests : (a c d : Bool) → ((kind == 17) || (kind == 20)) ≡ a → (kind == 23) ≡ c
        → cond a (option_map (writing kind b) (writes_of rest))
        (cond c (told b rest) (cond d (bare kind b) None)) ≡ Some r
        → IsMarked p b kind rest (named p r)
    by_tests true c d i j f = writing_mark p b kind rest r (writes_of rest) i f
    by_tests false true d i j f = told_mark p b kind rest r (is_number kind 23 j) f
    by_tests false false true i j f = bare_mark p b kind rest r f
    by_tests false false false i j f = absurd (none_some r f)

-- A record after a name.

of_case_mark : (kind : ℕ) (p : Option ProcessId) (b : BranchName) (rest : List ℕ) (l : LogRecord)
    → of_case kind p b rest ≡ Some l → IsMarked p b kind rest l
of_case_mark kind p (CaseBranch c) rest l e = case_mark kind p c rest l e
of_case_mark kind p (Foreign x) rest l e = absurd (none_some l e)

of_branch_mark : (kind : ℕ) (p : Option ProcessId) (b : BranchName) (rest : List ℕ) (l : LogRecord)
    (o : Option Record)
    → branch_record kind b rest ≡ o → option_map (named p) o ≡ Some l → IsMarked p b kind rest l
of_branch_mark kind p b rest l None is e = absurd (none_some l e)
of_branch_mark kind p b rest l (Some r) is e =
    subst (λ (k : LogRecord). IsMarked p b kind rest k) (some_is _ _ e) (branch_mark p b kind rest r is)

-- the name at the front, where an XID was read there
name_of_xid : (payload : List ℕ) (o : Front XidParts) → xid_at payload ≡ o
    → name_at payload ≡ option_map (λ p. (name_in p.0, p.1)) o
unfolding name_at
name_of_xid payload o e = ap (option_map (λ p. (name_in p.0, p.1))) e

-- what a record is that has a name, by the sort of process
kind_named : (k : Kind) (kind : ℕ) (payload : List ℕ) (x : XidParts) (rest : List ℕ) (l : LogRecord)
    → (kind == 25) ≡ false → (kind == 26) ≡ false → xid_at payload ≡ Some (x, rest)
    → kind_record k kind payload ≡ Some l → IsMarked (name_in x).0 (name_in x).1 kind rest l
unfolding coordinator_record manager_record
kind_named Coordinator kind payload x rest l base pair at e =
    of_case_mark kind (name_in x).0 (name_in x).1 rest l
    (ap (of_name kind) (sym (name_of_xid payload (Some (x, rest)) at)) ∙ e)
kind_named Manager kind payload x rest l base pair at e =
    of_branch_mark kind (name_in x).0 (name_in x).1 rest l (branch_record kind (name_in x).1 rest) refl
    (ap (of_branch kind) (sym (name_of_xid payload (Some (x, rest)) at))
    ∙ ap (λ b. cond b (pair_by (key_at payload)) (of_branch kind (name_at payload))) (sym pair)
    ∙ ap (λ b. cond b (option_map (λ n. unnamed (Base n)) (below payload))
    (cond (kind == 26) (pair_by (key_at payload)) (of_branch kind (name_at payload)))) (sym base) ∙ e)

kind_no_name : (k : Kind) (kind : ℕ) (payload : List ℕ) (l : LogRecord)
    → (kind == 25) ≡ false → (kind == 26) ≡ false → xid_at payload ≡ None
    → kind_record k kind payload ≡ Some l → ⊥
unfolding coordinator_record manager_record
kind_no_name Coordinator kind payload l base pair at e =
    none_some l (ap (of_name kind) (sym (name_of_xid payload None at)) ∙ e)
kind_no_name Manager kind payload l base pair at e =
    none_some l
    (ap (of_branch kind) (sym (name_of_xid payload None at))
    ∙ ap (λ b. cond b (pair_by (key_at payload)) (of_branch kind (name_at payload))) (sym pair)
    ∙ ap (λ b. cond b (option_map (λ n. unnamed (Base n)) (below payload))
    (cond (kind == 26) (pair_by (key_at payload)) (of_branch kind (name_at payload)))) (sym base) ∙ e)

-- the kind is none of those without a name
record HasName (kind : ℕ) : Type 0 where
  pub opened : (kind == 1) ≡ false
  pub base : (kind == 25) ≡ false
  pub pair : (kind == 26) ≡ false

has_name : (kind : ℕ) → nameless kind ≡ None → HasName kind
has_name kind e = by_tests (kind == 1) (kind == 25) (kind == 26) refl refl refl e
  where
    by_tests : (a b c : Bool) → (kind == 1) ≡ a → (kind == 25) ≡ b → (kind == 26) ≡ c
        → cond a (Some deed.Opens) (cond (b || c) (Some deed.Nothing) None) ≡ None → HasName kind
    by_tests true b c i j k f = absurd (none_some deed.Opens (sym f))
    by_tests false true c i j k f = absurd (none_some deed.Nothing (sym f))
    by_tests false false true i j k f = absurd (none_some deed.Nothing (sym f))
    by_tests false false false i j k f = record { opened = i; base = j; pair = k }

-- a record that is no Opened
not_opened : (f : LogForm) (kind : ℕ) (payload : List ℕ) → (kind == 1) ≡ false
    → read_record f kind payload ≡ kind_record f.kind kind payload
unfolding read_record
not_opened f kind payload e = ap (λ b. cond b (option_map (λ n. unnamed (Opened n)) (opened_boot f payload))
    (kind_record f.kind kind payload)) e

-- the mark of a record with a name
named_mark : (f : LogForm) (kind : ℕ) (payload : List ℕ) (x : XidParts) (rest : List ℕ) (l : LogRecord)
    → nameless kind ≡ None → xid_at payload ≡ Some (x, rest) → read_record f kind payload ≡ Some l
    → ◌≡◌ {A = TrimMark} (record { name = Some x; deed = deed_in kind rest }) (mark_of l)
named_mark f kind payload x rest l none at e =
    let h = has_name kind none in
    ap (λ (y : XidParts). record { name = Some y; deed = deed_in kind rest }) (sym (name_again x))
    ∙ kind_named f.kind kind payload x rest l h.base h.pair at
    (sym (not_opened f kind payload h.opened) ∙ e)

-- where no XID is at the front, no record with a name is read
no_named : (f : LogForm) (kind : ℕ) (payload : List ℕ) (l : LogRecord)
    → nameless kind ≡ None → xid_at payload ≡ None → read_record f kind payload ≡ Some l → ⊥
no_named f kind payload l none at e =
    let h = has_name kind none in
    kind_no_name f.kind kind payload l h.base h.pair at (sym (not_opened f kind payload h.opened) ∙ e)

-- Records without a name.

opened_mark : (o : Option ℕ) (l : LogRecord) → option_map (λ n. unnamed (Opened n)) o ≡ Some l
    → ◌≡◌ {A = TrimMark} (record { name = None; deed = deed.Opens }) (mark_of l)
opened_mark None l e = absurd (none_some l e)
opened_mark (Some n) l e = ap mark_of (some_is _ _ e)

base_mark : (o : Option ℕ) (l : LogRecord) → option_map (λ n. unnamed (Base n)) o ≡ Some l
    → ◌≡◌ {A = TrimMark} (record { name = None; deed = deed.Nothing }) (mark_of l)
base_mark None l e = absurd (none_some l e)
base_mark (Some n) l e = ap mark_of (some_is _ _ e)

pair_of_mark : (k : List ℕ) (o : Front (List ℕ)) (l : LogRecord) → pair_of k o ≡ Some l
    → ◌≡◌ {A = TrimMark} (record { name = None; deed = deed.Nothing }) (mark_of l)
pair_of_mark k None l e = absurd (none_some l e)
pair_of_mark k (Some v) l e = by_rest (length v.1 == 0) e
  where
    by_rest : (b : Bool) → cond b (Some (unnamed (Pair k v.0))) None ≡ Some l
        → ◌≡◌ {A = TrimMark} (record { name = None; deed = deed.Nothing }) (mark_of l)
    by_rest true f = ap mark_of (some_is _ _ f)
    by_rest false f = absurd (none_some l f)

pair_mark : (o : Front (List ℕ)) (l : LogRecord) → pair_by o ≡ Some l
    → ◌≡◌ {A = TrimMark} (record { name = None; deed = deed.Nothing }) (mark_of l)
pair_mark None l e = absurd (none_some l e)
pair_mark (Some k) l e = pair_of_mark k.0 (value_at k.1) l e

-- a coordinator has no record of data
no_base : (o : Front Name) (l : LogRecord) → of_name 25 o ≡ Some l → ⊥
no_base None l e = none_some l e
no_base (Some n) l e = by_name n.0.1 e
  where
    by_name : (b : BranchName) → of_case 25 n.0.0 b n.1 ≡ Some l → ⊥
    by_name (CaseBranch c) f = none_some l f
    by_name (Foreign x) f = none_some l f

no_pair : (o : Front Name) (l : LogRecord) → of_name 26 o ≡ Some l → ⊥
no_pair None l e = none_some l e
no_pair (Some n) l e = by_name n.0.1 e
  where
    by_name : (b : BranchName) → of_case 26 n.0.0 b n.1 ≡ Some l → ⊥
    by_name (CaseBranch c) f = none_some l f
    by_name (Foreign x) f = none_some l f

base_at : (k : Kind) (payload : List ℕ) (l : LogRecord) → kind_record k 25 payload ≡ Some l
    → ◌≡◌ {A = TrimMark} (record { name = None; deed = deed.Nothing }) (mark_of l)
unfolding coordinator_record manager_record
base_at Coordinator payload l e = absurd (no_base (name_at payload) l e)
base_at Manager payload l e = base_mark (below payload) l e

pair_in : (k : Kind) (payload : List ℕ) (l : LogRecord) → kind_record k 26 payload ≡ Some l
    → ◌≡◌ {A = TrimMark} (record { name = None; deed = deed.Nothing }) (mark_of l)
unfolding coordinator_record manager_record
pair_in Coordinator payload l e = absurd (no_pair (name_at payload) l e)
pair_in Manager payload l e = pair_mark (key_at payload) l e

-- the mark of a record without a name
pub unnamed_mark : (f : LogForm) (kind : ℕ) (payload : List ℕ) (d : MarkDeed) (l : LogRecord)
    → nameless kind ≡ Some d → read_record f kind payload ≡ Some l
    → ◌≡◌ {A = TrimMark} (record { name = None; deed = d }) (mark_of l)
unfolding read_record
unnamed_mark f kind payload d l none e = by_tests (kind == 1) (kind == 25) (kind == 26) refl refl refl none e
  where
    as_deed : (c : MarkDeed) → c ≡ d → ◌≡◌ {A = TrimMark} (record { name = None; deed = c }) (mark_of l)
        → ◌≡◌ {A = TrimMark} (record { name = None; deed = d }) (mark_of l)
    as_deed c same m = subst (λ (b : MarkDeed). ◌≡◌ {A = TrimMark} (record { name = None; deed = b })
        (mark_of l)) same m

    by_tests : (a b c : Bool) → (kind == 1) ≡ a → (kind == 25) ≡ b → (kind == 26) ≡ c
        → cond a (Some deed.Opens) (cond (b || c) (Some deed.Nothing) None) ≡ Some d
        → cond a (option_map (λ n. unnamed (Opened n)) (opened_boot f payload))
        (kind_record f.kind kind payload)
        ≡ Some l
        → ◌≡◌ {A = TrimMark} (record { name = None; deed = d }) (mark_of l)
    by_tests true b c i j k q g = as_deed _ (some_is _ _ q) (opened_mark (opened_boot f payload) l g)
    by_tests false true c i j k q g = as_deed _ (some_is _ _ q)
        (base_at f.kind payload l (ap (λ n. kind_record f.kind n payload) (sym (is_number kind 25 j)) ∙ g))
    by_tests false false true i j k q g = as_deed _ (some_is _ _ q)
        (pair_in f.kind payload l (ap (λ n. kind_record f.kind n payload) (sym (is_number kind 26 k)) ∙ g))
    by_tests false false false i j k q g = absurd (none_some d q)

-- What is read of a payload.

no_xid : (payload : List ℕ) (fault : XidError) → front_fault payload ≡ Some fault → xid_at payload ≡ None
unfolding xid_at
no_xid payload fault e = rw e refl

pub front_mark : (f : LogForm) (kind : ℕ) (payload : List ℕ) (x : XidParts) (size : ℕ)
    (rest : List ℕ) (d : MarkDeed)
    (l : LogRecord) → nameless kind ≡ None → IsXid x → size ≡ length (xid_bytes x)
    → payload ≡ xid_bytes x ++ drop size payload → rest ≡ drop size payload → d ≡ deed_in kind rest
    → read_record f kind payload ≡ Some l → ◌≡◌ {A = TrimMark}
    (record { name = Some x; deed = d }) (mark_of l)
front_mark f kind payload x size rest d l none is s w r is_deed e =
    let at = xid_front x payload is (w ∙ ap (λ k. xid_bytes x ++ drop k payload) s) in
    ap (λ (c : MarkDeed). record { name = Some x; deed = c })
    (is_deed ∙ ap (deed_in kind) (r ∙ ap (λ k. drop k payload) s))
    ∙ named_mark f kind payload x (drop (length (xid_bytes x)) payload) l none at e

pub fault_mark : (f : LogForm) (kind : ℕ) (payload : List ℕ) (fault : XidError) (m : TrimMark) (l : LogRecord)
    → nameless kind ≡ None → front_fault payload ≡ Some fault → read_record f kind payload ≡ Some l
    → m ≡ mark_of l
fault_mark f kind payload fault m l none w e =
    absurd (no_named f kind payload l none (no_xid payload fault w) e)
