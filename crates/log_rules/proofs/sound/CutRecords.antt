-- The record that a frame reads as is written as this frame.
use Rattle.std.proofs.Common.{◌≡◌, ◌≤◌, ◌^◌, ℕ, Bool, true, false, ◌&&◌, ◌||◌, cond, if◌then◌else◌, bytes_eq, nat_le, nat_lt, List, [], ◌∷◌, ◌++◌, length, take, drop, Option, Some, None, option_map, refl, sym, ap, subst, ◌∙◌, arith, append-nil}
use Rattle.std.proofs.lemmas.List.{take-append-drop}
use Rattle.std.specs.Prelude.{◌==◌}
use Rattle.std.proofs.Math.Seq.{take-length}
use Rattle.std.proofs.lemmas.Bool.Decides.{nat_tests}
use Rattle.std.proofs.lemmas.Slice.Eq.{bytes_eq-Decides}
use Rattle.byteorder.specs.Endian.{big_bytes, big_number}
use Rattle.protocol.specs.declared.names.Case.{Case}
use Rattle.protocol.specs.declared.names.Kind.{Kind}
use Rattle.protocol.specs.declared.names.Kind.TheVariants.{Coordinator, Manager}
use Rattle.protocol_words.specs.Variants.{AbortedOutcome, CaseBranch, CommittedOutcome}
use Rattle.protocol.specs.declared.names.ProcessId.{ProcessId}
use Rattle.protocol.specs.declared.names.Ticket.{Ticket}
use Rattle.protocol.specs.declared.records.BranchName.{BranchName}
use Rattle.protocol.specs.declared.records.BranchName.TheVariants.{Foreign}
use Rattle.protocol.specs.declared.records.LogRecord.{LogRecord}
use Rattle.protocol.specs.declared.records.Record.{Record}
use Rattle.protocol.specs.declared.records.Record.TheVariants.{Opened, Collecting, Prepare, Commit, Abort, End, Prepared, Committed, RolledBack, Direct, HeurCommit, HeurRollback, Told, Forgot, Base, Pair, Cleared}
use Rattle.protocol.specs.declared.records.Reports.{Reports}
use Rattle.protocol.specs.declared.records.Write.{Write}
use Rattle.log_text.specs.declared.form.LogForm.{LogForm}
use Rattle.log_text.specs.declared.form.LogFormat.{LogFormat}
use Rattle.log_text.specs.declared.form.LogFormat.TheVariants.{First, Second}
use Rattle.log_text.specs.Parts.{Front, Name, key_at, name_at, reports_of, tickets_of, value_at, writes_of}
use Rattle.log_text.specs.Payloads.{key_text, kind_byte, name_text, opened_by, owner_text, payload_text, tickets_text, value_text, writes_text}
use Rattle.log_text.specs.Reading.{alone_record, bare, below, boot_by, branch_record, case_record, coordinator_record, kind_record, listing, manager_record, named, of_branch, of_case, of_name, opened_boot, owned_boot, pair_by, pair_of, read_record, told, writing}
use Rattle.protocol.specs.LogNames.{unnamed}
use Rattle.log_rules.specs.sound.Written.{AreBytes, IsWrittenAs, ReadIsWritten}
use Rattle.log_rules.proofs.sound.Cuts.{IsCut, both, empty, first_bytes, is_number, key_cut, none_some, number_again, passed, reports_cut, some_is, tickets_cut, value_cut, writes_cut}
use Rattle.log_rules.proofs.sound.CutNames.{name_cut}

-- Numbers alone.

number_cut : (xs : List ℕ) (n : ℕ) → AreBytes xs → below xs ≡ Some n → big_bytes 8 n ≡ xs
number_cut xs n h e =
    let got = passed ((length xs == 8) && nat_lt (big_number 8 xs) (2 ^ 63)) (big_number 8 xs) n e in
    let eight : length xs ≡ 8 = is_number (length xs) 8
    (both (length xs == 8) (nat_lt (big_number 8 xs) (2 ^ 63)) got.0).0 in
    ap (big_bytes 8) (sym got.1) ∙ number_again 8 xs h (omega (arith, eight))
    ∙ ap (λ k. take k xs) (sym eight) ∙ take-length xs

pub bytes_same : (xs ys : List ℕ) → bytes_eq xs ys ≡ true → xs ≡ ys
bytes_same xs ys e = (bytes_eq-Decides xs ys).0 e

owned_cut : (form : LogForm) (xs : List ℕ) (n : ℕ) → AreBytes xs → owned_boot form xs ≡ Some n
    → big_bytes 8 n ++ owner_text form ≡ xs
owned_cut form xs n h e =
    let got = passed_by (bytes_eq (drop 8 xs) (owner_text form)) (below (take 8 xs)) n e in
    ap (λ t. t ++ owner_text form) (number_cut (take 8 xs) n (first_bytes 8 xs h) got.1)
    ∙ ap (λ t. take 8 xs ++ t) (sym (bytes_same (drop 8 xs) (owner_text form) got.0)) ∙ take-append-drop 8 xs
  where
    passed_by : (b : Bool) (o : Option ℕ) (m : ℕ) → (if b then o else None) ≡ Some m → (b ≡ true)
        × (o ≡ Some m)
    passed_by true o m q = (refl, q)
    passed_by false o m q = absurd (none_some m q)

boot_cut : (f : LogFormat) (form : LogForm) (xs : List ℕ) (n : ℕ) → AreBytes xs → boot_by f form xs ≡ Some n
    → opened_by f form n ≡ xs
boot_cut First form xs n h e = number_cut xs n h e
boot_cut Second form xs n h e = owned_cut form xs n h e

opened_cut : (form : LogForm) (kind : ℕ) (xs : List ℕ) (l : LogRecord) (o : Option ℕ) → AreBytes xs → kind ≡ 1
    → opened_boot form xs ≡ o
    → option_map (λ n. unnamed (Opened n)) o ≡ Some l → IsWrittenAs form l kind xs
opened_cut form kind xs l None h one is e = absurd (none_some l e)
opened_cut form kind xs l (Some n) h one is e =
    subst (λ (k : LogRecord). IsWrittenAs form k kind xs) (some_is _ l e)
    (record { same_kind = sym one; same_payload = boot_cut form.format form xs n h is })

base_cut : (form : LogForm) (kind : ℕ) (xs : List ℕ) (l : LogRecord) (o : Option ℕ) → AreBytes xs → kind ≡ 25
    → below xs ≡ o
    → option_map (λ n. unnamed (Base n)) o ≡ Some l → IsWrittenAs form l kind xs
base_cut form kind xs l None h one is e = absurd (none_some l e)
base_cut form kind xs l (Some n) h one is e =
    subst (λ (k : LogRecord). IsWrittenAs form k kind xs) (some_is _ l e)
    (record { same_kind = sym one; same_payload = number_cut xs n h is })

-- Records of coordinators.

listing_kind : (kind : ℕ) (c : Case) (ts : List Ticket) → 2 ≤ kind → kind ≤ 5
    → kind_byte (listing kind c ts) ≡ kind
listing_kind kind c ts low high = by_tests (kind == 2) (kind == 3) (kind == 4) refl refl refl
  where
    by_tests : (a b d : Bool) → (kind == 2) ≡ a → (kind == 3) ≡ b → (kind == 4) ≡ d
        → kind_byte (cond a (Collecting c ts) (cond b (Prepare c ts) (cond d (Commit c ts) (Abort c ts))))
        ≡ kind
    by_tests true b d e f g = sym (is_number kind 2 e)
    by_tests false true d e f g = sym (is_number kind 3 f)
    by_tests false false true e f g = sym (is_number kind 4 g)
    by_tests false false false e f g = grind (arith, nat_tests)

listing_text : (form : LogForm) (p : Option ProcessId) (kind : ℕ) (c : Case) (ts : List Ticket)
    → payload_text form p (listing kind c ts) ≡ name_text p (CaseBranch c) ++ tickets_text ts
listing_text form p kind c ts = by_tests (kind == 2) (kind == 3) (kind == 4)
  where
    by_tests : (a b d : Bool)
        → payload_text form p (cond a (Collecting c ts)
        (cond b (Prepare c ts) (cond d (Commit c ts) (Abort c ts)))) ≡ name_text p (CaseBranch c)
        ++ tickets_text ts
    by_tests true b d = refl
    by_tests false true d = refl
    by_tests false false true = refl
    by_tests false false false = refl

at_most : (n m : ℕ) → nat_le n m ≡ true → n ≤ m
at_most n m h = grind (arith, nat_tests)

listed_cut : (form : LogForm) (kind : ℕ) (xs : List ℕ) (p : Option ProcessId) (c : Case)
    (rest : List ℕ) (l : LogRecord)
    (o : Option (List Ticket))
    → (nat_le 2 kind && nat_le kind 5) ≡ true → AreBytes rest → xs ≡ name_text p (CaseBranch c) ++ rest
    → tickets_of rest ≡ o
    → option_map (λ ts. named p (listing kind c ts)) o ≡ Some l → IsWrittenAs form l kind xs
listed_cut form kind xs p c rest l None bounds h w is e = absurd (none_some l e)
listed_cut form kind xs p c rest l (Some ts) bounds h w is e =
    let range = both (nat_le 2 kind) (nat_le kind 5) bounds in
    subst (λ (k : LogRecord). IsWrittenAs form k kind xs) (some_is _ l e) (record {
      same_kind = listing_kind kind c ts (at_most 2 kind range.0) (at_most kind 5 range.1);
      same_payload = listing_text form p kind c ts
          ∙ ap (λ t. name_text p (CaseBranch c) ++ t) (tickets_cut rest ts h is) ∙ sym w;
    })

-- a record that says nothing but its case
alone_cut : (form : LogForm) (kind n : ℕ) (xs : List ℕ) (p : Option ProcessId) (c : Case)
    (r : Record) (rest : List ℕ)
    (l : LogRecord) (none : Bool)
    → kind ≡ n → kind_byte r ≡ n → payload_text form p r ≡ name_text p (CaseBranch c)
    → xs ≡ name_text p (CaseBranch c) ++ rest → (length rest == 0) ≡ none
    → cond none (Some (named p r)) None ≡ Some l → IsWrittenAs form l kind xs
alone_cut form kind n xs p c r rest l true is byte text w none e =
    subst (λ (k : LogRecord). IsWrittenAs form k kind xs) (some_is _ l e) (record {
      same_kind = byte ∙ sym is;
      same_payload = text ∙ sym (append-nil (name_text p (CaseBranch c)))
          ∙ ap (λ t. name_text p (CaseBranch c) ++ t) (sym (empty rest none)) ∙ sym w;
    })
alone_cut form kind n xs p c r rest l false is byte text w none e = absurd (none_some l e)

-- an End that reports
reported_cut : (form : LogForm) (kind : ℕ) (xs : List ℕ) (p : Option ProcessId) (c : Case)
    (rest : List ℕ) (l : LogRecord)
    (o : Option Reports)
    → kind ≡ 7 → AreBytes rest → xs ≡ name_text p (CaseBranch c) ++ rest → reports_of rest ≡ o
    → option_map (λ r. named p (End c (Some r))) o ≡ Some l → IsWrittenAs form l kind xs
reported_cut form kind xs p c rest l None seven h w is e = absurd (none_some l e)
reported_cut form kind xs p c rest l (Some r) seven h w is e =
    subst (λ (k : LogRecord). IsWrittenAs form k kind xs) (some_is _ l e) (record {
      same_kind = sym seven;
      same_payload = ap (λ t. name_text p (CaseBranch c) ++ t) (reports_cut rest r h is) ∙ sym w;
    })

case_cut : (form : LogForm) (kind : ℕ) (xs : List ℕ) (p : Option ProcessId) (c : Case)
    (rest : List ℕ) (l : LogRecord)
    → AreBytes rest → xs ≡ name_text p (CaseBranch c) ++ rest → case_record kind p c rest ≡ Some l
    → IsWrittenAs form l kind xs
case_cut form kind xs p c rest l h w e = by_kind (kind == 6) (kind == 7) (kind == 8)
    (nat_le 2 kind && nat_le kind 5) refl refl refl refl e
  where
    by_kind : (a b d f : Bool) → (kind == 6) ≡ a → (kind == 7) ≡ b → (kind == 8) ≡ d
        → (nat_le 2 kind && nat_le kind 5) ≡ f
        → cond a (alone_record p (End c None) rest)
        (cond b (option_map (λ r. named p (End c (Some r))) (reports_of rest))
        (cond d (alone_record p (Cleared c) rest)
        (cond f (option_map (λ ts. named p (listing kind c ts)) (tickets_of rest)) None))) ≡ Some l
        → IsWrittenAs form l kind xs
    by_kind true b d f six seven eight r g = alone_cut form kind 6 xs p c (End c None) rest l
        (length rest == 0)
        (is_number kind 6 six) refl refl w refl g
    by_kind false true d f six seven eight r g =
        reported_cut form kind xs p c rest l (reports_of rest) (is_number kind 7 seven) h w refl g
    by_kind false false true f six seven eight r g = alone_cut form kind 8 xs p c (Cleared c) rest l
        (length rest == 0) (is_number kind 8 eight) refl refl w refl g
    by_kind false false false true six seven eight r g =
        listed_cut form kind xs p c rest l (tickets_of rest) r h w refl g
    by_kind false false false false six seven eight r g = absurd (none_some l g)

of_case_cut : (form : LogForm) (kind : ℕ) (xs : List ℕ) (p : Option ProcessId) (b : BranchName)
    (rest : List ℕ) (l : LogRecord)
    → AreBytes rest → xs ≡ name_text p b ++ rest → of_case kind p b rest ≡ Some l → IsWrittenAs form l kind xs
of_case_cut form kind xs p (CaseBranch c) rest l h w e = case_cut form kind xs p c rest l h w e
of_case_cut form kind xs p (Foreign x) rest l h w e = absurd (none_some l e)

of_name_cut : (form : LogForm) (kind : ℕ) (xs : List ℕ) (l : LogRecord) (o : Front Name) → AreBytes xs
    → name_at xs ≡ o
    → of_name kind o ≡ Some l → IsWrittenAs form l kind xs
of_name_cut form kind xs l None h is e = absurd (none_some l e)
of_name_cut form kind xs l (Some n) h is e =
    let cut = name_cut xs n h is in
    of_case_cut form kind xs n.0.0 n.0.1 n.1 l cut.bytes cut.written e

coordinator_cut : (form : LogForm) (kind : ℕ) (xs : List ℕ) (l : LogRecord) → AreBytes xs
    → coordinator_record kind xs ≡ Some l
    → IsWrittenAs form l kind xs
unfolding coordinator_record
coordinator_cut form kind xs l h e = of_name_cut form kind xs l (name_at xs) h refl e

-- Records of managers.

-- what a record of a branch must be to be written so
pub record IsBranchWritten (form : LogForm) (p : Option ProcessId) (b : BranchName) (kind : ℕ) (rest : List ℕ)
    (r : Record) : Type 0 where
  pub same_kind : kind_byte r ≡ kind
  pub same_payload : payload_text form p r ≡ name_text p b ++ rest

bare_cut : (form : LogForm) (p : Option ProcessId) (b : BranchName) (kind : ℕ) (r : Record)
    → bare kind b ≡ Some r
    → IsBranchWritten form p b kind [] r
bare_cut form p b kind r e = by_tests (kind == 18) (kind == 19) (kind == 21) (kind == 22)
    (kind == 24) refl refl refl refl refl e
  where
    alone : (k : ℕ) (s : Record) → kind ≡ k → kind_byte s ≡ k → payload_text form p s ≡ name_text p b
        → Some s ≡ Some r → IsBranchWritten form p b kind [] r
    alone k s is byte text f =
        subst (λ (t : Record). IsBranchWritten form p b kind [] t) (some_is s r f)
        (record { same_kind = byte ∙ sym is; same_payload = text ∙ sym (append-nil (name_text p b)) })

    by_tests : (a c d f g : Bool) → (kind == 18) ≡ a → (kind == 19) ≡ c → (kind == 21) ≡ d → (kind == 22) ≡ f
        → (kind == 24) ≡ g
        → cond a (Some (Committed b)) (cond c (Some (RolledBack b))
        (cond d (Some (HeurCommit b)) (cond f (Some (HeurRollback b)) (cond g (Some (Forgot b)) None))))
        ≡ Some r
        → IsBranchWritten form p b kind [] r
    by_tests true c d f g i j k m n q = alone 18 (Committed b) (is_number kind 18 i) refl refl q
    by_tests false true d f g i j k m n q = alone 19 (RolledBack b) (is_number kind 19 j) refl refl q
    by_tests false false true f g i j k m n q = alone 21 (HeurCommit b) (is_number kind 21 k) refl refl q
    by_tests false false false true g i j k m n q =
        alone 22 (HeurRollback b) (is_number kind 22 m) refl refl q
    by_tests false false false false true i j k m n q = alone 24 (Forgot b) (is_number kind 24 n) refl refl q
    by_tests false false false false false i j k m n q = absurd (none_some r q)

told_cut : (form : LogForm) (p : Option ProcessId) (b : BranchName) (kind : ℕ) (rest : List ℕ) (r : Record)
    → kind ≡ 23
    → told b rest ≡ Some r → IsBranchWritten form p b kind rest r
told_cut form p b kind [] r is e = absurd (none_some r e)
told_cut form p b kind (o ∷ q ∷ rest) r is e = absurd (none_some r e)
told_cut form p b kind (o ∷ []) r is e = by_tests (o == 1) (o == 0) refl refl e
  where
    by_tests : (a c : Bool) → (o == 1) ≡ a → (o == 0) ≡ c
        → cond a (Some (Told b CommittedOutcome)) (cond c (Some (Told b AbortedOutcome)) None) ≡ Some r
        → IsBranchWritten form p b kind (o ∷ []) r
    by_tests true c i j f =
        subst (λ (t : Record). IsBranchWritten form p b kind (o ∷ []) t) (some_is _ r f)
        (record {
          same_kind = sym is;
          same_payload = ap (λ n. name_text p b ++ n ∷ [])
              (sym (is_number o 1 i));
        })
    by_tests false true i j f =
        subst (λ (t : Record). IsBranchWritten form p b kind (o ∷ []) t) (some_is _ r f)
        (record {
          same_kind = sym is;
          same_payload = ap (λ n. name_text p b ++ n ∷ [])
              (sym (is_number o 0 j));
        })
    by_tests false false i j f = absurd (none_some r f)

writing_cut : (form : LogForm) (p : Option ProcessId) (b : BranchName) (kind : ℕ) (rest : List ℕ) (r : Record)
    (o : Option (List Write))
    → ((kind == 17) || (kind == 20)) ≡ true → AreBytes rest → writes_of rest ≡ o
    → option_map (writing kind b) o ≡ Some r → IsBranchWritten form p b kind rest r
writing_cut form p b kind rest r None of h is e = absurd (none_some r e)
writing_cut form p b kind rest r (Some ws) of h is e =
    subst (λ (t : Record). IsBranchWritten form p b kind rest t) (some_is _ r e) (by_kind (kind == 17) refl)
  where
    text : writes_text ws ≡ rest
    text = writes_cut rest ws h is

    by_kind : (a : Bool) → (kind == 17) ≡ a → IsBranchWritten form p b kind rest
        (cond a (Prepared b ws) (Direct b ws))
    by_kind true i = record {
      same_kind = sym (is_number kind 17 i);
      same_payload = ap (λ t. name_text p b ++ t) text;
    }
    by_kind false i =
        let twenty : kind ≡ 20 = is_number kind 20 (ap (λ a. a || (kind == 20)) (sym i) ∙ of) in
        record { same_kind = sym twenty; same_payload = ap (λ t. name_text p b ++ t) text }

branch_cut : (form : LogForm) (p : Option ProcessId) (b : BranchName) (kind : ℕ) (rest : List ℕ) (r : Record)
    → AreBytes rest
    → branch_record kind b rest ≡ Some r → IsBranchWritten form p b kind rest r
branch_cut form p b kind rest r h e = by_tests ((kind == 17) || (kind == 20)) (kind == 23)
    (length rest == 0) refl refl refl e
  where
    by_tests : (a c d : Bool) → ((kind == 17) || (kind == 20)) ≡ a → (kind == 23) ≡ c → (length rest == 0) ≡ d
        → cond a (option_map (writing kind b) (writes_of rest))
        (cond c (told b rest) (cond d (bare kind b) None)) ≡ Some r
        → IsBranchWritten form p b kind rest r
    by_tests true c d i j k f = writing_cut form p b kind rest r (writes_of rest) i h refl f
    by_tests false true d i j k f = told_cut form p b kind rest r (is_number kind 23 j) f
    by_tests false false true i j k f = subst (λ (t : List ℕ). IsBranchWritten form p b kind t r)
        (sym (empty rest k)) (bare_cut form p b kind r f)
    by_tests false false false i j k f = absurd (none_some r f)

named_cut : (form : LogForm) (kind : ℕ) (xs : List ℕ) (p : Option ProcessId) (b : BranchName)
    (rest : List ℕ) (l : LogRecord)
    (o : Option Record)
    → AreBytes rest → xs ≡ name_text p b ++ rest → branch_record kind b rest ≡ o
    → option_map (named p) o ≡ Some l → IsWrittenAs form l kind xs
named_cut form kind xs p b rest l None h w is e = absurd (none_some l e)
named_cut form kind xs p b rest l (Some r) h w is e =
    let cut = branch_cut form p b kind rest r h is in
    subst (λ (k : LogRecord). IsWrittenAs form k kind xs) (some_is _ l e)
    (record { same_kind = cut.same_kind; same_payload = cut.same_payload ∙ sym w })

of_branch_cut : (form : LogForm) (kind : ℕ) (xs : List ℕ) (l : LogRecord) (o : Front Name) → AreBytes xs
    → name_at xs ≡ o
    → of_branch kind o ≡ Some l → IsWrittenAs form l kind xs
of_branch_cut form kind xs l None h is e = absurd (none_some l e)
of_branch_cut form kind xs l (Some n) h is e =
    let cut = name_cut xs n h is in
    named_cut form kind xs n.0.0 n.0.1 n.1 l (branch_record kind n.0.1 n.1) cut.bytes cut.written refl e

pair_of_cut : (form : LogForm) (kind : ℕ) (xs : List ℕ) (k : List ℕ × List ℕ) (l : LogRecord)
    (o : Front (List ℕ)) → kind ≡ 26
    → IsCut key_text xs k → value_at k.1 ≡ o
    → pair_of k.0 o ≡ Some l → IsWrittenAs form l kind xs
pair_of_cut form kind xs k l None is key v e = absurd (none_some l e)
pair_of_cut form kind xs k l (Some v) is key w e = by_rest (length v.1 == 0) refl e
  where
    by_rest : (a : Bool) → (length v.1 == 0) ≡ a → cond a (Some (unnamed (Pair k.0 v.0))) None ≡ Some l
        → IsWrittenAs form l kind xs
    by_rest true none f =
        let value = value_cut k.1 v key.bytes w in
        subst (λ (r : LogRecord). IsWrittenAs form r kind xs) (some_is _ l f) (record {
          same_kind = sym is;
          same_payload = ap (λ t. key_text k.0 ++ t)
              (sym (append-nil (value_text v.0)) ∙ ap (λ t. value_text v.0 ++ t) (sym (empty v.1 none))
              ∙ sym value.written)
              ∙ sym key.written;
        })
    by_rest false none f = absurd (none_some l f)

pair_cut : (form : LogForm) (kind : ℕ) (xs : List ℕ) (l : LogRecord) (o : Front (List ℕ)) → kind ≡ 26
    → AreBytes xs
    → key_at xs ≡ o → pair_by o ≡ Some l → IsWrittenAs form l kind xs
pair_cut form kind xs l None is h k e = absurd (none_some l e)
pair_cut form kind xs l (Some p) is h k e = pair_of_cut form kind xs p l (value_at p.1) is
    (key_cut xs p h k) refl e

manager_cut : (form : LogForm) (kind : ℕ) (xs : List ℕ) (l : LogRecord) → AreBytes xs
    → manager_record kind xs ≡ Some l
    → IsWrittenAs form l kind xs
unfolding manager_record
manager_cut form kind xs l h e = by_kind (kind == 25) (kind == 26) refl refl e
  where
    by_kind : (a b : Bool) → (kind == 25) ≡ a → (kind == 26) ≡ b
        → cond a (option_map (λ n. unnamed (Base n)) (below xs))
        (cond b (pair_by (key_at xs)) (of_branch kind (name_at xs))) ≡ Some l
        → IsWrittenAs form l kind xs
    by_kind true b i j f = base_cut form kind xs l (below xs) h (is_number kind 25 i) refl f
    by_kind false true i j f = pair_cut form kind xs l (key_at xs) (is_number kind 26 j) h refl f
    by_kind false false i j f = of_branch_cut form kind xs l (name_at xs) h refl f

-- Both.

kind_cut : (form : LogForm) (k : Kind) (kind : ℕ) (xs : List ℕ) (l : LogRecord) → AreBytes xs
    → kind_record k kind xs ≡ Some l → IsWrittenAs form l kind xs
kind_cut form Coordinator kind xs l h e = coordinator_cut form kind xs l h e
kind_cut form Manager kind xs l h e = manager_cut form kind xs l h e

pub read_is_written : ReadIsWritten
unfolding read_record
read_is_written form kind xs l h e = by_kind (kind == 1) refl e
  where
    by_kind : (a : Bool) → (kind == 1) ≡ a → cond a
        (option_map (λ n. unnamed (Opened n)) (opened_boot form xs))
        (kind_record form.kind kind xs) ≡ Some l → IsWrittenAs form l kind xs
    by_kind true i f = opened_cut form kind xs l (opened_boot form xs) h (is_number kind 1 i) refl f
    by_kind false i f = kind_cut form form.kind kind xs l h f
