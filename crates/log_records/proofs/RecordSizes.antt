-- What is read of a payload as a record is as long as what is written of it.
use Rattle.std.proofs.Common.{◌≡◌, ◌+◌, ◌&&◌, ◌||◌, ◌==◌, ◌^◌, ℕ, Bool, true, false, List, [], ◌∷◌, length, Option, Some, None, refl, sym, ap, ◌∙◌, arith, nat_lt, nat_le, if◌then◌else◌, option_map, length-append, bytes_eq, drop, take}
use Rattle.std.proofs.lemmas.Bool.{and_parts}
use Rattle.std.proofs.lemmas.Bool.Decides.{nat_tests}
use Rattle.std.proofs.lemmas.List.{take-append-drop}
use Rattle.byteorder.specs.Endian.{big_bytes, big_number}
use Rattle.log_rules.proofs.sound.CutRecords.{bytes_same}
use Rattle.protocol.specs.declared.names.Case.{Case}
use Rattle.protocol.specs.declared.names.Kind.{Kind}
use Rattle.protocol.specs.declared.names.Kind.TheVariants.{Coordinator, Manager}
use Rattle.protocol_words.specs.Variants.{AbortedOutcome, CaseBranch, CommittedOutcome}
use Rattle.protocol.specs.declared.names.ProcessId.{ProcessId}
use Rattle.protocol.specs.declared.names.Ticket.{Ticket}
use Rattle.protocol.specs.declared.records.BranchName.{BranchName}
use Rattle.protocol.specs.declared.records.BranchName.TheVariants.{Foreign}
use Rattle.protocol.specs.declared.records.LogRecord.{LogRecord}
use Rattle.protocol.specs.declared.records.Record.{Record}
use Rattle.protocol.specs.declared.records.Record.TheVariants.{Opened, Collecting, Prepare, Commit, Abort, End, Prepared, Committed, RolledBack, Direct, HeurCommit, HeurRollback, Told, Forgot, Base, Pair, Cleared}
use Rattle.protocol.specs.declared.records.Reports.{Reports}
use Rattle.protocol.specs.declared.records.Write.{Write}
use Rattle.log_text.specs.declared.form.LogForm.{LogForm}
use Rattle.log_text.specs.declared.form.LogFormat.{LogFormat}
use Rattle.log_text.specs.declared.form.LogFormat.TheVariants.{First, Second}
use Rattle.log_text.specs.Parts.{Front, Name, key_at, name_at, reports_of, tickets_of, value_at, writes_of}
use Rattle.log_text.specs.Payloads.{key_text, name_text, opened_by, owner_text, payload_text, reports_text, tickets_text, value_text, writes_text}
use Rattle.log_text.specs.Reading.{alone_record, bare, below, boot_by, branch_record, coordinator_record, kind_record, listing, manager_record, named, of_branch, of_case, of_name, opened_boot, pair_by, pair_of, read_record, told, writing}
use Rattle.protocol.specs.LogNames.{unnamed}
use Rattle.log_records.proofs.Sizes.{key_long, name_long, tickets_long, value_long, writes_long, reports_long}

module _ (form : LogForm) where
  abbrev size_of : LogRecord → ℕ
  size_of l = length (payload_text form l.parent l.entry)

  listing_long_by : (p : Option ProcessId) (c : Case) (ts : List Ticket) (two three four : Bool)
      → length (payload_text form p (if two then Collecting c ts else if three then Prepare c ts
      else if four then Commit c ts else Abort c ts))
      ≡ length (name_text p (CaseBranch c)) + length (tickets_text ts)
  listing_long_by p c ts true three four = length-append (name_text p (CaseBranch c)) (tickets_text ts)
  listing_long_by p c ts false true four = length-append (name_text p (CaseBranch c)) (tickets_text ts)
  listing_long_by p c ts false false true = length-append (name_text p (CaseBranch c)) (tickets_text ts)
  listing_long_by p c ts false false false = length-append (name_text p (CaseBranch c)) (tickets_text ts)

  listed_long : (kind : ℕ) (p : Option ProcessId) (c : Case) (rest : List ℕ) (o : Option (List Ticket))
      (l : LogRecord) → tickets_of rest ≡ o
      → option_map (λ ts. named p (listing kind c ts)) o ≡ Some l
      → length (name_text p (CaseBranch c)) + length rest ≡ size_of l
  listed_long kind p c rest None l f e = absurd (cc)
  listed_long kind p c rest (Some ts) l f e =
      let is : named p (listing kind c ts) ≡ l = cc in
      omega (
        arith,
        tickets_long rest ts f,
        listing_long_by p c ts (kind == 2) (kind == 3) (kind == 4),
        ap size_of is,
      )

  alone_long : (none : Bool) (p : Option ProcessId) (c : Case) (r : Record) (rest : List ℕ) (l : LogRecord)
      → (length rest == 0) ≡ none → length (name_text p (CaseBranch c)) ≡ size_of (named p r)
      → (if none then Some (named p r) else None) ≡ Some l
      → length (name_text p (CaseBranch c)) + length rest ≡ size_of l
  alone_long false p c r rest l n z e = absurd (cc)
  alone_long true p c r rest l n z e =
      let is : named p r ≡ l = cc in
      let nothing : length rest ≡ 0 = grind (arith, nat_tests) in
      omega (arith, nothing, z, ap size_of is)

  reported_long : (p : Option ProcessId) (c : Case) (rest : List ℕ) (o : Option Reports) (l : LogRecord)
      → reports_of rest ≡ o → option_map (λ r. named p (End c (Some r))) o ≡ Some l
      → length (name_text p (CaseBranch c)) + length rest ≡ size_of l
  reported_long p c rest None l f e = absurd (cc)
  reported_long p c rest (Some r) l f e =
      let is : named p (End c (Some r)) ≡ l = cc in
      omega (
        arith,
        reports_long rest r f,
        length-append (name_text p (CaseBranch c)) (reports_text r),
        ap size_of is,
      )

  case_record_long : (six seven eight mid : Bool) (kind : ℕ) (p : Option ProcessId) (c : Case) (rest : List ℕ)
      (l : LogRecord)
      → (if six then alone_record p (End c None) rest
      else if seven then option_map (λ r. named p (End c (Some r))) (reports_of rest)
      else if eight then alone_record p (Cleared c) rest
      else if mid then option_map (λ ts. named p (listing kind c ts)) (tickets_of rest) else None) ≡ Some l
      → length (name_text p (CaseBranch c)) + length rest ≡ size_of l
  case_record_long true seven eight mid kind p c rest l e =
      alone_long (length rest == 0) p c (End c None) rest l refl refl e
  case_record_long false true eight mid kind p c rest l e = reported_long p c rest (reports_of rest) l refl e
  case_record_long false false true mid kind p c rest l e =
      alone_long (length rest == 0) p c (Cleared c) rest l refl refl e
  case_record_long false false false true kind p c rest l e =
      listed_long kind p c rest (tickets_of rest) l refl e
  case_record_long false false false false kind p c rest l e = absurd (cc)

  of_case_long : (kind : ℕ) (p : Option ProcessId) (b : BranchName) (rest : List ℕ) (l : LogRecord)
      → of_case kind p b rest ≡ Some l
      → length (name_text p b) + length rest ≡ size_of l
  of_case_long kind p (CaseBranch c) rest l e =
      case_record_long (kind == 6) (kind == 7) (kind == 8) (nat_le 2 kind && nat_le kind 5) kind p c rest l e
  of_case_long kind p (Foreign x) rest l e = absurd (cc)

  of_name_long : (kind : ℕ) (payload : List ℕ) (o : Front Name) (l : LogRecord) → name_at payload ≡ o
      → of_name kind o ≡ Some l → length payload ≡ size_of l
  of_name_long kind payload None l f e = absurd (cc)
  of_name_long kind payload (Some n) l f e = omega
      (arith, name_long payload n.0 n.1 f, of_case_long kind n.0.0 n.0.1 n.1 l e)

  coordinator_long : (kind : ℕ) (payload : List ℕ) (l : LogRecord) → coordinator_record kind payload ≡ Some l
      → length payload ≡ size_of l
  unfolding coordinator_record
  coordinator_long kind payload l e = of_name_long kind payload (name_at payload) l refl e

  abbrev bare_by : Bool → Bool → Bool → Bool → Bool → BranchName → Option Record
  bare_by a b c d f x =
      if a then Some (Committed x) else if b then Some (RolledBack x) else if c then Some (HeurCommit x)
      else if d then Some (HeurRollback x) else if f then Some (Forgot x) else None

  bare_long : (a b c d f : Bool) (p : Option ProcessId) (x : BranchName) (r : Record)
      → bare_by a b c d f x ≡ Some r
      → length (payload_text form p r) ≡ length (name_text p x)
  bare_long true b c d f p x r e =
      let is : Committed x ≡ r = cc in ap (λ z. length (payload_text form p z)) (sym is)
  bare_long false true c d f p x r e = let is : RolledBack x ≡ r = cc in
      ap (λ z. length (payload_text form p z)) (sym is)
  bare_long false false true d f p x r e = let is : HeurCommit x ≡ r = cc in
      ap (λ z. length (payload_text form p z)) (sym is)
  bare_long false false false true f p x r e = let is : HeurRollback x ≡ r = cc in
      ap (λ z. length (payload_text form p z)) (sym is)
  bare_long false false false false true p x r e = let is : Forgot x ≡ r = cc in
      ap (λ z. length (payload_text form p z)) (sym is)
  bare_long false false false false false p x r e = absurd (cc)

  told_long_by : (one none : Bool) (p : Option ProcessId) (b : BranchName) (r : Record)
      → (if one then Some (Told b CommittedOutcome) else if none then Some (Told b AbortedOutcome) else None)
      ≡ Some r → length (payload_text form p r) ≡ length (name_text p b) + 1
  told_long_by true none p b r e = let is : Told b CommittedOutcome ≡ r = cc in
      ap (λ z. length (payload_text form p z)) (sym is) ∙ length-append (name_text p b) (1 ∷ [])
  told_long_by false true p b r e = let is : Told b AbortedOutcome ≡ r = cc in
      ap (λ z. length (payload_text form p z)) (sym is) ∙ length-append (name_text p b) (0 ∷ [])
  told_long_by false false p b r e = absurd (cc)

  told_long : (p : Option ProcessId) (b : BranchName) (rest : List ℕ) (r : Record) → told b rest ≡ Some r
      → length (payload_text form p r) ≡ length (name_text p b) + length rest
  told_long p b [] r e = absurd (cc)
  told_long p b (o ∷ []) r e = told_long_by (o == 1) (o == 0) p b r e
  told_long p b (o ∷ q ∷ rest) r e = absurd (cc)

  writing_long_by : (p : Option ProcessId) (b : BranchName) (ws : List Write) (prepared : Bool)
      → length (payload_text form p (if prepared then Prepared b ws else Direct b ws))
      ≡ length (name_text p b) + length (writes_text ws)
  writing_long_by p b ws true = length-append (name_text p b) (writes_text ws)
  writing_long_by p b ws false = length-append (name_text p b) (writes_text ws)

  written_long : (kind : ℕ) (p : Option ProcessId) (b : BranchName) (rest : List ℕ) (o : Option (List Write))
      (r : Record) → writes_of rest ≡ o
      → option_map (writing kind b) o ≡ Some r → length (payload_text form p r)
      ≡ length (name_text p b) + length rest
  written_long kind p b rest None r f e = absurd (cc)
  written_long kind p b rest (Some ws) r f e =
      let is : writing kind b ws ≡ r = cc in
      omega (
        arith,
        writes_long rest ws f,
        writing_long_by p b ws (kind == 17),
        ap (λ z. length (payload_text form p z)) is,
      )

  branch_bare_long : (none : Bool) (kind : ℕ) (p : Option ProcessId) (b : BranchName)
      (rest : List ℕ) (r : Record)
      → (length rest == 0) ≡ none
      → (if none then bare kind b else None) ≡ Some r
      → length (payload_text form p r) ≡ length (name_text p b) + length rest
  branch_bare_long false kind p b rest r n e = absurd (cc)
  branch_bare_long true kind p b rest r n e =
      let nothing : length rest ≡ 0 = grind (arith, nat_tests) in
      omega (
        arith,
        nothing,
        bare_long (kind == 18) (kind == 19) (kind == 21) (kind == 22)
            (kind == 24) p b r e,
      )

  branch_long_by : (writes tells : Bool) (kind : ℕ) (p : Option ProcessId) (b : BranchName) (rest : List ℕ)
      (r : Record)
      → (if writes then option_map (writing kind b) (writes_of rest) else if tells then told b rest
      else if length rest == 0 then bare kind b else None) ≡ Some r
      → length (payload_text form p r) ≡ length (name_text p b) + length rest
  branch_long_by true tells kind p b rest r e = written_long kind p b rest (writes_of rest) r refl e
  branch_long_by false true kind p b rest r e = told_long p b rest r e
  branch_long_by false false kind p b rest r e = branch_bare_long (length rest == 0) kind p b rest r refl e

  named_long : (kind : ℕ) (p : Option ProcessId) (b : BranchName) (rest : List ℕ) (o : Option Record)
      (l : LogRecord) → branch_record kind b rest ≡ o
      → option_map (named p) o ≡ Some l → length (name_text p b) + length rest ≡ size_of l
  named_long kind p b rest None l f e = absurd (cc)
  named_long kind p b rest (Some r) l f e =
      let is : named p r ≡ l = cc in
      omega (
        arith,
        branch_long_by ((kind == 17) || (kind == 20)) (kind == 23) kind p b rest r f,
        ap size_of is,
      )

  of_branch_long : (kind : ℕ) (payload : List ℕ) (o : Front Name) (l : LogRecord) → name_at payload ≡ o
      → of_branch kind o ≡ Some l → length payload ≡ size_of l
  of_branch_long kind payload None l f e = absurd (cc)
  of_branch_long kind payload (Some n) l f e = omega (
    arith,
    name_long payload n.0 n.1 f,
    named_long kind n.0.0 n.0.1 n.1
        (branch_record kind n.0.1 n.1) l refl e,
  )

  pair_end_long : (none : Bool) (k : List ℕ) (v : List ℕ × List ℕ) (l : LogRecord) → (length v.1 == 0) ≡ none
      → (if none then Some (unnamed (Pair k v.0)) else None) ≡ Some l
      → length (key_text k) + (length (value_text v.0) + length v.1) ≡ size_of l
  pair_end_long false k v l n e = absurd (cc)
  pair_end_long true k v l n e =
      let is : unnamed (Pair k v.0) ≡ l = cc in
      let nothing : length v.1 ≡ 0 = grind (arith, nat_tests) in
      omega (arith, nothing, length-append (key_text k) (value_text v.0), ap size_of is)

  pair_value_long : (k bytes : List ℕ) (o : Front (List ℕ)) (l : LogRecord) → value_at bytes ≡ o
      → pair_of k o ≡ Some l → length (key_text k) + length bytes ≡ size_of l
  pair_value_long k bytes None l f e = absurd (cc)
  pair_value_long k bytes (Some v) l f e = omega
      (arith, value_long bytes v.0 v.1 f, pair_end_long (length v.1 == 0) k v l refl e)

  pair_long : (payload : List ℕ) (o : Front (List ℕ)) (l : LogRecord) → key_at payload ≡ o
      → pair_by o ≡ Some l
      → length payload ≡ size_of l
  pair_long payload None l f e = absurd (cc)
  pair_long payload (Some k) l f e = omega (
    arith,
    key_long payload k.0 k.1 f,
    pair_value_long k.0 k.1 (value_at k.1) l refl e,
  )

  abbrev number_by : Bool → List ℕ → Option ℕ
  number_by ok payload = if ok then Some (big_number 8 payload) else None

  below_long : (ok : Bool) (payload : List ℕ) (n : ℕ)
      → ((length payload == 8) && nat_lt (big_number 8 payload) (2 ^ 63)) ≡ ok → number_by ok payload ≡ Some n
      → length payload ≡ 8
  below_long false payload n b e = absurd (cc)
  below_long true payload n b e = let a = (and_parts (length payload == 8)
      (nat_lt (big_number 8 payload) (2 ^ 63)) b).0 in grind (arith, nat_tests)

  numbered_long : (payload : List ℕ) (o : Option ℕ) (make : ℕ → Record) (l : LogRecord) → below payload ≡ o
      → ((n : ℕ) → length (payload_text form None (make n)) ≡ 8)
      → option_map (λ n. unnamed (make n)) o ≡ Some l → length payload ≡ size_of l
  numbered_long payload None make l f m e = absurd (cc)
  numbered_long payload (Some n) make l f m e =
      let is : unnamed (make n) ≡ l = cc in
      omega (
        arith,
        m n,
        below_long ((length payload == 8) && nat_lt (big_number 8 payload) (2 ^ 63)) payload n
            refl f,
        ap size_of is,
      )

  eight_long : (payload : List ℕ) (n : ℕ) → below payload ≡ Some n → length payload ≡ 8
  eight_long payload n e =
      below_long ((length payload == 8) && nat_lt (big_number 8 payload) (2 ^ 63)) payload n refl e

  owned_long : (same : Bool) (payload : List ℕ) (n : ℕ) → bytes_eq (drop 8 payload) (owner_text form) ≡ same
      → (if same then below (take 8 payload) else None) ≡ Some n
      → length payload ≡ 8 + length (owner_text form)
  owned_long false payload n s e = absurd (cc)
  owned_long true payload n s e = omega (
    arith,
    eight_long (take 8 payload) n e,
    ap length (take-append-drop 8 payload),
    length-append (take 8 payload) (drop 8 payload),
    ap length (bytes_same (drop 8 payload) (owner_text form) s),
  )

  boot_long : (f : LogFormat) (payload : List ℕ) (n : ℕ) → boot_by f form payload ≡ Some n
      → length payload ≡ length (opened_by f form n)
  boot_long First payload n e = eight_long payload n e
  boot_long Second payload n e = omega (
    arith,
    owned_long (bytes_eq (drop 8 payload) (owner_text form)) payload n refl e,
    length-append (big_bytes 8 n) (owner_text form),
  )

  opened_long : (payload : List ℕ) (o : Option ℕ) (l : LogRecord) → opened_boot form payload ≡ o
      → option_map (λ n. unnamed (Opened n)) o ≡ Some l → length payload ≡ size_of l
  opened_long payload None l f e = absurd (cc)
  opened_long payload (Some n) l f e =
      let is : unnamed (Opened n) ≡ l = cc in
      omega (arith, boot_long form.format payload n f, ap size_of is)

  manager_long_by : (base pair : Bool) (kind : ℕ) (payload : List ℕ) (l : LogRecord)
      → (if base then option_map (λ n. unnamed (Base n)) (below payload)
      else if pair then pair_by (key_at payload) else of_branch kind (name_at payload)) ≡ Some l
      → length payload ≡ size_of l
  manager_long_by true pair kind payload l e = numbered_long payload (below payload) Base l refl (λ n. refl) e
  manager_long_by false true kind payload l e = pair_long payload (key_at payload) l refl e
  manager_long_by false false kind payload l e = of_branch_long kind payload (name_at payload) l refl e

  manager_long : (kind : ℕ) (payload : List ℕ) (l : LogRecord) → manager_record kind payload ≡ Some l
      → length payload ≡ size_of l
  unfolding manager_record
  manager_long kind payload l e = manager_long_by (kind == 25) (kind == 26) kind payload l e

  record_long_by : (first : Bool) (payload : List ℕ) (o : Option LogRecord) (l : LogRecord)
      → (o ≡ Some l → length payload ≡ size_of l)
      → (if first then option_map (λ n. unnamed (Opened n)) (opened_boot form payload) else o) ≡ Some l
      → length payload ≡ size_of l
  record_long_by true payload o l f e = opened_long payload (opened_boot form payload) l refl e
  record_long_by false payload o l f e = f e

  kind_long : (k : Kind) (kind : ℕ) (payload : List ℕ) (l : LogRecord) → kind_record k kind payload ≡ Some l
      → length payload ≡ size_of l
  kind_long Coordinator kind payload l e = coordinator_long kind payload l e
  kind_long Manager kind payload l e = manager_long kind payload l e

  -- a payload that is read as a record is as long as this record's
  pub read_long : (kind : ℕ) (payload : List ℕ) (l : LogRecord) → read_record form kind payload ≡ Some l
      → length payload ≡ length (payload_text form l.parent l.entry)
  unfolding read_record
  read_long kind payload l e = record_long_by (kind == 1) payload (kind_record form.kind kind payload) l
      (kind_long form.kind kind payload l) e
