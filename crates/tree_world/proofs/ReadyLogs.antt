-- What a migration leaves reads as what stood there before.
use Rattle.std.proofs.Common.{◌≡◌, ◌∙◌, ◌+◌, ℕ, suc, zero, Bool, true, false, if◌then◌else◌, is_some, inl, inr, Option, Some, None, List, [], ◌∷◌, ◌++◌, length, take, drop, refl, sym, ap, subst, nat_lt, append-nil, take-append-drop}
use Rattle.protocol.specs.declared.records.LogRecord.{LogRecord}
use Rattle.protocol.specs.declared.trees.TreeProcess.{TreeProcess}
use Rattle.protocol.specs.Records.{same_bytes}
use Rattle.log_text.specs.declared.form.LogForm.{LogForm}
use Rattle.log_text.specs.Forms.{header, log_form, size_bytes}
use Rattle.log_text.specs.Frames.{Cut, first_frame}
use Rattle.log_text.specs.Reading.{read_record}
use Rattle.log_rules.specs.order.Logs.{LogReading, Whole, Damaged, frame_by, read_as, read_frames, read_log, record_by, seen_by, with_first}
use Rattle.log_rules.specs.order.Orders.{SeenLog, after, nothing_seen}
use Rattle.proof_log_grammar.specs.Grammar.{admitted, and_then}
use Rattle.proof_log_grammar.proofs.Ordered.{ordered_log_is_read}
use Rattle.log_script.proofs.Formats.{read_by_first, read_by_second}
use Rattle.log_records.specs.Migrating.{IsMigrated, Migrates, NotMigrated, read_by}
use Rattle.log_records.specs.Openings.{SettlesText, is_old}
use Rattle.log_records.specs.Texts.{records_in}
use Rattle.log_records.specs.declared.migrating.MigrateError.{MigrateError}
use Rattle.log_records.specs.declared.migrating.MigrateError.TheVariants as migrations
use Rattle.log_records.proofs.Carrying.{behind_header, read_records}
use Rattle.log_records.proofs.Turns.{records_stand}
use Rattle.tree_process.specs.Reopenings.{form_by, kind_by}
use Rattle.tree_world.specs.OwnNames.{damage_in, fault_of, place_or, stranger_of}
use Rattle.tree_world.specs.Readied.{IsReadied, IsReady, NotReadied}
use Rattle.tree_world.specs.Reopenings.{HoldsOn, IsReturned, KeepsLog, error_of_migration, records_read}
use Rattle.tree_world.specs.declared.reopening.TreeReopenError.{TreeReopenError}
use Rattle.tree_world.specs.declared.reopening.TreeReopenError.TheVariants.{Memory, Device, Damaged as DamagedError}

-- What is read may follow one another.

one : (a b : List LogRecord) (n m : ℕ) → Whole a n ≡ Whole b m → a ≡ b
one a b n m e = cc

whole_first : (l : LogRecord) (r : LogReading) (ls : List LogRecord) (torn : ℕ)
    → with_first l r ≡ Whole ls torn
    → (ms : List LogRecord) × (r ≡ Whole ms torn) × (ls ≡ l ∷ ms)
whole_first l (Whole ms n) ls torn e = (ms, cc, cc)
whole_first l (Damaged place) ls torn e = absurd (cc)

-- where the bytes read as records, from whatever place on, these may follow what was seen
abbrev Follow : LogForm → List ℕ → Type 0
Follow p bs = (at : ℕ) (t : SeenLog) (k : ℕ) (ls : List LogRecord) (torn : ℕ)
    → read_frames p at t k bs ≡ Whole ls torn
    → is_some (admitted t ls) ≡ true

follow : (p : LogForm) (place : ℕ) (s : SeenLog) (k : ℕ) (bytes : List ℕ) (ls : List LogRecord) (torn : ℕ)
    → read_frames p place s k bytes ≡ Whole ls torn → is_some (admitted s ls) ≡ true
unfolding read_frames admitted
follow p place s k [] ls torn e = subst (λ xs. is_some (admitted s xs) ≡ true) (one [] ls 0 torn e) refl
follow p place s (suc k) (b ∷ bs) ls torn e = follow p place s k bs ls torn e
follow p place s zero (b ∷ bs) ls torn e =
    by_frame (first_frame p.format (b ∷ bs)) (λ at t k xs n h. follow p at t k bs xs n h) e
  where
    by_seen : (c : Cut) (l : LogRecord) (o : Option SeenLog) → after s l ≡ o → Follow p bs
        → seen_by place l o (λ t. read_frames p (place + suc (size_bytes p.format) + length c.1) t
        (size_bytes p.format + length c.1) bs)
        ≡ Whole ls torn → is_some (admitted s ls) ≡ true
    by_seen c l None is more h = absurd (cc)
    by_seen c l (Some t) is more h =
        let w = whole_first l (read_frames p (place + suc (size_bytes p.format) + length c.1) t
        (size_bytes p.format + length c.1) bs)
        ls torn h in
        subst (λ xs. is_some (admitted s xs) ≡ true) (sym w.2)
        (ap (λ o. is_some (and_then o (λ u. admitted u w.0))) is
        ∙ more (place + suc (size_bytes p.format) + length c.1) t
        (size_bytes p.format + length c.1) w.0 torn w.1)

    by_record : (c : Cut) (o : Option LogRecord) → Follow p bs
        → record_by place s o (λ t. read_frames p (place + suc (size_bytes p.format) + length c.1) t
        (size_bytes p.format + length c.1) bs)
        ≡ Whole ls torn → is_some (admitted s ls) ≡ true
    by_record c None more h = absurd (cc)
    by_record c (Some l) more h = by_seen c l (after s l) refl more h

    by_frame : (o : Option Cut) → Follow p bs
        → frame_by p place s (suc (length bs)) o (λ at t k. read_frames p at t k bs) ≡ Whole ls torn
        → is_some (admitted s ls) ≡ true
    by_frame None more h = subst (λ xs. is_some (admitted s xs) ≡ true)
        (one [] ls (suc (length bs)) torn h) refl
    by_frame (Some c) more h = by_record c (read_record p c.0 c.1) more h

none_follow : is_some (admitted nothing_seen []) ≡ true
unfolding admitted
none_follow = refl

by_size : (few begins is : Bool) (r : LogReading) (ls : List LogRecord) (torn : ℕ)
    → (r ≡ Whole ls torn → is_some (admitted nothing_seen ls) ≡ true)
    → (if few then (if begins then Whole [] 0 else Damaged 0) else if is then r else Damaged 0)
    ≡ Whole ls torn
    → is_some (admitted nothing_seen ls) ≡ true
by_size true true is r ls torn more e = subst (λ xs. is_some (admitted nothing_seen xs) ≡ true)
    (one [] ls 0 torn e) none_follow
by_size true false is r ls torn more e = absurd (cc)
by_size false begins true r ls torn more e = more e
by_size false begins false r ls torn more e = absurd (cc)

-- the records of a log that is sound may follow one another
pub log_follows : (p : LogForm) (bytes : List ℕ) (ls : List LogRecord) (torn : ℕ)
    → read_log p bytes ≡ Whole ls torn
    → is_some (admitted nothing_seen ls) ≡ true
unfolding read_log
log_follows p bytes ls torn e =
    by_size (nat_lt (length bytes) 5) (same_bytes bytes (take (length bytes) (header p.format)))
    (same_bytes (take 5 bytes) (header p.format)) (read_frames p 5 nothing_seen 0 (drop 5 bytes)) ls torn
    (follow p 5 nothing_seen 0 (drop 5 bytes) ls torn) e

-- a text that was settled reads as its records
settled_reads : (p : LogForm) (old text : List ℕ) (forced failures forced' failures' : ℕ)
    → SettlesText p old forced failures text forced' failures'
    → read_log p text ≡ Whole (records_in p 0 (drop 5 text)) 0
settled_reads p old text forced failures forced' failures' h =
    ordered_log_is_read p text h.begins h.whole
    (log_follows p old (records_in p 0 (drop 5 text)) h.torn h.read)

-- a log with its header reads as the records after that
pub read_behind : (p : LogForm) (bytes : List ℕ) (ls : List LogRecord) (torn : ℕ)
    → take 5 bytes ≡ header p.format
    → read_log p bytes ≡ Whole ls torn → records_in p 0 (drop 5 bytes) ≡ ls
read_behind p bytes ls torn begins read =
    read_records p (drop 5 bytes) 5 nothing_seen ls torn
    (sym (ap (read_log p) (sym (take-append-drop 5 bytes) ∙ ap (λ t. t ++ drop 5 bytes) begins)
    ∙ behind_header p (drop 5 bytes)) ∙ read)

-- Faults.

no_second : (a b : Option ℕ) → place_or a b ≡ None → b ≡ None
no_second None b h = h
no_second (Some place) b h = absurd (cc)

pub no_damage : (tree : List TreeProcess) (e : TreeProcess) (bytes : List ℕ) → fault_of tree e bytes ≡ None
    → damage_in (read_as e.id e.kind bytes) ≡ None
no_damage tree e bytes h = no_second (stranger_of tree e bytes) (damage_in (read_as e.id e.kind bytes)) h

-- by whichever format bytes are read, they are read so as the log of their process
read_either : (e : TreeProcess) (bytes : List ℕ) (old : Bool) → is_old bytes ≡ old
    → read_as e.id e.kind bytes ≡ read_log (read_by old (log_form e.id e.kind)) bytes
read_either e bytes true is = read_by_first bytes e.id e.kind is
read_either e bytes false is = read_by_second bytes e.id e.kind is

-- what was seen of the bytes that a store lends is so of its bytes
pub fault_seen : (tree : List TreeProcess) (e : TreeProcess) (bytes lent : List ℕ) (found is : Option ℕ)
    → lent ≡ bytes
    → found ≡ fault_of tree e lent → found ≡ is → fault_of tree e bytes ≡ is
fault_seen tree e bytes lent found is same seen so = ap (fault_of tree e) (sym same) ∙ sym seen ∙ so

-- One process's log is made ready.

module _ {L : Type 0} (bytes : L → List ℕ) (forced failures : L → ℕ) (tree : List TreeProcess)
    (e : TreeProcess)
    (old new : L) where
  pub readied : kind_by e.kind e.parent ≡ e.kind → fault_of tree e (bytes old) ≡ None
      → Migrates bytes forced failures (log_form e.id e.kind) old new
      → IsReadied bytes failures tree e old new
  readied kind sound m = by_old (is_old (bytes old)) refl m
    where
      form : form_by e ≡ log_form e.id e.kind
      form = ap (log_form e.id) kind

      by_old : (b : Bool) → is_old (bytes old) ≡ b
          → IsMigrated b (log_form e.id e.kind) (bytes old) (forced old) (failures old)
          (bytes new) (forced new) (failures new) → IsReadied bytes failures tree e old new
      by_old true is h = record {
        sound = sound;
        begins = ap (take 5) h.0.text;
        reads = ap (λ p. read_log p (bytes new)) form ∙ h.0.again
            ∙ ap (λ r. Whole (records_read r) 0) (sym (read_by_first (bytes old) e.id e.kind is ∙ h.0.read));
        failures_stay = h.2;
      }
      by_old false is h = record {
        sound = sound;
        begins = h.begins;
        reads = ap (λ p. read_log p (bytes new)) form
            ∙ settled_reads (log_form e.id e.kind) (bytes old) (bytes new) (forced old)
            (failures old) (forced new)
            (failures new) h
            ∙ ap (λ r. Whole (records_read r) 0) (sym (read_by_second (bytes old) e.id e.kind is ∙ h.read));
        failures_stay = h.failures_stay;
      }

  no_place : (b : Bool) → is_old (bytes old) ≡ b → (place : ℕ) → fault_of tree e (bytes old) ≡ None
      → read_log (read_by b (log_form e.id e.kind)) (bytes old) ≡ Damaged place → ⊥
  no_place b is place sound read =
      absurd (let never : None ≡ Some place = sym (no_damage tree e (bytes old) sound)
      ∙ ap damage_in (read_either e (bytes old) b is ∙ read) in cc)

  -- why it was not migrated
  pub not_migrated : fault_of tree e (bytes old) ≡ None → (why : MigrateError)
      → NotMigrated bytes forced failures (log_form e.id e.kind) old new why
      → NotReadied bytes failures tree e old (error_of_migration e.id why)
  not_migrated sound migrations.Memory h = tt
  not_migrated sound migrations.Device h = (refl, record { left = new; more = h.breaks.cause })
  not_migrated sound (migrations.Damaged place) h =
      absurd (no_place (is_old (bytes old)) refl place sound h.1)

  pub as_it_was : new ≡ old → KeepsLog bytes forced failures e old new
  as_it_was h = inl (record {
    bytes_stay = ap bytes h;
    forced_stays = ap forced h;
    failures_stay = ap failures h;
  })

  -- what store is handed back then
  pub migration_returned : (why : MigrateError)
      → NotMigrated bytes forced failures (log_form e.id e.kind) old new why
      → IsReturned bytes forced failures e old new (error_of_migration e.id why)
  migration_returned migrations.Memory h = inl h
  migration_returned migrations.Device h = inl (refl, h.breaks.cause)
  migration_returned (migrations.Damaged place) h = as_it_was h.0

  pub returned_by : (why : TreeReopenError) → KeepsLog bytes forced failures e old new
      → IsReturned bytes forced failures e old new why
  returned_by Memory k = k
  returned_by (Device p) k = inr k
  returned_by (DamagedError p place) k = k

  -- a store that is ready has the records that it had
  pub ready_holds : IsReadied bytes failures tree e old new
      → HoldsOn bytes forced e (records_read (read_as e.id e.kind (bytes old))) new
  ready_holds h = record {
    appended = [];
    records = records_stand (form_by e) (bytes new) (forced new)
        ∙ read_behind (form_by e) (bytes new) (records_read (read_as e.id e.kind (bytes old))) 0
        h.begins h.reads
        ∙ sym (append-nil (records_read (read_as e.id e.kind (bytes old))));
  }

  pub ready_after : IsReadied bytes failures tree e old new → IsReady bytes e new
  ready_after h = record {
    begins = h.begins;
    reads = h.reads ∙ ap (λ r. Whole (records_read r) 0) (sym h.reads);
  }
