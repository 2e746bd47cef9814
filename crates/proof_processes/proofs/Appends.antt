-- What an appended record, a fault, a restart and a trim leave of a log and its histories.
use Rattle.std.proofs.Common.{◌≡◌, ◌∙◌, inl, inr, ℕ, Bool, true, false, List, [], ◌++◌, take, drop, refl, sym, ap, if◌then◌else◌, append_assoc}
use Rattle.std.specs.Prelude.{reverse}
use Rattle.std.proofs.lemmas.List.{append-nil, take-append-drop}
use Rattle.protocol.specs.declared.records.Record.{Record}
use Rattle.protocol.specs.declared.records.Record.TheVariants.{Opened}
use Rattle.protocol.specs.Records.{has}
use Rattle.protocol.specs.Nodes.{Role, Node, kept}
use Rattle.protocol.specs.Restarts.{data_records, trimmed}
use Rattle.proof_processes.specs.Lasts.{Logs, logs_of, standing, Nested}
use Rattle.proof_processes.proofs.Tests.{in_first, in_second, in_either, in_front, in_reverse}
use Rattle.proof_processes.proofs.Trims.{trim_left}

-- a log that these records were appended to, and forced
abbrev pub forces : Logs → List Record → Logs
forces l new = record {
  forced = standing l ++ new;
  unforced = [];
  failed = l.failed;
  life = reverse new ++ l.life;
  durable =
      new ++ (standing l ++ l.durable);
}

-- or not forced
abbrev pub writes : Logs → List Record → Logs
writes l new = record {
  forced = l.forced;
  unforced = l.unforced ++ new;
  failed = l.failed;
  life = reverse new ++ l.life;
  durable = l.durable;
}

-- or N were, and so much of what stood after the forced front came into it
abbrev pub breaks : Logs → List Record → ℕ → ℕ → Logs
breaks l new a f =
    let left = take a new in
    let behind = l.unforced ++ left in
    record {
      forced = l.forced ++ take f behind;
      unforced = drop f behind;
      failed = true;
      life = reverse
          left ++ l.life;
      durable = take f behind ++ l.durable;
    }

-- a crash leaves N of the records after the forced front
abbrev pub loses : Logs → ℕ → Logs
loses l k = record {
  forced = l.forced;
  unforced = take k l.unforced;
  failed = true;
  life = l.life;
  durable
      = l.durable;
}

pub either_logs : (n : Node) (new : List Record) (b : Bool) (P : Logs → Type 0)
    → (b ≡ true → P (forces (logs_of n) new))
    → (b ≡ false → P (writes (logs_of n) new)) → P (logs_of (if b
    then record n {
      forced = kept n ++ new;
      unforced = [];
      life = reverse new ++ n.life;
      durable = new ++
          (kept n ++ n.durable);
    }
    else record n { unforced = n.unforced ++ new; life = reverse new ++ n.life }))
either_logs n new true P p q = p refl
either_logs n new false P p q = q refl

-- a process whose device has failed, and one that is up again
abbrev pub falls : Logs → Logs
falls l = record l { failed = true }

abbrev pub rises : Logs → Logs
rises l = record l { failed = false }

-- Nested.

pub nested_falls : (l : Logs) → Nested l → Nested (falls l)
nested_falls l h = record {
  kept_was_written = h.kept_was_written;
  old_was_written = h.old_was_written;
  forced_is_old = h.forced_is_old;
}

pub nested_rises : (l : Logs) → Nested l → Nested (rises l)
nested_rises l h = record {
  kept_was_written = h.kept_was_written;
  old_was_written = h.old_was_written;
  forced_is_old = h.forced_is_old;
}

module _ (l : Logs) (h : Nested l) (new : List Record) (q : Record → Bool)
    (none : (k : ℕ) → q (Opened k) ≡ false) where
  new_or_kept : has q (standing l ++ new) ≡ true → has q (reverse new ++ l.life) ≡ true
  new_or_kept e = elim (in_either q (standing l) new e) [
    | inl old ↦ in_second q (reverse new) l.life (h.kept_was_written q none old)
    | inr now ↦ in_first q (reverse new) l.life (in_reverse q new now)
  ]

  new_or_old : has q (new ++ (standing l ++ l.durable)) ≡ true → has q (reverse new ++ l.life) ≡ true
  new_or_old e = elim (in_either q new (standing l ++ l.durable) e) [
    | inl now ↦ in_first q (reverse new) l.life (in_reverse q new now)
    | inr rest ↦ elim (in_either q (standing l) l.durable rest) [
      | inl old ↦ in_second q (reverse new) l.life (h.kept_was_written q none old)
      | inr ever ↦ in_second q (reverse new) l.life (h.old_was_written q none ever)
    ]
  ]

pub nested_forces : (l : Logs) (new : List Record) → Nested l → Nested (forces l new)
nested_forces l new h = record {
  kept_was_written = λ q none e. new_or_kept l h new q none
      (ap (has q) (sym (append-nil (standing l ++ new))) ∙ e);
  old_was_written = λ q none e. new_or_old l h new q none e;
  forced_is_old = λ q e. elim (in_either q (standing l) new e) [
    | inl before ↦ in_second q new (standing l ++ l.durable) (in_first q (standing l) l.durable before)
    | inr now ↦ in_first q new (standing l ++ l.durable) now
  ];
}

pub nested_writes : (l : Logs) (new : List Record) → Nested l → Nested (writes l new)
nested_writes l new h = record {
  kept_was_written = λ q none e. new_or_kept l h new q none
      (ap (has q) (append_assoc l.forced l.unforced new) ∙ e);
  old_was_written = λ q none e. in_second q (reverse new) l.life (h.old_was_written q none e);
  forced_is_old = h.forced_is_old;
}

-- what is after a fault
pub breaks_keeps : (l : Logs) (new : List Record) (a f : ℕ)
    → standing (breaks l new a f) ≡ standing l ++ take a new
breaks_keeps l new a f =
    append_assoc l.forced (take f (l.unforced ++ take a new)) (drop f (l.unforced ++ take a new))
    ∙ (ap (λ x. l.forced ++ x) (take-append-drop f (l.unforced ++ take a new)) ∙ sym
    (append_assoc l.forced l.unforced (take a new)))

pub nested_breaks : (l : Logs) (new : List Record) (a f : ℕ) → Nested l → Nested (breaks l new a f)
nested_breaks l new a f h = record {
  kept_was_written = λ q none e. new_or_kept l h (take a new) q none
      (ap (has q) (sym (breaks_keeps l new a f)) ∙ e);
  old_was_written = λ q none e. elim (in_either q (take f (l.unforced ++ take a new)) l.durable e) [
    | inl front ↦ elim (in_either q l.unforced (take a new) (in_front q f (l.unforced ++ take a new) front)) [
      | inl old ↦ in_second q (reverse (take a new)) l.life
          (h.kept_was_written q none (in_second q l.forced l.unforced old))
      | inr now ↦ in_first q (reverse (take a new)) l.life (in_reverse q (take a new) now)
    ]
    | inr ever ↦ in_second q (reverse (take a new)) l.life (h.old_was_written q none ever)
  ];
  forced_is_old = λ q e. elim (in_either q l.forced (take f (l.unforced ++ take a new)) e) [
    | inl before ↦ in_second q (take f (l.unforced ++ take a new)) l.durable (h.forced_is_old q before)
    | inr now ↦ in_first q (take f (l.unforced ++ take a new)) l.durable now
  ];
}

lost_stood : (q : Record → Bool) (l : Logs) (k : ℕ) → has q (standing (loses l k)) ≡ true
    → has q (standing l) ≡ true
lost_stood q l k e = elim (in_either q l.forced (take k l.unforced) e) [
  | inl front ↦ in_first q l.forced l.unforced front
  | inr rest ↦ in_second q l.forced l.unforced (in_front q k l.unforced rest)
]

pub nested_loses : (l : Logs) (k : ℕ) → Nested l → Nested (loses l k)
nested_loses l k h = record {
  kept_was_written = λ q none e. h.kept_was_written q none (lost_stood q l k e);
  old_was_written = h.old_was_written;
  forced_is_old = h.forced_is_old;
}

-- a log that a trim replaced
abbrev pub replaces : Role → Logs → Logs
replaces role l = record {
  forced = trimmed role (standing l);
  unforced = [];
  failed = l.failed;
  life = reverse (data_records role (standing l)) ++ l.life;
  durable = trimmed role (standing l) ++ l.durable;
}

pub nested_replaces : (role : Role) (l : Logs) → Nested l → Nested (replaces role l)
nested_replaces role l h = record {
  kept_was_written = λ q none e. was q none (ap (has q) (sym (append-nil (trimmed role (standing l)))) ∙ e);
  old_was_written = λ q none e. elim (in_either q (trimmed role (standing l)) l.durable e) [
    | inl now ↦ was q none now
    | inr ever ↦ in_second q (reverse (data_records role (standing l))) l.life
        (h.old_was_written q none ever)
  ];
  forced_is_old = λ q e. in_first q (trimmed role (standing l)) l.durable e;
}
  where
    was : (q : Record → Bool) → ((k : ℕ) → q (Opened k) ≡ false) → has q (trimmed role (standing l)) ≡ true
        → has q (reverse (data_records role (standing l)) ++ l.life) ≡ true
    was q none e = elim (trim_left q none role (standing l) e) [
      | inl old ↦ in_second q (reverse (data_records role (standing l))) l.life
          (h.kept_was_written q none old)
      | inr new ↦ in_first q (reverse (data_records role (standing l))) l.life
          (in_reverse q (data_records role (standing l)) new)
    ]
