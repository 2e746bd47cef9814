-- Which log a failed trim left.
use Rattle.std.proofs.Common.{◌≡◌, ◌∙◌, ◌⊎◌, ◌&&◌, ℕ, Bool, true, false, List, [], ◌∷◌, ◌++◌, length, take, drop, bytes_eq, nat_eq, refl, sym, ap, subst, inl, inr, rules, if◌then◌else◌, take-append-drop}
use Rattle.std.specs.List.{AllByRecursion}
use Rattle.std.proofs.Math.Seq.{drop-append_seam, take-append_seam}
use Rattle.protocol.specs.declared.names.Kind.{Kind}
use Rattle.protocol.specs.declared.records.LogRecord.{LogRecord}
use Rattle.log_text.specs.declared.form.LogForm.{LogForm}
use Rattle.log_text.specs.declared.form.LogFormat.TheVariants.{Second}
use Rattle.log_text.specs.Forms.{header}
use Rattle.log_text.specs.Payloads.{records_text}
use Rattle.log_rules.specs.sound.Sound.{IsSound}
use Rattle.log_rules.specs.sound.Written.{AreBytes}
use Rattle.proof_log_grammar.proofs.Wholes.{whole_is_text}
use Rattle.log_records.specs.Sights.{AreRecords, Kept, ReadsAs, body, records_of}
use Rattle.log_records.specs.Texts.{records_in}
use Rattle.log_records.proofs.SoundRecords.{sound_is_record}
use Rattle.log_records.proofs.Written.{written}
use Rattle.process_state.specs.States.{CoreState, form_of, kind_of_role}
use Rattle.process_state.specs.Restarting.{TrimBreaks, trimmed_log}
use Rattle.tree_state.specs.Steps.{KeepsSoundLog}
use Rattle.tree_state.specs.Faults.{TrimLeaves}
use Rattle.tree_faults.specs.Counts.{count_in, trim_left}
use Rattle.tree_faults.specs.Faults.{log_bytes}

are_records : (k : Kind) (ls : List LogRecord) → AllByRecursion (IsSound k) ls → AreRecords k ls
are_records k [] sound = tt
are_records k (l ∷ ls) sound = (sound_is_record k l sound.0, are_records k ls sound.1)

-- records with a forced front, by their list and how many are forced
kept_by : (j k : Kept) → records_of j ≡ records_of k → length j.forced ≡ length k.forced → j ≡ k
kept_by j k all front = λ i. record { forced = same_front i; unforced = same_back i }
  where
    same_front : j.forced ≡ k.forced
    same_front = sym (take-append_seam j.forced j.unforced) ∙ (λ i. take (front i) (all i))
        ∙ take-append_seam k.forced k.unforced

    same_back : j.unforced ≡ k.unforced
    same_back = sym (drop-append_seam j.forced j.unforced) ∙ (λ i. drop (front i) (all i))
        ∙ drop-append_seam k.forced k.unforced

module _ (old new : CoreState) (text : List ℕ) (bytes : AreBytes (drop 5 text))
    (spells : ReadsAs (form_of old.place) text (records_of old.log.kept) old.log.failed)
    (works : old.log.failed ≡ false)
    (place : new.place ≡ old.place) (sound : KeepsSoundLog new) where
  abbrev f : LogForm
  f = form_of old.place

  -- the bytes were those of the old records
  text_is : text ≡ header Second ++ records_text f (records_of old.log.kept)
  text_is = sym (take-append-drop 5 text)
      ∙ (λ i. spells.begins i ++ whole_is_text f (body text) bytes (spells.whole works) i)
      ∙ ap (λ ls. header Second ++ records_text f ls) spells.read

  now_is : log_bytes new ≡ header Second ++ records_text f (records_of new.log.kept)
  now_is = ap (λ p. header Second ++ records_text (form_of p) (records_of new.log.kept)) place

  -- where the log is as it was, so are its bytes
  stays : new.log.kept ≡ old.log.kept → text ≡ log_bytes new
  stays same = text_is ∙ ap (λ (k : Kept). header Second ++ records_text f (records_of k)) (sym same)
      ∙ sym now_is

  -- and where its bytes are, so are its records
  alike : text ≡ log_bytes new → records_of new.log.kept ≡ records_of old.log.kept
  alike same =
      sym (written f (records_of new.log.kept) (are_records f.kind (records_of new.log.kept)
      (subst (λ p. AllByRecursion (IsSound (kind_of_role p.role)) (records_of new.log.kept)) place sound)))
      ∙ ap (λ (xs : List ℕ). records_in f 0 (drop 5 xs)) (sym now_is ∙ sym same)
      ∙ spells.read

  -- so it is told which log stands
  pub trim_leaves : TrimBreaks old new → TrimLeaves old new
      (trim_left text (log_bytes new) (count_in old) (count_in new))
  trim_leaves breaks = by_tests (bytes_eq text (log_bytes new))
      (nat_eq (length old.log.kept.forced) (length new.log.kept.forced))
      refl refl
    where
      left : Bool → Bool → ℕ
      left b c = if b && c then 0 else 1

      other : (new.log.kept ≡ old.log.kept → ⊥) → TrimLeaves old new 1
      other apart = by_cases breaks.either
        where
          by_cases : (new.log.kept ≡ old.log.kept)
              ⊎ (new.log.kept ≡ record { forced = trimmed_log old; unforced = [] })
              → TrimLeaves old new 1
          by_cases (inl same) = absurd (apart same)
          by_cases (inr trimmed) = (trimmed, apart)

      by_tests : (b c : Bool) → bytes_eq text (log_bytes new) ≡ b
          → nat_eq (length old.log.kept.forced) (length new.log.kept.forced) ≡ c
          → TrimLeaves old new (left b c)
      by_tests true true same front =
          kept_by new.log.kept old.log.kept (alike (search rules)) (search rules)
      by_tests true false same front = other (λ is.
          let forced : length old.log.kept.forced ≡ length new.log.kept.forced =
          ap (λ (k : Kept). length k.forced) (sym is) in
          absurd (search rules))
      by_tests false c same front = other (λ is. let all = stays is in absurd (search rules))
