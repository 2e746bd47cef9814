-- Records that are put in place of all that stand.
use Rattle.std.proofs.Common.{◌≡◌, ◌-◌, ◌⊎◌, inl, inr, ℕ, Bool, true, false, List, [], ◌++◌, length, take, drop, refl, sym, ap, subst, ◌∙◌, arith, length-append, Result, OnOk, IfErr}
use Rattle.log_text.specs.declared.form.LogForm.{LogForm}
use Rattle.protocol.specs.declared.records.LogRecord.{LogRecord}
use Rattle.log_store.specs.Stores.{MoreFailures}
use Rattle.log_text.specs.declared.form.LogFormat.TheVariants.{Second}
use Rattle.log_text.specs.Forms.{header}
use Rattle.log_text.specs.Payloads.{records_text}
use Rattle.log_records.specs.Texts.{is_whole, records_in, whole_size}
use Rattle.log_records.specs.Sights.{AreRecords, IsLogText, Kept, LogState, NotRewritten, ReadsAs, RewriteBreaks, Rewritten, body, front, kept_of, log_state, records_of}
use Rattle.log_records.specs.declared.log.LogError.{LogError}
use Rattle.log_records.specs.Trimming.{Holds, Spells}
use Rattle.log_records.proofs.Frames.{header_dropped, header_long, header_taken, more_records, more_whole}
use Rattle.log_records.proofs.Turns.{all_front, drop_all, records_stand}
use Rattle.log_records.proofs.Within.{whole_is_full}
use Rattle.log_records.proofs.Written.{whole_text, written}

-- Texts of logs.

-- the frames of some records and of more
pub held : (p : LogForm) (xs ys : List ℕ) (ls ms : List LogRecord) → Holds p xs ls → Holds p ys ms
    → Holds p (xs ++ ys) (ls ++ ms)
held p xs ys ls ms h k = record {
  whole = more_whole p 0 xs ys h.whole k.whole;
  read = more_records p 0 xs ys h.whole ∙ ap (λ t. t ++ records_in p 0 ys) h.read ∙ ap (λ t. ls ++ t) k.read;
}

pub held_text : (p : LogForm) (ls : List LogRecord) → AreRecords p.kind ls → Holds p (records_text p ls) ls
held_text p ls are = record { whole = whole_text p ls are; read = written p ls are }

-- a copy of the text reads as the records that stand
pub copied : (p : LogForm) (text : List ℕ) (forced failures room : ℕ) (failed : Bool)
    (s : LogState) (copy : List ℕ)
    → log_state p text forced failures room failed ≡ s → IsLogText p text forced failed → copy ≡ text
    → ReadsAs s.sight.form copy (records_of s.sight.kept) s.sight.failed
copied p text forced failures room failed s copy view is e =
    subst (λ z. ReadsAs z.sight.form copy (records_of z.sight.kept) z.sight.failed) view
    (subst (λ t. ReadsAs p t (records_of (kept_of p text forced)) failed) (sym e)
    (record { begins = is.begins; read = sym (records_stand p text forced); whole = is.whole }))

pub spelled : (p : LogForm) (text frames : List ℕ) (ls : List LogRecord) → text ≡ header p.format ++ frames
    → Holds p frames ls → Spells p text ls
spelled p text frames ls e h = record {
  begins = ap (take 5) e ∙ header_taken p.format frames;
  long = omega (arith, ap length e, header_long p.format, length-append (header p.format) frames);
  holds = record {
    whole = ap (λ t. is_whole p 0 (body t)) e ∙ ap (is_whole p 0) (header_dropped p.format frames) ∙ h.whole;
    read = ap (λ t. records_in p 0 (body t)) e ∙ ap (records_in p 0) (header_dropped p.format frames)
        ∙ h.read;
  };
}

pub alone : (p : LogForm) (text : List ℕ) (ls : List LogRecord) → AreRecords p.kind ls
    → text ≡ header p.format ++ records_text p ls → Spells p text ls
alone p text ls are e = spelled p text (records_text p ls) ls e (held_text p ls are)

pub spells_own : (p : LogForm) (text : List ℕ) (ls : List LogRecord) → Spells p text ls
    → Spells p text (records_in p 0 (body text))
spells_own p text ls s = record {
  begins = s.begins;
  long = s.long;
  holds = record { whole = s.holds.whole; read = refl };
}

-- the text that is put in place of what stands here
pub spells_inside : (p : LogForm) (text asked : List ℕ) (forced failures room : ℕ)
    (failed : Bool) (s : LogState)
    → log_state p text forced failures room failed ≡ s
    → Spells s.sight.form asked (records_in s.sight.form 0 (body asked))
    → Spells p asked (records_in s.sight.form 0 (body asked))
spells_inside p text asked forced failures room failed s view h =
    subst (λ k. Spells k asked (records_in s.sight.form 0 (body asked))) (sym (ap (λ z. z.sight.form) view)) h

-- The same records, by another word.

pub rewritten_as : {T : Type 0} (result : Result T LogError) (old new : LogState) (rs ms : List LogRecord)
    → rs ≡ ms
    → OnOk result (Rewritten old new rs) → OnOk result (Rewritten old new ms)
rewritten_as result old new rs ms e h = subst (λ ks. OnOk result (Rewritten old new ks)) e h

pub not_rewritten_as : {T : Type 0} (result : Result T LogError) (old new : LogState) (rs ms : List LogRecord)
    → rs ≡ ms
    → IfErr result (λ e. NotRewritten old new rs e) → IfErr result (λ e. NotRewritten old new ms e)
not_rewritten_as result old new rs ms e h = subst (λ ks. IfErr result (λ f. NotRewritten old new ks f)) e h

-- A log of such a text.

kept_is : (a b c d : List LogRecord) → a ≡ c → b ≡ d
    → ◌≡◌ {A = Kept} (record { forced = a; unforced = b }) (record { forced = c; unforced = d })
kept_is a b c d e f = rw (e, f) refl

kept_alone : (p : LogForm) (text : List ℕ) (rs : List LogRecord) (forced : ℕ) → Spells p text rs
    → forced ≡ length text
    → kept_of p text forced ≡ record { forced = rs; unforced = [] }
kept_alone p text rs forced s f =
    let all : front text forced ≡ body text = all_front text forced f in
    kept_is _ _ _ _ (ap (records_in p 0) all ∙ s.holds.read)
    (ap (λ t. drop (length (records_in p 0 t)) (records_in p 0 (body text))) all
    ∙ drop_all (records_in p 0 (body text)))

same_text : (p : LogForm) (text new : List ℕ) (rs : List LogRecord) → new ≡ text → Spells p text rs
    → Spells p new rs
same_text p text new rs e s = subst (λ t. Spells p t rs) (sym e) s

pub text_alone : (p : LogForm) (text new : List ℕ) (rs : List LogRecord) (forced : ℕ) (failed : Bool)
    → p.format ≡ Second → Spells p text rs → new ≡ text → forced ≡ length text
    → IsLogText p new forced failed
text_alone p text new rs forced failed second s e f =
    let n = same_text p text new rs e s in
    record {
      second = second;
      begins = n.begins;
      header_forced = omega (arith, f, s.long);
      whole = λ _. n.holds.whole;
    }

pub rewritten : (p : LogForm) (text asked new : List ℕ) (forced forced' failures failures' room room' : ℕ)
    (rs : List LogRecord) (failed : Bool) (s : LogState)
    → log_state p text forced failures room failed ≡ s → failed ≡ false → Spells p asked rs → new ≡ asked
    → forced' ≡ length asked → failures' ≡ failures
    → Rewritten s (log_state p new forced' failures' room' failed) rs
rewritten p text asked new forced forced' failures failures' room room' rs failed s view ok spells e f g =
    let n = same_text p asked new rs e spells in
    let all : forced' ≡ length new = f ∙ ap length (sym e) in
    let k = kept_alone p new rs forced' n all in
    subst (λ z. Rewritten z (log_state p new forced' failures' room' failed) rs) view
    (record {
      form = refl;
      forced = ap (λ z. z.forced) k;
      unforced = ap (λ z. z.unforced) k;
      behind = ap (λ t. length t - whole_size p 0 t) (all_front new forced' all)
          ∙ whole_is_full p (body new) n.holds.whole;
      works = ok;
      failures = g;
    })

-- the bytes of a store whose device failed: the old ones, or those that it was to take
abbrev pub Came : List ℕ → ℕ → List ℕ → ℕ → List ℕ → Type 0
Came text forced bytes forced' asked = ((bytes ≡ text) × (forced' ≡ forced))
    ⊎ ((bytes ≡ asked) × (forced' ≡ length asked))

pub came_of : (text old bytes asked : List ℕ) (forced old_forced forced' : ℕ)
    → ((bytes ≡ old) × (forced' ≡ old_forced)) ⊎ ((bytes ≡ asked) × (forced' ≡ length asked))
    → old ≡ text → old_forced ≡ forced → Came text forced bytes forced' asked
came_of text old bytes asked forced old_forced forced' (inl e) o f = inl (e.0 ∙ o, e.1 ∙ f)
came_of text old bytes asked forced old_forced forced' (inr e) o f = inr e

kept_same : (p : LogForm) (text bytes : List ℕ) (forced forced' : ℕ) → bytes ≡ text → forced' ≡ forced
    → kept_of p bytes forced' ≡ kept_of p text forced
kept_same p text bytes forced forced' e f = ap (λ t. kept_of p t forced') e ∙ ap (kept_of p text) f

kept_either : (p : LogForm) (text bytes asked : List ℕ) (forced forced' : ℕ) (rs : List LogRecord)
    → Spells p asked rs → Came text forced bytes forced' asked
    → (kept_of p bytes forced' ≡ kept_of p text forced)
    ⊎ (kept_of p bytes forced' ≡ record { forced = rs; unforced = [] })
kept_either p text bytes asked forced forced' rs s (inl e) =
    inl (kept_same p text bytes forced forced' e.0 e.1)
kept_either p text bytes asked forced forced' rs s (inr e) =
    inr (kept_alone p bytes rs forced' (same_text p asked bytes rs e.0 s) (e.1 ∙ ap length (sym e.0)))

pub rewrite_breaks : (p : LogForm) (text bytes asked : List ℕ)
    (forced forced' failures failures' room room' : ℕ)
    (rs : List LogRecord) (failed : Bool) (s : LogState)
    → log_state p text forced failures room failed ≡ s → Spells p asked rs
    → Came text forced bytes forced' asked → MoreFailures failures failures'
    → RewriteBreaks s (log_state p bytes forced' failures' room' true) rs
rewrite_breaks p text bytes asked forced forced' failures failures' room room' rs failed s view spells came g
    =
    subst (λ z. RewriteBreaks z (log_state p bytes forced' failures' room' true) rs) view
    (record {
      form = refl;
      either = kept_either p text bytes asked forced forced' rs spells came;
      failed = refl;
      cause = g;
    })

-- a log is there, whichever of the two came
pub text_either : (p : LogForm) (text bytes asked : List ℕ) (forced forced' : ℕ) (rs : List LogRecord)
    (failed : Bool) → IsLogText p text forced failed → Spells p asked rs
    → Came text forced bytes forced' asked → IsLogText p bytes forced' true
text_either p text bytes asked forced forced' rs failed is s (inl e) = record {
  second = is.second;
  begins = ap (take 5) e.0 ∙ is.begins;
  header_forced = omega (arith, e.1, is.header_forced);
  whole = λ h. absurd (cc);
}
text_either p text bytes asked forced forced' rs failed is s (inr e) =
    text_alone p asked bytes rs forced' true is.second s e.0 e.1
