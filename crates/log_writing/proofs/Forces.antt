-- A force that fails after a record that was appended.
use Rattle.std.proofs.Common.{◌≡◌, ◌≤◌, ◌+◌, ◌++◌, ◌∷◌, [], ℕ, zero, suc, List, length, take, append_assoc, IfErr, Ok, Err, Result, refl, subst, sym, ap, ◌∙◌}
use Rattle.std.proofs.lemmas.List.{append-nil}
use Rattle.protocol.specs.declared.records.LogRecord.{LogRecord}
use Rattle.log_store.specs.Stores.{MoreFailures}
use Rattle.log_records.specs.Sights.{Appended, Breaks, LogState, records_of, whole_within}

-- nothing is taken of nothing
take_none : (k : ℕ) (ls : List LogRecord) → ls ≡ [] → take k ls ≡ []
take_none zero ls e = refl
take_none (suc k) ls e = ap (take (suc k)) e

pub broken_force : (old mid new : LogState) (l : LogRecord) → Appended old mid l
    → Breaks mid new [] → Breaks old new (l ∷ [])
broken_force old mid new l appended breaks =
    let none : take breaks.appended [] ≡ [] = take_none breaks.appended [] refl in
    let whole : records_of mid.sight.kept ≡ records_of old.sight.kept ++ l ∷ [] =
    (λ i. appended.forced i ++ appended.unforced i)
    ∙ sym (append_assoc old.sight.kept.forced old.sight.kept.unforced (l ∷ [])) in
    record {
      form = breaks.form ∙ appended.form;
      appended = 1;
      stand = breaks.stand ∙ ap (λ rs. records_of mid.sight.kept ++ rs) none
          ∙ append-nil (records_of mid.sight.kept) ∙ whole;
      no_less = subst (λ rs. length rs ≤ length new.sight.kept.forced) appended.forced breaks.no_less;
      more = breaks.more;
      leaves = λ keep.
          let longer_by : mid.sight.kept.unforced ++ take breaks.appended []
          ≡ old.sight.kept.unforced ++ l ∷ [] =
          ap (λ rs. mid.sight.kept.unforced ++ rs) none
          ∙ append-nil mid.sight.kept.unforced ∙ appended.unforced in
          breaks.leaves keep ∙ (λ i. appended.forced i
          ++ whole_within (appended.behind i + (breaks.more + keep)) (longer_by i));
      failed = breaks.failed;
      cause = subst (λ n. MoreFailures n new.sight.failures) appended.failures breaks.cause;
    }

pub if_err : {A E : Type 0} (P Q : E → Type 0) → ((e : E) → P e → Q e)
    → (r : Result A E) → IfErr r P → IfErr r Q
if_err P Q implies (Ok x) is = is
if_err P Q implies (Err e) is = implies e is
