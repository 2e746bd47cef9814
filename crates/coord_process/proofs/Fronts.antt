-- What a coordinator remembers of its log, whatever it did.
use Rattle.std.proofs.Common.{◌≡◌, ◌≤◌, ◌∙◌, ◌+◌, ℕ, Bool, true, false, if◌then◌else◌, Option, Some, None, List, [], ◌∷◌, ◌++◌, length, map, take, refl, sym, ap, subst, append_assoc, append-nil, arith}
use Rattle.protocol.specs.declared.records.LogRecord.{LogRecord}
use Rattle.protocol.specs.LogNames.{own_records}
use Rattle.protocol.specs.Nodes.{Place, is_any_forced}
use Rattle.log_text.specs.Made.{frame_record}
use Rattle.log_records.specs.Sights.{Breaks, IsLogFront, LogSight, LogState, LogRestarts, frames_size, left_by, records_of}
use Rattle.coord_records.specs.Remembered.{LogMemory, RemembersCases}
use Rattle.coord_effects.specs.declared.effect.RowFrame.{RowFrame}
use Rattle.coord_effects.specs.Rows.{written_of}
use Rattle.coord_cases.specs.Restores.{RebuildsCases, appended_to}
use Rattle.coord_cases.specs.declared.rebuilding.RebuiltCases.{RebuiltCases}
use Rattle.coord_process.specs.declared.coordinator.Front.{Front}
use Rattle.coord_process.specs.Fronts.{IsFrontOf, IsRemembered}
use Rattle.coord_process.specs.States.{CoordinatorValue, place_of}
use Rattle.coord_process.specs.Turned.{WritesDown, framed_of}
use Rattle.coord_process.proofs.Restarted.{rebuilt_as}

-- Fronts of a log.

-- the first records of what is forced, where more is forced after it
front_more : (old new : LogSight) (size : ℕ) (first more : List LogRecord) → IsLogFront old size first
    → new.kept.forced ≡ old.kept.forced ++ more → IsLogFront new size first
front_more old new size first more f e =
    record {
      rest = f.rest ++ more;
      split = sym (append_assoc first f.rest more) ∙ ap (λ ks. ks ++ more) f.split ∙ sym e;
      sized = f.sized;
    }

wrote_front : (s : LogSight) (b : Bool) (ls : List LogRecord) (size : ℕ) (first : List LogRecord)
    → IsLogFront s size first
    → IsLogFront (if b then record s {
      kept = record { forced = records_of s.kept ++ ls; unforced = [] };
      behind = 0;
    }
    else record s { kept = record { forced = s.kept.forced; unforced = s.kept.unforced ++ ls } }) size first
wrote_front s true ls size first f =
    front_more s (record s { kept = record { forced = records_of s.kept ++ ls; unforced = [] }; behind = 0 })
    size first (s.kept.unforced ++ ls) f (append_assoc s.kept.forced s.kept.unforced ls)
wrote_front s false ls size first f = record { rest = f.rest; split = f.split; sized = f.sized }

-- of two lists with one whole the longer begins with the other
longer : {A : Type 0} (a b xs ys : List A) → a ++ b ≡ xs ++ ys → length a ≤ length xs → (m : List A)
    × (xs ≡ a ++ m)
longer [] b xs ys e h = (xs, refl)
longer (x ∷ a) b [] ys e h = absurd (omega (arith, h))
longer (x ∷ a) b (y ∷ xs) ys e h =
    let tails : a ++ b ≡ xs ++ ys = cc in
    let heads : x ≡ y = cc in
    let rest = longer a b xs ys tails (omega (arith, h)) in (rest.0, λ i. sym heads i ∷ rest.1 i)

breaks_front : (old new : LogState) (ls : List LogRecord) (size : ℕ) (first : List LogRecord)
    → Breaks old new ls
    → IsLogFront old.sight size first → IsLogFront new.sight size first
breaks_front old new ls size first b f =
    let m = longer old.sight.kept.forced (old.sight.kept.unforced ++ take b.appended ls) new.sight.kept.forced
    new.sight.kept.unforced
    (sym (append_assoc old.sight.kept.forced old.sight.kept.unforced (take b.appended ls)) ∙ sym b.stand)
    b.no_less in
    front_more old.sight new.sight size first m.0 f m.1

-- What is remembered.

-- what is remembered of a log is remembered of another with its fronts
pub remembered_over : (v w : CoordinatorValue) (o : Option Front) → place_of w ≡ place_of v
    → ((size : ℕ) (first : List LogRecord) → IsLogFront v.log.sight size first
    → IsLogFront w.log.sight size first)
    → IsRemembered v o → IsRemembered w o
remembered_over v w None same fronts r = tt
remembered_over v w (Some f) same fronts r =
    record {
      first = r.first;
      stands = fronts f.size r.first r.stands;
      says = subst (λ (p : Place). RemembersCases (own_records p r.first) f.remembered) (sym same) r.says;
    }

-- a log that is seen as it was
pub remembered_still : (v w : CoordinatorValue) (o : Option Front) → place_of w ≡ place_of v
    → w.log.sight ≡ v.log.sight → IsRemembered v o → IsRemembered w o
remembered_still v w o same log = remembered_over v w o same
    (λ size first f. subst (λ (s : LogSight). IsLogFront s size first) (sym log) f)

-- a row's record was written
pub remembered_written : (v w : CoordinatorValue) (o : Option Front) (made : LogState)
    (written : Option RowFrame)
    → place_of w ≡ place_of v → made.sight ≡ v.log.sight → WritesDown made w.log written
    → IsRemembered v o → IsRemembered w o
remembered_written v w o made written same log writes = remembered_over v w o same
    (λ size first f. subst (λ (s : LogSight). IsLogFront s size first) (sym writes.sight)
    (wrote_front made.sight (is_any_forced (written_of written)) (framed_of written) size first
    (subst (λ (s : LogSight). IsLogFront s size first) (sym log) f)))

-- the device failed under it
pub remembered_broken : (v w : CoordinatorValue) (o : Option Front) (made : LogState) (ls : List LogRecord)
    → place_of w ≡ place_of v → made.sight ≡ v.log.sight → Breaks made w.log ls
    → IsRemembered v o → IsRemembered w o
remembered_broken v w o made ls same log breaks = remembered_over v w o same
    (λ size first f. breaks_front made w.log ls size first breaks
    (subst (λ (s : LogSight). IsLogFront s size first) (sym log) f))

-- what a restart remembers
pub remembered_restarted : (v : CoordinatorValue) (keep : ℕ) (r : RebuiltCases) (log : LogState) (size : ℕ)
    → RebuildsCases (place_of v) (left_by v.log.sight keep) r
    → LogRestarts v.log log keep (map frame_record r.frames.items)
    → size ≡ 5 + frames_size (records_of log.sight.kept)
    → IsFrontOf (rebuilt_as v log r) (record { size = size; remembered = r.remembered })
remembered_restarted v keep r log size rebuilds restarted long =
    let ls : List LogRecord = left_by v.log.sight keep in
    let all : log.sight.kept.forced ≡ ls ++ appended_to (place_of v) ls =
    restarted.forced ∙ ap (λ ks. ls ++ ks) rebuilds.frames in
    record {
      first = ls ++ appended_to (place_of v) ls;
      stands = record {
        rest = [];
        split = append-nil (ls ++ appended_to (place_of v) ls) ∙ sym all;
        sized = long ∙ ap (λ ks. 5 + frames_size (log.sight.kept.forced ++ ks)) restarted.unforced
            ∙ ap (λ ks. 5 + frames_size ks) (append-nil log.sight.kept.forced ∙ all);
      };
      says = rebuilds.remembers;
    }

-- It is read on.

-- what is remembered of the front, and of the records after it, is remembered of what a crash leaves
pub read_on : (v : CoordinatorValue) (f : Front) (records left : List LogRecord) (now : LogMemory)
    → IsFrontOf v f
    → ((first : List LogRecord) → IsLogFront v.log.sight f.size first → first ++ records ≡ left)
    → ((front : List LogRecord) → own_records (place_of v) (front ++ records)
    ≡ own_records (place_of v) front ++ own_records (place_of v) records)
    → ((front : List LogRecord) → RemembersCases (own_records (place_of v) front) f.remembered
    → RemembersCases (own_records (place_of v) front ++ own_records (place_of v) records) now)
    → RemembersCases (own_records (place_of v) left) now
read_on v f records left now is after more reads =
    subst (λ ls. RemembersCases (own_records (place_of v) ls) now) (after is.first is.stands)
    (subst (λ rs. RemembersCases rs now) (sym (more is.first)) (reads is.first is.says))
