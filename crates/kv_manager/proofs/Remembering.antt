-- What a manager remembers of its log, whatever it did.
use Rattle.std.proofs.Common.{◌≡◌, ◌≤◌, ◌∙◌, ◌+◌, ◌-◌, inl, inr, ℕ, Bool, true, false, if◌then◌else◌, List, [], ◌∷◌, ◌++◌, length, map, take, refl, sym, ap, subst, append_assoc, append-nil, arith}
use Rattle.protocol.specs.declared.records.LogRecord.{LogRecord}
use Rattle.log_text.specs.Payloads.{record_size}
use Rattle.log_writing.specs.Writes.{WritesRecord}
use Rattle.log_records.specs.Sights.{Breaks, IsLogFront, Kept, LogSight, LogState, NotRewritten, LogRestarts, Rewritten, frames_size, left_by, records_of, whole_within}
use Rattle.resource_manager.specs.declared.errors.RestartError.{RestartError}
use Rattle.resource_manager.specs.declared.errors.RestartError.TheVariants as restarts
use Rattle.kv_manager.specs.Restarts.{FailsToRestart}
use Rattle.std.specs.Prelude.{Result, Ok, Err, IfErr, OnOk}
use Rattle.protocol.specs.Nodes.{is_any_forced}
use Rattle.log_records.specs.declared.log.LogError.{LogError}
use Rattle.log_records.specs.declared.log.LogError.TheVariants.{Device, Memory}
use Rattle.kv_state.specs.Remembered.{RemembersData}
use Rattle.kv_manager.specs.Remembered.{IsFrontOf}
use Rattle.kv_manager.specs.declared.remembered.Front.{Front}

-- the header is the front of any log
pub header_front : (log : LogState) (f : Front) → f.size ≡ 5 → RemembersData [] f.remembered → IsFrontOf log f
unfolding frames_size
header_front log f size says = record {
  first = [];
  stands = record { rest = log.sight.kept.forced; split = refl; sized = size };
  says = says;
}

-- a front stays one where more is forced
front_goes_on : (old new : LogState) (f : Front) (more : List LogRecord)
    → new.sight.kept.forced ≡ old.sight.kept.forced ++ more → IsFrontOf old f → IsFrontOf new f
front_goes_on old new f more is front = record {
  first = front.first;
  stands = record {
    rest = front.stands.rest ++ more;
    split = sym (append_assoc front.first front.stands.rest more) ∙ ap (λ ks. ks ++ more) front.stands.split
        ∙ sym is;
    sized = front.stands.sized;
  };
  says = front.says;
}

-- nothing of the log changed
pub front_stays : (old new : LogState) (f : Front) → new.sight ≡ old.sight → IsFrontOf old f → IsFrontOf new f
front_stays old new f is front =
    front_goes_on old new f [] (ap (λ (s : LogSight). s.kept.forced) is
    ∙ sym (append-nil old.sight.kept.forced)) front

-- of two lists with one whole the longer begins with the other
longer : {A : Type 0} (a b xs ys : List A) → a ++ b ≡ xs ++ ys → length a ≤ length xs → (m : List A)
    × (xs ≡ a ++ m)
longer [] b xs ys e h = (xs, refl)
longer (x ∷ a) b [] ys e h = absurd (omega (arith, h))
longer (x ∷ a) b (y ∷ xs) ys e h =
    let tails : a ++ b ≡ xs ++ ys = cc in
    let heads : x ≡ y = cc in
    let rest = longer a b xs ys tails (omega (arith, h)) in (rest.0, λ i. sym heads i ∷ rest.1 i)

-- the device failed under these records
pub front_broken : (old new : LogState) (ls : List LogRecord) (f : Front) → Breaks old new ls
    → IsFrontOf old f
    → IsFrontOf new f
front_broken old new ls f b front =
    let m = longer old.sight.kept.forced (old.sight.kept.unforced ++ take b.appended ls) new.sight.kept.forced
    new.sight.kept.unforced
    (sym (append_assoc old.sight.kept.forced old.sight.kept.unforced (take b.appended ls)) ∙ sym b.stand)
    b.no_less in
    front_goes_on old new f m.0 m.1 front

-- or under the record of a boot, after a crash
pub front_unstarted : (old new : LogState) (keep : ℕ) (l : LogRecord) (f : Front) (e : RestartError)
    → FailsToRestart old new keep l e → IsFrontOf old f → IsFrontOf new f
front_unstarted old new keep l f restarts.Memory is front = front_stays old new f is front
front_unstarted old new keep l f restarts.Device b front =
    let kept : List LogRecord = whole_within (old.sight.behind + keep) old.sight.kept.unforced in
    let m = longer old.sight.kept.forced (kept ++ take b.appended (l ∷ [])) new.sight.kept.forced
    new.sight.kept.unforced
    (sym (append_assoc old.sight.kept.forced kept (take b.appended (l ∷ []))) ∙ sym b.stand) b.no_less in
    front_goes_on old new f m.0 m.1 front
front_unstarted old new keep l f restarts.Exhausted never front = absurd never

-- or as all that stands was put in its own place
front_replaced : (old new : LogState) (f : Front)
    → new.sight.kept ≡ record { forced = records_of old.sight.kept; unforced = [] } → IsFrontOf old f
    → IsFrontOf new f
front_replaced old new f is front =
    front_goes_on old new f old.sight.kept.unforced (ap (λ (k : Kept). k.forced) is) front

pub front_put_again : {T : Type 0} (old new : LogState) (f : Front) (r : Result T LogError)
    → OnOk r (Rewritten old new (records_of old.sight.kept))
    → IfErr r (λ e. NotRewritten old new (records_of old.sight.kept) e) → IsFrontOf old f → IsFrontOf new f
front_put_again old new f (Ok x) put broke front =
    front_goes_on old new f old.sight.kept.unforced put.forced front
front_put_again old new f (Err Memory) put is front = front_stays old new f is front
front_put_again old new f (Err Device) put broke front = elim broke.either [
  | inl stands ↦ front_goes_on old new f []
      (ap (λ (k : Kept). k.forced) stands ∙ sym (append-nil old.sight.kept.forced))
      front
  | inr placed ↦ front_replaced old new f placed front
]

wrote_more : (s : LogSight) (b : Bool) (ls : List LogRecord) → (more : List LogRecord)
    × ((if b then record s { kept = record { forced = records_of s.kept ++ ls; unforced = [] }; behind = 0 }
    else record s { kept = record { forced = s.kept.forced; unforced = s.kept.unforced ++ ls } }).kept.forced
    ≡ s.kept.forced ++ more)
wrote_more s true ls = (s.kept.unforced ++ ls, append_assoc s.kept.forced s.kept.unforced ls)
wrote_more s false ls = ([], sym (append-nil s.kept.forced))

frames_more : (ls : List LogRecord) (l : LogRecord)
    → frames_size (ls ++ l ∷ []) ≡ frames_size ls + record_size l
unfolding frames_size
frames_more [] l = omega arith
frames_more (k ∷ ls) l = let rest = frames_more ls l in omega (arith, rest)

-- how many bytes the front of a log that restarted has, but for the record of its boot
pub restarted_size : (old new : LogState) (keep size : ℕ) (l : LogRecord) → LogRestarts old new keep (l ∷ [])
    → size ≡ 5 + frames_size (records_of new.sight.kept)
    → size ≡ 5 + frames_size (left_by old.sight keep) + record_size l
restarted_size old new keep size l restarted is =
    let all : records_of new.sight.kept ≡ left_by old.sight keep ++ l ∷ [] =
    ap (λ ks. new.sight.kept.forced ++ ks) restarted.unforced ∙ append-nil new.sight.kept.forced
    ∙ restarted.forced in
    let sum : size ≡ 5 + frames_size (left_by old.sight keep ++ l ∷ []) =
    is ∙ ap (λ ks. 5 + frames_size ks) all in
    let more = frames_more (left_by old.sight keep) l in
    omega (arith, sum, more)

-- what was left is the front of a log that restarted
pub restarted_front : (old new : LogState) (keep : ℕ) (l : LogRecord) (f : Front)
    → LogRestarts old new keep (l ∷ [])
    → f.size ≡ 5 + frames_size (left_by old.sight keep) → RemembersData (left_by old.sight keep) f.remembered
    → IsFrontOf new f
restarted_front old new keep l f restarted sized says = record {
  first = left_by old.sight keep;
  stands = record { rest = l ∷ []; split = sym restarted.forced; sized = sized };
  says = says;
}

-- a record was written
pub front_wrote : (old new : LogState) (l : LogRecord) (forced : Bool) (f : Front)
    → WritesRecord old new l forced
    → IsFrontOf old f → IsFrontOf new f
front_wrote old new l forced f writes front =
    let m = wrote_more old.sight (is_any_forced (record { entry = l.entry; is_forced = forced } ∷ []))
    (l ∷ []) in
    front_goes_on old new f m.0 (ap (λ (s : LogSight). s.kept.forced) writes.sight ∙ m.1) front

-- so it does whether the device failed or not
pub front_written : {T : Type 0} (old new : LogState) (l : LogRecord) (forced : Bool) (f : Front)
    (r : Result T LogError) → OnOk r (WritesRecord old new l forced)
    → IfErr r (λ e. (e ≡ Device) × Breaks old new (l ∷ [])) → IsFrontOf old f → IsFrontOf new f
front_written old new l forced f (Ok x) wrote broke front = front_wrote old new l forced f wrote front
front_written old new l forced f (Err e) wrote broke front = front_broken old new (l ∷ []) f broke.1 front
