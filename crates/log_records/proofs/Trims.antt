-- The frames of the records that stay in a trim.
use Rattle.std.proofs.Common.{◌≡◌, ◌≤◌, ◌+◌, ◌-◌, ℕ, suc, Bool, true, false, if◌then◌else◌, List, [], ◌∷◌, ◌++◌, length, take, Option, Some, None, IfSome, fold, refl, sym, ap, subst, ◌∙◌, arith, append-nil, append_assoc, length-append}
use Rattle.std.proofs.Math.Seq.{take-append_seam}
use Rattle.log_text.specs.declared.form.LogForm.{LogForm}
use Rattle.protocol.specs.declared.records.LogRecord.{LogRecord}
use Rattle.log_text.specs.Frames.{Cut, first_frame}
use Rattle.log_text.specs.Forms.{header}
use Rattle.log_text.specs.Payloads.{records_text}
use Rattle.log_text.specs.Reading.{read_record}
use Rattle.protocol.specs.Records.{is_opened}
use Rattle.log_text.specs.declared.mark.TrimMark.{TrimMark}
use Rattle.log_text.specs.Marks.{mark_of, opens}
use Rattle.log_rules.specs.trim.Tables.{SaidTable, keeps, keeps_by, lives_from, lives_of, noted, picked}
use Rattle.log_rules.specs.trim.Marks.{marked}
use Rattle.log_rules.proofs.trim.Marked.{marked_is, opens_is}
use Rattle.log_rules.specs.trim.Trims.{front_of_trim, last_opened, opened_after}
use Rattle.log_rules.proofs.trim.Picks.{picks_what_stays}
use Rattle.log_records.specs.Texts.{and_records, is_whole, records_by, records_in, whole_by, whole_if}
use Rattle.log_records.specs.Sights.{AreRecords, IsLogText, LogState, NotRewritten, Rewritten, body, log_state, records_of}
use Rattle.log_records.specs.Trimming.{BeginsWith, Holds, StaysTrimmed, IsTrimmed, Spells, StayWhole, LogTrimmed, own_data, data_by, opened_count, trim_of}
use Rattle.log_records.specs.declared.log.LogError.{LogError}
use Rattle.log_records.proofs.Known.{log_is_long}
use Rattle.log_records.proofs.Turns.{records_stand}
use Rattle.log_records.proofs.Frames.{no_records, nothing_whole, step, step_whole}
use Rattle.log_records.proofs.Openings.{frame_at}
use Rattle.log_records.proofs.Rewriting.{held, held_text, spelled}

-- The first frame of bytes that are whole records.

-- a record is read there, and what is after it is whole
record IsNext (o : Option LogRecord) (more : Bool) : Type 0 where
  pub first : LogRecord
  pub is : o ≡ Some first
  pub rest : more ≡ true

is_next : (o : Option LogRecord) (more : Bool) → whole_if o more ≡ true → IsNext o more
is_next None more e = absurd (cc)
is_next (Some l) more e = record { first = l; is = refl; rest = e }

-- N bytes in front are the frame
cut_front : (frame back bytes : List ℕ) → bytes ≡ frame ++ back → length bytes - length back ≡ length frame
cut_front frame back bytes e = omega (arith, ap length e, length-append frame back)

pub begins_with : (p : LogForm) (bytes front : List ℕ) (n : ℕ) (c : Cut) (m : TrimMark)
    → is_whole p 0 bytes ≡ true → first_frame p.format bytes ≡ Some c → n ≡ length bytes - length c.2
    → front ≡ take n bytes
    → ((f : LogForm) (l : LogRecord) → read_record f c.0 c.1 ≡ Some l → m ≡ mark_of l)
    → BeginsWith p bytes front m c.2
begins_with p bytes front n c m whole e s g marked =
    let a = frame_at p.format bytes c e in
    let next = is_next (read_record p c.0 c.1) (is_whole p 0 c.2) (sym (step_whole p bytes c e) ∙ whole) in
    let count : n ≡ length a.frame = s ∙ cut_front a.frame c.2 bytes a.split in
    let front_is : front ≡ a.frame = g ∙ (λ i. take (count i) (a.split i)) ∙ take-append_seam a.frame c.2 in
    let alone : first_frame p.format front ≡ Some (c.0, c.1, []) = ap (first_frame p.format) front_is
    ∙ a.alone in
    record {
      first = next.first;
      held = record {
        whole = step_whole p front _ alone ∙ ap (λ o. whole_if o (is_whole p 0 [])) next.is ∙ nothing_whole p;
        read = step p front _ alone ∙ ap (λ o. and_records o (records_in p 0 [])) next.is
            ∙ ap (λ t. next.first ∷ t) (no_records p);
      };
      marked = marked p next.first next.is;
      read = step p bytes c e ∙ ap (λ o. and_records o (records_in p 0 c.2)) next.is;
      whole = next.rest;
      shorter = omega (arith, ap length a.split, length-append a.frame c.2, a.size);
    }

no_bytes : (p : LogForm) → Holds p [] []
no_bytes p = record { whole = nothing_whole p; read = no_records p }

nothing_held : (p : LogForm) (frames : List ℕ) → frames ≡ [] → Holds p frames []
nothing_held p frames e = subst (λ xs. Holds p xs []) (sym e) (no_bytes p)

-- What a trim must know of the records.

-- N records were read: this is the frame of the last Opened of them, and this is what they say of each name
pub record MarksSoFar (p : LogForm) (all : List LogRecord) (i : ℕ) (t : SaidTable)
    (rest opened : List ℕ) : Type 0 where
  pub whole : is_whole p 0 rest ≡ true
  pub last : List LogRecord
  pub held : Holds p opened last
  pub folds : last_opened all ≡ fold opened_after last (records_in p 0 rest)
  pub lives : lives_of all ≡ lives_from i t (records_in p 0 rest)

pub marks_none : (p : LogForm) (t : SaidTable) (bytes opened : List ℕ) → is_whole p 0 bytes ≡ true
    → opened ≡ [] → t ≡ []
    → MarksSoFar p (records_in p 0 bytes) 0 t bytes opened
unfolding last_opened
marks_none p t bytes opened w e f = record {
  whole = w;
  last = [];
  held = nothing_held p opened e;
  folds = refl;
  lives = ap (λ u. lives_from 0 u (records_in p 0 bytes)) (sym f);
}

opened_if : (p : LogForm) (b : Bool) (l : LogRecord) (last : List LogRecord) (frame opened new : List ℕ)
    → Holds p frame (l ∷ []) → Holds p opened last → new ≡ (if b then frame else opened)
    → Holds p new (if b then l ∷ [] else last)
opened_if p true l last frame opened new one before e = subst (λ xs. Holds p xs (l ∷ [])) (sym e) one
opened_if p false l last frame opened new one before e = subst (λ xs. Holds p xs last) (sym e) before

lives_next : (i : ℕ) (t : SaidTable) (l : LogRecord) (later : List LogRecord)
    → lives_from i t (l ∷ later) ≡ lives_from (suc i) (noted i t l) later
unfolding lives_from
lives_next i t l later = refl

pub marks_on : (p : LogForm) (all : List LogRecord) (i next : ℕ) (t u : SaidTable) (m : TrimMark)
    (rest frame after opened new : List ℕ) → MarksSoFar p all i t rest opened
    → BeginsWith p rest frame m after
    → next ≡ suc i → new ≡ (if opens m.deed then frame else opened) → u ≡ marked i t m
    → MarksSoFar p all next u after new
marks_on p all i next t u m rest frame after opened new s b n o f =
    let test : opens m.deed ≡ is_opened b.first.entry =
    ap (λ (k : TrimMark). opens k.deed) b.marked ∙ opens_is b.first.entry in
    record {
      whole = b.whole;
      last = if is_opened b.first.entry then b.first ∷ [] else s.last;
      held = opened_if p (is_opened b.first.entry) b.first s.last frame opened new b.held s.held
          (o ∙ ap (λ (c : Bool). if c then frame else opened) test);
      folds = s.folds ∙ ap (fold opened_after s.last) b.read;
      lives = s.lives ∙ ap (lives_from i t) b.read ∙ lives_next i t b.first (records_in p 0 after)
          ∙ ap (λ v. lives_from (suc i) v (records_in p 0 after))
          (sym (f ∙ ap (marked i t) b.marked ∙ marked_is i t b.first))
          ∙ ap (λ j. lives_from j u (records_in p 0 after)) (sym n);
    }

pub opened_all : (p : LogForm) (all : List LogRecord) (i : ℕ) (t : SaidTable) (rest opened : List ℕ)
    → MarksSoFar p all i t rest opened → records_in p 0 rest ≡ [] → Holds p opened (last_opened all)
opened_all p all i t rest opened s e =
    subst (Holds p opened) (sym (s.folds ∙ ap (fold opened_after s.last) e)) s.held

pub lives_all : (p : LogForm) (all : List LogRecord) (i : ℕ) (t : SaidTable) (rest opened : List ℕ)
    → MarksSoFar p all i t rest opened → records_in p 0 rest ≡ [] → t ≡ lives_of all
unfolding lives_from
lives_all p all i t rest opened s e = sym (s.lives ∙ ap (lives_from i t) e)

-- The frames that are kept.

-- M records were read, and of these N stay, in these frames
pub record KeepsSoFar (p : LogForm) (t : SaidTable) (all : List LogRecord) (i : ℕ) (rest frames : List ℕ)
    (count : ℕ) : Type 0 where
  pub whole : is_whole p 0 rest ≡ true
  pub stay : List LogRecord
  pub held : Holds p frames stay
  pub counted : count ≡ length stay
  pub picks : picked t 0 all ≡ stay ++ picked t i (records_in p 0 rest)

pub keeps_none : (p : LogForm) (t : SaidTable) (bytes frames : List ℕ) → is_whole p 0 bytes ≡ true
    → frames ≡ []
    → KeepsSoFar p t (records_in p 0 bytes) 0 bytes frames 0
keeps_none p t bytes frames w e = record {
  whole = w;
  stay = [];
  held = nothing_held p frames e;
  counted = refl;
  picks = refl;
}

one_held : (p : LogForm) (b : Bool) (frame : List ℕ) (l : LogRecord) → Holds p frame (l ∷ [])
    → Holds p (if b then frame else []) (if b then l ∷ [] else [])
one_held p true frame l h = h
one_held p false frame l h = no_bytes p

one_counted : (b : Bool) (l : LogRecord) → length (if b then l ∷ [] else []) ≡ (if b then 1 else 0)
one_counted true l = refl
one_counted false l = refl

one_picked : (b : Bool) (l : LogRecord) (more : List LogRecord)
    → (if b then l ∷ more else more) ≡ (if b then l ∷ [] else []) ++ more
one_picked true l more = refl
one_picked false l more = refl

picked_next : (t : SaidTable) (i : ℕ) (l : LogRecord) (later : List LogRecord)
    → picked t i (l ∷ later) ≡ (if keeps t i l then l ∷ [] else []) ++ picked t (suc i) later
unfolding picked
picked_next t i l later = one_picked (keeps t i l) l (picked t (suc i) later)

pub one_more : (count place one : ℕ) (b : Bool) → count ≤ place → one ≡ (if b then 1 else 0)
    → count + one ≤ place + 1
one_more count place one true h e = omega (arith, h, e)
one_more count place one false h e = omega (arith, h, e)

pub keeps_on : (p : LogForm) (t : SaidTable) (all : List LogRecord) (i next : ℕ) (m : TrimMark)
    (rest frame after frames new : List ℕ) (count more : ℕ) (b : Bool)
    → KeepsSoFar p t all i rest frames count → BeginsWith p rest frame m after → next ≡ suc i
    → b ≡ keeps_by t i m.name → new ≡ frames ++ (if b then frame else [])
    → more ≡ count + (if b then 1 else 0)
    → KeepsSoFar p t all next after new more
keeps_on p t all i next m rest frame after frames new count more b s w n is f c =
    let test : keeps t i w.first ≡ b = ap (λ (z : TrimMark). keeps_by t i z.name) (sym w.marked) ∙ sym is in
    let one : List LogRecord = if b then w.first ∷ [] else [] in
    record {
      whole = w.whole;
      stay = s.stay ++ one;
      held = subst (λ zs. Holds p zs (s.stay ++ one)) (sym f)
          (held p frames (if b then frame else []) s.stay one s.held (one_held p b frame w.first w.held));
      counted = omega (arith, c, s.counted, length-append s.stay one, one_counted b w.first);
      picks = s.picks ∙ ap (λ ls. s.stay ++ picked t i ls) w.read
          ∙ ap (λ ls. s.stay ++ ls) (picked_next t i w.first (records_in p 0 after)
          ∙ ap (λ d. (if d then w.first ∷ [] else []) ++ picked t (suc i) (records_in p 0 after)) test)
          ∙ sym (append_assoc s.stay one (picked t (suc i) (records_in p 0 after)))
          ∙ ap (λ j. (s.stay ++ one) ++ picked t j (records_in p 0 after)) (sym n);
    }

all_picked : (p : LogForm) (t : SaidTable) (all : List LogRecord) (i : ℕ) (rest frames : List ℕ) (count : ℕ)
    (s : KeepsSoFar p t all i rest frames count) → records_in p 0 rest ≡ [] → s.stay ≡ picked t 0 all
unfolding picked
all_picked p t all i rest frames count s e =
    sym (s.picks ∙ ap (λ ls. s.stay ++ picked t i ls) e ∙ append-nil s.stay)

pub keeps_all : (p : LogForm) (t : SaidTable) (all : List LogRecord) (i : ℕ)
    (rest frames : List ℕ) (count : ℕ)
    → KeepsSoFar p t all i rest frames count → records_in p 0 rest ≡ [] → Holds p frames (picked t 0 all)
keeps_all p t all i rest frames count s e =
    subst (Holds p frames) (all_picked p t all i rest frames count s e) s.held

pub counts_all : (p : LogForm) (t : SaidTable) (all : List LogRecord) (i : ℕ)
    (rest frames : List ℕ) (count : ℕ)
    → KeepsSoFar p t all i rest frames count → records_in p 0 rest ≡ [] → count ≡ length (picked t 0 all)
counts_all p t all i rest frames count s e =
    s.counted ∙ ap length (all_picked p t all i rest frames count s e)

-- The whole text.

front_is : (ls : List LogRecord) → last_opened ls ++ picked (lives_of ls) 0 ls ≡ front_of_trim ls
unfolding front_of_trim
front_is ls = ap (λ ms. last_opened ls ++ ms) (picks_what_stays ls)

-- what stays in front
pub front_held : (p : LogForm) (ls : List LogRecord) (t : SaidTable) (opened frames : List ℕ)
    → Holds p opened (last_opened ls) → t ≡ lives_of ls → Holds p frames (picked t 0 ls)
    → Holds p (opened ++ frames) (front_of_trim ls)
front_held p ls t opened frames o e f =
    subst (Holds p (opened ++ frames)) (front_is ls)
    (held p opened frames _ _ o (subst (λ u. Holds p frames (picked u 0 ls)) e f))

-- how many records the last Opened is

last_few : (last ls : List LogRecord) → length last ≤ 1 → length (fold opened_after last ls) ≤ 1
last_few last [] h = h
last_few last (l ∷ ls) h = last_few (opened_after last l) ls (by_test (is_opened l.entry))
  where
    by_test : (b : Bool) → length (if b then l ∷ [] else last) ≤ 1
    by_test true = omega arith
    by_test false = h

one_at_least : (p : LogForm) (b : ℕ) (bs : List ℕ) → is_whole p 0 (b ∷ bs) ≡ true
    → 1 ≤ length (records_in p 0 (b ∷ bs))
unfolding is_whole records_in
one_at_least p b bs e = by_frame (first_frame p.format (b ∷ bs)) e
  where
    by_record : (o : Option LogRecord) (w : Bool) (ls : List LogRecord) → whole_if o w ≡ true
        → 1 ≤ length (and_records o ls)
    by_record None w ls f = absurd (cc)
    by_record (Some l) w ls f = omega arith

    by_frame : (o : Option Cut) → whole_by p o (λ k. is_whole p k bs) ≡ true
        → 1 ≤ length (records_by p o (λ k. records_in p k bs))
    by_frame None f = absurd (cc)
    by_frame (Some c) f = by_record (read_record p c.0 c.1) _ _ f

pub opened_counted : (p : LogForm) (ls : List LogRecord) (opened : List ℕ) → Holds p opened (last_opened ls)
    → opened_count opened ≡ length (last_opened ls)
unfolding last_opened
opened_counted p ls [] h = ap length (sym (no_records p) ∙ h.read)
opened_counted p ls (b ∷ bs) h =
    omega (arith, last_few [] ls (omega arith), one_at_least p b bs h.whole, ap length h.read)

-- how many records stay, and these after them
pub trim_counted : (p : LogForm) (ls : List LogRecord) (t : SaidTable) (opened : List ℕ) (rs : List LogRecord)
    (first kept more : ℕ) → Holds p opened (last_opened ls) → t ≡ lives_of ls → first ≡ opened_count opened
    → kept ≡ length (picked t 0 ls) → more ≡ length rs → first + kept + more ≡ length (front_of_trim ls ++ rs)
trim_counted p ls t opened rs first kept more o e f k m =
    omega (
      arith,
      f,
      k,
      m,
      opened_counted p ls opened o,
      ap (λ u. length (picked u 0 ls)) e,
      ap length (front_is ls),
      length-append (last_opened ls) (picked (lives_of ls) 0 ls),
      length-append (front_of_trim ls) rs,
    )

-- the text, of the bytes of its front
pub front_text : (p : LogForm) (text front opened frames : List ℕ) (rs : List LogRecord)
    → front ≡ (header p.format ++ opened) ++ frames
    → text ≡ front ++ records_text p rs → text ≡ (header p.format ++ (opened ++ frames)) ++ records_text p rs
front_text p text front opened frames rs e f =
    f ∙ ap (λ z. z ++ records_text p rs) (e ∙ append_assoc (header p.format) opened frames)

pub text_of_trim : (p : LogForm) (text kept : List ℕ) (ls rs : List LogRecord)
    → text ≡ (header p.format ++ kept) ++ records_text p rs → Holds p kept (front_of_trim ls)
    → AreRecords p.kind rs
    → Spells p text (front_of_trim ls ++ rs)
text_of_trim p text kept ls rs e s are =
    spelled p text (kept ++ records_text p rs) (front_of_trim ls ++ rs)
    (e ∙ append_assoc (header p.format) kept (records_text p rs))
    (held p kept (records_text p rs) (front_of_trim ls) rs s (held_text p rs are))

-- A log that was trimmed.

pub kept_is : (p : LogForm) (text bytes : List ℕ) (forced failures room : ℕ) (failed : Bool) (s : LogState)
    → log_state p text forced failures room failed ≡ s → bytes ≡ body text
    → records_in p 0 bytes ≡ records_of s.sight.kept
kept_is p text bytes forced failures room failed s view e =
    ap (records_in p 0) e ∙ sym (records_stand p text forced) ∙ ap (λ z. records_of z.sight.kept) view

pub trim_read : (p : LogForm) (text bytes made asked : List ℕ) (forced failures room : ℕ) (failed : Bool)
    (s : LogState) (rs : List LogRecord)
    → log_state p text forced failures room failed ≡ s → bytes ≡ body text → asked ≡ made
    → Spells p made (front_of_trim (records_in p 0 bytes) ++ rs)
    → records_in p 0 (body asked) ≡ trim_of s rs
trim_read p text bytes made asked forced failures room failed s rs view e a spells =
    ap (λ t. records_in p 0 (body t)) a
    ∙ spells.holds.read
    ∙ ap (λ ls. front_of_trim ls ++ rs) (kept_is p text bytes forced failures room failed s view e)

pub count_stands : (p : LogForm) (text bytes : List ℕ) (count forced failures room : ℕ) (failed : Bool)
    (s : LogState) (rs : List LogRecord) → log_state p text forced failures room failed ≡ s
    → bytes ≡ body text
    → count ≡ length (front_of_trim (records_in p 0 bytes) ++ rs) → count ≡ length (trim_of s rs)
count_stands p text bytes count forced failures room failed s rs view e c =
    c ∙ ap (λ ls. length (front_of_trim ls ++ rs)) (kept_is p text bytes forced failures room failed s view e)

pub trimmed : (seen old new : LogState) (ls rs : List LogRecord) (count : ℕ) → seen ≡ old
    → ls ≡ trim_of old rs
    → Rewritten seen new ls → count ≡ length (trim_of old rs) → LogTrimmed old new rs count
trimmed seen old new ls rs count view e r c = record {
  log = subst (λ s. Rewritten s new (trim_of old rs)) view (subst (λ ms. Rewritten seen new ms) e r);
  counted = c;
}

pub not_trimmed : (seen old new : LogState) (ls rs : List LogRecord) (e : LogError) → seen ≡ old
    → ls ≡ trim_of old rs → NotRewritten seen new ls e → NotRewritten old new (trim_of old rs) e
not_trimmed seen old new ls rs e view is r =
    subst (λ s. NotRewritten s new (trim_of old rs) e) view (subst (λ ms. NotRewritten seen new ms e) is r)

-- A trim that leaves the log as it is.

-- the log is what a trim leaves of it
pub settled : (p : LogForm) (text : List ℕ) (forced failures room count : ℕ) (failed : Bool) (s : LogState)
    → log_state p text forced failures room failed ≡ s → IsTrimmed p text (Some count) → StaysTrimmed s count
settled p text forced failures room count failed s view t =
    let stands = kept_is p text (body text) forced failures room failed s view refl in
    record {
      stays = subst (λ (f : LogForm). front_of_trim (records_of s.sight.kept)
          ++ data_by f.kind (records_of s.sight.kept) ≡ records_of s.sight.kept)
          (ap (λ (z : LogState). z.sight.form) view) (subst (StayWhole p.kind) stands t.0);
      counted = t.1 ∙ ap length stands;
    }

-- so it is, if a count is told
pub settled_if : (p : LogForm) (text : List ℕ) (forced failures room : ℕ) (failed : Bool)
    (s : LogState) (o : Option ℕ)
    → log_state p text forced failures room failed ≡ s → IsTrimmed p text o
    → IfSome o (λ count. StaysTrimmed s count)
settled_if p text forced failures room failed s None view t = tt
settled_if p text forced failures room failed s (Some count) view t =
    settled p text forced failures room count failed s view t

-- the log's own bytes are a log
pub own_text : (p : LogForm) (text bytes : List ℕ) (forced : ℕ) (failed : Bool)
    → IsLogText p text forced failed
    → failed ≡ false → bytes ≡ text → Spells p bytes (records_in p 0 (body bytes))
own_text p text bytes forced failed is works e =
    subst (λ b. Spells p b (records_in p 0 (body b))) (sym e) (record {
      begins = is.begins;
      long = log_is_long p text forced failed is;
      holds = record { whole = is.whole works; read = refl };
    })

-- the log's own bytes were put in its place
pub trimmed_again : (p q : LogForm) (text text' asked : List ℕ) (forced' failures' room' : ℕ)
    (failed' : Bool) (o : Option ℕ) (old new : LogState)
    → log_state q text' forced' failures' room' failed' ≡ new → q ≡ p → asked ≡ text
    → Rewritten old new (records_in p 0 (body asked)) → IsTrimmed p text o → IsTrimmed q text' o
trimmed_again p q text text' asked forced' failures' room' failed' None old new view form e r t = tt
trimmed_again p q text text' asked forced' failures' room' failed' (Some count) old new view form e r t =
    let stands = kept_is q text' (body text') forced' failures' room' failed' new view refl in
    let made : records_of new.sight.kept ≡ records_in p 0 (body asked) =
    (λ i. r.forced i ++ r.unforced i) ∙ append-nil (records_in p 0 (body asked)) in
    let same : records_in p 0 (body text) ≡ records_in q 0 (body text') =
    ap (λ b. records_in p 0 (body b)) (sym e) ∙ sym made ∙ sym stands in (
      subst (λ (f : LogForm). StayWhole f.kind (records_in q 0 (body text'))) (sym form)
          (subst (StayWhole p.kind) same t.0),
      t.1 ∙ ap length same,
    )

-- a trim left the log as it was
pub trim_left : (p : LogForm) (text asked : List ℕ) (forced failures room count : ℕ) (failed : Bool)
    (old : LogState)
    (rs : List LogRecord) → log_state p text forced failures room failed ≡ old → asked ≡ text
    → rs ≡ own_data old.sight → records_in p 0 (body asked) ≡ trim_of old rs → count ≡ length (trim_of old rs)
    → IsTrimmed p text (Some count)
trim_left p text asked forced failures room count failed old rs view e own read c =
    let stands = kept_is p text (body text) forced failures room failed old view refl in
    let now : trim_of old rs ≡ records_in p 0 (body text) = sym read ∙ ap (λ b. records_in p 0 (body b)) e in
    let kept : records_of old.sight.kept ≡ records_in p 0 (body text) = sym stands in
    let whole : front_of_trim (records_of old.sight.kept)
    ++ data_by old.sight.form.kind (records_of old.sight.kept)
    ≡ records_of old.sight.kept =
    ap (λ ls. front_of_trim (records_of old.sight.kept) ++ ls) (sym own) ∙ now ∙ stands in (
      subst (StayWhole p.kind) kept (subst (λ (f : LogForm). StayWhole f.kind (records_of old.sight.kept))
          (sym (ap (λ (z : LogState). z.sight.form) view)) whole),
      c ∙ ap length now,
    )

-- a trim put this text in the log's place: if there is a count, the text is what stood there
pub trim_counts : (p q : LogForm) (text text' one other asked : List ℕ)
    (forced failures room forced' failures' room' count : ℕ)
    (failed failed' : Bool) (o : Option ℕ) (old new : LogState) (rs : List LogRecord)
    → log_state p text forced failures room failed ≡ old
    → log_state q text' forced' failures' room' failed' ≡ new → q ≡ p → asked ≡ one → other ≡ text
    → rs ≡ own_data old.sight → records_in p 0 (body asked) ≡ trim_of old rs → count ≡ length (trim_of old rs)
    → Rewritten old new (records_in p 0 (body asked)) → IfSome o (λ n. (n ≡ count) × (one ≡ other))
    → IsTrimmed q text' o
trim_counts p q text text' one other asked forced failures room forced' failures' room' count failed
    failed' None old new rs
    was is form is_one is_other own read c r h = tt
trim_counts p q text text' one other asked forced failures room forced' failures' room' count failed failed'
    (Some n) old new
    rs was is form is_one is_other own read c r h =
    let same : asked ≡ text = is_one ∙ h.1 ∙ is_other in
    trimmed_again p q text text' asked forced' failures' room' failed' (Some n) old new is form same r
    (trim_left p text asked forced failures room n failed old rs was same own read (h.0 ∙ c))

-- a log that is what a trim leaves of it was put in its own place: so it was trimmed
pub settled_trimmed : (old new : LogState) (count : ℕ) → StaysTrimmed old count
    → Rewritten old new (records_of old.sight.kept) → LogTrimmed old new (own_data old.sight) count
settled_trimmed old new count s r = record {
  log = subst (Rewritten old new) (sym s.stays) r;
  counted = s.counted ∙ ap length (sym s.stays);
}

-- or it was not
pub settled_untrimmed : (old new : LogState) (count : ℕ) (e : LogError) → StaysTrimmed old count
    → NotRewritten old new (records_of old.sight.kept) e
    → NotRewritten old new (trim_of old (own_data old.sight)) e
settled_untrimmed old new count e s r = subst (λ ls. NotRewritten old new ls e) (sym s.stays) r
