-- A coordinator's rows on readings of the pairs below it: halves and wires as variables.
use Rattle.std.proofs.Common.{◌≡◌, Bool, true, false, not, ◌||◌, ◌&&◌, [], refl, List, arith, if◌then◌else◌, Option, None}
use Rattle.protocol.specs.declared.names.Case.{Case}
use Rattle.protocol.specs.declared.names.Ticket.{Ticket}
use Rattle.protocol_words.specs.Variants.{AbortRecord, CollectingRecord, CommitRecord, EndRecord, PrepareRecord}
use Rattle.protocol.specs.NameLaws.{same_case-refl}
use Rattle.protocol.specs.Records.{in_list, is_commit}
use Rattle.protocol.specs.Memory.{Phase, Open, Asked, Over}
use Rattle.proof_pairs.specs.Reading.{Reading, Active, Collecting, is_live}
use Rattle.proof_pairs.specs.ParentMoves
use Rattle.proof_pairs.specs.RootMoves
use Rattle.proof_pairs.specs.CascadedMoves
use Rattle.proof_pairs.specs.readings.ReadingOf.{reading_from, ParentHalf, ChildHalf, Wire, is_dead}
use Rattle.proof_pairs.proofs.readings.Named.{in_list-none}
use Rattle.proof_steps.proofs.parents.Writes.{wrote, hardens, stands_so}
use Rattle.protocol.specs.declared.records.Reports.{Reports}

and-false : (a : Bool) → (a && false) ≡ false
and-false a = grind arith

or-false : (a : Bool) → (a || false) ≡ a
or-false a = grind arith

or-true : (a : Bool) → (a || true) ≡ true
or-true a = grind arith

or_twice : (a b : Bool) → (a || (a || b)) ≡ (a || b)
or_twice a b = grind arith

dead-live : (a b d : Bool) → is_dead a true b d ≡ false
unfolding is_dead
dead-live true b d = refl
dead-live false b d = refl

dead-promised : (a b d : Bool) → is_dead true a b d ≡ false
unfolding is_dead
dead-promised a b d = refl

dead-read : (a b : Bool) → is_dead a false b true ≡ false
unfolding is_dead
dead-read true b = refl
dead-read false true = refl
dead-read false false = refl

dead-now : is_dead false false true false ≡ true
unfolding is_dead
dead-now = refl

-- a case that can still be decided has no trace of a decision
pub record Live (root o : Bool) (p : ParentHalf) (v : Wire) : Type 0 where
  pub begun : p.begun ≡ true
  pub live : is_live p.phase ≡ true
  pub given : root ≡ false → v.given ≡ true
  pub no_commit : p.commit_kept ≡ false
  pub undecided : root ≡ true → o ≡ false
  pub no_prepare : p.own_prepare_kept ≡ false
  pub never_promised : p.own_prepare_ever ≡ false
  pub no_read : v.read_up ≡ false

module _ (manager above : Bool) (k : ChildHalf) (c : Case) (t : Ticket) where
  abbrev pub R : Bool → Bool → ParentHalf → Wire → Reading
  R root o p v = reading_from root manager o above p k v

  -- what is remembered after the row
  abbrev S : Phase → ParentHalf → ParentHalf → ParentHalf
  S ph p q = stands_so false ph p.accepted p.acked true q

  abbrev tells : Bool → ParentHalf → ParentHalf
  tells root p = record p { told_aborted = root || p.told_aborted }

  pub reading-asks : (root o : Bool) (p : ParentHalf) (v : Wire) → p.phase ≡ Active → p.begun ≡ true
      → R root o (S Asked p p) (record v { prepare = p.accepted || v.prepare })
      ≡ ParentMoves.asks_for_votes (R root o p v)
  reading-asks true o p v e f = rw (e, f) (simp (dead-live))
  reading-asks false o p v e f = rw e (simp (dead-live))

  pub reading-collects : (root o b : Bool) (ts : List Ticket) (p : ParentHalf) (v : Wire) → p.phase ≡ Active
      → p.begun ≡ true → in_list ts t ≡ p.accepted → p.collects ≡ false
      → R root ((root && (is_commit c (CollectingRecord c ts) || p.commit_kept)) || o)
      (S Asked p (hardens (wrote (CollectingRecord c ts) c t b p)))
      (record v { prepare = p.accepted || v.prepare })
      ≡ ParentMoves.collects_votes (ParentMoves.hardens_parent (R root o p v))
  reading-collects true o b ts p v e f g h = rw (e, f, g, h) (simp (dead-live, same_case-refl, or-false))
  reading-collects false o b ts p v e f g h = rw (e, g, h) (simp (dead-live, same_case-refl, or-false))

  pub reading-gives_up : (root o : Bool) (p : ParentHalf) (v : Wire) → Live root o p v
      → R root o (S Over p (tells root p)) (record v { abort = p.accepted || v.abort })
      ≡ ParentMoves.gives_up (R root o p v)
  reading-gives_up true o p v l =
      let f = l.undecided refl in
      rw (l.begun, l.no_commit, f) (simp (dead-now))
  reading-gives_up false o p v l =
      let f = l.given refl in
      rw (f, l.no_prepare, l.never_promised, l.no_read) (simp (dead-now, or-true))

  -- the root's case ends by nobody
  pub reading-ends : (o : Bool) (p : ParentHalf) (v : Wire) → Live true o p v
      → R true o (S Over p p) v ≡ RootMoves.ends_empty (R true o p v)
  reading-ends o p v l =
      let f = l.undecided refl in
      rw (l.begun, l.no_commit, f) (simp (dead-now))

  pub reading-ends_collected : (o b : Bool) (p : ParentHalf) (v : Wire) → Live true o p v
      → R true o (S Over p (wrote (EndRecord c None) c t b p)) v
      ≡ RootMoves.ends_read_only_collected (R true o p v)
  reading-ends_collected o b p v l =
      let f = l.undecided refl in
      rw (l.begun, l.no_commit, f) (simp (dead-now, same_case-refl))

  -- a cascaded case says READ
  pub reading-reads : (o : Bool) (p : ParentHalf) (v : Wire) → Live false o p v
      → R false o (S Over p p) (record v { read_up = true }) ≡ CascadedMoves.reads_empty (R false o p v)
  reading-reads o p v l = rw (l.live) (simp (dead-live, dead-read))

  pub reading-reads_collected : (o b : Bool) (p : ParentHalf) (v : Wire) → Live false o p v
      → R false o (S Over p (wrote (EndRecord c None) c t b p)) (record v { read_up = true })
      ≡ CascadedMoves.reads_up_collected (R false o p v)
  reading-reads_collected o b p v l = rw (l.live) (simp (dead-live, dead-read, same_case-refl))

  -- the root commits
  pub reading-decides_naming : (o b : Bool) (ys : List Ticket) (p : ParentHalf) (v : Wire) → Live true o p v
      → in_list ys t ≡ (p.accepted && p.first_yes) → p.owed ≡ false
      → R true ((true && (is_commit c (CommitRecord c ys) || p.commit_kept)) || o)
      (S Over p (hardens (wrote (CommitRecord c ys) c t b (record p { told_committed = true }))))
      (record v { commit = (p.accepted && p.first_yes) || v.commit })
      ≡ RootMoves.decides_naming (ParentMoves.hardens_parent (R true o p v))
  reading-decides_naming o b ys p v l g h =
      rw (l.begun, l.live, g, h) (simp (dead-live, dead-promised, same_case-refl, or-false))

  pub reading-decides : (o b : Bool) (p : ParentHalf) (v : Wire) → Live true o p v
      → R true ((true && (is_commit c (CommitRecord c []) || p.commit_kept)) || o)
      (S Over p (hardens (wrote (CommitRecord c []) c t b (record p { told_committed = true }))))
      (record v { commit = (p.accepted && p.first_yes) || v.commit })
      ≡ RootMoves.decides (ParentMoves.hardens_parent (R true o p v))
  reading-decides o b p v l =
      rw (l.begun, l.live) (simp (dead-live, dead-promised, same_case-refl, in_list-none))

  -- a cascaded case promises
  pub reading-promises : (o b : Bool) (ys : List Ticket) (p : ParentHalf) (v : Wire) → Live false o p v
      → in_list ys t ≡ (p.accepted && p.first_yes) → p.names ≡ false
      → R false ((false && (is_commit c (PrepareRecord c ys) || p.commit_kept)) || o)
      (S Over p (hardens (wrote (PrepareRecord c ys) c t b p))) v
      ≡ CascadedMoves.promises (ParentMoves.hardens_parent (R false o p v))
  reading-promises o b ys p v l g h =
      rw (l.live, g, h) (simp (dead-live, dead-promised, same_case-refl, or-false))

  -- an abort while votes are collected: PA
  pub reading-hears_no : (root o b : Bool) (p : ParentHalf) (v : Wire) → Live root o p v
      → R root o (S Over p (wrote (AbortRecord c []) c t b (tells root (record p { first_no = true })))) v
      ≡ ParentMoves.hears_no (R root o p v)
  reading-hears_no true o b p v l =
      let f = l.undecided refl in
      rw (l.begun, l.no_commit, f) (simp (dead-now, same_case-refl, in_list-none))
  reading-hears_no false o b p v l =
      let f = l.given refl in
      rw (f, l.no_prepare, l.never_promised, l.no_read)
      (simp (dead-now, or-true, same_case-refl, in_list-none))

  pub reading-aborts : (root o b : Bool) (p : ParentHalf) (v : Wire) → Live root o p v
      → R root o (S Over p (wrote (AbortRecord c []) c t b (tells root p)))
      (record v { abort = (p.accepted && not p.first_read) || v.abort })
      ≡ ParentMoves.aborts (R root o p v)
  reading-aborts true o b p v l =
      let f = l.undecided refl in
      rw (l.begun, l.no_commit, f) (simp (dead-now, same_case-refl, in_list-none))
  reading-aborts false o b p v l =
      let f = l.given refl in
      rw (f, l.no_prepare, l.never_promised, l.no_read)
      (simp (dead-now, or-true, same_case-refl, in_list-none))

  -- and PC
  pub reading-hears_no_forced : (root o b : Bool) (us : List Ticket) (p : ParentHalf) (v : Wire)
      → Live root o p v
      → in_list us t ≡ false
      → R root ((root && (is_commit c (AbortRecord c us) || p.commit_kept)) || o)
      (S Over p (hardens (wrote (AbortRecord c us) c t b (tells root (record p { first_no = true }))))) v
      ≡ ParentMoves.hears_no_forced (ParentMoves.hardens_parent (R root o p v))
  reading-hears_no_forced true o b us p v l g =
      let f = l.undecided refl in
      rw (l.begun, l.no_commit, f, g) (simp (dead-now, same_case-refl))
  reading-hears_no_forced false o b us p v l g =
      let f = l.given refl in
      rw (f, l.no_prepare, l.never_promised, l.no_read, g) (simp (dead-now, or-true, same_case-refl))

  pub reading-aborts_forced : (root o b : Bool) (us : List Ticket) (p : ParentHalf) (v : Wire)
      → Live root o p v
      → in_list us t ≡ (p.accepted && not p.first_read) → p.owed ≡ false
      → R root ((root && (is_commit c (AbortRecord c us) || p.commit_kept)) || o)
      (S Over p (hardens (wrote (AbortRecord c us) c t b (tells root p))))
      (record v { abort = (p.accepted && not p.first_read) || v.abort })
      ≡ ParentMoves.aborts_forced (ParentMoves.hardens_parent (R root o p v))
  reading-aborts_forced true o b us p v l g h =
      let f = l.undecided refl in
      rw (l.begun, l.no_commit, f, g, h) (simp (dead-now, same_case-refl, or-false))
  reading-aborts_forced false o b us p v l g h =
      let f = l.given refl in
      rw (f, l.no_prepare, l.never_promised, l.no_read, g, h)
      (simp (dead-now, or-true, same_case-refl, or-false))

  -- The outcome finds the promise.

  abbrev B : Bool → ParentHalf → ParentHalf
  B b q = record q { begun = b }

  pub reading-passes_commit_forced : (o b x : Bool) (ys : List Ticket) (p : ParentHalf) (v : Wire)
      → in_list ys t ≡ p.names → p.owed ≡ false
      → R false ((false && (is_commit c (CommitRecord c ys) || p.commit_kept)) || o)
      (B x (hardens (wrote (CommitRecord c ys) c t b p))) (record v { commit = p.names || v.commit })
      ≡ CascadedMoves.passes_commit_forced (ParentMoves.hardens_parent (R false o p v))
  reading-passes_commit_forced o b x ys p v g h = rw (g, h) (simp (same_case-refl, or_twice, or-false))

  pub reading-passes_commit : (o b x : Bool) (p : ParentHalf) (v : Wire)
      → R false o (B x (wrote (CommitRecord c []) c t b p)) (record v { commit = p.names || v.commit })
      ≡ CascadedMoves.passes_commit (R false o p v)
  reading-passes_commit o b x p v = simp (same_case-refl, in_list-none)

  pub reading-passes_abort : (o x : Bool) (p : ParentHalf) (v : Wire)
      → R false o (B x (wrote (AbortRecord c []) c t true p)) (record v { abort = p.names || v.abort })
      ≡ CascadedMoves.passes_abort (R false o p v)
  reading-passes_abort o x p v = simp (same_case-refl, in_list-none)

  pub reading-passes_abort_forced : (o x : Bool) (ys : List Ticket) (p : ParentHalf) (v : Wire)
      → in_list ys t ≡ p.names → p.owed ≡ false
      → R false ((false && (is_commit c (AbortRecord c ys) || p.commit_kept)) || o)
      (B x (hardens (wrote (AbortRecord c ys) c t true p))) (record v { abort = p.names || v.abort })
      ≡ CascadedMoves.passes_abort_forced (ParentMoves.hardens_parent (R false o p v))
  reading-passes_abort_forced o x ys p v g h = rw (g, h) (simp (same_case-refl, or-false))

  -- the last ACK came
  pub reading-ended : (rep : Option Reports) (root o b : Bool) (p : ParentHalf) (v : Wire)
      → R root o (wrote (EndRecord c rep) c t b p) v ≡ ParentMoves.ends (R root o p v)
  reading-ended rep root o b p v = simp (same_case-refl)

  -- JOINED was accepted, of the pair's ticket or of another
  pub reading-accepts : (root o b : Bool) (p : ParentHalf) (v : Wire) → p.phase ≡ Active → p.begun ≡ true
      → R root o (stands_so false Open (p.accepted || b) p.acked true
      (record p { took_part = b || p.took_part })) v
      ≡ (if b then ParentMoves.accepts (R root o p v) else R root o p v)
  reading-accepts true o true p v e f = rw (e, f) (simp (or-true))
  reading-accepts false o true p v e f = rw e (simp (or-true))
  reading-accepts true o false p v e f = rw (e, f) (simp (or-false))
  reading-accepts false o false p v e f = rw e (simp (or-false))

  -- votes are still to come
  pub reading-waits : (root o : Bool) (p : ParentHalf) (v : Wire) → p.phase ≡ Collecting → p.begun ≡ true
      → R root o (S Asked p p) v ≡ R root o p v
  reading-waits true o p v e f = rw (e, f) refl
  reading-waits false o p v e f = rw e refl

  dead-unknown : (a b d : Bool) → is_dead a b false d ≡ false
  unfolding is_dead
  dead-unknown true b d = refl
  dead-unknown false true d = refl
  dead-unknown false false true = refl
  dead-unknown false false false = refl

  -- the root begins the transaction
  pub reading-begins : (o : Bool) (p : ParentHalf) (v : Wire) → p.begun ≡ false
      → R true o (S Open p p) v ≡ RootMoves.begins (R true o p v)
  reading-begins o p v e = rw e (simp (dead-live, dead-unknown))

  -- JOIN makes the case
  pub reading-born : (o : Bool) (p : ParentHalf) (v : Wire) → v.given ≡ false → p.obeyed_abort ≡ false
      → R false o (S Open p p) (record v { given = true }) ≡ CascadedMoves.is_born (R false o p v)
  reading-born o p v e f = rw (e, f) (simp (dead-live, dead-unknown))
