-- Faults after a record of the pair's case, on readings: halves and wires as variables.
use Rattle.std.proofs.Common.{◌≡◌, Bool, true, false, not, ◌||◌, ◌&&◌, List, [], refl, arith, Option, None}
use Rattle.protocol.specs.declared.names.Case.{Case}
use Rattle.protocol.specs.declared.names.Ticket.{Ticket}
use Rattle.protocol_words.specs.Variants.{AbortRecord, CollectingRecord, CommitRecord, EndRecord, PrepareRecord}
use Rattle.protocol.specs.NameLaws.{same_case-refl}
use Rattle.protocol.specs.Records.{in_list}
use Rattle.proof_pairs.specs.Reading.{Reading, Closed}
use Rattle.proof_pairs.specs.ParentCrash
use Rattle.proof_pairs.specs.readings.ReadingOf.{ParentHalf, ChildHalf, Wire, reading_from, is_dead}
use Rattle.proof_pairs.proofs.readings.Named.{in_list-none}
use Rattle.proof_steps.proofs.parents.Faults.{down}
use Rattle.proof_steps.proofs.parents.Readings.{Live}
use Rattle.proof_steps.proofs.parents.Writes.{wrote}
use Rattle.protocol.specs.declared.records.Reports.{Reports}

or-false : (a : Bool) → (a || false) ≡ a
or-false a = grind arith

or-true : (a : Bool) → (a || true) ≡ true
or-true a = grind arith

dead-live : (a b d : Bool) → is_dead a true b d ≡ false
unfolding is_dead
dead-live true b d = refl
dead-live false b d = refl

dead-promised : (a b d : Bool) → is_dead true a b d ≡ false
unfolding is_dead
dead-promised a b d = refl

dead-now : is_dead false false true false ≡ true
unfolding is_dead
dead-now = refl

module _ (manager above : Bool) (k : ChildHalf) (c : Case) (t : Ticket) where
  abbrev pub X : Bool → Bool → ParentHalf → Wire → Reading
  X root o p v = reading_from root manager o above p k v

  abbrev D : Bool → ParentHalf → ParentHalf → ParentHalf
  D b p q = down p.accepted p.acked b q

  pub fails-collects : (root o b : Bool) (ts : List Ticket) (p : ParentHalf) (v : Wire) → Live root o p v
      → in_list ts t ≡ p.accepted → p.collects ≡ false
      → X root o (D true p (wrote (CollectingRecord c ts) c t b p)) v
      ≡ ParentCrash.fails_to_collect (X root o p v)
  fails-collects true o b ts p v l g h =
      let f = l.undecided refl in
      rw (l.begun, l.no_commit, f, g, h) (simp (dead-now, same_case-refl, or-false))
  fails-collects false o b ts p v l g h =
      let f = l.given refl in
      rw (f, l.no_prepare, l.never_promised, l.no_read, g, h)
      (simp (dead-now, same_case-refl, or-true, or-false))

  pub fails-aborts : (root o b : Bool) (p : ParentHalf) (v : Wire) → Live root o p v
      → X root o (D true p (wrote (AbortRecord c []) c t b p)) v ≡ ParentCrash.fails_to_abort (X root o p v)
  fails-aborts true o b p v l =
      let f = l.undecided refl in
      rw (l.begun, l.no_commit, f) (simp (dead-now, same_case-refl, in_list-none))
  fails-aborts false o b p v l =
      let f = l.given refl in
      rw (f, l.no_prepare, l.never_promised, l.no_read)
      (simp (dead-now, same_case-refl, or-true, in_list-none))

  pub fails-aborts_naming : (root o b : Bool) (us : List Ticket) (p : ParentHalf) (v : Wire) → Live root o p v
      → in_list us t ≡ (p.accepted && not p.first_read) → p.owed ≡ false
      → X root o (D true p (wrote (AbortRecord c us) c t b p)) v
      ≡ ParentCrash.fails_to_abort_naming (X root o p v)
  fails-aborts_naming true o b us p v l g h =
      let f = l.undecided refl in
      rw (l.begun, l.no_commit, f, g, h) (simp (dead-now, same_case-refl, or-false))
  fails-aborts_naming false o b us p v l g h =
      let f = l.given refl in
      rw (f, l.no_prepare, l.never_promised, l.no_read, g, h)
      (simp (dead-now, same_case-refl, or-true, or-false))

  pub fails-hears_no : (root o b : Bool) (us : List Ticket) (p : ParentHalf) (v : Wire) → Live root o p v
      → in_list us t ≡ false
      → X root o (D true p (wrote (AbortRecord c us) c t b (record p { first_no = true }))) v
      ≡ ParentCrash.fails_to_hear_no (X root o p v)
  fails-hears_no true o b us p v l g =
      let f = l.undecided refl in
      rw (l.begun, l.no_commit, f, g) (simp (dead-now, same_case-refl))
  fails-hears_no false o b us p v l g =
      let f = l.given refl in
      rw (f, l.no_prepare, l.never_promised, l.no_read, g) (simp (dead-now, same_case-refl, or-true))

  pub fails-at_no : (root o : Bool) (p : ParentHalf) (v : Wire) → Live root o p v
      → X root o (D true p (record p { first_no = true })) v ≡ ParentCrash.fails_at_no (X root o p v)
  fails-at_no true o p v l =
      let f = l.undecided refl in
      rw (l.begun, l.no_commit, f) (simp (dead-now))
  fails-at_no false o p v l =
      let f = l.given refl in
      rw (f, l.no_prepare, l.never_promised, l.no_read) (simp (dead-now, or-true))

  pub fails-ends_read_only : (root o b : Bool) (p : ParentHalf) (v : Wire) → Live root o p v
      → X root o (D true p (wrote (EndRecord c None) c t b p)) v
      ≡ ParentCrash.fails_to_end_read_only (X root o p v)
  fails-ends_read_only true o b p v l =
      let f = l.undecided refl in
      rw (l.begun, l.no_commit, f) (simp (dead-now, same_case-refl))
  fails-ends_read_only false o b p v l =
      let f = l.given refl in
      rw (f, l.no_prepare, l.never_promised, l.no_read) (simp (dead-now, same_case-refl, or-true))

  pub fails-decides_naming : (o b : Bool) (ys : List Ticket) (p : ParentHalf) (v : Wire) → Live true o p v
      → in_list ys t ≡ (p.accepted && p.first_yes) → p.owed ≡ false
      → X true o (D true p (wrote (CommitRecord c ys) c t b p)) v
      ≡ ParentCrash.fails_to_decide_naming (X true o p v)
  fails-decides_naming o b ys p v l g h =
      rw (l.begun, l.live, g, h) (simp (dead-live, dead-promised, same_case-refl, or-false))

  pub fails-decides : (o b : Bool) (p : ParentHalf) (v : Wire) → Live true o p v
      → X true o (D true p (wrote (CommitRecord c []) c t b p)) v ≡ ParentCrash.fails_to_decide (X true o p v)
  fails-decides o b p v l = rw (l.begun, l.live)
      (simp (dead-live, dead-promised, same_case-refl, in_list-none))

  pub fails-promises : (o b : Bool) (ys : List Ticket) (p : ParentHalf) (v : Wire) → Live false o p v
      → in_list ys t ≡ (p.accepted && p.first_yes) → p.names ≡ false
      → X false o (D true p (wrote (PrepareRecord c ys) c t b p)) v
      ≡ ParentCrash.fails_to_promise_up (X false o p v)
  fails-promises o b ys p v l g h =
      rw (l.live, g, h) (simp (dead-live, dead-promised, same_case-refl, or-false))

  pub fails-passes_commit_naming : (o b x : Bool) (ys : List Ticket) (p : ParentHalf) (v : Wire) → p.phase
      ≡ Closed
      → in_list ys t ≡ p.names → p.owed ≡ false
      → X false o (D x p (wrote (CommitRecord c ys) c t b p)) v
      ≡ ParentCrash.fails_to_pass_commit_naming (X false o p v)
  fails-passes_commit_naming o b x ys p v e g h = rw (e, g, h) (simp (same_case-refl, or-false))

  pub fails-passes_commit : (o b x : Bool) (p : ParentHalf) (v : Wire) → p.phase ≡ Closed
      → X false o (D x p (wrote (CommitRecord c []) c t b p)) v
      ≡ ParentCrash.fails_to_pass_commit (X false o p v)
  fails-passes_commit o b x p v e = rw e (simp (same_case-refl, in_list-none))

  pub fails-passes_abort : (o x : Bool) (p : ParentHalf) (v : Wire) → p.phase ≡ Closed
      → X false o (D x p (wrote (AbortRecord c []) c t true p)) v
      ≡ ParentCrash.fails_to_pass_abort (X false o p v)
  fails-passes_abort o x p v e = rw e (simp (same_case-refl, in_list-none))

  pub fails-passes_abort_naming : (o x : Bool) (ys : List Ticket) (p : ParentHalf) (v : Wire) → p.phase
      ≡ Closed
      → in_list ys t ≡ p.names → p.owed ≡ false
      → X false o (D x p (wrote (AbortRecord c ys) c t true p)) v
      ≡ ParentCrash.fails_to_pass_abort_naming (X false o p v)
  fails-passes_abort_naming o x ys p v e g h = rw (e, g, h) (simp (same_case-refl, or-false))

  pub fails-ends : (rep : Option Reports) (root o b : Bool) (p : ParentHalf) (v : Wire) → p.phase ≡ Closed
      → X root o (D p.begun p (wrote (EndRecord c rep) c t b p)) v ≡ ParentCrash.fails_to_end (X root o p v)
  fails-ends rep root o b p v e = rw e (simp (same_case-refl))
