-- A trim leaves each case and each branch as it stood.
use Rattle.std.proofs.Common.{◌≡◌, ◌∙◌, ◌⊎◌, inl, inr, ◌||◌, Bool, true, false, if◌then◌else◌, Option, Some, None, List, [], ◌∷◌, ◌++◌, append-nil, filter, refl, sym, ap, arith}
use Rattle.std.specs.List.{flat_map}
use Rattle.protocol.specs.declared.names.Case.{Case}
use Rattle.protocol.specs.declared.names.Presumption.{Presumption}
use Rattle.protocol.specs.declared.names.Presumption.TheVariants.{PresumeAbort, PresumeCommit}
use Rattle.protocol.specs.declared.names.ProcessId.{ProcessId}
use Rattle.protocol.specs.declared.names.Ticket.{Ticket}
use Rattle.protocol_words.specs.Variants.{CaseBranch}
use Rattle.protocol.specs.declared.records.Record.{Record}
use Rattle.protocol.specs.declared.records.Record.TheVariants.{Abort, Collecting, Commit, Opened, Prepare, Prepared}
use Rattle.protocol.specs.declared.standings.Standing.{Standing}
use Rattle.protocol_words.specs.standing
use Rattle.protocol.specs.Memory.{Asked, Idle, Memory, Open, Over, Phase, fresh_memory, memory_of}
use Rattle.protocol.specs.Nodes.{AtLeaf, AtRoot, Below, Node, Place, Role, kept, IsCoordinator}
use Rattle.protocol.specs.Records.{boot_of, has, is_abort, is_collecting, is_commit, is_end, is_prepare, named_by, named_in, none_of, owing_by, owing_in, prepares_branch, promised_by, promised_in, record_case, is_reported}
use Rattle.protocol.specs.Restarts.{case_stays, data_records, is_known, is_open, recorded_view, stays, staying, trimmed, trims}
use Rattle.protocol.specs.Standings.{CoordinatorView, Decided, Finished, ManagerView, Mark, Promised, ToldOf, Unmarked, coordinator_standing, coordinator_view, known_view, manager_view, mark_after, mark_of, marked_branch, phase_standing, standing_by, unknown_view, view_at}
use Rattle.protocol.specs.Views.{IsOpenAlike}
use Rattle.proof_processes.specs.WorldHolds.{is_of, is_record_of}
use Rattle.proof_processes.proofs.Boots.{trims_memory}
use Rattle.proof_processes.proofs.Cases.{viewed}
use Rattle.proof_processes.proofs.Orders.{mark_is, other_leaves}
use Rattle.proof_processes.proofs.Tests.{case_is, first_false, second_false}
use Rattle.proof_processes.proofs.TrimmedBranches.{trim_forgets}
use Rattle.proof_runs.proofs.TrimmedFolds.{others_leave, trims_alike}

-- What is said of a case by its own records.

-- two lists of records say the same of a case
pub record SaysSame (c : Case) (xs ys : List Record) : Type 0 where
  pub ended : has (is_end c) xs ≡ has (is_end c) ys
  pub committed : has (is_commit c) xs ≡ has (is_commit c) ys
  pub aborted : has (is_abort c) xs ≡ has (is_abort c) ys
  pub prepared : has (is_prepare c) xs ≡ has (is_prepare c) ys
  pub collecting : has (is_collecting c) xs ≡ has (is_collecting c) ys
  pub promised : promised_by c xs ≡ promised_by c ys
  pub named : named_by c xs ≡ named_by c ys
  pub owing : owing_by c xs ≡ owing_by c ys

module _ (c : Case) (m : Memory) where
  abbrev pub view : List Record → CoordinatorView
  view rs = view_at (coordinator_standing rs c m) rs c m

  pub view_same : (xs ys : List Record) → SaysSame c xs ys → view xs ≡ view ys
  view_same xs ys s =
      rw (s.ended, s.committed, s.aborted, s.prepared, s.collecting, s.promised, s.named, s.owing) refl

module _ (c : Case) where
  abbrev of : List Record → List Record
  of rs = filter (is_record_of c) rs

  by_own : (q : Record → Bool) → ((r : Record) → is_record_of c r ≡ false → q r ≡ false) → (rs : List Record)
      → has q rs ≡ has q (of rs)
  unfolding has
  by_own q own [] = refl
  by_own q own (r ∷ rs) = by_test (is_record_of c r) refl (by_own q own rs)
    where
      by_test : (b : Bool) → is_record_of c r ≡ b → has q rs ≡ has q (of rs)
          → (q r || has q rs) ≡ has q (if b then r ∷ of rs else of rs)
      by_test true is e = ap (λ k. q r || k) e
      by_test false is e = ap (λ k. k || has q rs) (own r is) ∙ e

  by_own_list : (f : Record → List Ticket) → ((r : Record) → is_record_of c r ≡ false → f r ≡ [])
      → (rs : List Record) → flat_map f rs ≡ flat_map f (of rs)
  by_own_list f own [] = refl
  by_own_list f own (r ∷ rs) = by_test (is_record_of c r) refl (by_own_list f own rs)
    where
      by_test : (b : Bool) → is_record_of c r ≡ b → flat_map f rs ≡ flat_map f (of rs)
          → f r ++ flat_map f rs ≡ flat_map f (if b then r ∷ of rs else of rs)
      by_test true is e = ap (λ k. f r ++ k) e
      by_test false is e = ap (λ k. k ++ flat_map f rs) (own r is) ∙ e

  no_end : (r : Record) → is_record_of c r ≡ false → is_end c r ≡ false
  no_end r e = grind arith

  no_commit : (r : Record) → is_record_of c r ≡ false → is_commit c r ≡ false
  no_commit r e = grind arith

  no_abort : (r : Record) → is_record_of c r ≡ false → is_abort c r ≡ false
  no_abort r e = grind arith

  no_prepare : (r : Record) → is_record_of c r ≡ false → is_prepare c r ≡ false
  no_prepare r e = grind arith

  no_collecting : (r : Record) → is_record_of c r ≡ false → is_collecting c r ≡ false
  no_collecting r e = grind arith

  none_named : (r : Record) → is_record_of c r ≡ false → named_in c r ≡ []
  none_named (Collecting d ts) e = ap (λ b. if b then ts else []) e
  none_named (Prepare d ts) e = ap (λ b. if b then ts else []) e
  none_named (Commit d ts) e = ap (λ b. if b then ts else []) e
  none_named (Abort d ts) e = ap (λ b. if b then ts else []) e
  none_named r e = refl

  none_promised : (r : Record) → is_record_of c r ≡ false → promised_in c r ≡ []
  none_promised (Prepare d ts) e = ap (λ b. if b then ts else []) e
  none_promised r e = refl

  none_owing : (r : Record) → is_record_of c r ≡ false → owing_in c r ≡ []
  none_owing (Commit d ts) e = ap (λ b. if b then ts else []) e
  none_owing (Abort d ts) e = ap (λ b. if b then ts else []) e
  none_owing r e = refl

  -- lists with the same records of the case say the same of it
  same_says : (xs ys : List Record) → of xs ≡ of ys → SaysSame c xs ys
  unfolding promised_by named_by owing_by
  same_says xs ys same =
      record {
        ended = test (is_end c) no_end;
        committed = test (is_commit c) no_commit;
        aborted = test (is_abort c) no_abort;
        prepared = test (is_prepare c) no_prepare;
        collecting = test (is_collecting c) no_collecting;
        promised = listed (promised_in c) none_promised;
        named = listed (named_in c) none_named;
        owing = listed (owing_in c) none_owing;
      }
    where
      test : (q : Record → Bool) → ((r : Record) → is_record_of c r ≡ false
          → q r ≡ false) → has q xs ≡ has q ys
      test q own = by_own q own xs ∙ ap (has q) same ∙ sym (by_own q own ys)

      listed : (f : Record → List Ticket) → ((r : Record) → is_record_of c r ≡ false → f r ≡ [])
          → flat_map f xs ≡ flat_map f ys
      listed f own = by_own_list f own xs ∙ ap (flat_map f) same ∙ sym (by_own_list f own ys)

  -- What a coordinator's trim keeps of the case: all of its records where it stays, else none.

  module _ (role : Role) (coordinates : IsCoordinator role) (whole : List Record) where
    stays_as : (r : Role) → IsCoordinator r → (rs : List Record) (x : Record)
        → stays r whole rs x ≡ case_stays whole (record_case x)
    stays_as AtRoot e rs x = refl
    stays_as (Below p) e rs x = refl
    stays_as (AtLeaf p) e rs x = absurd e

    case_as : (b : Bool) → case_stays whole (Some c) ≡ b
        → (o : Option Case) → is_of c o ≡ true
        → case_stays whole o ≡ b
    case_as b known None e = absurd (cc)
    case_as b known (Some d) e = ap (λ x. case_stays whole (Some x)) (case_is d c e) ∙ known

    left_of : (b : Bool) → case_stays whole (Some c) ≡ b → (rs : List Record)
        → of (staying role whole rs) ≡ (if b then of rs else [])
    left_of true known [] = refl
    left_of false known [] = refl
    left_of b known (r ∷ rs) =
        by_test (is_record_of c r) refl (stays role whole rs r) (stays_as role coordinates rs r)
        (left_of b known rs)
      where
        by_test : (o : Bool) → is_record_of c r ≡ o → (s : Bool) → s ≡ case_stays whole (record_case r)
            → of (staying role whole rs) ≡ (if b then of rs else [])
            → of (if s then r ∷ staying role whole rs else staying role whole rs)
            ≡ (if b then (if o then r ∷ of rs else of rs) else [])
        by_test true is s stays e = stayed b s (stays ∙ case_as b known (record_case r) is) e
          where
            stayed : (b s : Bool) → s ≡ b → of (staying role whole rs) ≡ (if b then of rs else [])
                → of (if s then r ∷ staying role whole rs else staying role whole rs)
                ≡ (if b then r ∷ of rs else [])
            stayed true true i e = ap (λ k. if k then r
                ∷ of (staying role whole rs) else of (staying role whole rs)) is
                ∙ ap (λ k. r ∷ k) e
            stayed false false i e = e
            stayed true false i e = absurd (cc)
            stayed false true i e = absurd (cc)
        by_test false is true stays e =
            ap (λ k. if k then r ∷ of (staying role whole rs) else of (staying role whole rs)) is ∙ e
        by_test false is false stays e = e

    no_data : (r : Role) → IsCoordinator r → data_records r whole ≡ []
    no_data AtRoot e = refl
    no_data (Below p) e = refl
    no_data (AtLeaf p) e = absurd e

    trim_of : (b : Bool) → case_stays whole (Some c) ≡ b
        → of (trimmed role whole) ≡ (if b then of whole else [])
    unfolding trimmed
    trim_of b known =
        ap (λ ds. of (Opened (boot_of whole) ∷ staying role whole whole ++ ds)) (no_data role coordinates)
        ∙ ap of (append-nil (staying role whole whole)) ∙ left_of b known whole

  -- A case that is not known by its records is over, or has none.

  abbrev Silent : List Record → Type 0
  Silent rs = (has (is_end c) rs ≡ false) × (has (is_commit c) rs ≡ false) × (has (is_abort c) rs ≡ false)
      × (has (is_prepare c) rs ≡ false) × (has (is_collecting c) rs ≡ false)

  over_or_silent : (e cm ab pr co none : Bool) (heard : Standing)
      → is_known (standing_by e cm ab pr co none standing.Unknown) ≡ false
      → (standing_by e cm ab pr co none heard ≡ standing.Unknown)
      ⊎ ((e ≡ false) × (cm ≡ false) × (ab ≡ false) × (pr ≡ false) × (co ≡ false))
  over_or_silent true cm ab pr co none heard h = inl refl
  over_or_silent false true ab pr co true heard h = inl refl
  over_or_silent false true ab pr co false heard h = absurd (cc)
  over_or_silent false false true pr co true heard h = inl refl
  over_or_silent false false true pr co false heard h = absurd (cc)
  over_or_silent false false false true co none heard h = absurd (cc)
  over_or_silent false false false false true none heard h = absurd (cc)
  over_or_silent false false false false false none heard h = inr (refl, refl, refl, refl, refl)

  silent_list : (f : Record → List Ticket)
      → ((r : Record) → is_commit c r ≡ false → is_abort c r ≡ false → is_prepare c r ≡ false
      → is_collecting c r ≡ false → f r ≡ [])
      → (rs : List Record) → Silent rs → flat_map f rs ≡ []
  unfolding has
  silent_list f none [] s = refl
  silent_list f none (r ∷ rs) s =
      rw (none r (first_false _ _ s.1) (first_false _ _ s.2) (first_false _ _ s.3) (first_false _ _ s.4))
      (silent_list f none rs (
        second_false _ _ s.0,
        second_false _ _ s.1,
        second_false _ _ s.2,
        second_false _
            _ s.3,
        second_false _ _ s.4,
      ))

  silent_named : (r : Record) → is_commit c r ≡ false → is_abort c r ≡ false → is_prepare c r ≡ false
      → is_collecting c r ≡ false → named_in c r ≡ []
  silent_named (Collecting d ts) cm ab pr co = ap (λ b. if b then ts else []) co
  silent_named (Prepare d ts) cm ab pr co = ap (λ b. if b then ts else []) pr
  silent_named (Commit d ts) cm ab pr co = ap (λ b. if b then ts else []) cm
  silent_named (Abort d ts) cm ab pr co = ap (λ b. if b then ts else []) ab
  silent_named r cm ab pr co = refl

  silent_promised : (r : Record) → is_commit c r ≡ false → is_abort c r ≡ false → is_prepare c r ≡ false
      → is_collecting c r ≡ false → promised_in c r ≡ []
  silent_promised (Prepare d ts) cm ab pr co = ap (λ b. if b then ts else []) pr
  silent_promised r cm ab pr co = refl

  silent_owing : (r : Record) → is_commit c r ≡ false → is_abort c r ≡ false → is_prepare c r ≡ false
      → is_collecting c r ≡ false → owing_in c r ≡ []
  silent_owing (Commit d ts) cm ab pr co = ap (λ b. if b then ts else []) cm
  silent_owing (Abort d ts) cm ab pr co = ap (λ b. if b then ts else []) ab
  silent_owing r cm ab pr co = refl

  silent_says : (rs : List Record) → Silent rs → SaysSame c rs []
  unfolding has promised_by named_by owing_by
  silent_says rs s =
      record {
        ended = s.0;
        committed = s.1;
        aborted = s.2;
        prepared = s.3;
        collecting = s.4;
        promised = silent_list (promised_in c) silent_promised rs s;
        named = silent_list (named_in c) silent_named rs s;
        owing = silent_list (owing_in c) silent_owing rs s;
      }

  -- Its view stays.

  idle_unknown : (p : Presumption) → phase_standing p Idle ≡ standing.Unknown
  idle_unknown PresumeAbort = refl
  idle_unknown PresumeCommit = refl

  over_unknown : (p : Presumption) → phase_standing p Over ≡ standing.Unknown
  over_unknown PresumeAbort = refl
  over_unknown PresumeCommit = refl

  standing_is : (s : Standing) (v : CoordinatorView) → v.standing ≡ s → (known_view s v).standing ≡ s
  standing_is standing.Unknown v e = refl
  standing_is standing.Active v e = e
  standing_is standing.Collecting v e = e
  standing_is standing.Prepared v e = e
  standing_is standing.Committing v e = e
  standing_is standing.Aborting v e = e
  standing_is standing.Heuristic v e = e

  recorded_is : (rs : List Record) → (recorded_view rs c).standing ≡ coordinator_standing rs c fresh_memory
  unfolding recorded_view
  recorded_is rs = standing_is (coordinator_standing rs c fresh_memory) _ refl

  unknown_is : (s : Standing) (rs : List Record) (m : Memory) → s ≡ standing.Unknown
      → view_at s rs c m ≡ unknown_view
  unknown_is s rs m e = ap (λ k. view_at k rs c m) e

  module _ (place : Place) (n : Node) (alike : IsOpenAlike place n c) where
    abbrev m : Memory
    m = memory_of place n c

    -- an unknown case is not open
    closed : (ph : Phase) → m.phase ≡ ph → (coordinator_view place n c).standing ≡ standing.Unknown
        → phase_standing c.txn.presumption ph ≡ standing.Unknown
    closed Idle is unknown = idle_unknown c.txn.presumption
    closed Over is unknown = over_unknown c.txn.presumption
    closed Open is unknown =
        absurd (let clash : standing.Unknown ≡ standing.Active = sym unknown ∙ alike.open_is_active is in cc)
    closed Asked is unknown =
        absurd (let clash : standing.Unknown ≡ standing.Collecting = sym unknown
        ∙ alike.asked_is_collecting is in cc)

    bare : view c m [] ≡ view_at (phase_standing c.txn.presumption m.phase) [] c m
    unfolding has
    bare = refl

    forgotten : is_known (recorded_view (kept n) c).standing ≡ false → view c m [] ≡ view c m (kept n)
    forgotten unknown = elim (over_or_silent (has (is_end c) (kept n)) (has (is_commit c) (kept n))
        (has (is_abort c) (kept n)) (has (is_prepare c) (kept n)) (has (is_collecting c) (kept n))
        (none_of (owing_by c (kept n))) (phase_standing c.txn.presumption m.phase) not_known) [
          | inl over ↦
              bare ∙ unknown_is _ [] m (closed m.phase refl (viewed place n c ∙ over))
              ∙ sym (unknown_is _ (kept n) m over)
          | inr silent ↦ sym (view_same c m (kept n) [] (silent_says (kept n) silent))
        ]
      where
        not_known : is_known (standing_by (has (is_end c) (kept n)) (has (is_commit c) (kept n))
            (has (is_abort c) (kept n)) (has (is_prepare c) (kept n)) (has (is_collecting c) (kept n))
            (none_of (owing_by c (kept n))) standing.Unknown) ≡ false
        not_known =
            ap (λ s. is_known (standing_by (has (is_end c) (kept n)) (has (is_commit c) (kept n))
            (has (is_abort c) (kept n)) (has (is_prepare c) (kept n)) (has (is_collecting c) (kept n))
            (none_of (owing_by c (kept n))) s)) (sym (idle_unknown c.txn.presumption))
            ∙ ap is_known (sym (recorded_is (kept n))) ∙ unknown

    module _ (coordinates : IsCoordinator place.role) where
      left_view : (b : Bool) → case_stays (kept n) (Some c) ≡ b
          → view c m (trimmed place.role (kept n)) ≡ view c m (kept n)
      left_view true known = view_same c m (trimmed place.role (kept n)) (kept n)
          (same_says (trimmed place.role (kept n)) (kept n)
          (trim_of place.role coordinates (kept n) true known))
      left_view false unknown =
          view_same c m (trimmed place.role (kept n)) []
          (same_says (trimmed place.role (kept n)) [] (trim_of place.role coordinates (kept n) false unknown))
          ∙ forgotten (first_false (is_known (recorded_view (kept n) c).standing)
          (is_reported (kept n) c) unknown)

      pub trimmed_view : coordinator_view place (trims place n) c ≡ coordinator_view place n c
      unfolding coordinator_view
      trimmed_view =
          (λ j. view c (trims_memory place n c j) (append-nil (trimmed place.role (kept n)) j))
          ∙ left_view (case_stays (kept n) (Some c)) refl

-- Branches.

prepared_mark : (d : Case) (r : Record) → prepares_branch (CaseBranch d) r ≡ true → (m : Mark)
    → mark_after (CaseBranch d) m r ≡ Promised
prepared_mark d (Prepared b ws) e m = ap (λ k. if k then Promised else m) e
prepared_mark d r e m = absurd (cc)

module _ (p : ProcessId) (rs : List Record) (d : Case) where
  open_mark : is_open (mark_of (CaseBranch d) rs) ≡ true
      → mark_of (CaseBranch d) (trimmed (AtLeaf p) rs) ≡ mark_of (CaseBranch d) rs
  unfolding trimmed
  open_mark is_there =
      mark_is d (trimmed (AtLeaf p) rs)
      ∙ trims_alike p rs d is_there (mark_after (CaseBranch d)) Promised (prepared_mark d)
      (λ r e m. other_leaves d m r e) Unmarked
      ∙ sym (mark_is d rs)

  over_mark : is_open (mark_of (CaseBranch d) rs) ≡ false
      → mark_of (CaseBranch d) (trimmed (AtLeaf p) rs) ≡ Unmarked
  over_mark over = mark_is d (trimmed (AtLeaf p) rs)
      ∙ others_leave p rs d (mark_after (CaseBranch d)) (λ r e m. other_leaves d m r e) Unmarked
      (trimmed (AtLeaf p) rs) (trim_forgets p d rs over)

module _ (place : Place) (p : ProcessId) (role : place.role ≡ AtLeaf p) (n : Node) (d : Case)
    (open_fits : (memory_of place n d).phase ≡ Open → mark_of (CaseBranch d) (kept n) ≡ Unmarked) where
  abbrev memory : Memory
  memory = memory_of place n d

  abbrev marked : Mark → ManagerView
  marked k = marked_branch memory k

  finished : (ph : Phase) → memory.phase ≡ ph → mark_of (CaseBranch d) (kept n) ≡ Finished
      → marked Unmarked ≡ marked Finished
  finished Open is over =
      absurd (let clash : Finished ≡ Unmarked = sym over ∙ open_fits is in cc)
  finished Idle is over = rw is refl
  finished Asked is over = rw is refl
  finished Over is over = rw is refl

  left_mark : (k : Mark) → mark_of (CaseBranch d) (kept n) ≡ k
      → marked (mark_of (CaseBranch d) (trimmed (AtLeaf p) (kept n))) ≡ marked k
  left_mark Promised is = ap marked (open_mark p (kept n) d (ap is_open is) ∙ is)
  left_mark Decided is = ap marked (open_mark p (kept n) d (ap is_open is) ∙ is)
  left_mark (ToldOf o) is = ap marked (open_mark p (kept n) d (ap is_open is) ∙ is)
  left_mark Unmarked is = ap marked (over_mark p (kept n) d (ap is_open is))
  left_mark Finished is = ap marked (over_mark p (kept n) d (ap is_open is)) ∙ finished memory.phase refl is

  pub trimmed_branch : manager_view place (trims place n) d ≡ manager_view place n d
  unfolding manager_view
  trimmed_branch =
      (λ j. marked_branch (trims_memory place n d j)
      (mark_of (CaseBranch d) ((append-nil (trimmed place.role (kept n))
      ∙ ap (λ r. trimmed r (kept n)) role) j)))
      ∙ left_mark (mark_of (CaseBranch d) (kept n)) refl
