-- What lasts of a coordinator's cases lasts through each of its steps.
use Rattle.std.proofs.Common.{◌≡◌, ◌∙◌, inl, inr, ◌⊎◌, ℕ, zero, suc, Bool, true, false, Option, Some, None, List, [], ◌∷◌, ◌++◌, take, drop, refl, sym, ap, subst, if◌then◌else◌, append_assoc}
use Rattle.std.specs.Prelude.{reverse, length}
use Rattle.std.proofs.lemmas.List.{append-nil, take-append-drop}
use Rattle.protocol.specs.declared.names.Case.{Case}
use Rattle.protocol.specs.declared.names.ProcessId.{ProcessId}
use Rattle.protocol.specs.declared.names.Ticket.{Ticket}
use Rattle.protocol.specs.declared.names.Presumption.{Presumption}
use Rattle.protocol.specs.declared.names.Presumption.TheVariants.{PresumeAbort, PresumeCommit}
use Rattle.protocol.specs.declared.records.Record.{Record}
use Rattle.protocol.specs.declared.records.Record.TheVariants.{Opened}
use Rattle.protocol.specs.declared.standings.Standing.TheVariants.{Collecting}
use Rattle.protocol.specs.declared.trees.TreeProcess.{TreeProcess}
use Rattle.protocol.specs.Records.{has, in_list, boot_of, is_commit, record_case}
use Rattle.protocol.specs.Nodes.{AtRoot, Place, Effect, Node, kept, opened_node}
use Rattle.protocol.specs.Memory.{Memory, Idle, memory_of, voted_so}
use Rattle.protocol.specs.Standings.{phase_standing}
use Rattle.protocol.specs.Outcomes.{has_accepted}
use Rattle.protocol.specs.Restarts.{reopens, restarted, restart_fails, trims, trim_fails, trimmed, staying, case_stays, data_records}
use Rattle.protocol.specs.World.{Move}
use Rattle.proof_pairs.specs.turns.Steps.{StepOf, heard_in, handled, failed_in, passed, failed_passing, reopened, failed_reopening, trims_log, failed_trimming}
use Rattle.proof_pairs.proofs.turns.Operators.{reopens_none}
use Rattle.proof_pairs.proofs.turns.Steps.{turn_of}
use Rattle.proof_processes.specs.Lasts.{logs_of}
use Rattle.protocol.specs.Audits.{is_naming}
use Rattle.proof_processes.proofs.Appends.{loses, breaks_keeps}
use Rattle.proof_processes.proofs.Boots.{trimmed_boot, trims_memory}
use Rattle.proof_processes.proofs.CaseSteps.{heard_so}
use Rattle.proof_processes.proofs.CoordinatorAccepts.{in_nobody}
use Rattle.proof_processes.proofs.CoordinatorKept.{Coordinated, IsLive, memory_same, memory_empty}
use Rattle.proof_processes.proofs.CoordinatorSteps.{Premises, handled_so, failed_so}
use Rattle.proof_processes.proofs.Naming.{reopens_name}
use Rattle.proof_processes.proofs.Phases.{standing_at, Together, over_together}
use Rattle.proof_processes.proofs.Remembering.{role_below, coordinator_place}
use Rattle.proof_processes.proofs.RootHistories.{took}
use Rattle.proof_processes.proofs.RootLogs.{reopened_collects_not, trim_together}
use Rattle.proof_processes.proofs.RowNeeds.{is_needless}
use Rattle.proof_processes.proofs.Tests.{in_none, in_first, in_second, in_either, in_front, front_none, has-reverse, has-nil, not_both}
use Rattle.proof_processes.proofs.Trims.{trim_left}

-- Restarts and trims are the same at each coordinator.

pub reopens_same : (parent : Option ProcessId) (rs : List Record) → reopens (role_below parent) rs
    ≡ reopens AtRoot rs
reopens_same None rs = refl
reopens_same (Some p) rs = refl

staying_same : (parent : Option ProcessId) (whole rs : List Record)
    → staying (role_below parent) whole rs ≡ staying AtRoot whole rs
staying_same None whole rs = refl
staying_same (Some p) whole [] = refl
staying_same (Some p) whole (r ∷ rs) =
    ap (λ xs. if case_stays whole (record_case r) then r ∷ xs else xs) (staying_same (Some p) whole rs)

data_same : (parent : Option ProcessId) (rs : List Record) → data_records (role_below parent) rs ≡ []
data_same None rs = refl
data_same (Some p) rs = refl

trimmed_same : (parent : Option ProcessId) (rs : List Record) → trimmed (role_below parent) rs
    ≡ trimmed AtRoot rs
unfolding trimmed
trimmed_same parent rs =
    ap (λ xs. (Opened (boot_of rs) ∷ xs) ++ data_records (role_below parent) rs) (staying_same parent rs rs)
    ∙ ap (λ xs. (Opened (boot_of rs) ∷ staying AtRoot rs rs) ++ xs) (data_same parent rs)

none_in_front : (q : Record → Bool) (xs ys : List Record) → has q (xs ++ ys) ≡ false → has q xs ≡ false
none_in_front q xs ys e = by_test (has q xs) refl
  where
    by_test : (b : Bool) → has q xs ≡ b → has q xs ≡ false
    by_test true f = not_both q (has q (xs ++ ys)) (in_first q xs ys f) e
    by_test false f = f

module _ (me : ProcessId) (parent : Option ProcessId) (tree : List TreeProcess) (n : Node)
    (given : Premises me parent tree n) (old : Coordinated (coordinator_place me parent tree) n)
  where
    abbrev place : Place
    place = coordinator_place me parent tree

    -- A restart.

    abbrev left : ℕ → List Record
    left k = n.forced ++ take k n.unforced

    left_needs : (k : ℕ) → has is_needless (n.forced ++ take k n.unforced) ≡ false
    left_needs k =
        none_in_front is_needless (left k) (drop k n.unforced)
        (ap (has is_needless)
        (append_assoc n.forced (take k n.unforced) (drop k n.unforced) ∙
        ap (λ x. n.forced ++ x) (take-append-drop k n.unforced))
        ∙ old.needless)

    reopens_needs : (rs : List Record) → has is_needless (reopens (role_below parent) rs) ≡ false
    reopens_needs rs = reopens_none is_needless (λ c ts. refl) (λ k. refl) (role_below parent) rs

    names_reopened : (k : ℕ) (c : Case) (t : Ticket)
        → has (is_naming c t) (reopens (role_below parent) (n.forced ++ take k n.unforced)) ≡ true
        → has_accepted n c t ≡ true
    names_reopened k c t e =
        old.named_accepted c t (given.nested.kept_was_written (is_naming c t) (λ j. refl)
        (was_kept (in_either (is_naming c t) n.forced (take k n.unforced)
        (reopens_name c t (left k) (ap (has (is_naming c t)) (sym (reopens_same parent (left k))) ∙ e)))))
      where
        was_kept : (has (is_naming c t) n.forced ≡ true) ⊎ (has (is_naming c t) (take k n.unforced) ≡ true)
            → has (is_naming c t) (kept n) ≡ true
        was_kept (inl front) = in_first (is_naming c t) n.forced n.unforced front
        was_kept (inr rest) =
            in_second (is_naming c t) n.forced n.unforced (in_front (is_naming c t) k n.unforced rest)

    -- what a restart appended names whom records named
    reopened_names : (x : Node) (k a : ℕ)
        → x.life ≡ reverse (take a (reopens (role_below parent) (n.forced ++ take k n.unforced))) ++ n.life
        → x.accepted ≡ n.accepted → (c : Case) (t : Ticket) → has (is_naming c t) x.life ≡ true
        → has_accepted x c t ≡ true
    reopened_names x k a life same c t e =
        let new = reopens (role_below parent) (left k) in
        ap (took c t) same
        ∙ elim (in_either (is_naming c t) (reverse (take a new)) n.life
        (ap (has (is_naming c t)) (sym life) ∙ e)) [
          | inl now ↦ names_reopened k c t
              (in_front (is_naming c t) a new (sym (has-reverse (is_naming c t) (take a new)) ∙ now))
          | inr before ↦ old.named_accepted c t before
        ]

    forgotten : (x : Node) → x.heard ≡ [] → (c : Case) (t : Ticket)
        → in_list (memory_of (coordinator_place me parent tree) x c).accepted t ≡ true → has_accepted x c t
        ≡ true
    forgotten x e c t f =
        in_nobody t (ap (λ (y : Memory). in_list y.accepted t) (sym (memory_empty place x c e)) ∙ f)

    never_live : {A : Type 0} (x : Node) → x.heard ≡ [] → (c : Case)
        → IsLive (memory_of (coordinator_place me parent tree) x c).phase → A
    never_live x e c live = absurd (subst (λ (y : Memory). IsLive y.phase) (memory_empty place x c e) live)

    whole_list : (rs : List Record) → take (length rs) rs ≡ rs
    whole_list [] = refl
    whole_list (x ∷ rs) = ap (λ y. x ∷ y) (whole_list rs)

    reopened_so : (k : ℕ)
        → Coordinated (coordinator_place me parent tree) (restarted (coordinator_place me parent tree) n k)
    reopened_so k =
        let x = restarted place n k in
        let rs = left k in
        let new = reopens (role_below parent) rs in
        record {
          together = λ up c.
              subst (λ (y : Memory). Together (kept x) c y.phase) (sym (memory_empty place x c refl))
              (subst (λ (ys : List Record). Together ys c Idle)
              (ap (λ ys. rs ++ ys) (sym (reopens_same parent rs)) ∙ sym (append-nil (rs ++ new)))
              (over_together Idle (standing_at (rs ++ reopens AtRoot rs) c Idle) (λ e. cc) (λ e. cc)
              (reopened_collects_not c rs)));
          needless = ap (has is_needless) (append-nil (rs ++ new))
              ∙ in_none is_needless rs new (left_needs k) (reopens_needs rs);
          remembered_accepted = forgotten x refl;
          voted_accepted = old.voted_accepted;
          named_accepted = reopened_names x k (length new)
              (ap (λ ys. reverse ys ++ n.life) (sym (whole_list new))) refl;
          votes = λ up c live. never_live x refl c live;
          uncommitted = λ up c live. never_live x refl c live;
        }

    reopening_failed : (k a f : ℕ)
        → Coordinated (coordinator_place me parent tree)
        (restart_fails (coordinator_place me parent tree) n k a f)
    reopening_failed k a f =
        let x = restart_fails place n k a f in
        let rs = left k in
        let new = reopens (role_below parent) rs in
        record {
          together = λ up. absurd (cc);
          needless = ap (has is_needless) (breaks_keeps (loses (logs_of n) k) new a f)
              ∙ in_none is_needless rs (take a new) (left_needs k)
              (front_none is_needless a new (reopens_needs rs));
          remembered_accepted = forgotten x refl;
          voted_accepted = old.voted_accepted;
          named_accepted = reopened_names x k a refl refl;
          votes = λ up. absurd (cc);
          uncommitted = λ up. absurd (cc);
        }

    -- A trim.

    abbrev after_trim : List Record
    after_trim = trimmed (role_below parent) (kept n)

    trimmed_needs : has is_needless (trimmed (role_below parent) (kept n)) ≡ false
    trimmed_needs = by_test (has is_needless after_trim) refl
      where
        was : (has is_needless (kept n) ≡ true)
            ⊎ (has is_needless (data_records (role_below parent) (kept n)) ≡ true)
            → has is_needless after_trim ≡ false
        was (inl before) = not_both is_needless (has is_needless (kept n)) before old.needless
        was (inr none) =
            not_both is_needless (has is_needless [])
            (ap (has is_needless) (sym (data_same parent (kept n))) ∙ none) (has-nil is_needless)

        by_test : (b : Bool) → has is_needless after_trim ≡ b → has is_needless after_trim ≡ false
        by_test true e = was (trim_left is_needless (λ k. refl) (role_below parent) (kept n) e)
        by_test false e = e

    abbrev x_trimmed : Node
    x_trimmed = trims (coordinator_place me parent tree) n

    same_life : (trims (coordinator_place me parent tree) n).life ≡ n.life
    same_life = ap (λ ys. reverse ys ++ n.life) (data_same parent (kept n))

    same_memory : (c : Case) → memory_of (coordinator_place me parent tree) x_trimmed c
        ≡ memory_of (coordinator_place me parent tree) n c
    same_memory c = trims_memory place n c

    trimmed_so : n.failed ≡ false
        → Coordinated (coordinator_place me parent tree) (trims (coordinator_place me parent tree) n)
    trimmed_so up = record {
      together = λ u c.
          subst (λ (ys : List Record). Together ys c (memory_of place x_trimmed c).phase)
          (sym (append-nil after_trim ∙ trimmed_same parent (kept n)))
          (subst (λ (y : Memory). Together (trimmed AtRoot (kept n)) c y.phase) (sym (same_memory c))
          (trim_together c (kept n) (memory_of place n c).phase (old.together up c)));
      needless = ap (has is_needless) (append-nil after_trim) ∙ trimmed_needs;
      remembered_accepted = λ c t f.
          old.remembered_accepted c t (ap (λ (y : Memory). in_list y.accepted t) (sym (same_memory c)) ∙ f);
      voted_accepted = old.voted_accepted;
      named_accepted = λ c t f. old.named_accepted c t (ap (has (is_naming c t)) (sym same_life) ∙ f);
      votes = λ u c live t v.
          old.votes up c (subst (λ (y : Memory). IsLive y.phase) (same_memory c) live) t v
          ∙ ap (λ (y : Memory). voted_so v y.votes t) (sym (same_memory c));
      uncommitted = λ u c live.
          ap (has (is_commit c)) same_life
          ∙ old.uncommitted up c (subst (λ (y : Memory). IsLive y.phase) (same_memory c) live);
    }

    -- One that failed, and heard and appended nothing.
    fallen : (x : Node) → x.failed ≡ true → has is_needless (kept x) ≡ false → x.life ≡ n.life
        → x.accepted ≡ n.accepted → x.voted ≡ n.voted
        → ((c : Case) → memory_of (coordinator_place me parent tree) x c
        ≡ memory_of (coordinator_place me parent tree) n c)
        → Coordinated (coordinator_place me parent tree) x
    fallen x down none life a v same = record {
      together = λ up. absurd (let y = sym down ∙ up in cc);
      needless = none;
      remembered_accepted = λ c t f.
          ap (took c t) a
          ∙ old.remembered_accepted c t (ap (λ (y : Memory). in_list y.accepted t) (sym (same c)) ∙ f);
      voted_accepted = λ c t w f. ap (took c t) a
          ∙ old.voted_accepted c t w (ap (heard_so c t w) (sym v) ∙ f);
      named_accepted = λ c t f. ap (took c t) a
          ∙ old.named_accepted c t (ap (has (is_naming c t)) (sym life) ∙ f);
      votes = λ up. absurd (let y = sym down ∙ up in cc);
      uncommitted = λ up. absurd (let y = sym down ∙ up in cc);
    }

    trimming_failed : (a : ℕ)
        → Coordinated (coordinator_place me parent tree) (trim_fails (coordinator_place me parent tree) n a)
    trimming_failed zero = fallen _ refl old.needless refl refl refl (λ c. memory_same place n _ c refl refl)
    trimming_failed (suc a) =
        fallen _ refl (ap (has is_needless) (append-nil after_trim) ∙ trimmed_needs) same_life refl refl
        (λ c. memory_same place n _ c refl
        (ap boot_of (append-nil after_trim) ∙ trimmed_boot (role_below parent) (kept n)))

    -- Each step.
    pub coordinated_last : (m : Move) (e : Effect) (k : Node)
        → StepOf (coordinator_place me parent tree) n m e k
        → Coordinated (coordinator_place me parent tree) k
    coordinated_last m _ _ (handled i g hp np r) =
        let h = heard_in m i in handled_so me parent tree n given old h g (turn_of place n h g r) r
    coordinated_last m _ _ (failed_in i f g fl hp np r) =
        let h = heard_in m i in
        failed_so me parent tree n given old h g (turn_of place n h g r) r f.appended f.forced
    coordinated_last m _ _ (passed i hp r) = old
    coordinated_last m _ _ (failed_passing i f fl hp r) =
        fallen _ refl old.needless refl refl refl (λ c. memory_same place n _ c refl refl)
    coordinated_last m _ _ (reopened k hp) = reopened_so k
    coordinated_last m _ _ (failed_reopening k f fl hp) = reopening_failed k f.appended f.forced
    coordinated_last m _ _ (trims_log hp up) = trimmed_so up
    coordinated_last m _ _ (failed_trimming f fl hp up) = trimming_failed f.appended

-- A process that opened an empty log.
pub opened_coordinated : (me : ProcessId) (parent : Option ProcessId) (tree : List TreeProcess)
    → Coordinated (coordinator_place me parent tree) opened_node
unfolding has memory_of
opened_coordinated me parent tree = record {
  together = λ up c. over_together Idle _ (λ e. cc) (λ e. cc) (never c);
  needless = refl;
  remembered_accepted = λ c t f. in_nobody t f;
  voted_accepted = λ c t v f. absurd (cc);
  named_accepted = λ c t f. absurd (cc);
  votes = λ up c live. absurd live;
  uncommitted = λ up c live. absurd live;
}
  where
    never : (c : Case) → standing_at (kept opened_node) c Idle ≡ Collecting → ⊥
    never c e = by_presumption c.txn.presumption e
      where
        by_presumption : (p : Presumption) → phase_standing p Idle ≡ Collecting → ⊥
        by_presumption PresumeAbort f = cc
        by_presumption PresumeCommit f = cc
