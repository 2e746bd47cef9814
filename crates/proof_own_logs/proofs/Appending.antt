-- What a coordinator appends at a restart over sound records in order can be in its log, wherever it sits.
use Rattle.std.proofs.Common.{◌≡◌, ◌∙◌, ◌&&◌, ◌||◌, ◌⊎◌, ◌+◌, ◌^◌, ◌<◌, inl, inr, ℕ, Bool, true, false, Option, Some, None, List, [], ◌∷◌, ◌++◌, fold, map, refl, sym, ap, subst, arith, if◌then◌else◌}
use Rattle.std.specs.List.{AllByRecursion, flat_map}
use Rattle.std.proofs.lemmas.List.{append-nil}
use Rattle.protocol.specs.declared.names.Case.{Case}
use Rattle.protocol.specs.declared.names.Kind.TheVariants.{Coordinator}
use Rattle.protocol.specs.declared.names.ProcessId.{ProcessId}
use Rattle.protocol.specs.declared.names.Ticket.{Ticket}
use Rattle.protocol_words.specs.Variants.{AbortRecord, CaseBranch, ClearedRecord, CollectingRecord, CommitRecord, EndRecord, PrepareRecord}
use Rattle.protocol.specs.declared.records.LogRecord.{LogRecord}
use Rattle.protocol.specs.declared.records.Record.{Record}
use Rattle.protocol.specs.declared.records.Record.TheVariants.{Opened}
use Rattle.protocol.specs.declared.standings.Standing.{Standing}
use Rattle.protocol.specs.declared.standings.Standing.TheVariants.{Unknown, Active, Collecting, Prepared, Committing, Aborting, Heuristic}
use Rattle.protocol.specs.LogNames.{case_parent, foreign_to, in_log, is_own, is_ticketed, own_by, own_records, parent_of, same_parent, ticket_parent}
use Rattle.protocol.specs.Memory.{Idle, fresh_memory}
use Rattle.protocol.specs.Names.{process_of, same_case, same_process}
use Rattle.protocol.specs.NameLaws.{same_process_tells}
use Rattle.protocol.specs.Nodes.{AtLeaf, AtRoot, Below, IsCoordinator, Place, Role}
use Rattle.protocol.specs.Records.{boot_after, boot_of, cases_in, has, is_abort, is_collecting, is_commit, is_prepare, named_by, named_in, record_case}
use Rattle.protocol.specs.Restarts.{aborts_collecting, coordinator_reopens, recorded_view, reopens, restart_abort}
use Rattle.protocol.specs.Standings.{view_at}
use Rattle.protocol.specs.Trees.{root_of}
use Rattle.proof_processes.proofs.CaseOrders.{AllFit, Fits, Undecided}
use Rattle.proof_processes.proofs.Phases.{collecting_undecided, standing_at}
use Rattle.proof_processes.proofs.RootLogs.{idle_standing, recorded_stands}
use Rattle.proof_processes.proofs.Tests.{case_is, first_false, has-append, has-cons, in_first, in_second, left, neither, not_both, second_false}
use Rattle.log_rules.specs.sound.Sound.{AreSoundTickets, IsSound, IsSoundEntry, IsSoundName}
use Rattle.process_state.specs.States.{kind_of_role}

-- The tickets that a case names which collects.

-- no record of the list is of the case but one that collects
record OnlyCollects (c : Case) (xs : List Record) : Type 0 where
  no_prepare : has (is_prepare c) xs ≡ false
  no_commit : has (is_commit c) xs ≡ false
  no_abort : has (is_abort c) xs ≡ false

-- the record can be in the log of a coordinator below this parent
abbrev Stands : Option ProcessId → Record → Type 0
Stands p x = IsSound Coordinator (in_log p x)

module _ (p : Option ProcessId) (c : Case) where
  -- what the list's records of the case name can be in a record; and it is nobody, where one stood before it
  record Names (pre xs : List Record) : Type 0 where
    sound : AreSoundTickets (flat_map (named_in c) xs)
    once : has (is_collecting c) pre ≡ true → flat_map (named_in c) xs ≡ []

  nobody : AreSoundTickets []
  nobody = record { count = omega arith; each = tt }

  first_is : (q : Record → Bool) (x : Record) (xs : List Record) → has q (x ∷ xs) ≡ false → q x ≡ false
  first_is q x xs e = first_false (q x) (has q xs) (sym (has-cons q x xs) ∙ e)

  rest_is : (q : Record → Bool) (x : Record) (xs : List Record) → has q (x ∷ xs) ≡ false → has q xs ≡ false
  rest_is q x xs e = second_false (q x) (has q xs) (sym (has-cons q x xs) ∙ e)

  rest_of : (x : Record) (xs : List Record) → OnlyCollects c (x ∷ xs) → OnlyCollects c xs
  rest_of x xs o = record {
    no_prepare = rest_is (is_prepare c) x xs o.no_prepare;
    no_commit = rest_is (is_commit c) x xs o.no_commit;
    no_abort = rest_is (is_abort c) x xs o.no_abort;
  }

  now : (pre : List Record) (x : Record) → is_collecting c x ≡ true
      → has (is_collecting c) (pre ++ x ∷ []) ≡ true
  now pre x e = in_second (is_collecting c) pre (x ∷ [])
      (has-cons (is_collecting c) x [] ∙ left (is_collecting c x) (has (is_collecting c) []) e)

  -- a record that names nobody of the case
  passes : (pre xs : List Record) (x : Record) → named_in c x ≡ [] → Names (pre ++ x ∷ []) xs
      → Names pre (x ∷ xs)
  passes pre xs x e n = record {
    sound = subst AreSoundTickets (ap (λ ts. ts ++ flat_map (named_in c) xs) (sym e)) n.sound;
    once = λ h. ap (λ ts. ts ++ flat_map (named_in c) xs) e
        ∙ n.once (in_first (is_collecting c) pre (x ∷ []) h);
  }

  names_one : (pre xs : List Record) (x : Record) → OnlyCollects c (x ∷ xs) → Fits pre x → Stands p x
      → Names (pre ++ x ∷ []) xs → Names pre (x ∷ xs)
  names_one pre xs (CollectingRecord d ts) o f s n = by_same (same_case d c) refl
    where
      by_same : (b : Bool) → same_case d c ≡ b → Names pre (CollectingRecord d ts ∷ xs)
      by_same false e = passes pre xs (CollectingRecord d ts) (ap (λ b. if b then ts else []) e) n
      by_same true e =
          let none : flat_map (named_in c) xs ≡ [] = n.once (now pre (CollectingRecord d ts) e) in
          let all : named_in c (CollectingRecord d ts) ++ flat_map (named_in c) xs ≡ ts =
          ap (λ us. named_in c (CollectingRecord d ts) ++ us) none
          ∙ append-nil (named_in c (CollectingRecord d ts)) ∙ ap (λ b. if b then ts else []) e in
          record {
            sound = subst AreSoundTickets (sym all) s.1;
            once = λ h. absurd (not_both (λ (r : Record). true) (has (is_collecting c) pre) h
                (ap (λ k. has (is_collecting k) pre) (sym (case_is d c e)) ∙ f.1.1.1));
          }
  names_one pre xs (PrepareRecord d ts) o f s n =
      passes pre xs (PrepareRecord d ts)
      (ap (λ b. if b then ts else []) (first_is (is_prepare c) (PrepareRecord d ts) xs o.no_prepare)) n
  names_one pre xs (CommitRecord d ts) o f s n =
      passes pre xs (CommitRecord d ts)
      (ap (λ b. if b then ts else []) (first_is (is_commit c) (CommitRecord d ts) xs o.no_commit)) n
  names_one pre xs (AbortRecord d ts) o f s n =
      passes pre xs (AbortRecord d ts)
      (ap (λ b. if b then ts else []) (first_is (is_abort c) (AbortRecord d ts) xs o.no_abort)) n
  names_one pre xs x o f s n = passes pre xs x refl n

  names : (pre xs : List Record) → OnlyCollects c xs → AllFit pre xs → AllByRecursion (Stands p) xs
      → Names pre xs
  names pre [] o f s = record { sound = nobody; once = λ h. refl }
  names pre (x ∷ xs) o f s =
      names_one pre xs x o f.0 s.0 (names (pre ++ x ∷ []) xs (rest_of x xs o) f.1 s.1)

  -- a record that collects has the name of its case
  name_of : (xs : List Record) → AllByRecursion (Stands p) xs → has (is_collecting c) xs ≡ true
      → IsSoundName (ticket_parent p c.ticket) (CaseBranch c)
  unfolding has
  name_of [] s e = absurd (cc)
  name_of (x ∷ xs) s e = by_first (name_of xs s.1) x s.0 e
    where
      by_first : (has (is_collecting c) xs ≡ true → IsSoundName (ticket_parent p c.ticket) (CaseBranch c))
          → (y : Record) → Stands p y → (is_collecting c y || has (is_collecting c) xs) ≡ true
          → IsSoundName (ticket_parent p c.ticket) (CaseBranch c)
      by_first more (CollectingRecord d ts) t e = by_same (same_case d c) refl
        where
          by_same : (b : Bool) → same_case d c ≡ b → IsSoundName (ticket_parent p c.ticket) (CaseBranch c)
          by_same true g =
              subst (λ (k : Case). IsSoundName (ticket_parent p k.ticket) (CaseBranch k)) (case_is d c g) t.0
          by_same false g = more (ap (λ b. b || has (is_collecting c) xs) (sym g) ∙ e)
      by_first more y t e = more e

-- What a restart appends.

-- a view that names what its records name, where it is known
named_so : (c : Case) (rs : List Record) → (recorded_view rs c).standing ≡ Collecting
    → (recorded_view rs c).named ≡ named_by c rs
unfolding recorded_view
named_so c rs e =
    ap (λ (s : Standing). (view_at s rs c fresh_memory).named) (sym (recorded_stands c rs) ∙ e)

-- each of these records can be in the log of a coordinator below this parent
abbrev AllStand : Option ProcessId → List Record → Type 0
AllStand p rs = AllByRecursion (Stands p) rs

-- so can each, as the log holds it
logged_stand : (p : Option ProcessId) (rs : List Record) → AllStand p rs
    → AllByRecursion (IsSound Coordinator) (map (in_log p) rs)
logged_stand p [] h = tt
logged_stand p (r ∷ rs) h = (h.0, logged_stand p rs h.1)

both_stand : (p : Option ProcessId) (xs ys : List Record) → AllStand p xs → AllStand p ys
    → AllStand p (xs ++ ys)
both_stand p [] ys f g = g
both_stand p (x ∷ xs) ys f g = (f.0, both_stand p xs ys f.1 g)

module _ (p : Option ProcessId) (rs : List Record) (fit : AllFit [] rs) (sound : AllStand p rs) where
  abort_stands : (c : Case) (s : Standing) → (recorded_view rs c).standing ≡ s
      → AllStand p (restart_abort c (recorded_view rs c) s)
  unfolding named_by
  abort_stands c Collecting e =
      let at : standing_at rs c Idle ≡ Collecting = sym (recorded_stands c rs) ∙ e in
      let u = collecting_undecided rs c Idle at in
      let only : OnlyCollects c rs =
      record { no_prepare = u.no_prepare; no_commit = u.no_commit; no_abort = u.no_abort } in (
        (
          name_of p c rs sound (idle_standing c rs at),
          subst AreSoundTickets (sym (named_so c rs e)) (names p c [] rs only fit sound).sound,
        ),
        tt,
      )
  abort_stands c Unknown e = tt
  abort_stands c Active e = tt
  abort_stands c Prepared e = tt
  abort_stands c Committing e = tt
  abort_stands c Aborting e = tt
  abort_stands c Heuristic e = tt

  aborts_stand : (cs : List Case) → AllStand p (flat_map (aborts_collecting rs) cs)
  aborts_stand [] = tt
  aborts_stand (c ∷ cs) =
      both_stand p (aborts_collecting rs c) (flat_map (aborts_collecting rs) cs)
      (abort_stands c (recorded_view rs c).standing refl) (aborts_stand cs)

  reopens_stand : boot_of rs + 1 < 2 ^ 63 → AllStand p (coordinator_reopens rs)
  reopens_stand next = ((refl, next), aborts_stand (cases_in rs))

-- What a process reads of the records of a coordinator, wherever it sits.

-- the records, without the names that a log gives them
abbrev pub entries_of : List LogRecord → List Record
entries_of ls = map (λ l. l.entry) ls

second_of : (a b : Bool) → (a && b) ≡ true → b ≡ true
second_of true b h = h
second_of false b h = absurd (cc)

parent_so : (q : Option ProcessId) (p : ProcessId) → same_parent q (Some p) ≡ true → Some p ≡ q
parent_so None p h = absurd (cc)
parent_so (Some r) p h = elim (same_process_tells r p) [
  | inl y ↦ ap Some (sym y.1)
  | inr z ↦ absurd (let clash : true ≡ false = sym h ∙ z.0 in cc)
]

-- a case that is the process's own is under its parent
under_parent : (r : Role) (t : Option Ticket) (q : Option ProcessId)
    → (is_ticketed r t && same_parent q (parent_of r)) ≡ true → ticket_parent (parent_of r) t ≡ q
under_parent AtRoot None None h = refl
under_parent AtRoot None (Some p) h = absurd (cc)
under_parent AtRoot (Some t) q h = absurd (cc)
under_parent (Below p) None q h = absurd (cc)
under_parent (Below p) (Some t) q h = parent_so q p h
under_parent (AtLeaf p) None q h = absurd (cc)
under_parent (AtLeaf p) (Some t) q h = parent_so q p h

-- a record is read as it is, and a coordinator writes it again under the same name; or it is left out, and
-- says nothing of a boot
abbrev Reads : Place → LogRecord → Type 0
Reads place l =
    ((own_by place l (record_case l.entry) ≡ l.entry ∷ [])
    × (IsCoordinator place.role → case_parent (parent_of place.role) (record_case l.entry) ≡ l.parent))
    ⊎ ((own_by place l (record_case l.entry) ≡ []) × ((n : ℕ) → boot_after n l.entry ≡ n))

module _ (place : Place) where
  abbrev at : Option ProcessId → Record → LogRecord
  at q r = record { entry = r; parent = q }

  own_under : (c : Case) (q : Option ProcessId) → is_own place q c ≡ true
      → ticket_parent (parent_of place.role) c.ticket ≡ q
  own_under c q e = under_parent place.role c.ticket q (second_of (same_process (process_of c) place.me)
      (is_ticketed place.role c.ticket && same_parent q (parent_of place.role))
      (second_of (same_process c.txn.root (root_of place.tree)) (same_process (process_of c) place.me
      && (is_ticketed place.role c.ticket && same_parent q (parent_of place.role))) e))

  -- a record of a case, whose name another one keeps
  read_named : (q : Option ProcessId) (c : Case) (r : Record) → record_case r ≡ Some c
      → ((n : ℕ) → boot_after n r ≡ n)
      → ((p : ProcessId) → foreign_to (AtLeaf p) q c r ≡ r ∷ []) → Reads place (at q r)
  read_named q c r of silent stays = by_own (is_own place q c) refl
    where
      read : own_by place (at q r) (record_case r)
          ≡ (if is_own place q c then r ∷ [] else foreign_to place.role q c r)
      read = ap (own_by place (at q r)) of

      by_role : (role : Role) → place.role ≡ role → own_by place (at q r) (record_case r)
          ≡ foreign_to place.role q c r
          → Reads place (at q r)
      by_role AtRoot e h = inr ((h ∙ ap (λ (x : Role). foreign_to x q c r) e, silent))
      by_role (Below p) e h = inr ((h ∙ ap (λ (x : Role). foreign_to x q c r) e, silent))
      by_role (AtLeaf p) e h = inl ((
        h ∙ ap (λ (x : Role). foreign_to x q c r) e ∙ stays p,
        λ i. absurd (subst IsCoordinator e i),
      ))

      by_own : (b : Bool) → is_own place q c ≡ b → Reads place (at q r)
      by_own true e = inl ((
        read ∙ ap (λ (b : Bool). if b then r ∷ [] else foreign_to place.role q c r) e,
        λ i. ap (case_parent (parent_of place.role)) of ∙ own_under c q e,
      ))
      by_own false e =
          by_role place.role refl (read ∙ ap (λ (b : Bool). if b then r ∷ [] else foreign_to place.role q c r)
          e)

  read_entry : (q : Option ProcessId) (r : Record) → IsSoundEntry Coordinator q r → Reads place (at q r)
  read_entry q (Opened n) h = inl ((refl, λ i. sym h.0))
  read_entry q (CollectingRecord c ts) h = read_named q c (CollectingRecord c ts) refl (λ n. refl) (λ p. refl)
  read_entry q (PrepareRecord c ts) h = read_named q c (PrepareRecord c ts) refl (λ n. refl) (λ p. refl)
  read_entry q (CommitRecord c ts) h = read_named q c (CommitRecord c ts) refl (λ n. refl) (λ p. refl)
  read_entry q (AbortRecord c ts) h = read_named q c (AbortRecord c ts) refl (λ n. refl) (λ p. refl)
  read_entry q (EndRecord c o) h = read_named q c (EndRecord c o) refl (λ n. refl) (λ p. refl)
  read_entry q (ClearedRecord c) h = read_named q c (ClearedRecord c) refl (λ n. refl) (λ p. refl)
  read_entry q r h = absurd h.1

  read_so : (l : LogRecord) → IsSound Coordinator l → Reads place l
  read_so l h = read_entry l.parent l.entry h

  -- the boots are the same
  boots_from : (ls : List LogRecord) → AllByRecursion (IsSound Coordinator) ls → (n : ℕ)
      → fold boot_after n (own_records place ls) ≡ fold boot_after n (entries_of ls)
  unfolding own_records
  boots_from [] s n = refl
  boots_from (l ∷ ls) s n = elim (read_so l s.0) [
    | inl y ↦ ap (λ (xs : List Record). fold boot_after n (xs ++ own_records place ls)) y.0
        ∙ boots_from ls s.1 (boot_after n l.entry)
    | inr z ↦ ap (λ (xs : List Record). fold boot_after n (xs ++ own_records place ls)) z.0
        ∙ boots_from ls s.1 n
        ∙ ap (λ (k : ℕ). fold boot_after k (entries_of ls)) (sym (z.1 n))
  ]

  boots_alike : (ls : List LogRecord) → AllByRecursion (IsSound Coordinator) ls
      → boot_of (own_records place ls) ≡ boot_of (entries_of ls)
  unfolding boot_of
  boots_alike ls s = boots_from ls s 0

  -- a coordinator can write again each that it reads
  stand_again : IsCoordinator place.role → (ls : List LogRecord) → AllByRecursion (IsSound Coordinator) ls
      → AllStand (parent_of place.role) (own_records place ls)
  unfolding own_records
  stand_again i [] s = tt
  stand_again i (l ∷ ls) s = elim (read_so l s.0) [
    | inl y ↦ subst (λ (xs : List Record). AllStand (parent_of place.role) (xs ++ own_records place ls))
        (sym y.0) (
          subst (λ (q : Option ProcessId). IsSoundEntry Coordinator q l.entry) (sym (y.1 i)) s.0,
          stand_again i ls s.1,
        )
    | inr z ↦ subst (λ (xs : List Record). AllStand (parent_of place.role) (xs ++ own_records place ls))
        (sym z.0)
        (stand_again i ls s.1)
  ]

-- What fits after some records fits after fewer.

-- what none of the second records passes none of the first does
abbrev Fewer : List Record → List Record → Type 0
Fewer xs ys = (t : Record → Bool) → has t ys ≡ false → has t xs ≡ false

undecided_fewer : (xs ys : List Record) (c : Case) → Fewer xs ys → Undecided ys c → Undecided xs c
undecided_fewer xs ys c w u = record {
  no_end = w _ u.no_end;
  no_commit = w _ u.no_commit;
  no_abort = w _ u.no_abort;
}

fits_fewer : (xs ys : List Record) (r : Record) → Fewer xs ys → Fits ys r → Fits xs r
fits_fewer xs ys (CollectingRecord c ts) w f =
    (f.0, (undecided_fewer xs ys c w f.1.0, (w _ f.1.1.0, w _ f.1.1.1)))
fits_fewer xs ys (PrepareRecord c ts) w f = (f.0, (undecided_fewer xs ys c w f.1.0, w _ f.1.1))
fits_fewer xs ys (CommitRecord c ts) w f = (f.0, undecided_fewer xs ys c w f.1)
fits_fewer xs ys (AbortRecord c ts) w f = (f.0, undecided_fewer xs ys c w f.1)
fits_fewer xs ys r w f = tt

fewer_both : (xs ys : List Record) (r : Record) → Fewer xs ys → Fewer (xs ++ r ∷ []) (ys ++ r ∷ [])
fewer_both xs ys r w t e =
    let parts : (has t ys || has t (r ∷ [])) ≡ false = sym (has-append t ys (r ∷ [])) ∙ e in
    has-append t xs (r ∷ [])
    ∙ neither (has t xs) (has t (r ∷ [])) (w t (first_false (has t ys) (has t (r ∷ [])) parts))
    (second_false (has t ys) (has t (r ∷ [])) parts)

fewer_more : (xs ys : List Record) (r : Record) → Fewer xs ys → Fewer xs (ys ++ r ∷ [])
fewer_more xs ys r w t e =
    w t (first_false (has t ys) (has t (r ∷ [])) (sym (has-append t ys (r ∷ [])) ∙ e))

-- what a process reads fits together where all does
fit_again : (place : Place) (xs ys : List Record) (ls : List LogRecord) → Fewer xs ys
    → AllByRecursion (IsSound Coordinator) ls → AllFit ys (entries_of ls) → AllFit xs (own_records place ls)
unfolding own_records
fit_again place xs ys [] w s f = tt
fit_again place xs ys (l ∷ ls) w s f = elim (read_so place l s.0) [
  | inl y ↦ subst (λ (rs : List Record). AllFit xs (rs ++ own_records place ls)) (sym y.0) (
    fits_fewer xs ys l.entry w f.0,
    fit_again place (xs ++ l.entry ∷ []) (ys ++ l.entry ∷ []) ls (fewer_both xs ys l.entry w) s.1 f.1,
  )
  | inr z ↦ subst (λ (rs : List Record). AllFit xs (rs ++ own_records place ls)) (sym z.0)
      (fit_again place xs (ys ++ l.entry ∷ []) ls (fewer_more xs ys l.entry w) s.1 f.1)
]

-- What is appended.

module _ (place : Place) (ls : List LogRecord) (sound : AllByRecursion (IsSound Coordinator) ls)
    (fit : AllFit [] (entries_of ls)) (next : boot_of (entries_of ls) + 1 < 2 ^ 63) where
  abbrev own : List Record
  own = own_records place ls

  own_next : boot_of own + 1 < 2 ^ 63
  own_next = subst (λ n. n + 1 < 2 ^ 63) (sym (boots_alike place ls sound)) next

  coordinator_can : IsCoordinator place.role
      → AllByRecursion (IsSound Coordinator) (map (in_log (parent_of place.role)) (coordinator_reopens own))
  coordinator_can i = logged_stand (parent_of place.role) (coordinator_reopens own)
      (reopens_stand (parent_of place.role) own (fit_again place [] [] ls (λ t e. e) sound fit)
      (stand_again place i ls sound) own_next)

  by_role : (r : Role) → place.role ≡ r
      → AllByRecursion (IsSound (kind_of_role r)) (map (in_log (parent_of r)) (reopens r own))
  by_role AtRoot e =
      subst (λ (r : Role). AllByRecursion (IsSound Coordinator)
      (map (in_log (parent_of r)) (coordinator_reopens own))) e
      (coordinator_can (subst IsCoordinator (sym e) tt))
  by_role (Below p) e =
      subst (λ (r : Role). AllByRecursion (IsSound Coordinator)
      (map (in_log (parent_of r)) (coordinator_reopens own))) e
      (coordinator_can (subst IsCoordinator (sym e) tt))
  by_role (AtLeaf p) e = ((refl, own_next), tt)

  -- a restart here can append
  pub can_append : AllByRecursion (IsSound (kind_of_role place.role))
      (map (in_log (parent_of place.role)) (reopens place.role own))
  can_append = by_role place.role refl
