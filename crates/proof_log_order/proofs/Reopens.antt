-- What a coordinator appends at a restart can be in its log, where what is left can.
use Rattle.std.proofs.Common.{◌≡◌, ◌∙◌, ◌||◌, ◌+◌, ◌^◌, ◌<◌, ℕ, Bool, true, false, Option, Some, None, List, [], ◌∷◌, ◌++◌, length, map, take, drop, refl, sym, ap, subst, append_assoc, arith, if◌then◌else◌}
use Rattle.std.specs.List.{AllByRecursion, flat_map}
use Rattle.std.proofs.lemmas.List.{append-nil, take-append-drop}
use Rattle.protocol.specs.declared.names.Case.{Case}
use Rattle.protocol.specs.declared.names.Kind.TheVariants.{Coordinator}
use Rattle.protocol.specs.declared.names.ProcessId.{ProcessId}
use Rattle.protocol.specs.declared.names.Ticket.{Ticket}
use Rattle.protocol_words.specs.Variants.{AbortRecord, CaseBranch, CollectingRecord, CommitRecord, PrepareRecord}
use Rattle.protocol.specs.declared.records.Record.{Record}
use Rattle.protocol.specs.declared.records.Record.TheVariants.{Opened}
use Rattle.protocol.specs.declared.standings.Standing.{Standing}
use Rattle.protocol.specs.declared.standings.Standing.TheVariants.{Unknown, Active, Collecting, Prepared, Committing, Aborting, Heuristic}
use Rattle.protocol.specs.declared.trees.TreeProcess.{TreeProcess}
use Rattle.protocol.specs.LogNames.{in_log, parent_of, ticket_parent}
use Rattle.protocol.specs.Memory.{Idle, fresh_memory}
use Rattle.protocol.specs.Names.{same_case}
use Rattle.protocol.specs.Nodes.{Role, AtRoot, Below, AtLeaf, IsCoordinator, kept, place_of, role_of}
use Rattle.protocol.specs.Records.{boot_of, cases_in, has, is_abort, is_collecting, is_commit, is_prepare, named_by, named_in}
use Rattle.protocol.specs.Restarts.{aborts_collecting, coordinator_reopens, left_of, recorded_view, reopens, restart_abort}
use Rattle.protocol.specs.Standings.{view_at}
use Rattle.protocol.specs.World.{IsRun, Made, World}
use Rattle.log_rules.specs.sound.Sound.{AreSoundTickets, IsSound, IsSoundName}
use Rattle.proof_processes.proofs.CaseOrders.{AllFit, Fits, fit_front}
use Rattle.proof_processes.proofs.CoordinatorLogs.{all_fit}
use Rattle.proof_processes.proofs.Tests.{case_is, first_false, has-append, has-cons, not_both, second_false}
use Rattle.proof_processes.proofs.Phases.{collecting_undecided, standing_at}
use Rattle.proof_processes.proofs.RootLogs.{idle_standing, recorded_stands}
use Rattle.proof_log_order.specs.Orders.{CanStand, appended, log_of}

-- The tickets that a case names which collects.

-- no record of the list is of the case but one that collects
record OnlyCollects (c : Case) (xs : List Record) : Type 0 where
  no_prepare : has (is_prepare c) xs ≡ false
  no_commit : has (is_commit c) xs ≡ false
  no_abort : has (is_abort c) xs ≡ false

-- the record can be in the log of a coordinator below this parent
abbrev Stands : Option ProcessId → Record → Type 0
Stands p x = IsSound Coordinator (in_log p x)

module _ (p : Option ProcessId) (c : Case) where
  -- what the list's records of the case name can be in a record; and it is nobody, where one stood before it
  record Names (pre xs : List Record) : Type 0 where
    sound : AreSoundTickets (flat_map (named_in c) xs)
    once : has (is_collecting c) pre ≡ true → flat_map (named_in c) xs ≡ []

  nobody : AreSoundTickets []
  nobody = record { count = omega arith; each = tt }

  rest_of : (x : Record) (xs : List Record) → OnlyCollects c (x ∷ xs) → OnlyCollects c xs
  rest_of x xs o = record {
    no_prepare = second_false (is_prepare c x) (has (is_prepare c) xs)
        (sym (has-cons (is_prepare c) x xs) ∙ o.no_prepare);
    no_commit = second_false (is_commit c x) (has (is_commit c) xs)
        (sym (has-cons (is_commit c) x xs) ∙ o.no_commit);
    no_abort = second_false (is_abort c x) (has (is_abort c) xs)
        (sym (has-cons (is_abort c) x xs) ∙ o.no_abort);
  }

  still : (pre : List Record) (x : Record) → has (is_collecting c) pre ≡ true
      → has (is_collecting c) (pre ++ x ∷ []) ≡ true
  still pre x e = has-append (is_collecting c) pre (x ∷ []) ∙ first (has (is_collecting c) pre) _ e
    where
      first : (a b : Bool) → a ≡ true → (a || b) ≡ true
      first a b e = grind arith

  now : (pre : List Record) (x : Record) → is_collecting c x ≡ true
      → has (is_collecting c) (pre ++ x ∷ []) ≡ true
  now pre x e =
      has-append (is_collecting c) pre (x ∷ [])
      ∙ last (has (is_collecting c) pre) (has (is_collecting c) (x ∷ []))
      (has-cons (is_collecting c) x [] ∙ first (is_collecting c x) (has (is_collecting c) []) e)
    where
      first : (a b : Bool) → a ≡ true → (a || b) ≡ true
      first a b e = grind arith

      last : (a b : Bool) → b ≡ true → (a || b) ≡ true
      last a b e = grind arith

  -- a record that names nobody of the case
  passes : (pre xs : List Record) (x : Record) → named_in c x ≡ [] → Names (pre ++ x ∷ []) xs
      → Names pre (x ∷ xs)
  passes pre xs x e n = record {
    sound = subst AreSoundTickets (ap (λ ts. ts ++ flat_map (named_in c) xs) (sym e)) n.sound;
    once = λ h. ap (λ ts. ts ++ flat_map (named_in c) xs) e ∙ n.once (still pre x h);
  }

  first_is : (q : Record → Bool) (x : Record) (xs : List Record) → has q (x ∷ xs) ≡ false → q x ≡ false
  first_is q x xs e = first_false (q x) (has q xs) (sym (has-cons q x xs) ∙ e)

  names_one : (pre xs : List Record) (x : Record) → OnlyCollects c (x ∷ xs) → Fits pre x → Stands p x
      → Names (pre ++ x ∷ []) xs → Names pre (x ∷ xs)
  names_one pre xs (CollectingRecord d ts) o f s n = by_same (same_case d c) refl
    where
      by_same : (b : Bool) → same_case d c ≡ b → Names pre (CollectingRecord d ts ∷ xs)
      by_same false e = passes pre xs (CollectingRecord d ts) (ap (λ b. if b then ts else []) e) n
      by_same true e =
          let none : flat_map (named_in c) xs ≡ [] = n.once (now pre (CollectingRecord d ts) e) in
          let all : named_in c (CollectingRecord d ts) ++ flat_map (named_in c) xs ≡ ts =
          ap (λ us. named_in c (CollectingRecord d ts) ++ us) none
          ∙ append-nil (named_in c (CollectingRecord d ts)) ∙ ap (λ b. if b then ts else []) e in
          record {
            sound = subst AreSoundTickets (sym all) s.1;
            once = λ h. absurd (not_both (λ (r : Record). true) (has (is_collecting c) pre) h
                (ap (λ k. has (is_collecting k) pre) (sym (case_is d c e)) ∙ f.1.1.1));
          }
  names_one pre xs (PrepareRecord d ts) o f s n =
      passes pre xs (PrepareRecord d ts)
      (ap (λ b. if b then ts else []) (first_is (is_prepare c) (PrepareRecord d ts) xs o.no_prepare)) n
  names_one pre xs (CommitRecord d ts) o f s n =
      passes pre xs (CommitRecord d ts)
      (ap (λ b. if b then ts else []) (first_is (is_commit c) (CommitRecord d ts) xs o.no_commit)) n
  names_one pre xs (AbortRecord d ts) o f s n =
      passes pre xs (AbortRecord d ts)
      (ap (λ b. if b then ts else []) (first_is (is_abort c) (AbortRecord d ts) xs o.no_abort)) n
  names_one pre xs x o f s n = passes pre xs x refl n

  names : (pre xs : List Record) → OnlyCollects c xs → AllFit pre xs → AllByRecursion (Stands p) xs
      → Names pre xs
  names pre [] o f s = record { sound = nobody; once = λ h. refl }
  names pre (x ∷ xs) o f s =
      names_one pre xs x o f.0 s.0 (names (pre ++ x ∷ []) xs (rest_of x xs o) f.1 s.1)

  -- a record that collects has the name of its case
  name_of : (xs : List Record) → AllByRecursion (Stands p) xs → has (is_collecting c) xs ≡ true
      → IsSoundName (ticket_parent p c.ticket) (CaseBranch c)
  unfolding has
  name_of [] s e = absurd (cc)
  name_of (x ∷ xs) s e = by_first (name_of xs s.1) x s.0 e
    where
      by_first : (has (is_collecting c) xs ≡ true → IsSoundName (ticket_parent p c.ticket) (CaseBranch c))
          → (y : Record) → Stands p y → (is_collecting c y || has (is_collecting c) xs) ≡ true
          → IsSoundName (ticket_parent p c.ticket) (CaseBranch c)
      by_first more (CollectingRecord d ts) t e = by_same (same_case d c) refl
        where
          by_same : (b : Bool) → same_case d c ≡ b → IsSoundName (ticket_parent p c.ticket) (CaseBranch c)
          by_same true g =
              subst (λ (k : Case). IsSoundName (ticket_parent p k.ticket) (CaseBranch k)) (case_is d c g) t.0
          by_same false g = more (ap (λ b. b || has (is_collecting c) xs) (sym g) ∙ e)
      by_first more y t e = more e

-- What a restart appends.

-- a view that names what its records name, where it is known
named_so : (c : Case) (rs : List Record) → (recorded_view rs c).standing ≡ Collecting
    → (recorded_view rs c).named ≡ named_by c rs
unfolding recorded_view
named_so c rs e =
    ap (λ (s : Standing). (view_at s rs c fresh_memory).named) (sym (recorded_stands c rs) ∙ e)

both_can : (p : Option ProcessId) (xs ys : List Record) → CanStand (map (in_log p) xs)
    → CanStand (map (in_log p) ys) → CanStand (map (in_log p) (xs ++ ys))
both_can p [] ys f g = g
both_can p (x ∷ xs) ys f g = (f.0, both_can p xs ys f.1 g)

all_stand : (p : Option ProcessId) (xs : List Record) → CanStand (map (in_log p) xs)
    → AllByRecursion (Stands p) xs
all_stand p [] s = tt
all_stand p (x ∷ xs) s = (s.0, all_stand p xs s.1)

module _ (p : Option ProcessId) (rs : List Record) (fit : AllFit [] rs)
    (sound : CanStand (map (in_log p) rs)) where
  abort_can : (c : Case) (s : Standing) → (recorded_view rs c).standing ≡ s
      → CanStand (map (in_log p) (restart_abort c (recorded_view rs c) s))
  unfolding named_by
  abort_can c Collecting e =
      let at : standing_at rs c Idle ≡ Collecting = sym (recorded_stands c rs) ∙ e in
      let u = collecting_undecided rs c Idle at in
      let only : OnlyCollects c rs =
      record { no_prepare = u.no_prepare; no_commit = u.no_commit; no_abort = u.no_abort } in
      let all : AllByRecursion (Stands p) rs = all_stand p rs sound in (
        (
          name_of p c rs all (idle_standing c rs at),
          subst AreSoundTickets (sym (named_so c rs e)) (names p c [] rs only fit all).sound,
        ),
        tt,
      )
  abort_can c Unknown e = tt
  abort_can c Active e = tt
  abort_can c Prepared e = tt
  abort_can c Committing e = tt
  abort_can c Aborting e = tt
  abort_can c Heuristic e = tt

  aborts_can : (cs : List Case) → CanStand (map (in_log p) (flat_map (aborts_collecting rs) cs))
  aborts_can [] = tt
  aborts_can (c ∷ cs) =
      both_can p (aborts_collecting rs c) (flat_map (aborts_collecting rs) cs)
      (abort_can c (recorded_view rs c).standing refl) (aborts_can cs)

  reopens_can : boot_of rs + 1 < 2 ^ 63 → CanStand (map (in_log p) (coordinator_reopens rs))
  reopens_can next = ((refl, next), aborts_can (cases_in rs))

-- the front that a crash leaves

a_front : (p : Option ProcessId) (xs ys : List Record) → CanStand (map (in_log p) (xs ++ ys))
    → CanStand (map (in_log p) xs)
a_front p [] ys s = tt
a_front p (x ∷ xs) ys s = (s.0, a_front p xs ys s.1)

cut : (xs ys : List Record) (k : ℕ) → xs ++ ys ≡ (xs ++ take k ys) ++ drop k ys
cut xs ys k = ap (λ z. xs ++ z) (sym (take-append-drop k ys)) ∙ sym (append_assoc xs (take k ys) (drop k ys))

pub can_restart : (tree : List TreeProcess) (es : List Made) (w : World) → IsRun tree es w → (q : ProcessId)
    → IsCoordinator (role_of tree q) → CanStand (log_of tree w q) → (k : ℕ)
    → boot_of (left_of (w.at q) k) + 1 < 2 ^ 63 → CanStand (appended tree w q k)
can_restart tree es w run q i sound k next = by_role (role_of tree q) i
  where
    p : Option ProcessId
    p = parent_of (role_of tree q)

    forced : List Record
    forced = (w.at q).forced

    behind : List Record
    behind = (w.at q).unforced

    fit : AllFit [] (forced ++ take k behind)
    fit = fit_front [] (forced ++ take k behind) (drop k behind)
        (subst (AllFit []) (cut forced behind k) (all_fit tree es w run q i))

    can : CanStand (map (in_log p) (forced ++ take k behind))
    can = a_front p (forced ++ take k behind) (drop k behind)
        (subst (λ rs. CanStand (map (in_log p) rs)) (cut forced behind k) sound)

    by_role : (r : Role) → IsCoordinator r → CanStand (map (in_log p) (reopens r (left_of (w.at q) k)))
    by_role AtRoot j = reopens_can p (left_of (w.at q) k) fit can next
    by_role (Below u) j = reopens_can p (left_of (w.at q) k) fit can next
    by_role (AtLeaf u) j = absurd j
