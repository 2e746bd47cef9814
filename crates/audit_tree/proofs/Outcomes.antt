-- The outcome of a case, by its own notes and what is said above it, is the audit's.
use Rattle.std.proofs.Common.{◌≡◌, ◌∙◌, ◌&&◌, ℕ, zero, suc, Bool, true, false, if◌then◌else◌, is_none, unwrap_or, Option, Some, None, option_map, List, [], ◌∷◌, length, find, map, refl, sym, ap, subst}
use Rattle.std.specs.Map.{lookup}
use Rattle.protocol.specs.declared.names.Case.{Case}
use Rattle.protocol.specs.declared.names.Kind.{Kind}
use Rattle.protocol.specs.declared.names.Kind.TheVariants.{Coordinator, Manager}
use Rattle.protocol.specs.declared.names.ProcessId.{ProcessId}
use Rattle.protocol.specs.declared.names.Ticket.{Ticket}
use Rattle.protocol.specs.declared.names.Txn.{Txn}
use Rattle.protocol.specs.declared.trees.TreeProcess.{TreeProcess}
use Rattle.protocol.specs.Names.{child_case, presumed, process_of, same_txn}
use Rattle.protocol.specs.Nodes.{Role, AtRoot, Below, AtLeaf, is_listed, role_by, role_of}
use Rattle.protocol.specs.Records.{cases_in, has}
use Rattle.protocol.specs.Trees.{IsTree, level_within}
use Rattle.proof_processes.specs.WorldHolds.{IsChildRole}
use Rattle.protocol.specs.Audits.{is_naming, parent_in}
use Rattle.proof_processes.proofs.Levels.{climbs, has_entry, parent_climbs}
use Rattle.proof_steps.proofs.crashes.Named.{named-by}
use Rattle.protocol.specs.Audits.{KeptLogs, asked_above, audited, decided_or, has_place, is_case_at, naming_case, outcome_within, own_decision, said_above}
use Rattle.coord_records.specs.Readings.{same}
use Rattle.audit_cases.specs.Notes.{note_of, notes_of}
use Rattle.audit_cases.specs.Sayings.{AreSaid, Outcomes, names, outcome_at, outcome_in, said_by}
use Rattle.audit_cases.proofs.KindLaws.{decision_is}
use Rattle.audit_tree.specs.Tables.{SaysTruly}
use Rattle.audit_tree.proofs.OwnCases.{EachCase}
use Rattle.audit_tree.proofs.TreePlaces.{IsFound, is_one, listed_if, parent_listed, role_if}

first_of : (a b : Bool) → (a && b) ≡ true → a ≡ true
first_of true b h = refl
first_of false b h = absurd (cc)

second_of : (a b : Bool) → (a && b) ≡ true → b ≡ true
second_of true b h = h
second_of false b h = absurd (cc)

some_one : (a b : Case) → Some a ≡ Some b → a ≡ b
some_one a b e = cc

case_passes : (g : Case → Bool) (cs : List Case) (c : Case) → find g cs ≡ Some c → g c ≡ true
case_passes g [] c h = absurd (cc)
case_passes g (d ∷ cs) c h = by_test (g d) refl h (case_passes g cs c)
  where
    by_test : (b : Bool) → g d ≡ b → (if b then Some d else find g cs) ≡ Some c
        → (find g cs ≡ Some c → g c ≡ true)
        → g c ≡ true
    by_test true is here rest = ap g (sym (some_one d c here)) ∙ is
    by_test false is here rest = rest here

-- the role of a case with a ticket is a child's
child_role : (role : Role) (u : Ticket) (q : ProcessId) → has_place role (Some u) ≡ true
    → IsChildRole role (parent_in role q)
child_role AtRoot u q h = absurd (cc)
child_role (Below p) u q h = refl
child_role (AtLeaf p) u q h = refl

pub owner_is : (c : Case) (u : Ticket) → c.ticket ≡ Some u → process_of c ≡ u.child
owner_is c u is = ap (λ o. process_of (record { txn = c.txn; ticket = o })) is

module _ (tree : List TreeProcess) (logs : KeptLogs) where
  pub case_at : (q : ProcessId) (c : Case) → is_case_at tree q c ≡ true → process_of c ≡ q
  case_at q c own = is_one (process_of c) q (first_of _ _ (first_of _ _ own))

  pub place_of_case : (q : ProcessId) (c : Case) → is_case_at tree q c ≡ true
      → has_place (role_of tree q) c.ticket ≡ true
  place_of_case q c own = second_of _ _ (first_of _ _ own)

  -- the parent's case that names a ticket is one of its own
  pub naming_own : (p : ProcessId) (x : Txn) (u : Ticket) (d : Case)
      → naming_case tree p x u (logs p) ≡ Some d
      → is_case_at tree p d ≡ true
  naming_own p x u d is =
      second_of (same_txn d.txn x && has (is_naming d u) (logs p)) (is_case_at tree p d)
      (case_passes (λ c. (same_txn c.txn x && has (is_naming c u) (logs p))
      && is_case_at tree p c) (cases_in (logs p)) d is)

  -- a parent's case has the same outcome within these steps
  abbrev SameFor : ℕ → ℕ → Type 0
  SameFor k j = (p : ProcessId) (d : Case) → is_case_at tree p d ≡ true
      → is_none (level_within k tree p) ≡ false
      → is_none (level_within j tree p) ≡ false → outcome_within k tree logs d ≡ outcome_within j tree logs d

  -- a climb that reaches the root says the same within more steps
  pub same_within : (k j : ℕ) (q : ProcessId) (c : Case) → is_case_at tree q c ≡ true
      → is_none (level_within k tree q) ≡ false → is_none (level_within j tree q) ≡ false
      → outcome_within k tree logs c ≡ outcome_within j tree logs c
  same_within zero j q c own up on = absurd (cc)
  same_within (suc k) zero q c own up on = absurd (cc)
  same_within (suc k) (suc j) q c own up on =
      ap (decided_or (own_decision c (logs (process_of c))))
      (by_ticket (λ p d. same_within k j p d) c.ticket refl)
    where
      by_case : SameFor k j → (p : ProcessId) (u : Ticket) → is_none (level_within k tree p) ≡ false
          → is_none (level_within j tree p) ≡ false → (f : Option Case)
          → naming_case tree p c.txn u (logs p) ≡ f
          → said_above (outcome_within k tree logs) c.txn.presumption f
          ≡ said_above (outcome_within j tree logs) c.txn.presumption f
      by_case says p u up_there on_there None is = refl
      by_case says p u up_there on_there (Some d) is = says p d (naming_own p c.txn u d is) up_there on_there

      by_ticket : SameFor k j → (o : Option Ticket) → c.ticket ≡ o
          → asked_above (outcome_within k tree logs) tree logs c.txn o
          ≡ asked_above (outcome_within j tree logs) tree logs c.txn o
      by_ticket says None is = refl
      by_ticket says (Some u) is =
          let here : q ≡ u.child = sym (case_at q c own) ∙ owner_is c u is in
          let place : has_place (role_of tree u.child) (Some u) ≡ true =
          ap (λ p. has_place (role_of tree p) (Some u)) (sym here)
          ∙ ap (has_place (role_of tree q)) (sym is) ∙ place_of_case q c own in
          let p = parent_in (role_of tree u.child) u.child in
          let child : IsChildRole (role_of tree u.child) p =
          child_role (role_of tree u.child) u u.child place in
          by_case says p u
          (parent_climbs tree k u.child p child
          (ap (λ x. is_none (level_within (suc k) tree x)) (sym here) ∙ up))
          (parent_climbs tree j u.child p child
          (ap (λ x. is_none (level_within (suc j) tree x)) (sym here) ∙ on))
          (naming_case tree p c.txn u (logs p)) refl

-- what is said above a process with this parent is true; above the root nobody says anything
unfoldable pub IsAbove : List TreeProcess → KeptLogs → Option ProcessId → Option Outcomes → Type 0
IsAbove tree logs None above = above ≡ None
IsAbove tree logs (Some p) above = (s : Outcomes) × (above ≡ Some s) × SaysTruly tree logs p s

top_has_none : (k : Kind) (o : Option ProcessId) → has_place (role_by k o) None ≡ true → o ≡ None
top_has_none Coordinator None h = refl
top_has_none Manager None h = refl
top_has_none Coordinator (Some p) h = absurd (cc)
top_has_none Manager (Some p) h = absurd (cc)

pub child_has : (k : Kind) (o : Option ProcessId) (u : Ticket) (q : ProcessId)
    → has_place (role_by k o) (Some u) ≡ true
    → o ≡ Some (parent_in (role_by k o) q)
child_has Coordinator None u q h = absurd (cc)
child_has Manager None u q h = absurd (cc)
child_has Coordinator (Some p) u q h = refl
child_has Manager (Some p) u q h = refl

module _ (tree : List TreeProcess) (t : IsTree tree) (logs : KeptLogs) (e : TreeProcess)
    (found : IsFound tree e)
    (above : Option Outcomes) (said : IsAbove tree logs e.parent above) where
  role : role_of tree e.id ≡ role_by e.kind e.parent
  role = role_if tree e.id e found

  listed : is_listed tree e.id ≡ true
  listed = listed_if tree e.id e found

  -- what is said above a case is what the audit asks above it
  asked_is : (k : ℕ) → length tree ≡ suc k → (c : Case) → is_case_at tree e.id c ≡ true
      → (o : Option Ticket) → c.ticket ≡ o
      → said_by above c ≡ asked_above (outcome_within k tree logs) tree logs c.txn o
  unfolding IsAbove audited
  asked_is k size c own None is =
      let place : has_place (role_by e.kind e.parent) None ≡ true =
      ap (λ r. has_place r None) (sym role) ∙ ap (has_place (role_of tree e.id)) (sym is)
      ∙ place_of_case tree logs e.id c own in
      let top : e.parent ≡ None = top_has_none e.kind e.parent place in
      ap (λ a. said_by a c) (subst (λ o. IsAbove tree logs o above) top said)
  asked_is k size c own (Some u) is =
      let here : e.id ≡ u.child = sym (case_at tree logs e.id c own) ∙ owner_is c u is in
      let place : has_place (role_by e.kind e.parent) (Some u) ≡ true =
      ap (λ r. has_place r (Some u)) (sym role) ∙ ap (has_place (role_of tree e.id)) (sym is)
      ∙ place_of_case tree logs e.id c own in
      let p = parent_in (role_by e.kind e.parent) u.child in
      let up : e.parent ≡ Some p = child_has e.kind e.parent u u.child place in
      let there = subst (λ o. IsAbove tree logs o above) up said in
      let same_parent : parent_in (role_of tree u.child) u.child ≡ p =
      ap (λ q. parent_in (role_of tree q) u.child) (sym here) ∙ ap (λ r. parent_in r u.child) role in
      let named : c ≡ child_case c.txn u = ap
      (λ (o : Option Ticket). let d : Case = record { txn = c.txn; ticket = o } in d) is in
      let child : IsChildRole (role_of tree e.id) p =
      subst (λ r. IsChildRole r p) (sym role) (child_role (role_by e.kind e.parent) u u.child place) in
      let level : is_none (level_within (suc k) tree e.id) ≡ false =
      subst (λ n. is_none (level_within n tree e.id) ≡ false) size (climbs tree t e.id listed) in
      ap (λ a. said_by a c) there.1
      ∙ ap (λ d. unwrap_or (lookup (same d) there.0) (presumed c.txn.presumption)) named
      ∙ ap (λ a. unwrap_or a (presumed c.txn.presumption)) (there.2 c.txn u)
      ∙ by_case p (parent_listed tree t e.id p e found up) (parent_climbs tree k e.id p child level)
      (naming_case tree p c.txn u (logs p)) refl
      ∙ ap (λ q. said_above (outcome_within k tree logs) c.txn.presumption
      (naming_case tree q c.txn u (logs q))) (sym same_parent)
    where
      by_case : (p : ProcessId) → is_listed tree p ≡ true
          → is_none (level_within k tree p) ≡ false → (f : Option Case)
          → naming_case tree p c.txn u (logs p) ≡ f
          → unwrap_or (option_map (audited tree logs) f) (presumed c.txn.presumption)
          ≡ said_above (outcome_within k tree logs) c.txn.presumption f
      by_case p there level None is = refl
      by_case p there level (Some d) is =
          same_within tree logs (length tree) k p d (naming_own tree logs p c.txn u d is)
          (climbs tree t p there) level

  -- a case's outcome by its notes is the audit's
  pub outcome_is : (c : Case) → is_case_at tree e.id c ≡ true
      → outcome_in above c (note_of (logs e.id) c) ≡ audited tree logs c
  unfolding audited
  outcome_is c own =
      let size = has_entry tree e.id listed in
      ap (λ d. decided_or d (said_by above c)) (decision_is c (logs e.id))
      ∙ ap (λ q. decided_or (own_decision c (logs q)) (said_by above c)) (sym (case_at tree logs e.id c own))
      ∙ ap (decided_or (own_decision c (logs (process_of c)))) (asked_is size.0 size.1 c own c.ticket refl)
      ∙ ap (λ n. outcome_within n tree logs c) (sym size.1)

  module _ (x : Txn) (u : Ticket) where
    first_is : (cs : List Case) → EachCase (λ c. is_case_at tree e.id c ≡ true) cs
        → outcome_at above (find (names x u) (map (λ c. (c, note_of (logs e.id) c)) cs))
        ≡ option_map (audited tree logs)
        (find (λ c. (same_txn c.txn x && has (is_naming c u) (logs e.id)) && is_case_at tree e.id c) cs)
    unfolding EachCase
    first_is [] all = refl
    first_is (c ∷ cs) all =
        by_test (names x u (c, note_of (logs e.id) c)) (first_is cs all.1)
        ∙ ap (λ b. option_map (audited tree logs) (if b then Some c
        else find (λ c. (same_txn c.txn x && has (is_naming c u) (logs e.id)) && is_case_at tree e.id c) cs))
        tests
      where
        with_true : (b : Bool) → b ≡ (b && true)
        with_true true = refl
        with_true false = refl

        tests : names x u (c, note_of (logs e.id) c)
            ≡ ((same_txn c.txn x && has (is_naming c u) (logs e.id)) && is_case_at tree e.id c)
        tests =
            ap (λ b. same_txn c.txn x && b) (named-by c u (logs e.id))
            ∙ with_true (same_txn c.txn x && has (is_naming c u) (logs e.id))
            ∙ ap (λ b. (same_txn c.txn x && has (is_naming c u) (logs e.id)) && b) (sym all.0)

        by_test : (b : Bool) → outcome_at above (find (names x u) (map (λ c. (c, note_of (logs e.id) c)) cs))
            ≡ option_map (audited tree logs)
            (find (λ c. (same_txn c.txn x && has (is_naming c u) (logs e.id)) && is_case_at tree e.id c) cs)
            → outcome_at above (if b then Some (c, note_of (logs e.id) c)
            else find (names x u) (map (λ c. (c, note_of (logs e.id) c)) cs))
            ≡ option_map (audited tree logs) (if b then Some c
            else find (λ c. (same_txn c.txn x && has (is_naming c u) (logs e.id))
            && is_case_at tree e.id c) cs)
        by_test true rest = ap Some (outcome_is c all.0)
        by_test false rest = rest

  -- what a process says by its notes it says truly
  pub says_truly : EachCase (λ c. is_case_at tree e.id c ≡ true) (cases_in (logs e.id)) → (s : Outcomes)
      → AreSaid above (notes_of (logs e.id)) s → SaysTruly tree logs e.id s
  says_truly all s are = λ x u. are x u ∙ first_is x u (cases_in (logs e.id)) all
