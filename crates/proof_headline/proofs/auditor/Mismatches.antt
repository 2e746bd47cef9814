-- The mismatches that an audit shows are those that stand.
use Rattle.std.proofs.Common.{◌≡◌, ◌∙◌, ◌⊎◌, inl, inr, ◌&&◌, ℕ, Bool, true, false, not, Option, Some, None, List, [], ◌∷◌, refl, sym, ap, subst, arith}
use Rattle.protocol.specs.declared.names.Case.{Case}
use Rattle.protocol.specs.declared.names.Outcome.{Outcome}
use Rattle.protocol_words.specs.Variants.{AbortedOutcome, CommittedOutcome}
use Rattle.protocol.specs.declared.names.ProcessId.{ProcessId}
use Rattle.protocol.specs.declared.names.Ticket.{Ticket}
use Rattle.protocol.specs.declared.names.Txn.{Txn}
use Rattle.protocol.specs.declared.messages.Message.{Message}
use Rattle.protocol.specs.declared.messages.Message.TheVariants.{Join, Joined, Work, Prepare, Yes, No, Read, Commit, Abort, Ack, Inquire}
use Rattle.protocol.specs.declared.messages.Envelope.{Envelope}
use Rattle.protocol.specs.declared.records.Record.{Record}
use Rattle.protocol.specs.declared.records.Record.TheVariants.{Opened}
use Rattle.protocol.specs.declared.trees.TreeProcess.{TreeProcess}
use Rattle.protocol.specs.Names.{child_case, process_of, root_case, same_case, same_owner, same_process, same_txn}
use Rattle.protocol.specs.NameLaws.{same_process_tells}
use Rattle.protocol.specs.Records.{has, is_decided, is_forgot, is_heuristic, is_prepared}
use Rattle.protocol.specs.Nodes.{Role, AtRoot, Below, AtLeaf, Node, is_listed, kept, opened_node, place_of, role_of}
use Rattle.protocol.specs.Standings.{Unmarked}
use Rattle.protocol.specs.Outcomes.{DecisionStands, sent}
use Rattle.protocol.specs.World.{World}
use Rattle.proof_pairs.specs.Invariant.{Common}
use Rattle.proof_pairs.specs.readings.ReadingOf.{gives_case}
use Rattle.protocol.specs.Audits.{is_promise}
use Rattle.proof_pairs.specs.turns.Written.{is_coordinators}
use Rattle.proof_processes.specs.Lasts.{Coordinates, Lasts, Manages, Nested, logs_of}
use Rattle.proof_processes.specs.Marks.{in_order_from, is_managers}
use Rattle.proof_processes.specs.Numbers.{IsIssuer}
use Rattle.proof_processes.specs.WorldHolds.{IsPair, WorldHolds, is_record_of, pair_reading}
use Rattle.proof_processes.proofs.PairOf.{Given, common_of, given}
use Rattle.proof_processes.proofs.Tests.{and, both, either, in_either, in_first, last_or, not_both}
use Rattle.proof_processes.proofs.Worlds.{has_other}
use Rattle.proof_headline.proofs.Ends.{has_either, issues_in}
use Rattle.proof_headline.proofs.Pairs.{joined_pair}
use Rattle.proof_headline.proofs.Parts.{case_parts}
use Rattle.protocol.specs.Audits.{AllUp, has_line, has_line_in, has_place, is_case_at, is_root_role, logs_of_world, since_promise}
use Rattle.proof_headline.proofs.auditor.Sinces.{line_same, of_decided, reads_same}
use Rattle.proof_headline.proofs.auditor.Decisions.{decided_once, heuristic_of, never_forgotten}

-- Who decides: a manager.

manages : (d : Case) (o : Outcome) (r : Record) → is_decided d o r ≡ true → is_managers r ≡ true
manages d CommittedOutcome r e = grind arith
manages d AbortedOutcome r e = grind arith

never_opened : (d : Case) (o : Outcome) → has (is_decided d o) (kept opened_node) ≡ false
unfolding has
never_opened d CommittedOutcome = refl
never_opened d AbortedOutcome = refl

record ByManager (role : Role) (n : Node) : Type 0 where
  parent : ProcessId
  leaf : role ≡ AtLeaf parent
  manager : Manages (logs_of n)

no_opened : (d : Case) (o : Outcome) (k : ℕ) → is_decided d o (Opened k) ≡ false
no_opened d CommittedOutcome k = refl
no_opened d AbortedOutcome k = refl

no_coordinator : {A : Type 0} (n : Node) (d : Case) (o : Outcome) → Nested (logs_of n)
    → Coordinates (logs_of n)
    → has (is_decided d o) (kept n) ≡ true → A
no_coordinator n d o nested l e =
    not_both is_managers (has is_managers n.life)
    (has_other (is_decided d o) is_managers n.life (manages d o)
    (nested.kept_was_written (is_decided d o) (no_opened d o) e)) l.no_managers_record

by_manager : (role : Role) (n : Node) (d : Case) (o : Outcome) → Lasts role (logs_of n)
    → has (is_decided d o) (kept n) ≡ true → ByManager role n
by_manager (AtLeaf p) n d o l e = record { parent = p; leaf = refl; manager = l.by_role }
by_manager AtRoot n d o l e = no_coordinator n d o l.nested l.by_role e
by_manager (Below p) n d o l e = no_coordinator n d o l.nested l.by_role e

-- JOINED gives no case of the root.

gives_none : (x : Txn) (m : Message) → gives_case (root_case x) m ≡ false
unfolding same_case same_owner
gives_none x (Joined d u) = and_false (same_txn d.txn x)
  where
    and_false : (a : Bool) → (a && false) ≡ false
    and_false true = refl
    and_false false = refl
gives_none x (Join d) = refl
gives_none x (Work d i op) = refl
gives_none x (Prepare d k) = refl
gives_none x (Yes d) = refl
gives_none x (No d) = refl
gives_none x (Read d) = refl
gives_none x (Commit d) = refl
gives_none x (Abort d) = refl
gives_none x (Ack d o fs) = refl
gives_none x (Inquire d) = refl

none_given : {A : Type 0} (x : Txn) (net : List Envelope) → sent (gives_case (root_case x)) net ≡ true → A
unfolding sent
none_given x [] e = absurd (cc)
none_given x (l ∷ ls) e = elim (either (gives_case (root_case x) l.message) (sent (gives_case
    (root_case x)) ls) e) [
      | inl now ↦ absurd (let y = sym (gives_none x l.message) ∙ now in cc)
      | inr rest ↦ none_given x ls rest
    ]

-- Records.

record_of : (d : Case) (o : Outcome) (r : Record) → is_decided d o r ≡ true → is_record_of d r ≡ true
record_of d CommittedOutcome r e = grind arith
record_of d AbortedOutcome r e = grind arith

promise_by : (d : Case) (r : Record) → is_promise d r ≡ true → (is_prepared d r ≡ true)
    ⊎ (is_coordinators r ≡ true)
promise_by d r e = grind arith

same_process_itself : (q : ProcessId) → same_process q q ≡ true
same_process_itself q = elim (same_process_tells q q) [ inl t ↦ t.0 | inr f ↦ absurd (f.1 refl) ]

not_so : (b : Bool) → not b ≡ true → b ≡ false
not_so true e = absurd (cc)
not_so false e = refl

so_not : (b : Bool) → b ≡ false → not b ≡ true
so_not true e = absurd (cc)
so_not false e = refl

placed : (role : Role) (p : ProcessId) (t : Ticket) → role ≡ AtLeaf p → has_place role (Some t) ≡ true
placed (AtLeaf q) p t e = refl
placed AtRoot p t e = absurd (cc)
placed (Below q) p t e = absurd (cc)

issues_there : (role : Role) (p : ProcessId) → role ≡ AtLeaf p → IsIssuer role
issues_there (AtLeaf q) p e = tt
issues_there AtRoot p e = absurd (cc)
issues_there (Below q) p e = absurd (cc)

-- What stands with a decision that is kept.

module _ (tree : List TreeProcess) (w : World) (h : WorldHolds tree w) (up : AllUp tree w) where
  pub record Found (c : Case) (o : Outcome) : Type 0 where
    pub forced : has (is_decided c o) (w.at (process_of c)).forced ≡ true
    pub durable : has (is_decided c o) (w.at (process_of c)).durable ≡ true
    pub prepared : has (is_prepared c) (kept (w.at (process_of c))) ≡ true
    pub case_at : is_case_at tree (process_of c) c ≡ true
    pub parent : ProcessId
    pub leaf : role_of tree (process_of c) ≡ AtLeaf parent
    pub in_order : in_order_from c Unmarked (kept (w.at (process_of c))) ≡ true

  module _ (x : Txn) (t : Ticket) (o : Outcome) (listed : is_listed tree t.child ≡ true)
      (decided : has (is_decided (child_case x t) o) (kept (w.at t.child)) ≡ true)
      (given_so : sent (gives_case (child_case x t)) w.net ≡ true)
    where
      abbrev n : Node
      n = w.at t.child

      abbrev d : Case
      d = child_case x t

      lasts : Lasts (role_of tree t.child) (logs_of (w.at t.child))
      lasts = (h.nodes t.child listed).lasts

      manager : ByManager (role_of tree t.child) (w.at t.child)
      manager = by_manager (role_of tree t.child) n d o lasts decided

      g : Given w.net x t
      g = given w.net x t given_so

      pair : IsPair tree g.of t
      pair = (joined_pair tree w h g.of t g.joined).0

      common : Common (pair_reading tree w g.of t)
      common = common_of g.of.txn.presumption _ (joined_pair tree w h g.of t g.joined).1

      heuristic : has (is_heuristic (child_case x t)) (kept (w.at t.child)) ≡ true
      heuristic = has_other (is_decided d o) (is_heuristic d) (kept n) (heuristic_of d o) decided

      heuristic_forced : has (is_heuristic (child_case x t)) (w.at t.child).forced ≡ true
      heuristic_forced =
          subst (λ (y : Txn). has (is_heuristic (child_case y t)) (kept (w.at t.child)) ≡ true
          → has (is_heuristic (child_case y t)) (w.at t.child).forced ≡ true) g.same
          (λ e. common.heuristic_is_forced e (up t.child listed)) heuristic

      promised : has (is_promise (child_case x t)) (kept (w.at t.child)) ≡ true
      promised =
          subst (λ (y : Txn). has (is_heuristic (child_case y t)) (kept (w.at t.child)) ≡ true
          → has (is_promise (child_case y t)) (kept (w.at t.child)) ≡ true) g.same
          (λ e. (common.heuristic_stands_behind e).0) heuristic

      prepared : has (is_prepared (child_case x t)) (kept (w.at t.child)) ≡ true
      prepared = elim (has_either (is_promise d) (is_prepared d) is_coordinators (kept n)
          (promise_by d) promised) [
            | inl e ↦ e
            | inr e ↦ not_both is_coordinators (has is_coordinators n.life)
                (lasts.nested.kept_was_written is_coordinators
                (λ k. refl) e) manager.manager.no_coordinators_record
          ]

      decided_forced : has (is_decided (child_case x t) o) (w.at t.child).forced ≡ true
      decided_forced = elim (in_either (is_decided d o) n.forced n.unforced decided) [
        | inl e ↦ e
        | inr e ↦ not_both (is_heuristic d) (has (is_heuristic d) n.unforced)
            (has_other (is_decided d o) (is_heuristic d) n.unforced (heuristic_of d o) e)
            (decided_once d Unmarked n.forced n.unforced (manager.manager.in_order d) heuristic_forced)
      ]

      found_branch : Found (child_case x t) o
      found_branch = record {
        forced = decided_forced;
        durable = lasts.nested.forced_is_old (is_decided d o) decided_forced;
        prepared = prepared;
        case_at = and _ _ (and _ _ (same_process_itself t.child) (placed
            (role_of tree t.child) manager.parent t
            manager.leaf))
            (and _ _ (ap (λ (y : Txn). is_listed tree y.root) (sym g.same) ∙ pair.parent.top_listed)
            (ap (λ (y : Txn). is_root_role (role_of tree y.root)) (sym g.same)
            ∙ ap is_root_role pair.parent.top));
        parent = manager.parent;
        leaf = manager.leaf;
        in_order = manager.manager.in_order d;
      }

  pub found : (c : Case) (o : Outcome) → is_listed tree (process_of c) ≡ true
      → has (is_decided c o) (kept (w.at (process_of c))) ≡ true → Found c o
  found c o listed decided =
      by_ticket c.ticket refl
    where
      given_so : sent (gives_case c) w.net ≡ true
      given_so =
          let q = process_of c in
          let n = w.at q in
          let node = h.nodes q listed in
          let manager = by_manager (role_of tree q) n c o node.lasts decided in
          ((issues_in (role_of tree q) (place_of tree q) w.net n (issues_there
          (role_of tree q) manager.parent manager.leaf)
          node.role).recorded_is_given c (has_other (is_decided c o) (is_record_of c) n.life (record_of c o)
          (node.lasts.nested.kept_was_written (is_decided c o) (no_opened c o) decided))).1

      by_ticket : (b : Option Ticket) → c.ticket ≡ b → Found c o
      by_ticket None f =
          none_given c.txn w.net (subst (λ (a : Case). sent (gives_case a) w.net ≡ true)
          (case_parts c c.txn None refl f) given_so)
      by_ticket (Some t) f =
          subst (λ (a : Case). is_listed tree (process_of a) ≡ true
          → has (is_decided a o) (kept (w.at (process_of a))) ≡ true → sent (gives_case a) w.net ≡ true
          → Found a o)
          (sym (case_parts c c.txn (Some t) refl f)) (found_branch c.txn t o) listed decided given_so

  -- an unlisted process decided nothing
  pub listed_so : (c : Case) (o : Outcome) → has (is_decided c o) (kept (w.at (process_of c))) ≡ true
      → is_listed tree (process_of c) ≡ true
  listed_so c o e = by_listed (is_listed tree (process_of c)) refl
    where
      by_listed : (b : Bool) → is_listed tree (process_of c) ≡ b → is_listed tree (process_of c) ≡ true
      by_listed true f = f
      by_listed false f = not_both (is_decided c o) (has (is_decided c o) (kept opened_node))
          (subst (λ (n : Node). has (is_decided c o) (kept n) ≡ true) (h.unlisted (process_of c) f) e)
          (never_opened c o)

  -- a line, and a decision, from the last Prepared on

  line_since : (c : Case) → is_listed tree (process_of c) ≡ true
      → has_line_in (role_of tree (process_of c)) c (since_promise c (kept (w.at (process_of c))))
      ≡ has_line_in (role_of tree (process_of c)) c (kept (w.at (process_of c)))
  line_since c listed =
      line_same (role_of tree (process_of c)) (w.at (process_of c)) c (h.nodes (process_of c) listed).lasts
      (role_of tree (process_of c))

  decided_since : (c : Case) (o : Outcome) → is_listed tree (process_of c) ≡ true
      → has (is_decided c o) (since_promise c (kept (w.at (process_of c))))
      ≡ has (is_decided c o) (kept (w.at (process_of c)))
  decided_since c o listed =
      reads_same (role_of tree (process_of c)) (w.at (process_of c)) c (h.nodes (process_of c) listed).lasts
      (is_decided c o) (of_decided c o)

  -- a line of a manager's case
  pub has_branch_line : (c : Case) (o : Outcome) → Found c o → is_listed tree (process_of c) ≡ true
      → has (is_forgot c) (kept (w.at (process_of c))) ≡ false → has_line tree (logs_of_world w) c ≡ true
  has_branch_line c o f listed none =
      and _ _ listed (and _ _ f.case_at
      (line_since c listed ∙ subst (λ (r : Role). has_line_in r c (kept (w.at (process_of c)))
      ≡ true) (sym f.leaf)
      (and _ _ f.prepared (so_not (has (is_forgot c) (kept (w.at (process_of c)))) none))))

  pub branch_line_forgets_not : (c : Case) (o : Outcome) → Found c o → has_line tree (logs_of_world w) c
      ≡ true
      → has (is_forgot c) (kept (w.at (process_of c))) ≡ false
  branch_line_forgets_not c o f line =
      let g = both (is_listed tree (process_of c)) _ line in
      let shows = sym (line_since c g.0) ∙ (both (is_case_at tree (process_of c) c) _ g.1).1 in
      not_so (has (is_forgot c) (kept (w.at (process_of c))))
      (both (has (is_prepared c) (kept (w.at (process_of c)))) _
      (subst (λ (r : Role). has_line_in r c (kept (w.at (process_of c))) ≡ true) f.leaf shows)).1

  -- the decision that a line shows stands
  pub shown_stands : (c : Case) (o : Outcome) → has_line tree (logs_of_world w) c ≡ true
      → has (is_decided c o) (since_promise c (kept (w.at (process_of c)))) ≡ true
      → (has (is_decided c o) (w.at (process_of c)).durable ≡ true)
      × DecisionStands (w.at (process_of c)) c o
  shown_stands c o line shown =
      let listed = (both (is_listed tree (process_of c)) _ line).0 in
      let decided = sym (decided_since c o listed) ∙ shown in
      let f = found c o listed decided in
      let rs = kept (w.at (process_of c)) in (
        f.durable,
        record {
          is_forced = f.forced;
          not_forgotten = elim (last_or (is_decided c o) (is_forgot c) rs decided) [
            | inl e ↦ e
            | inr e ↦ not_both (is_forgot c) (has (is_forgot c) rs) e (branch_line_forgets_not c o f line)
          ];
        },
      )

  -- and one that stands has a line
  pub standing_shows : (c : Case) (o : Outcome) → DecisionStands (w.at (process_of c)) c o
      → (has_line tree (logs_of_world w) c ≡ true)
      × (has (is_decided c o) (since_promise c (kept (w.at (process_of c)))) ≡ true)
  standing_shows c o s =
      let n = w.at (process_of c) in
      let decided = in_first (is_decided c o) n.forced n.unforced s.is_forced in
      let listed = listed_so c o decided in
      let f = found c o listed decided in (
        has_branch_line c o f listed (never_forgotten c o Unmarked (kept n) f.in_order s.not_forgotten),
        decided_since c o listed ∙ decided,
      )
