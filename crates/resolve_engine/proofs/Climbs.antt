-- What the steps upward say of how a case ends, an audit says.
use Rattle.std.proofs.Common.{◌≡◌, ◌∙◌, ℕ, zero, suc, Bool, true, false, Option, Some, None, is_none, option_map, List, ◌∷◌, fold, refl, sym, ap, subst, inl, inr}
use Rattle.protocol.specs.declared.names.Case.{Case}
use Rattle.protocol.specs.declared.names.Outcome.{Outcome}
use Rattle.protocol.specs.declared.names.Outcome.TheVariants.{Aborted}
use Rattle.protocol.specs.declared.names.ProcessId.{ProcessId}
use Rattle.protocol.specs.declared.names.Ticket.{Ticket}
use Rattle.protocol.specs.declared.names.Txn.{Txn}
use Rattle.protocol.specs.declared.trees.TreeProcess.{TreeProcess}
use Rattle.protocol.specs.Names.{presumed, process_of, same_txn}
use Rattle.protocol.specs.NameLaws.{same_txn_tells}
use Rattle.protocol.specs.Nodes.{Role, AtRoot, Below, AtLeaf, is_listed, role_of}
use Rattle.protocol.specs.Records.{has}
use Rattle.protocol.specs.Trees.{IsTree, entry_parent, level_within, parent_of}
use Rattle.protocol.specs.World.{Made, World}
use Rattle.proof_processes.specs.WorldHolds.{IsChildRole, WorldHolds}
use Rattle.protocol.specs.Audits.{is_naming, parent_in}
use Rattle.proof_processes.proofs.Levels.{parent_climbs, parent_is}
use Rattle.proof_processes.proofs.Tests.{both}
use Rattle.protocol.specs.Audits.{KeptLogs, asked_above, decided_or, has_place, is_case_at, logs_of_world, naming_case, outcome_within, own_decision, said_above, since_promise}
use Rattle.proof_headline.proofs.runs.Headline.{the_world_holds}
use Rattle.audit_cases.specs.Kinds.{kinds_of}
use Rattle.audit_cases.specs.Notes.{note_of, notes_of}
use Rattle.log_script.specs.declared.line.ProcessLog.{ProcessLog}
use Rattle.log_script.specs.Logs.{has_log}
use Rattle.audit_tree.specs.Reports.{kept_lists}
use Rattle.audit_tree.proofs.Outcomes.{case_at, naming_own, owner_is, place_of_case}
use Rattle.audit_tree.proofs.TreePlaces.{listed_entry, parent_listed}
use Rattle.audit_engine.specs.declared.steps.StepFound.{StepFound}
use Rattle.audit_engine.specs.declared.steps.StepFound.TheVariants.{Kept as Finds}
use Rattle.audit_engine.specs.declared.steps.Stands.{Stands}
use Rattle.audit_engine.specs.Chains.{asks_on, found_in, steps_by, steps_on, steps_within}
use Rattle.audit_engine.specs.Namings.{finds, found_by, stands_in}
use Rattle.audit_engine.proofs.ChainLaws.{no_ticket}
use Rattle.resolve_engine.specs.declared.answer.BranchAnswer.{BranchAnswer}
use Rattle.resolve_engine.specs.declared.asked.Trust.{Trust}
use Rattle.resolve_engine.specs.Answers.{not_kept, step_answer, word_by}
use Rattle.resolve_engine.specs.Truths.{AreLogsKept}
use Rattle.resolve_engine.proofs.Namings.{asked_so, finds_naming, no_log_keeps, none_finds}
use Rattle.resolve_engine.proofs.Standings.{decides, naming_no_branch, stands_decides}
use Rattle.resolve_engine.proofs.Words.{decided_ends, if_complete_is, kept_says, undecided_asks, undecided_says, unknown_is_none}

same_presumed : (x y : Txn) → same_txn x y ≡ true → x.presumption ≡ y.presumption
same_presumed x y h = elim (same_txn_tells x y) [
  | inl t ↦ ap (λ (z : Txn). z.presumption) t.1
  | inr f ↦ absurd (let g = f.0 in cc)
]

child_role : (role : Role) (u : Ticket) (q : ProcessId) → has_place role (Some u) ≡ true
    → IsChildRole role (parent_in role q)
child_role AtRoot u q h = absurd (cc)
child_role (Below p) u q h = refl
child_role (AtLeaf p) u q h = refl

-- a parent is listed
up_listed : (tree : List TreeProcess) → IsTree tree → (q p : ProcessId) → is_listed tree q ≡ true
    → parent_of tree q ≡ Some p → is_listed tree p ≡ true
unfolding parent_of
up_listed tree t q p listed up =
    let found = listed_entry tree q listed in
    parent_listed tree t q p found.0 found.1 (sym (ap entry_parent found.1) ∙ up)

-- The climb.

module _ (tree : List TreeProcess) (t : IsTree tree) (logs : List ProcessLog) (es : List Made) (w : World)
    (left : AreLogsKept tree logs es w) (trust : Trust) (c : Case) (o : Outcome) where
  abbrev keeps : KeptLogs
  keeps = kept_lists tree logs

  abbrev there : KeptLogs
  there = logs_of_world w

  holds : WorldHolds tree w
  holds = the_world_holds tree t es w left.is_run

  -- a case that is asked has no manager's record, and so its own decision is what stands of it
  own_is : (p : ProcessId) → is_listed tree p ≡ true → (x : Txn) (u : Ticket) (d : Case)
      → naming_case tree p x u (logs_of_world w p) ≡ Some d
      → own_decision d (logs_of_world w (process_of d))
      ≡ decides (stands_in (kinds_of d (since_promise d (logs_of_world w p))))
  own_is p listed x u d is =
      let named = (both (same_txn d.txn x) (has (is_naming d u) (there p))
      (asked_so tree p x u (there p) d is)).1 in
      ap (λ q. own_decision d (there q)) (case_at tree there p d (naming_own tree there p x u d is))
      ∙ stands_decides d (there p)
      (naming_no_branch (role_of tree p) (w.at p) d u (holds.nodes p listed).lasts named)

  -- Where the last of the steps from a case says how it ends, that is what an audit says above the case.
  -- Without a step the case is the root's, and what was answered before says only that it aborts.
  abbrev Says : ℕ → Type 0
  Says k = (d : Case) → d.txn.presumption ≡ c.txn.presumption → is_listed tree (process_of d) ≡ true
      → is_case_at tree (process_of d) d ≡ true → is_none (level_within (suc k) tree (process_of d)) ≡ false
      → (a : BranchAnswer) → (d.ticket ≡ None → a.word ≡ word_by o → Aborted ≡ o)
      → (fold (λ b s. step_answer trust logs c s) a (steps_within (suc k) tree (kept_lists tree logs) d)).word
      ≡ word_by o
      → asked_above (outcome_within k tree (logs_of_world w)) tree (logs_of_world w) d.txn d.ticket ≡ o

  -- what was found by the parent
  abbrev Above : ℕ → ProcessId → Ticket → Case → StepFound → Type 0
  Above k p u d f = (fold (λ b s. step_answer trust logs c s)
      (step_answer trust logs c (record { ticket = u; process = p; found = f }))
      (steps_on (steps_within k tree (kept_lists tree logs)) (asks_on f))).word ≡ word_by o
      → said_above (outcome_within k tree (logs_of_world w)) d.txn.presumption
      (naming_case tree p d.txn u (logs_of_world w p)) ≡ o

  module _ (k : ℕ) (says : Says k) (p : ProcessId) (listed : is_listed tree p ≡ true)
      (level : is_none (level_within (suc k) tree p) ≡ false) (u : Ticket) (d : Case)
      (presumes : d.txn.presumption ≡ c.txn.presumption) where
    module _ (e : Case) (is : naming_case tree p d.txn u (logs_of_world w p) ≡ Some e) where
      at_parent : process_of e ≡ p
      at_parent = case_at tree there p e (naming_own tree there p d.txn u e is)

      -- the parent's case decides by itself, or asks above in its turn
      by_decision : (s : Stands) (b : Option Outcome) → decides s ≡ b
          → own_decision e (logs_of_world w (process_of e)) ≡ b
          → (fold (λ b s. step_answer trust logs c s)
          (step_answer trust logs c (record { ticket = u; process = p; found = Finds e s }))
          (steps_on (steps_within (suc k) tree (kept_lists tree logs)) (asks_on (Finds e s)))).word
          ≡ word_by o
          → outcome_within (suc k) tree (logs_of_world w) e ≡ o
      by_decision s (Some b) here own answered =
          ap (λ z. decided_or z (asked_above (outcome_within k tree there) tree there e.txn e.ticket)) own
          ∙ kept_says trust s o b here
          (ap (λ z. (fold (λ b s. step_answer trust logs c s)
          (step_answer trust logs c (record { ticket = u; process = p; found = Finds e s }))
          (steps_on (steps_within (suc k) tree keeps) z)).word) (sym (decided_ends s e b here))
          ∙ answered)
      by_decision s None here own answered =
          ap (λ z. decided_or z (asked_above (outcome_within k tree there) tree there e.txn e.ticket)) own
          ∙ says e
          (same_presumed e.txn d.txn
          (both (same_txn e.txn d.txn) (has (is_naming e u) (there p))
          (asked_so tree p d.txn u (there p) e is)).0
          ∙ presumes)
          (subst (λ q. is_listed tree q ≡ true) (sym at_parent) listed)
          (subst (λ q. is_case_at tree q e ≡ true) (sym at_parent) (naming_own tree there p d.txn u e is))
          (subst (λ q. is_none (level_within (suc k) tree q) ≡ false) (sym at_parent) level)
          (step_answer trust logs c (record { ticket = u; process = p; found = Finds e s }))
          (λ root said. undecided_says trust s o here said)
          (ap (λ z. (fold (λ b s. step_answer trust logs c s)
          (step_answer trust logs c (record { ticket = u; process = p; found = Finds e s }))
          (steps_on (steps_within (suc k) tree keeps) z)).word) (sym (undecided_asks s e here))
          ∙ answered)

    -- by the parent's case that names the ticket
    by_naming : has_log logs p ≡ true → (f : Option Case)
        → naming_case tree p d.txn u (logs_of_world w p) ≡ f
        → Above (suc k) p u d (found_by (option_map (λ e. (e, note_of (logs_of_world w p) e)) f))
    by_naming here None is = λ answered.
        ap (said_above (outcome_within (suc k) tree there) d.txn.presumption) is
        ∙ ap presumed presumes
        ∙ if_complete_is trust (presumed c.txn.presumption) o
        (ap (λ b. (not_kept trust b p c).word) (sym here) ∙ answered)
    by_naming here (Some e) is = λ answered.
        ap (said_above (outcome_within (suc k) tree there) d.txn.presumption) is
        ∙ by_decision e is (stands_in (kinds_of e (since_promise e (there p)))) _ refl
        (own_is p listed d.txn u e is) answered

    -- by whether the parent's log is here
    by_log : (b : Bool) → has_log logs p ≡ b
        → Above (suc k) p u d (finds (notes_of (kept_lists tree logs p)) d.txn u)
    by_log true here =
        let same : keeps p ≡ there p = left.kept_there p listed here in
        subst (Above (suc k) p u d)
        (sym (ap (λ rs. finds (notes_of rs) d.txn u) same
        ∙ finds_naming tree logs t p listed (there p) same d.txn u))
        (by_naming here (naming_case tree p d.txn u (there p)) refl)
    by_log false none =
        subst (Above (suc k) p u d)
        (sym (ap (λ rs. finds (notes_of rs) d.txn u) (no_log_keeps tree logs p none) ∙ none_finds d.txn u))
        (λ answered. absurd (unknown_is_none p o
        (ap (λ b. (not_kept trust b p c).word) (sym none) ∙ answered)))

  -- the next case upward
  above : (k : ℕ) → ((j : ℕ) → k ≡ suc j → Says j) → (d : Case) → d.txn.presumption ≡ c.txn.presumption
      → (p : ProcessId) → is_listed tree p ≡ true → is_none (level_within k tree p) ≡ false → (u : Ticket)
      → Above k p u d (finds (notes_of (kept_lists tree logs p)) d.txn u)
  above zero says d presumes p listed level u = absurd (cc)
  above (suc j) says d presumes p listed level u =
      by_log j (says j refl) p listed level u d presumes (has_log logs p) refl

  -- by whether the case has a ticket
  by_ticket : (k : ℕ) → ((j : ℕ) → k ≡ suc j → Says j) → (d : Case) → d.txn.presumption ≡ c.txn.presumption
      → is_listed tree (process_of d) ≡ true → is_case_at tree (process_of d) d ≡ true
      → is_none (level_within (suc k) tree (process_of d)) ≡ false → (a : BranchAnswer)
      → (d.ticket ≡ None → a.word ≡ word_by o → Aborted ≡ o)
      → (fold (λ b s. step_answer trust logs c s) a (steps_within (suc k) tree (kept_lists tree logs) d)).word
      ≡ word_by o
      → (ticket : Option Ticket) → d.ticket ≡ ticket
      → asked_above (outcome_within k tree (logs_of_world w)) tree (logs_of_world w) d.txn ticket ≡ o
  by_ticket k says d presumes listed own level a root answered None is =
      root is (ap (λ ss. (fold (λ b s. step_answer trust logs c s) a ss).word)
      (sym (no_ticket tree keeps d (suc k) is)) ∙ answered)
  by_ticket k says d presumes listed own level a root answered (Some u) is =
      let here : process_of d ≡ u.child = owner_is d u is in
      let place : has_place (role_of tree u.child) (Some u) ≡ true =
      ap (λ q. has_place (role_of tree q) (Some u)) (sym here)
      ∙ ap (has_place (role_of tree (process_of d))) (sym is)
      ∙ place_of_case tree there (process_of d) d own in
      let p = parent_in (role_of tree u.child) u.child in
      let child : IsChildRole (role_of tree u.child) p = child_role (role_of tree u.child) u u.child place in
      let up : parent_of tree u.child ≡ Some p = parent_is tree u.child p child in
      let steps : steps_within (suc k) tree keeps d
      ≡ record { ticket = u; process = p; found = finds (notes_of (keeps p)) d.txn u }
      ∷ steps_on (steps_within k tree keeps) (asks_on (finds (notes_of (keeps p)) d.txn u)) =
      ap (λ x. steps_by (steps_within k tree keeps) (found_in keeps d.txn x) x
      (parent_of tree (process_of d))) is
      ∙ ap (λ q. steps_by (steps_within k tree keeps) (found_in keeps d.txn (Some u)) (Some u)
      (parent_of tree q)) here
      ∙ ap (steps_by (steps_within k tree keeps) (found_in keeps d.txn (Some u)) (Some u)) up in
      above k says d presumes p
      (up_listed tree t u.child p (subst (λ q. is_listed tree q ≡ true) here listed) up)
      (parent_climbs tree k u.child p child (subst
      (λ q. is_none (level_within (suc k) tree q) ≡ false) here level))
      u (ap (λ ss. (fold (λ b s. step_answer trust logs c s) a ss).word) (sym steps) ∙ answered)

  -- however many levels there are
  pub climb : (k : ℕ) → Says k
  climb zero = λ d presumes listed own level a root answered.
      by_ticket zero (λ j e. absurd (nothing j e)) d presumes listed own level a root answered d.ticket refl
    where
      nothing : (j : ℕ) → zero ≡ suc j → ⊥
      nothing j e = absurd (cc)
  climb (suc k) = λ d presumes listed own level a root answered.
      by_ticket (suc k) (λ j e. subst Says (less j e) (climb k)) d presumes listed own level a root answered
      d.ticket refl
    where
      less : (j : ℕ) → suc k ≡ suc j → k ≡ j
      less j e = cc
