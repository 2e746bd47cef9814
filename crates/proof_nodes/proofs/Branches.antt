-- What a node answers to `resolve` is how the transaction ends.
use Rattle.std.proofs.Common.{◌≡◌, ◌∙◌, ◌||◌, ◌&&◌, ℕ, Bool, true, false, if◌then◌else◌, is_none, is_some, Option, Some, None, List, [], ◌∷◌, find, inl, inr, refl, sym, ap, subst}
use Rattle.std.specs.List.{list_any}
use Rattle.protocol.specs.declared.names.Case.{Case}
use Rattle.protocol.specs.declared.names.Kind.{Kind}
use Rattle.protocol.specs.declared.names.Kind.TheVariants.{Coordinator, Manager}
use Rattle.protocol.specs.declared.names.Outcome.{Outcome}
use Rattle.protocol.specs.declared.names.ProcessId.{ProcessId}
use Rattle.protocol.specs.declared.records.LogRecord.{LogRecord}
use Rattle.protocol.specs.declared.trees.TreeProcess.{TreeProcess}
use Rattle.protocol.specs.LogNames.{own_records}
use Rattle.protocol.specs.Names.{same_process}
use Rattle.protocol.specs.NameLaws.{same_process_tells}
use Rattle.protocol.specs.Nodes.{Place, is_listed, kept, place_of, role_by, role_of}
use Rattle.protocol.specs.Outcomes.{outcome_of}
use Rattle.protocol.specs.Trees.{IsTree, has_wrong_roots, is_manager_kind, is_top}
use Rattle.protocol.specs.World.{Made, World}
use Rattle.protocol.proofs.LogNameLaws.{reads_back}
use Rattle.protocol.specs.Audits.{AllUp}
use Rattle.log_text.specs.Forms.{form_in, log_form}
use Rattle.log_rules.specs.order.Logs.{read_as}
use Rattle.log_script.specs.declared.line.ProcessLog.{ProcessLog}
use Rattle.log_script.specs.Faults.{first_damage}
use Rattle.log_script.specs.Logs.{bytes_of, has_log}
use Rattle.log_script.proofs.Formats.{second_form}
use Rattle.log_records.specs.Sights.{body, records_of}
use Rattle.log_records.specs.Texts.{records_in}
use Rattle.process_state.specs.States.{CoreState, form_of, kind_of_role}
use Rattle.tree_state.specs.Worlds.{WorldState}
use Rattle.proof_runs.specs.worlds.Follows.{FollowsBehindFaults, StandsAt}
use Rattle.proof_runs.proofs.worlds.Kept.{keeps_own}
use Rattle.tree_process.specs.Nodes.{SpellsLog}
use Rattle.proof_log_order.specs.Orders.{log_of}
use Rattle.audit_tree.specs.Reports.{entry_kind, kept_lists, whole_records}
use Rattle.audit_tree.proofs.TreePlaces.{listed_entry, named_so, not_found, role_if}
use Rattle.branch_names.specs.declared.cases.Naming.{Naming}
use Rattle.branch_names.specs.declared.cases.Naming.TheVariants as naming
use Rattle.resolve_engine.specs.declared.answer.BranchAnswer.{BranchAnswer}
use Rattle.resolve_engine.specs.declared.asked.Trust.{Trust}
use Rattle.resolve_engine.specs.Answers.{answer_of, word_by}
use Rattle.resolve_engine.specs.Reports.{naming_answer}
use Rattle.resolve_engine.specs.Truths.{AreLogsKept, IsCaseLeft}
use Rattle.resolve_engine.proofs.Sound.{IsSoundLog, sound_at, sound_records}
use Rattle.resolve_engine.proofs.TrueAnswers.{answers_true}
use Rattle.node_lines.specs.declared.asked.NodeLine.TheVariants as asked
use Rattle.node_engine.specs.Answers.{AnswersAsked, AnswersLine, FindsInLog, NodeState, Resolves, TellsName, is_root}
use Rattle.node_engine.specs.Branches.{IsBranchAnswer, name_text, own_logs, trust_of}
use Rattle.proof_nodes.specs.Nodes.{Sits}
use Rattle.proof_nodes.specs.Branches.{BranchesAreTold, EndsSo, TellsBranch}
use Rattle.proof_nodes.proofs.Finding.{logged_are}

-- The log of one process.

-- the bytes are its own
own_bytes : (q : ProcessId) (log : List ℕ) → bytes_of (own_logs q log) q ≡ log
unfolding bytes_of
own_bytes q log = elim (same_process_tells q q) [
  | inl t ↦ ap (λ b. if b then log else []) t.0
  | inr z ↦ absurd (z.1 refl)
]

-- no other process has one
own_alone : (q p : ProcessId) (log : List ℕ) → has_log (own_logs q log) p ≡ true → q ≡ p
unfolding has_log
own_alone q p log h = elim (same_process_tells q p) [
  | inl t ↦ t.1
  | inr z ↦ absurd (let clash : true ≡ false = sym h ∙ ap (λ b. b || false) z.0 in cc)
]

-- its kind is its entry's
kind_again : (k : Kind) (o : Option ProcessId) → (is_none o && is_manager_kind k) ≡ false
    → kind_of_role (role_by k o) ≡ k
kind_again Coordinator None h = refl
kind_again Coordinator (Some p) h = refl
kind_again Manager (Some p) h = refl
kind_again Manager None h = absurd (cc)

second_false : (a b : Bool) → (a || b) ≡ false → b ≡ false
second_false true b h = absurd (cc)
second_false false b h = h

pub entry_log : (tree : List TreeProcess) → IsTree tree → (q : ProcessId) (e : TreeProcess)
    → find (λ x. same_process x.id q) tree ≡ Some e → kind_of_role (role_of tree q) ≡ e.kind
unfolding has_wrong_roots
entry_log tree t q e found =
    ap kind_of_role (role_if tree q e found)
    ∙ kind_again e.kind e.parent
    (not_found (λ x. is_top x && is_manager_kind x.kind) (λ x. same_process x.id q) tree e
    (second_false _ _ t.one_coordinator_on_top) found)

-- What it keeps.

module _ (s : WorldState) (es : List Made) (w : World) (t : IsTree s.tree) (f : FollowsBehindFaults es w s)
    (q : ProcessId) (c : CoreState) (there : s.node_at q ≡ Some c) (log : List ℕ) (spells : SpellsLog c log)
    (none : first_damage s.tree (own_logs q log) ≡ None) where
  at : StandsAt w s q c
  at = let h = f.follows.nodes q c there in record { place = h.place; stands = h.stands }

  listed : is_listed s.tree q ≡ true
  listed = sym (f.follows.listed q) ∙ ap is_some there

  -- what is read of it is what the process keeps
  records_are : own_records (place_of s.tree q) (records_of c.log.kept) ≡ kept (w.at q)
  records_are =
      ap (own_records (place_of s.tree q)) (logged_are s w q c at)
      ∙ reads_back (place_of s.tree q) (kept (w.at q)) (keeps_own s.tree es w t f.follows.is_run q listed)

  kept_by : (e : TreeProcess) → find (λ x. same_process x.id q) s.tree ≡ Some e → e.id ≡ q
      → kept_lists s.tree (own_logs q log) q ≡ kept (w.at q)
  unfolding kept_lists
  kept_by e found here =
      let logs = own_logs q log in
      let mine : form_of c.place ≡ log_form q e.kind =
      ap (λ (p : Place). log_form p.me (kind_of_role c.place.role)) at.place
      ∙ ap (log_form q) (ap (λ (p : Place). kind_of_role p.role) at.place ∙ entry_log s.tree t q e found) in
      let sound = subst (λ p. IsSoundLog p e.kind (bytes_of logs p)) here
      (sound_at logs s.tree q e none found) in
      ap (λ o. own_records (place_of s.tree q) (whole_records (read_as q (entry_kind o) (bytes_of logs q))))
      found
      ∙ ap (own_records (place_of s.tree q))
      (sound_records (form_in (bytes_of logs q) q e.kind) (bytes_of logs q) sound.records
      sound.torn sound.read
      ∙ ap (λ bytes. records_in (form_in bytes q e.kind) 0 (body bytes)) (own_bytes q log)
      ∙ ap (λ g. records_in g 0 (body log)) (second_form log q e.kind spells.begins ∙ sym mine)
      ∙ spells.read)
      ∙ records_are

  kept_is : kept_lists s.tree (own_logs q log) q ≡ kept (w.at q)
  kept_is =
      let found = listed_entry s.tree q listed in
      kept_by found.0 found.1 (named_so s.tree q found.0 found.1)

  are_left : AllUp s.tree w → AreLogsKept s.tree (own_logs q log) es w
  are_left up = record {
    is_run = f.follows.is_run;
    all_up = up;
    kept_there = λ p here has.
        subst (λ (r : ProcessId). kept_lists s.tree (own_logs q log) r ≡ kept (w.at r))
        (own_alone q p log has) kept_is;
  }

-- What is told.

module _ (s : WorldState) (es : List Made) (w : World) (t : IsTree s.tree) (f : FollowsBehindFaults es w s)
    (up : AllUp s.tree w) (old : NodeState) (sits : Sits s old) (name text : List ℕ) where
  ends_so : (of : Naming) (trust : Trust) (a : BranchAnswer) (log : List ℕ) → SpellsLog old.core log
      → IsBranchAnswer old.tree (own_logs old.me log) trust of (Some a) → EndsSo old w log of a
  ends_so of trust a log spells is c named left o says =
      let logs = own_logs old.me log in
      let none : first_damage s.tree logs ≡ None =
      subst (λ (tree : List TreeProcess). first_damage tree logs ≡ None) sits.tree is.0 in
      answers_true s.tree logs es w t (are_left s es w t f old.me old.core sits.core log spells none up) c
      (subst (λ (tree : List TreeProcess). IsCaseLeft tree logs w c) sits.tree left) trust o
      (subst (λ (tree : List TreeProcess). (answer_of trust tree logs (kept_lists tree logs) c).word
      ≡ word_by o) sits.tree
      (sym (ap (λ (x : BranchAnswer). x.word)
      (is.1 ∙ ap (naming_answer (answer_of trust old.tree logs (kept_lists old.tree logs))) named)) ∙ says))

  by_answer : (h : Resolves old name text) (answer : Option BranchAnswer) → h.answer ≡ answer
      → TellsBranch old w name text
  by_answer h None is = inr (inl (h.told ∙ ap (name_text old.manner name) is))
  by_answer h (Some a) is = inl (record {
    of = h.of;
    named = h.named;
    log = h.finds.log;
    answer = a;
    told = h.told ∙ ap (name_text old.manner name) is;
    so = ends_so h.of (trust_of (is_root old) old.core h.of) a h.finds.log h.finds.spells
        (subst (λ (o : Option BranchAnswer).
        IsBranchAnswer old.tree (own_logs old.me h.finds.log) (trust_of (is_root old) old.core h.of) h.of o)
        is h.finds.is_answer);
  })

  by_text : TellsName old name text → TellsBranch old w name text
  by_text (inl h) = by_answer h.1 h.1.answer refl
  by_text (inr h) = inr (inr h.1)

pub branches_are_told : BranchesAreTold
branches_are_told s es w t f up old new sits line text name h asks =
    by_text s es w t f up old sits name text (subst (λ a. AnswersAsked a old new text) asks h.answers).1
