-- What a committed update costs a manager in a journal.
use Rattle.std.proofs.Common.{◌≡◌, ◌∙◌, ◌||◌, ◌==◌, ◌&&◌, not, ℕ, Bool, true, false, List, [], ◌∷◌, refl, sym, ap, subst, if◌then◌else◌}
use Rattle.std.specs.Prelude.{⊤, filter}
use Rattle.std.specs.List.{list_any}
use Rattle.protocol.specs.declared.names.Case.{Case}
use Rattle.protocol.specs.declared.names.Outcome.TheVariants.{Committed}
use Rattle.protocol.specs.declared.names.Presumption.{Presumption}
use Rattle.protocol.specs.declared.names.Presumption.TheVariants.{PresumeAbort, PresumeCommit}
use Rattle.protocol.specs.declared.names.ProcessId.{ProcessId}
use Rattle.protocol.specs.declared.messages.Envelope.{Envelope}
use Rattle.protocol.specs.declared.messages.Message.{Message}
use Rattle.protocol.specs.declared.messages.Message.TheVariants.{Ack, Commit, No, Prepare}
use Rattle.protocol.specs.declared.records.Record.{Record}
use Rattle.protocol.specs.declared.events.JournalEntry.{JournalEntry}
use Rattle.protocol_words.specs.Variants.{ActInput, Handles, MessageInput}
use Rattle.protocol.specs.declared.events.Input.{Input}
use Rattle.protocol.specs.declared.events.Reaction.{Reaction}
use Rattle.protocol.specs.declared.standings.Standing.{Standing}
use Rattle.protocol.specs.declared.standings.Standing.TheVariants.{Active}
use Rattle.protocol.specs.declared.trees.TreeProcess.{TreeProcess}
use Rattle.protocol.specs.Counts.{cost_of, manager_price, together}
use Rattle.protocol.specs.CoordinatorRows.{post}
use Rattle.protocol.specs.Nodes.{AtLeaf, Effect, Heard, Holding, Holds, Node, Place, ReadsOnly, Role, Version, after, kept, reaction_of}
use Rattle.protocol.specs.Outcomes.{is_yes_message}
use Rattle.protocol.specs.Standings.{ManagerView, manager_view, unknown_branch}
use Rattle.protocol.specs.ManagerRows.{Leaf, LeafRow, is_acknowledged}
use Rattle.protocol.specs.ManagerRows
use Rattle.protocol.specs.Reactions.{Does, leaf_effect, leaf_of, reacts}
use Rattle.protocol.specs.Views.{hears_message, leaf_place}
use Rattle.protocol.specs.World.{Continues, IsRun, Made, World, entries_of, journal_of}
use Rattle.proof_model.proofs.ManagerViewLaws.{manager_views}
use Rattle.proof_costs.specs.Journals.{Brings, ManagerCommits, ManagerPays, cause_of, causes, entries_cost, entry_cost, happening_is_of, is_of, message_is_of, of_case, shows_yes}
use Rattle.proof_costs.proofs.Chains.{Chain, Plain, chain_of, next_of, none_next, plain_of}
use Rattle.proof_costs.proofs.Entries.{IsOther, after_nothing, brought, entry_pays, is_other}
use Rattle.proof_costs.proofs.Handling.{acts_so, hears_so}
use Rattle.proof_costs.proofs.OtherBranches.{other_act, other_message}

-- The two rows.

module _ (l : Leaf) (ver : Version) (rs : List Record) where
  abbrev says_yes : List Envelope → Bool
  says_yes ls = list_any (λ x. is_yes_message l.own x.message) ls

  -- after PREPARE's row COMMIT's is paid for, if one of them said YES
  abbrev Paid : LeafRow → ManagerView → Type 0
  Paid r v = let q = ManagerRows.on_commit ver l rs v v.standing in
      (says_yes r.messages || (says_yes q.messages || false)) ≡ true
      → (together (cost_of r.written r.messages) (cost_of q.written q.messages)
      ≡ manager_price l.own.txn.presumption) × (q.view ≡ unknown_branch)

  obeyed : (p : Presumption) (r : Record)
      → together (record { records = 1; forced = 1; messages = 1 })
      (cost_of (record { entry = r; is_forced = is_acknowledged p Committed } ∷ [])
      (if is_acknowledged p Committed then post l.me l.parent (Ack l.own Committed []) ∷ [] else []))
      ≡ manager_price p
  obeyed PresumeAbort r = refl
  obeyed PresumeCommit r = refl

  unheard : {A : Type 0} (b : Bool) (fs : List _)
      → (says_yes (if b then post l.me l.parent (Ack l.own Committed fs) ∷ [] else []) || false) ≡ true → A
  unheard true fs e = absurd (cc)
  unheard false fs e = absurd (cc)

  by_holding : (holding : Holding) → let r = ManagerRows.active_prepare_holding l holding in Paid r r.view
  by_holding ReadsOnly = λ e. unheard (is_acknowledged l.own.txn.presumption Committed) _ e
  by_holding (Holds ws) = λ e. (obeyed l.own.txn.presumption (ManagerRows.ends_record l Committed), refl)

  by_done : (i : ℕ) (holding : Holding) (v : ManagerView)
      → let r = ManagerRows.on_prepare l i holding v Active in
      Paid r r.view
  by_done i holding v = by_test ((v.done == i) && not v.spoiled)
    where
      by_test : (b : Bool)
          → let r = if b then ManagerRows.active_prepare_holding l holding else ManagerRows.replies l (No l.own) unknown_branch in
          Paid r r.view
      by_test true = by_holding holding
      by_test false = λ e. unheard (is_acknowledged l.own.txn.presumption Committed) _ e

-- The entries of the case.

module _ (me p : ProcessId) (tree : List TreeProcess) (d : Case) where
  abbrev place : Place
  place = leaf_place me p tree

  abbrev see : Node → ManagerView
  see n = manager_view (leaf_place me p tree) n d

  abbrev Any : Node → Type 0
  Any n = ⊤

  heard_as : (h : Heard) (k : ℕ) (m : Message) → h.input ≡ MessageInput k m
      → h ≡ hears_message h.version k m h.data_answer
  heard_as h k m i = ap (λ (x : Input). record {
    input = x;
    data_answer = h.data_answer;
    version = h.version;
  }) i

  -- an entry of another case leaves this one
  leaves : (n : Node) (h : Heard) (e : Effect) (entry : JournalEntry) → Any n
      → entry.step.happening ≡ Handles h.input
      → entry.reaction ≡ reaction_of e → reacts place n h ≡ Does e → is_of (of_case d) entry ≡ false
      → see (after n h e) ≡ see n
  leaves n h e entry any hp sh r f = by_input h.input refl
    where
      other : IsOther (of_case d) entry
      other = is_other (of_case d) entry f

      unnamed : happening_is_of (of_case d) (Handles h.input) ≡ false
      unnamed = ap (happening_is_of (of_case d)) (sym hp) ∙ other.unnamed

      unsent : list_any (λ l. message_is_of (of_case d) l.message) e.messages ≡ false
      unsent = ap (λ (x : Reaction). list_any (λ l. message_is_of (of_case d) l.message) x.messages) (sym sh)
          ∙ other.unsent

      by_input : (i : Input) → h.input ≡ i → see (after n h e) ≡ see n
      by_input (MessageInput k m) i =
          let same = hears_so place n h e r k m i in
          subst (λ (x : Heard). see (after n x e) ≡ see n) (sym (heard_as h k m i))
          (subst (λ (x : Effect). see (after n (hears_message h.version k m h.data_answer) x) ≡ see n) same
          (other_message me p tree n d h.version k m h.data_answer
          (subst (λ (x : Input). happening_is_of (of_case d) (Handles x) ≡ false) i unnamed)
          (subst (λ (x : Effect). list_any (λ l. message_is_of (of_case d) l.message) x.messages ≡ false)
          (sym same) unsent)))
      by_input (ActInput a) i =
          subst (λ (x : Heard). see (after n x e) ≡ see n)
          (sym (ap (λ (x : Input). record { input = x; data_answer = h.data_answer; version = h.version }) i))
          (other_act me p tree n d h.version a h.data_answer e
          (subst (λ (x : Input). happening_is_of (of_case d) (Handles x) ≡ false) i unnamed)
          (acts_so place n h e r a i))

  -- PREPARE and COMMIT, as their rows have it
  prepares : (n : Node) (h : Heard) (e : Effect) → reacts place n h ≡ Does e → (k i : ℕ)
      → h.input ≡ MessageInput k (Prepare d i)
      → let row = ManagerRows.on_prepare (leaf_of place p d) i h.data_answer.holding (see n) (see n).standing in
      (leaf_effect row ≡ e) × (see (after n h e) ≡ row.view)
  prepares n h e r k i same =
      let so = hears_so place n h e r k (Prepare d i) same in
      let row = ManagerRows.on_prepare (leaf_of place p d) i h.data_answer.holding (see n) (see n).standing
      in (
        so,
        subst (λ (x : Heard). see (after n x e) ≡ row.view) (sym (heard_as h k (Prepare d i) same))
            (subst (λ (x : Effect). see (after n (hears_message h.version k (Prepare d i) h.data_answer) x)
            ≡ row.view) so
            ((manager_views h.version me p tree n d).prepare k i h.data_answer).moved),
      )

  commits : (n : Node) (h : Heard) (e : Effect) → reacts place n h ≡ Does e → (k : ℕ)
      → h.input ≡ MessageInput k (Commit d)
      → let row = ManagerRows.on_commit h.version (leaf_of place p d) (kept n) (see n) (see n).standing in
      (leaf_effect row ≡ e) × (see (after n h e) ≡ row.view)
  commits n h e r k same =
      let so = hears_so place n h e r k (Commit d) same in
      let row = ManagerRows.on_commit h.version (leaf_of place p d) (kept n) (see n) (see n).standing in (
        so,
        subst (λ (x : Heard). see (after n x e) ≡ row.view) (sym (heard_as h k (Commit d) same))
            (subst (λ (x : Effect). see (after n (hears_message h.version k (Commit d) h.data_answer) x)
            ≡ row.view) so
            ((manager_views h.version me p tree n d).commit k h.data_answer (kept n)).moved),
      )

  abbrev mine : List JournalEntry → List JournalEntry
  mine es = filter (is_of (of_case d)) es

  -- what two entries cost and say
  two_pay : (a b : JournalEntry) (r q : LeafRow) → a.reaction ≡ reaction_of (leaf_effect r)
      → b.reaction ≡ reaction_of (leaf_effect q)
      → entries_cost (a ∷ b ∷ []) ≡ together (cost_of r.written r.messages) (cost_of q.written q.messages)
  unfolding entries_cost
  two_pay a b r q e f =
      ap (λ c. together c (entry_cost b)) (after_nothing (entry_cost a) ∙ entry_pays a (leaf_effect r) e)
      ∙ ap (together (cost_of r.written r.messages)) (entry_pays b (leaf_effect q) f)

  two_say : (a b : JournalEntry) (r q : LeafRow) → a.reaction ≡ reaction_of (leaf_effect r)
      → b.reaction ≡ reaction_of (leaf_effect q) → list_any (shows_yes d) (a ∷ b ∷ []) ≡ true
      → (list_any (λ x. is_yes_message d x.message) r.messages
      || (list_any (λ x. is_yes_message d x.message) q.messages || false)) ≡ true
  two_say a b r q e f said =
      subst (λ (x : Reaction). (list_any (λ z. is_yes_message d z.message) x.messages
      || (list_any (λ z. is_yes_message d z.message) q.messages || false)) ≡ true) e
      (subst (λ (x : Reaction). (list_any (λ z. is_yes_message d z.message) a.reaction.messages
      || (list_any (λ z. is_yes_message d z.message) x.messages || false)) ≡ true) f said)

  abbrev own : Leaf
  own = leaf_of place p d

  two_paid : (ver : Version) (rs : List Record) (es : List JournalEntry) (a b : JournalEntry) (r : LeafRow)
      (v : ManagerView)
      → es ≡ a ∷ b ∷ [] → a.reaction ≡ reaction_of (leaf_effect r)
      → b.reaction ≡ reaction_of (leaf_effect (ManagerRows.on_commit ver own rs v v.standing))
      → Paid own ver rs r v → list_any (shows_yes d) es ≡ true
      → (entries_cost es ≡ manager_price d.txn.presumption)
      × ((ManagerRows.on_commit ver own rs v v.standing).view ≡ unknown_branch)
  two_paid ver rs es a b r v both e f known votes =
      let q = ManagerRows.on_commit ver own rs v v.standing in
      let k = known (two_say a b r q e f (ap (list_any (shows_yes d)) (sym both) ∙ votes)) in
      (ap entries_cost both ∙ (two_pay a b r q e f ∙ k.0), k.1)

  -- what they cost
  pub paid : (n : Node) (es : List JournalEntry) (n' : Node) → Plain place Any n es n' → (i : ℕ)
      → (see n).standing ≡ Active
      → causes (mine es) ≡ Brings (Prepare d i) ∷ Brings (Commit d) ∷ []
      → list_any (shows_yes d) (mine es) ≡ true
      → (entries_cost (mine es) ≡ manager_price d.txn.presumption) × (see n' ≡ unknown_branch)
  paid n es n' plain i active are votes =
      let a = next_of place Any (of_case d) see leaves n es n' plain (Brings (Prepare d i))
      (Brings (Commit d) ∷ []) are in
      let ab = brought a.heard.input (Prepare d i) (ap cause_of (sym a.handles_it) ∙ a.by_cause) in
      let ar = prepares a.at a.heard a.effect a.reacts_so ab.0 i ab.1 in
      let b = next_of place Any (of_case d) see leaves (after a.at a.heard a.effect) a.rest n' a.goes_on_plain
      (Brings (Commit d)) [] a.then_causes in
      let bb = brought b.heard.input (Commit d) (ap cause_of (sym b.handles_it) ∙ b.by_cause) in
      let br = commits b.at b.heard b.effect b.reacts_so bb.0 bb.1 in
      let z = none_next place Any (of_case d) see leaves (after b.at b.heard b.effect) b.rest
      n' b.goes_on_plain
      b.then_causes in
      let hold = a.heard.data_answer.holding in
      let ver = b.heard.version in
      let rs = kept b.at in
      let first = ManagerRows.on_prepare own i hold (see a.at) (see a.at).standing in
      let begun : Paid own ver rs first first.view =
      subst
      (λ (s : Standing).
      let r = ManagerRows.on_prepare own i hold (see a.at) s in Paid own ver rs r r.view)
      (sym (ap (λ (v : ManagerView). v.standing) a.seen ∙ active)) (by_done own ver rs i hold (see a.at)) in
      let k = two_paid ver rs (mine es) a.entry b.entry first (see b.at)
      (a.is_next ∙ ap (λ xs. a.entry ∷ xs) (b.is_next ∙ ap (λ xs. b.entry ∷ xs) z.0))
      (a.shows_it ∙ ap reaction_of (sym ar.0)) (b.shows_it ∙ ap reaction_of (sym br.0))
      (subst (Paid own ver rs first) (sym (b.seen ∙ ar.1)) begun) votes in
      (k.0, z.1 ∙ (br.1 ∙ k.1))

-- In a run.

pub manager_pays : (tree : List TreeProcess) (es : List Made) (w : World) → IsRun tree es w
    → (later : List Made)
    (w' : World) → Continues tree w later w' → (p parent : ProcessId) (d : Case) (n : ℕ)
    → ManagerCommits tree w (journal_of later) p parent d n → ManagerPays tree w' (journal_of later) p d
manager_pays tree es w run later w' on p parent d n c =
    let at : Role → Place = λ r. record { me = p; role = r; tree = tree } in
    let F : Node → Type 0 = λ n. ⊤ in
    let l = entries_of p (journal_of later) in
    let chain = subst (λ (r : Role). Chain (at r) F (w.at p) l (w'.at p)) c.manager
    (chain_of tree p F (λ es w run. tt) es w run later w' on) in
    let plain = plain_of (at (AtLeaf parent)) F (λ n i. refl) (w.at p) l (w'.at p) chain c.undisturbed in
    let active = subst (λ (r : Role). (manager_view (at r) (w.at p) d).standing ≡ Active)
    c.manager c.is_active in
    let k = paid p parent tree d (w.at p) l (w'.at p) plain n active c.are c.votes_yes in
    record {
      cost = k.0;
      is_forgotten = subst (λ (r : Role). manager_view (at r) (w'.at p) d ≡ unknown_branch)
          (sym c.manager) k.1;
    }
