-- The processes of a tree that restart over logs, one after another.
use Rattle.std.proofs.Common.{◌≡◌, ◌∙◌, ◌||◌, ap, sym, subst, refl, ℕ, Bool, true, false, if◌then◌else◌, inl, inr, Some, is_some, List, [], ◌∷◌, ◌++◌, map}
use Rattle.std.specs.List.{flat_map}
use Rattle.protocol.specs.declared.names.ProcessId.{ProcessId}
use Rattle.protocol.specs.declared.messages.Envelope.{Envelope}
use Rattle.protocol.specs.declared.events.JournalEntry.{JournalEntry}
use Rattle.protocol.specs.declared.events.Happening.TheVariants.{Restart}
use Rattle.protocol.specs.declared.events.Reaction.{Reaction}
use Rattle.protocol.specs.declared.records.LogRecord.{LogRecord}
use Rattle.protocol.specs.declared.trees.TreeProcess.{TreeProcess}
use Rattle.protocol.specs.Names.{same_process}
use Rattle.protocol.specs.NameLaws.{same_process_tells}
use Rattle.protocol.specs.Nodes.{Place, is_listed, place_of}
use Rattle.log_rules.specs.order.Logs.{read_log}
use Rattle.log_records.specs.Sights.{records_of}
use Rattle.process_state.specs.States.{CoreState}
use Rattle.tree_state.specs.Worlds.{RestartsData, step_entry}
use Rattle.resource_manager.specs.Data.{ManagerData}
use Rattle.proof_reopened.specs.Reopened.{RestartsOver}
use Rattle.tree_process.specs.Reopenings.{ReopensAs, form_by, place_by}
use Rattle.tree_world.specs.Nodes.{NodesSight}
use Rattle.tree_world.specs.Reopenings.{AreRestarted, ready_logs, records_read}
use Rattle.tree_world.proofs.Processes.{itself}

-- a process that goes on over the log in a store restarts over its records
pub restarts_over : (tree : List TreeProcess) (e : TreeProcess) (bytes : List ℕ)
    (forced failures : ℕ) (c : CoreState)
    (d : ManagerData) (r : Reaction) → place_by tree e ≡ place_of tree e.id
    → ReopensAs tree e bytes forced failures c d r
    → RestartsOver tree e.id (records_read (read_log (form_by e) bytes)) failures c d r
restarts_over tree e bytes forced failures c d r at h =
    let ls = records_of h.log.sight.kept in
    let is : records_read (read_log (form_by e) bytes) ≡ ls = ap records_read h.opens.read in
    subst (λ (xs : List LogRecord). RestartsOver tree e.id xs failures c d r) (sym is)
    (record {
      restarts = λ old so keep left. h.restarts old
          (record { place_is = so.place_is ∙ sym at; failures_are = so.failures_are }) keep left;
      holdings = subst (λ (p : Place). RestartsData p.role ls d) at h.holdings;
    })

some_one : (a b : CoreState) → Some a ≡ Some b → a ≡ b
some_one a b h = cc

first_apart : (a b : Bool) → a ≡ true → (a || b) ≡ true
first_apart true b h = refl
first_apart false b h = absurd (cc)

second_apart : (a b : Bool) → b ≡ true → (a || b) ≡ true
second_apart true b h = refl
second_apart false b h = h

-- one process more, in front of the others
module _ {L : Type 0} (bytes : L → List ℕ) (tree : List TreeProcess) (e : TreeProcess)
    (es : List TreeProcess) (s : L)
    (ss : List L) (old new : NodesSight) (c : CoreState) (r : Reaction) (failures : ℕ)
    (here : new.node_at e.id ≡ Some c)
    (over : RestartsOver tree e.id (records_read (read_log (form_by e) (bytes s))) failures c
    (new.data_at e.id) r)
    (others : (q : ProcessId) → same_process e.id q ≡ false → new.node_at q ≡ old.node_at q)
    (others_data : (q : ProcessId) → same_process e.id q ≡ false → new.data_at q ≡ old.data_at q)
    (apart : (q : ProcessId) → is_listed es q ≡ true → same_process e.id q ≡ false)
    (sent : List Envelope) (made : List JournalEntry) (h : AreRestarted bytes tree es ss old sent made) where
  abbrev opening : ProcessId → Reaction
  opening q = if same_process e.id q then r else h.opening q

  abbrev failed : ProcessId → ℕ
  failed q = if same_process e.id q then failures else h.failed q

  abbrev log : List LogRecord
  log = records_read (read_log (form_by e) (bytes s))

  restarts_by : (q : ProcessId) (d : CoreState) (b : Bool) → same_process e.id q ≡ b
      → RestartsOver tree q (if b then log else ready_logs bytes es ss q)
      (if b then failures else h.failed q) d
      (new.data_at q) (if b then r else h.opening q)
      → RestartsOver tree q (ready_logs bytes (e ∷ es) (s ∷ ss) q) (failed q) d (new.data_at q) (opening q)
  restarts_by q d b is k = subst (λ (a : Bool). RestartsOver tree q
      (if a then log else ready_logs bytes es ss q)
      (if a then failures else h.failed q) d (new.data_at q) (if a then r else h.opening q)) (sym is) k

  nodes_more : (q : ProcessId) (d : CoreState) → new.node_at q ≡ Some d
      → RestartsOver tree q (ready_logs bytes (e ∷ es) (s ∷ ss) q) (failed q) d (new.data_at q) (opening q)
  nodes_more q d there = elim (same_process_tells e.id q) [
    | inl t ↦ restarts_by q d true t.0
        (subst (λ (p : ProcessId). RestartsOver tree p log failures d (new.data_at p) r) t.1
        (subst (λ (x : CoreState). RestartsOver tree e.id log failures x (new.data_at e.id) r)
        (some_one c d (sym here ∙ (ap new.node_at t.1 ∙ there))) over))
    | inr z ↦ restarts_by q d false z.0
        (subst (λ (v : ManagerData). RestartsOver tree q (ready_logs bytes es ss q) (h.failed q) d
        v (h.opening q))
        (sym (others_data q z.0)) (h.nodes q d (sym (others q z.0) ∙ there)))
  ]

  listed_more : (q : ProcessId) → is_some (new.node_at q) ≡ is_listed (e ∷ es) q
  unfolding is_listed
  listed_more q = elim (same_process_tells e.id q) [
    | inl t ↦ ap is_some (sym (ap new.node_at t.1) ∙ here)
        ∙ sym (first_apart (same_process e.id q) (is_listed es q) t.0)
    | inr z ↦ ap is_some (others q z.0) ∙ (h.listed_are q ∙ sym (ap (λ b. b || is_listed es q) z.0))
  ]

  opening_behind : (q : ProcessId) → same_process e.id q ≡ false → opening q ≡ h.opening q
  opening_behind q away = ap (λ (b : Bool). if b then r else h.opening q) away

  opening_here : opening e.id ≡ r
  opening_here = ap (λ (b : Bool). if b then r else h.opening e.id) (itself e.id)

  -- the processes after show what they showed
  same_sent : (xs : List TreeProcess) → ((q : ProcessId) → is_listed xs q ≡ true
      → same_process e.id q ≡ false)
      → flat_map (λ x. (h.opening x.id).messages) xs ≡ flat_map (λ x. (opening x.id).messages) xs
  unfolding is_listed
  same_sent [] away = refl
  same_sent (x ∷ xs) away =
      ap (λ (y : Reaction). y.messages ++ flat_map (λ x. (h.opening x.id).messages) xs)
      (sym (opening_behind x.id (away x.id (first_apart (same_process x.id x.id) (is_listed xs x.id)
      (itself x.id)))))
      ∙ ap (λ ys. (opening x.id).messages ++ ys)
      (same_sent xs (λ q k. away q (second_apart (same_process x.id q) (is_listed xs q) k)))

  same_made : (xs : List TreeProcess) → ((q : ProcessId) → is_listed xs q ≡ true
      → same_process e.id q ≡ false)
      → map (λ x. step_entry x.id (Restart 0) (h.opening x.id)) xs
      ≡ map (λ x. step_entry x.id (Restart 0) (opening x.id)) xs
  unfolding is_listed
  same_made [] away = refl
  same_made (x ∷ xs) away =
      ap (λ (y : Reaction). step_entry x.id (Restart 0) y
      ∷ map (λ x. step_entry x.id (Restart 0) (h.opening x.id)) xs)
      (sym (opening_behind x.id (away x.id (first_apart (same_process x.id x.id) (is_listed xs x.id)
      (itself x.id)))))
      ∙ ap (λ ys. step_entry x.id (Restart 0) (opening x.id) ∷ ys)
      (same_made xs (λ q k. away q (second_apart (same_process x.id q) (is_listed xs q) k)))

  pub restarted_more : AreRestarted bytes tree (e ∷ es) (s ∷ ss) new (r.messages ++ sent)
      (step_entry e.id (Restart 0) r ∷ made)
  restarted_more = record {
    failed = failed;
    opening = opening;
    nodes = nodes_more;
    listed_are = listed_more;
    sent_by = ap (λ ys. r.messages ++ ys) (h.sent_by ∙ same_sent es apart)
        ∙ ap (λ (y : Reaction). y.messages ++ flat_map (λ x. (opening x.id).messages) es) (sym opening_here);
    made_so = ap (λ ys. step_entry e.id (Restart 0) r ∷ ys) (h.made_so ∙ same_made es apart)
        ∙ ap (λ (y : Reaction). step_entry e.id (Restart 0) y
        ∷ map (λ x. step_entry x.id (Restart 0) (opening x.id)) es)
        (sym opening_here);
  }
