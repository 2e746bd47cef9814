-- A tree that was opened over the logs in its stores.
use Rattle.std.proofs.Common.{◌≡◌, ◌∙◌, ap, sym, subst, refl, inl, inr, false, true, Bool, if◌then◌else◌, ℕ, Some, None, List, [], ◌∷◌, ◌++◌, drop, reverse}
use Rattle.std.proofs.lemmas.List.{reverse-reverse}
use Rattle.protocol.specs.declared.names.ProcessId.{ProcessId}
use Rattle.protocol.specs.declared.trees.TreeProcess.{TreeProcess}
use Rattle.protocol.specs.Names.{same_process}
use Rattle.protocol.specs.Nodes.{place_of}
use Rattle.log_rules.specs.order.Logs.{read_as, read_log}
use Rattle.tree_state.specs.Worlds.{undelivered}
use Rattle.log_store.specs.Stores.{MoreFailures}
use Rattle.tree_journal.specs.Journals.{JournalState}
use Rattle.proof_reopened.specs.Reopened.{IsReopened, RestartsOver}
use Rattle.tree_process.specs.Reopenings.{FailsOver, form_by}
use Rattle.tree_world.specs.Nodes.{NodesSight}
use Rattle.tree_world.specs.Openings.{store_of}
use Rattle.tree_world.specs.Readied.{AllRestart, AreGivenBack, AreNotReadied, AreNotRestarted, AreReadied, AreReady, IsGivenBack, IsReadied}
use Rattle.tree_world.specs.Reopenings.{AreReturned, FailsIn, HoldsOn, IsReturned, NoneRestarts, TreeNotReopened, fault_or, faults_from, first_fault, logs_in, ready_logs, records_read}
use Rattle.tree_world.specs.declared.reopening.TreeReopenError.{TreeReopenError}
use Rattle.tree_world.specs.declared.reopening.TreeReopenError.TheVariants.{Memory, Device, Damaged as DamagedError}
use Rattle.tree_world.proofs.Handling.{world}
use Rattle.tree_world.proofs.ReadyLogs.{ready_after}

pub from_first : (es : List TreeProcess) → drop 0 es ≡ es
from_first [] = refl
from_first (e ∷ es) = refl

module _ {L : Type 0} (bytes : L → List ℕ) (forced failures : L → ℕ) (tree : List TreeProcess) where
  -- what the stores hold that were made ready is what they held
  pub same_logs : (es : List TreeProcess) (olds news : List L) → AreReadied bytes failures tree es olds news
      → (q : ProcessId) → ready_logs bytes es news q ≡ logs_in bytes es olds q
  same_logs [] olds news h q = refl
  same_logs (e ∷ es) [] news h q = absurd h
  same_logs (e ∷ es) (s ∷ ss) [] h q = absurd h
  same_logs (e ∷ es) (s ∷ ss) (l ∷ ls) h q =
      ap (λ xs. if same_process e.id q then xs else ready_logs bytes es ls q) (ap records_read h.0.reads)
      ∙ ap (λ xs. if same_process e.id q then records_read (read_as e.id e.kind (bytes s)) else xs)
      (same_logs es ss ls h.1 q)

  -- none of them has a fault
  pub no_fault : (es : List TreeProcess) (olds news : List L) → AreReadied bytes failures tree es olds news
      → faults_from bytes tree es olds ≡ None
  no_fault [] olds news h = refl
  no_fault (e ∷ es) [] news h = absurd h
  no_fault (e ∷ es) (s ∷ ss) [] h = absurd h
  no_fault (e ∷ es) (s ∷ ss) (l ∷ ls) h =
      ap (λ o. fault_or e.id o (faults_from bytes tree es ss)) h.0.sound ∙ no_fault es ss ls h.1

  pub all_ready : (es : List TreeProcess) (olds news : List L) → AreReadied bytes failures tree es olds news
      → AreReady bytes es news
  all_ready [] olds news h = tt
  all_ready (e ∷ es) [] news h = absurd h
  all_ready (e ∷ es) (s ∷ ss) [] h = absurd h
  all_ready (e ∷ es) (s ∷ ss) (l ∷ ls) h =
      (ready_after bytes forced failures tree e s l h.0, all_ready es ss ls h.1)

  -- a device that failed then has failed since
  fails_since : (s l : L) → failures l ≡ failures s → FailsOver failures l → FailsOver failures s
  fails_since s l same h = record {
    left = h.left;
    more = subst (λ n. MoreFailures n (failures h.left)) same
        h.more;
  }

  failed_since : (es : List TreeProcess) (olds news : List L) (p : ProcessId)
      → AreReadied bytes failures tree es olds news → FailsIn failures (store_of es news p)
      → FailsIn failures (store_of es olds p)
  failed_since [] olds news p h f = tt
  failed_since (e ∷ es) [] news p h f = absurd h
  failed_since (e ∷ es) (s ∷ ss) [] p h f = absurd h
  failed_since (e ∷ es) (s ∷ ss) (l ∷ ls) p h f =
      by_test (same_process e.id p) f (failed_since es ss ls p h.1)
    where
      by_test : (b : Bool) → FailsIn failures (if b then Some l else store_of es ls p)
          → (FailsIn failures (store_of es ls p) → FailsIn failures (store_of es ss p))
          → FailsIn failures (if b then Some s else store_of es ss p)
      by_test true f more = fails_since s l h.0.failures_stay f
      by_test false f more = more f

  -- the store that is handed back keeps the log that was made ready
  returned_since : (e : TreeProcess) (s l m : L) (why : TreeReopenError) → IsReadied bytes failures tree e s l
      → IsGivenBack bytes forced failures e l m why → IsReturned bytes forced failures e s m why
  returned_since e s l m why r = by_why why
    where
      same : records_read (read_log (form_by e) (bytes l)) ≡ records_read (read_as e.id e.kind (bytes s))
      same = ap records_read r.reads

      since : HoldsOn bytes forced e (records_read (read_log (form_by e) (bytes l))) m
          → HoldsOn bytes forced e (records_read (read_as e.id e.kind (bytes s))) m
      since h = subst (λ ls. HoldsOn bytes forced e ls m) same h

      by_why : (why : TreeReopenError) → IsGivenBack bytes forced failures e l m why
          → IsReturned bytes forced failures e s m why
      by_why Memory h = inr (since h)
      by_why (DamagedError p place) h = inr (since h)
      by_why (Device p) (inl h) = inl (h.0, subst (λ n. MoreFailures n (failures m)) r.failures_stay h.1)
      by_why (Device p) (inr h) = inr (inr (since h))

  pub all_returned_since : (es : List TreeProcess) (olds news lasts : List L) (why : TreeReopenError)
      → AreReadied bytes failures tree es olds news → AreGivenBack bytes forced failures es news lasts why
      → AreReturned bytes forced failures es olds lasts why
  all_returned_since [] olds news lasts why h g = g ∙ h
  all_returned_since (e ∷ es) [] news lasts why h g = absurd h
  all_returned_since (e ∷ es) (s ∷ ss) [] lasts why h g = absurd h
  all_returned_since (e ∷ es) (s ∷ ss) (l ∷ ls) [] why h g = absurd (cc)
  all_returned_since (e ∷ es) (s ∷ ss) (l ∷ ls) (m ∷ ms) why h g =
      (returned_since e s l m why h.0 g.0, all_returned_since es ss ls ms why h.1 g.1)

  -- why it was not opened
  pub not_readied : (stores : List L) (why : TreeReopenError)
      → AreNotReadied bytes failures tree tree stores why
      → TreeNotReopened bytes failures tree stores why
  not_readied stores Memory h = tt
  not_readied stores (Device p) h = h
  not_readied stores (DamagedError p place) h = inl h

  pub not_restarted : (olds news : List L) (why : TreeReopenError)
      → AreReadied bytes failures tree tree olds news
      → AreNotRestarted bytes failures tree tree news why → TreeNotReopened bytes failures tree olds why
  not_restarted olds news Memory r h = tt
  not_restarted olds news (Device p) r h = (h.0, failed_since tree olds news p r h.1)
  not_restarted olds news (DamagedError p place) r h =
      inr (
        no_fault tree olds news r,
        h.1,
        record {
          listed = h.0;
          none = subst (NoneRestarts (place_of tree p)) (same_logs tree olds news r p) h.2;
        },
      )

  -- it was opened
  pub reopened : (olds news : List L) (ns : NodesSight) (old new : JournalState)
      → AreReadied bytes failures tree tree olds news → AllRestart bytes tree tree news ns old new
      → old.net ≡ [] → old.delivered ≡ [] → old.entries ≡ []
      → IsReopened tree (logs_in bytes tree olds) (world tree ns new)
  reopened olds news ns old new r h net delivered entries =
      let all : new.net ≡ h.sent = h.net ∙ ap (λ xs. xs ++ h.sent) net in
      record {
        tree_is = refl;
        failures = h.restarted.failed;
        opening = h.restarted.opening;
        nodes = λ q c stands. subst (λ ls. RestartsOver tree q ls (h.restarted.failed q) c (ns.data_at q)
            (h.restarted.opening q)) (same_logs tree olds news r q) (h.restarted.nodes q c stands);
        listed = h.restarted.listed_are;
        net = all ∙ h.restarted.sent_by;
        delivered = h.delivered ∙ ap (λ xs. xs ++ undelivered h.sent) delivered ∙ ap undelivered (sym all);
        entries = h.entries ∙ ap (λ xs. xs ++ h.made) entries ∙ h.restarted.made_so;
      }

  -- The lists as the code has them: the stores are turned round, and turned back.

  module _ (stores turned : List L) (turns : turned ≡ reverse stores) where
    first : (P : List TreeProcess → List L → Type 0) → P (drop 0 tree) (reverse turned) → P tree stores
    first P h = subst (P tree) (ap reverse turns ∙ reverse-reverse stores)
        (subst (λ es. P es (reverse turned)) (from_first tree) h)

    pub readied_first : (news : List L) → AreReadied bytes failures tree (drop 0 tree)
        (reverse turned) (reverse news)
        → AreReadied bytes failures tree tree stores (reverse news)
    readied_first news h = first (λ es ss. AreReadied bytes failures tree es ss (reverse news)) h

    pub not_readied_first : (why : TreeReopenError)
        → AreNotReadied bytes failures tree (drop 0 tree) (reverse turned) why
        → TreeNotReopened bytes failures tree stores why
    not_readied_first why h = not_readied stores why
        (first (λ es ss. AreNotReadied bytes failures tree es ss why) h)

    pub returned_first : (news lasts : List L) (why : TreeReopenError) → lasts ≡ reverse news
        → AreReturned bytes forced failures (drop 0 tree) (reverse turned) (reverse news) why
        → AreReturned bytes forced failures tree stores lasts why
    returned_first news lasts why turn h =
        subst (λ ls. AreReturned bytes forced failures tree stores ls why) (sym turn)
        (first (λ es ss. AreReturned bytes forced failures es ss (reverse news) why) h)

    -- the same after the restarts
    module _ (news : List L)
        (ready : AreReadied bytes failures tree (drop 0 tree) (reverse turned) (reverse news)) where
      pub ready_first : AreReady bytes (drop 0 tree) (reverse news)
      ready_first = subst (λ es. AreReady bytes es (reverse news)) (sym (from_first tree))
          (all_ready tree stores (reverse news) (readied_first news ready))

      pub never_faulty : first_fault bytes tree stores ≡ None
      never_faulty = no_fault tree stores (reverse news) (readied_first news ready)

      pub not_restarted_first : (why : TreeReopenError)
          → AreNotRestarted bytes failures tree (drop 0 tree) (reverse news) why
          → TreeNotReopened bytes failures tree stores why
      not_restarted_first why h = not_restarted stores (reverse news) why (readied_first news ready)
          (subst (λ es. AreNotRestarted bytes failures tree es (reverse news) why) (from_first tree) h)

      pub given_first : (left lasts : List L) (why : TreeReopenError) → lasts ≡ reverse left
          → AreGivenBack bytes forced failures (drop 0 tree) (reverse news) (reverse left) why
          → AreReturned bytes forced failures tree stores lasts why
      given_first left lasts why turn h =
          subst (λ ls. AreReturned bytes forced failures tree stores ls why) (sym turn)
          (all_returned_since tree stores (reverse news) (reverse left) why (readied_first news ready)
          (subst (λ es. AreGivenBack bytes forced failures es (reverse news) (reverse left) why)
          (from_first tree) h))

      pub reopened_first : (ns : NodesSight) (old new : JournalState)
          → AllRestart bytes tree (drop 0 tree) (reverse news) ns old new
          → old.net ≡ [] → old.delivered ≡ [] → old.entries ≡ []
          → IsReopened tree (logs_in bytes tree stores) (world tree ns new)
      reopened_first ns old new h net delivered entries =
          reopened stores (reverse news) ns old new (readied_first news ready)
          (subst (λ es. AllRestart bytes tree es (reverse news) ns old new) (from_first tree) h) net
          delivered entries
