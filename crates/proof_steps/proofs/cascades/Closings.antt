-- Which rows close their case: its phase is over after them.
use Rattle.std.proofs.Common.{◌≡◌, ◌∙◌, inl, inr, ℕ, Bool, true, false, Some, List, [], ◌∷◌, ◌++◌, refl, sym, ap, subst, if◌then◌else◌}
use Rattle.std.specs.Prelude.{filter, find}
use Rattle.protocol.specs.declared.names.Case.{Case}
use Rattle.protocol.specs.declared.names.ProcessId.{ProcessId}
use Rattle.protocol.specs.declared.names.Ticket.{Ticket}
use Rattle.protocol.specs.declared.names.Txn.{Txn}
use Rattle.protocol.specs.declared.messages.Message.TheVariants.{Prepare}
use Rattle.protocol.specs.declared.standings.Standing.{Standing}
use Rattle.protocol.specs.declared.standings.Standing.TheVariants.{Unknown, Active, Collecting}
use Rattle.protocol.specs.declared.standings.Vote.{Vote}
use Rattle.protocol_words.specs.Variants.{MessageInput, VoteNo}
use Rattle.protocol.specs.declared.events.Input.{Input}
use Rattle.protocol.specs.declared.trees.TreeProcess.{TreeProcess}
use Rattle.protocol.specs.Names.{same_txn}
use Rattle.protocol.specs.NameLaws.{same_txn-refl, same_txn_tells}
use Rattle.protocol.specs.Records.{boot_of, cases_in, none_of}
use Rattle.protocol.specs.Memory.{Asked, Memory, Open, all_voted, cascaded_remembers, is_counted, memory_of}
use Rattle.protocol.specs.Nodes.{Below, Heard, Node, Place, kept}
use Rattle.protocol.specs.Standings.{case_of_child, coordinator_view, some_case}
use Rattle.protocol.specs.Views.{IsOpenAlike}
use Rattle.proof_pairs.specs.turns.CoordinatorTurns.{CountsLast, CountsVote}
use Rattle.proof_processes.proofs.Cases.{viewed}
use Rattle.proof_steps.proofs.cascades.Opens
use Rattle.proof_steps.proofs.cascades.Opens.{live}

-- a ticket belongs to a case of its transaction
found_passes : (f g : Case → Bool) (cs : List Case) (c : Case) → find g (filter f cs) ≡ Some c → f c ≡ true
found_passes f g [] c e = absurd (cc)
found_passes f g (x ∷ cs) c e = by_test (f x) refl (found_passes f g cs c) e
  where
    by_next : (b : Bool) → f x ≡ true → (find g (filter f cs) ≡ Some c → f c ≡ true)
        → (if b then Some x else find g (filter f cs)) ≡ Some c → f c ≡ true
    by_next true a rest k = subst (λ (z : Case). f z ≡ true) (let s : x ≡ c = cc in s) a
    by_next false a rest k = rest k

    by_test : (b : Bool) → f x ≡ b → (find g (filter f cs) ≡ Some c → f c ≡ true)
        → find g (if b then x ∷ filter f cs else filter f cs) ≡ Some c → f c ≡ true
    by_test true a rest k = by_next (g x) a rest k
    by_test false a rest k = rest k

module _ (me p : ProcessId) (tree : List TreeProcess) (n : Node) (h : Heard) (d : Case)
    (alike : IsOpenAlike (record { me = me; role = Below p; tree = tree }) n d) where
  abbrev place : Place
  place = record { me = me; role = Below p; tree = tree }

  abbrev Remembered : Memory
  Remembered = cascaded_remembers me (boot_of (kept n)) d (memory_of place n d) h.input

  pub phase_asked : (coordinator_view place n d).standing ≡ Collecting → (memory_of place n d).phase ≡ Asked
  phase_asked e = alike.collecting_is_asked e

  pub phase_open : (coordinator_view place n d).standing ≡ Active → (memory_of place n d).phase ≡ Open
  phase_open e = Opens.active_is_open (kept n) d (memory_of place n d).phase (sym (viewed place n d) ∙ e)

  not_unknown : (s : Standing) → (coordinator_view place n d).standing ≡ s → (s ≡ Unknown → ⊥)
      → (coordinator_view place n d).standing ≡ Unknown → ⊥
  not_unknown s e f g = f (sym e ∙ g)

  pub nobody_closes : (j k : ℕ) → h.input ≡ MessageInput j (Prepare d k)
      → (coordinator_view place n d).standing ≡ Active → none_of (coordinator_view place n d).accepted ≡ true
      → live Remembered.phase ≡ false
  nobody_closes j k i e none =
      let lists = Opens.lists_seen place n d (not_unknown Active e (λ x. cc)) in
      ap (λ (x : Input). live (cascaded_remembers me (boot_of (kept n)) d (memory_of place n d) x).phase) i
      ∙ Opens.prepare_closes me (boot_of (kept n)) d (memory_of place n d) j k (phase_open e)
      (ap none_of (sym lists.0) ∙ none)

  same_own : (x : Txn) (u : Ticket) → case_of_child place n x u ≡ Some d → same_txn x d.txn ≡ true
  same_own x u found = swap (found_passes (λ y. same_txn y.txn x) _
      (cases_in (kept n) ++ (memory_of place n (some_case place)).issued) d found)
    where
      swap : same_txn d.txn x ≡ true → same_txn x d.txn ≡ true
      swap e = elim (same_txn_tells d.txn x) [
        | inl s ↦ subst (λ (y : Txn). same_txn y d.txn ≡ true) s.1 (same_txn-refl d.txn)
        | inr g ↦ absurd (let k = g.0 in cc)
      ]

  counted : (w : Vote) (u : Ticket) → CountsVote place n h d u w
      → is_counted (memory_of place n d).accepted (memory_of place n d).votes u ≡ true
  counted w u k =
      let lists = Opens.lists_seen place n d (not_unknown Collecting k.stands (λ x. cc)) in
      ap (λ (ts : List Ticket). is_counted ts (memory_of place n d).votes u) (sym lists.0)
      ∙ (ap (λ (vs : List (Ticket × Vote)). is_counted (coordinator_view place n d).accepted vs u)
      (sym lists.1) ∙ k.counts)

  pub last_closes : (w : Vote) (u : Ticket) (ys : List Ticket) → CountsLast place n h d u w ys
      → live Remembered.phase ≡ false
  last_closes w u ys k =
      let lists = Opens.lists_seen place n d (not_unknown Collecting k.vote.stands (λ x. cc)) in
      let heard = k.vote.hears in
      ap (λ (x : Input). live (cascaded_remembers me (boot_of (kept n)) d (memory_of place n d) x).phase)
      heard.hears.1
      ∙ Opens.vote_closes me (boot_of (kept n)) d (memory_of place n d) heard.hears.0 w heard.txn u
      (same_own heard.txn u heard.belongs) (phase_asked k.vote.stands) (counted w u k.vote) k.consents
      (ap (λ (ts : List Ticket). all_voted ts ((memory_of place n d).votes ++ (u, w) ∷ [])) (sym lists.0)
      ∙ (ap (λ (vs : List (Ticket × Vote)). all_voted (coordinator_view place n d).accepted
      (vs ++ (u, w) ∷ [])) (sym lists.1)
      ∙ k.all))

  pub first_closes : (u : Ticket) → CountsVote place n h d u VoteNo → live Remembered.phase ≡ false
  first_closes u k =
      let heard = k.hears in
      ap (λ (x : Input). live (cascaded_remembers me (boot_of (kept n)) d (memory_of place n d) x).phase)
      heard.hears.1
      ∙ Opens.no_closes me (boot_of (kept n)) d (memory_of place n d) heard.hears.0 heard.txn u
      (same_own heard.txn u heard.belongs) (phase_asked k.stands) (counted VoteNo u k)
