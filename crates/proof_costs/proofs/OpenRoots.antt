-- While a transaction is Active at its root, no vote was counted, and nothing was found.
use Rattle.std.proofs.Common.{◌≡◌, ◌∙◌, ℕ, Bool, true, false, None, List, [], ◌∷◌, refl, sym, ap, subst, if◌then◌else◌}
use Rattle.std.specs.Prelude.{fold}
use Rattle.protocol.specs.declared.names.Case.{Case}
use Rattle.protocol.specs.declared.names.Outcome.{Outcome}
use Rattle.protocol.specs.declared.names.Outcome.TheVariants.{Aborted}
use Rattle.protocol.specs.declared.names.ProcessId.{ProcessId}
use Rattle.protocol.specs.declared.names.Ticket.{Ticket}
use Rattle.protocol.specs.declared.names.Txn.{Txn}
use Rattle.protocol.specs.declared.events.Input.{Input}
use Rattle.protocol.specs.declared.standings.Standing.TheVariants.{Active}
use Rattle.protocol.specs.declared.standings.Vote.{Vote}
use Rattle.protocol_words.specs.Variants.{VoteNo, VoteRead, VoteYes}
use Rattle.protocol.specs.declared.trees.TreeProcess.{TreeProcess}
use Rattle.protocol.specs.Names.{root_case}
use Rattle.protocol.specs.Records.{boot_of, has, is_abort, is_collecting, is_commit, is_end, is_prepare, none_of, owing_by}
use Rattle.protocol.specs.Nodes.{AtRoot, First, Heard, Node, kept}
use Rattle.protocol.specs.Memory.{Asked, Memory, Open, Over, Phase, found_of, fresh_memory, memory_of, phase_after, remembers, root_remembers}
use Rattle.protocol.specs.Standings.{CoordinatorView, coordinator_view, phase_standing}
use Rattle.protocol.specs.Views.{root_place}
use Rattle.proof_model.proofs.AckLaws.{QuietAt}
use Rattle.proof_model.proofs.FoundLaws.{nothing_noted, root_noted_all}
use Rattle.proof_model.proofs.PhaseLaws.{memory_quiet}
use Rattle.proof_model.proofs.RootViewLaws.{seen_as, stands_as}
use Rattle.proof_model.proofs.StandingLaws.{active_facts, phase_active}
use Rattle.proof_processes.proofs.Remembering.{MovesMemory, asks, closes, counts, keeps, moves, opens, takes}

-- no vote is remembered of a case that takes children
abbrev Unvoted : Memory → Type 0
Unvoted m = m.phase ≡ Open → m.votes ≡ []

not_open : {A : Type 0} (p : Phase) → p ≡ Over → p ≡ Open → A
not_open p e f = absurd (let z : Over ≡ Open = sym e ∙ f in cc)

asked_next : {A : Type 0} (b : Bool) → (if b then Over else Asked) ≡ Open → A
asked_next true e = absurd (cc)
asked_next false e = absurd (cc)

voted_next : {A : Type 0} (w : Vote) (b : Bool) → phase_after w b ≡ Open → A
voted_next VoteNo b e = absurd (cc)
voted_next VoteYes b e = asked_next b e
voted_next VoteRead b e = asked_next b e

unvoted_then : (me : ProcessId) (boot : ℕ) (c : Case) (m : Memory) (i : Input) (k : Memory)
    → MovesMemory None me boot c m i k → Unvoted m → Unvoted k
unvoted_then me boot c m i k (keeps v p l) u = λ e. l.votes ∙ u (sym p ∙ e)
unvoted_then me boot c m i k (asks a o p l) u = λ e. asked_next (none_of m.accepted) (sym p ∙ e)
unvoted_then me boot c m i k (closes a o p l) u = λ e. not_open k.phase p e
unvoted_then me boot c m i k (takes j t h o b p a v) u = λ e. v ∙ u o
unvoted_then me boot c m i k (counts t w h p a v) u = λ e. voted_next w _ (sym p ∙ e)
unvoted_then me boot c m i k (opens o p a v) u = λ e. v

unvoted_all : (me : ProcessId) (boot : ℕ) (c : Case) (m : Memory) (hs : List Heard) → Unvoted m
    → Unvoted (fold (remembers me AtRoot boot c) m hs)
unvoted_all me boot c m [] u = u
unvoted_all me boot c m (h ∷ hs) u =
    unvoted_all me boot c (root_remembers me boot c m h.input) hs
    (unvoted_then me boot c m h.input (root_remembers me boot c m h.input) (moves None me boot c m h.input) u)

unvoted : (me : ProcessId) (tree : List TreeProcess) (n : Node) (c : Case)
    → Unvoted (memory_of (root_place me tree) n c)
unfolding memory_of
unvoted me tree n c = unvoted_all me (boot_of (kept n)) c fresh_memory n.heard (λ e. refl)

found_nowhere : (o : Outcome) (ts : List Ticket) → found_of [] o ts ≡ []
unfolding found_of
found_nowhere o ts = refl

pub none_yet : (me : ProcessId) (tree : List TreeProcess) (n : Node) (x : Txn)
    → let v = coordinator_view (root_place me tree) n (root_case x) in
    v.standing ≡ Active → (v.votes ≡ []) × (v.found ≡ [])
none_yet me tree n x active =
    let c = root_case x in
    let m = memory_of (root_place me tree) n c in
    let rs = kept n in
    let s = stands_as First me tree n x Active active in
    let f = active_facts (has (is_end c) rs) (has (is_commit c) rs) (has (is_abort c) rs)
    (has (is_prepare c) rs)
    (has (is_collecting c) rs) (none_of (owing_by c rs)) (phase_standing x.presumption m.phase) s in
    let opened : m.phase ≡ Open = phase_active x.presumption m.phase f.heard in
    let unacked : m.acks ≡ [] = subst (λ (p : Phase). QuietAt p m.acks) opened (memory_quiet me tree n c) in
    let unfound : m.found ≡ [] = nothing_noted m.acks m.found (root_noted_all me tree n c) unacked in
    subst (λ (v : CoordinatorView). (v.votes ≡ []) × (v.found ≡ []))
    (sym (seen_as First me tree n x Active s)) (
      unvoted me tree n c opened,
      ap (λ fs. found_of fs Aborted (owing_by c rs)) unfound ∙ found_nowhere Aborted (owing_by c rs),
    )
