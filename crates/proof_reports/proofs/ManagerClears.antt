-- After a manager's acknowledgement that does not report its ticket, no operator ever decides against the
-- outcome.
use Rattle.std.proofs.Common.{◌≡◌, ◌∙◌, inl, inr, List, [], ◌∷◌, sym, subst}
use Rattle.protocol.specs.declared.names.Case.{Case}
use Rattle.protocol.specs.declared.names.Outcome.{Outcome}
use Rattle.protocol.specs.declared.names.ProcessId.{ProcessId}
use Rattle.protocol.specs.declared.messages.Finding.{Finding}
use Rattle.protocol.specs.declared.messages.Message.{Message}
use Rattle.protocol.specs.declared.messages.Message.TheVariants.{Abort, Ack}
use Rattle.protocol.specs.declared.events.Act.{Act}
use Rattle.protocol.specs.declared.events.Act.TheVariants.{Decide}
use Rattle.protocol_words.specs.Variants.{ActInput, Handles}
use Rattle.protocol.specs.declared.events.Input.{Input}
use Rattle.protocol.specs.declared.trees.TreeProcess.{TreeProcess}
use Rattle.protocol.specs.Records.{has, is_abort, is_decided, is_forgot, is_prepare}
use Rattle.protocol.specs.Nodes.{AtLeaf, Effect, Heard, Node, Place, kept}
use Rattle.protocol.specs.CoordinatorRows.{post, tells_outcome}
use Rattle.protocol.specs.Standings.{Promised, other_outcome}
use Rattle.protocol.specs.World.{Move}
use Rattle.protocol.specs.Audits.{is_learnt_abort, is_learnt_commit}
use Rattle.proof_pairs.specs.turns.LeafTurns.{Hears, IsOpenBranch, LeafTurn, Waits, acknowledges, acknowledges_told, asks, decides, does_nothing, drops, forgets, gives_again, gives_fresh, mark_at, notes, obeys, promised, refuses, repeats_yes, votes_no, votes_read, votes_yes, waits}
use Rattle.proof_pairs.specs.turns.Steps.{StepOf, heard_in}
use Rattle.proof_processes.specs.Lasts.{Manages, Nested, logs_of}
use Rattle.proof_processes.proofs.Tests.{and, both, either, in_first, left, right}
use Rattle.proof_steps.proofs.children.Doubts.{doubt, promised_so}
use Rattle.proof_reports.specs.SinceOpened.{IsAmong, NoneAgainst, ever}
use Rattle.proof_reports.proofs.Facts.{IsOver}
use Rattle.proof_reports.proofs.Naming.{never, none_if}
use Rattle.proof_reports.proofs.Operators.{ByTurn, decided_came, decision_by_act}

-- A manager acknowledges messages alone.

module _ (place : Place) (p : ProcessId) (n : Node) (h : Heard) (d : Case) (o : Outcome)
    (fs : List Finding) (a : Act)
    (act : h.input ≡ ActInput a)
  where
    never_hears : {A : Type 0} (m : Message) → Hears h m → A
    never_hears m i = absurd (let e = sym act ∙ i.1 in cc)

    one_other : {A : Type 0} (q r : ProcessId) (m : Message) → (m ≡ Ack d o fs → ⊥)
        → IsAmong (Ack d o fs) (post q r m ∷ []) → A
    one_other q r m differs (inl e) = absurd (differs e)
    one_other q r m differs (inr i) = absurd i

    pub acts_ack_nothing : (g : Effect) → LeafTurn place p n h g → IsAmong (Ack d o fs) g.messages → ⊥
    acts_ack_nothing _ (obeys c u i e) j = never_hears (tells_outcome u c) i
    acts_ack_nothing _ (notes c u i e) j = never_hears (tells_outcome u c) i
    acts_ack_nothing _ (acknowledges_told c u i e) j = never_hears (tells_outcome u c) i
    acts_ack_nothing _ (acknowledges c u i k) j = never_hears (tells_outcome u c) i
    acts_ack_nothing _ (drops c i k) j = never_hears (Abort c) i
    acts_ack_nothing _ does_nothing j = j
    acts_ack_nothing _ (gives_again c t i k) j = one_other place.me p _ (λ e. cc) j
    acts_ack_nothing _ (gives_fresh c i k s) j = one_other place.me p _ (λ e. cc) j
    acts_ack_nothing _ (votes_yes c l ws i k) j = one_other place.me p _ (λ e. cc) j
    acts_ack_nothing _ (votes_read c l i k) j = one_other place.me p _ (λ e. cc) j
    acts_ack_nothing _ (votes_no c l i k) j = one_other place.me p _ (λ e. cc) j
    acts_ack_nothing _ (repeats_yes c l i k) j = one_other place.me p _ (λ e. cc) j
    acts_ack_nothing _ (refuses c l i k) j = one_other place.me p _ (λ e. cc) j
    acts_ack_nothing _ (asks c i k) j = one_other place.me p _ (λ e. cc) j
    acts_ack_nothing _ (decides c u i e) j = j
    acts_ack_nothing _ (forgets c i e) j = j

module _ (me p : ProcessId) (tree : List TreeProcess) (m : Move) (n : Node) (nested : Nested (logs_of n))
    (manages : Manages (logs_of n))
  where
    abbrev place : Place
    place = record { me = me; role = AtLeaf p; tree = tree }

    -- a branch that is over has no open promise
    over_unpromised : (d : Case) → IsOver (record { me = me; role = AtLeaf p; tree = tree }) n d
        → mark_at n d ≡ Promised → ⊥
    over_unpromised d over e =
        let w = doubt n nested manages d (subst Waits (sym e) promised) in
        elim over.decided [
          | inl none ↦ never _ (promised_so n nested manages d (subst IsOpenBranch (sym e) waits)) none
          | inr some ↦ elim some [
            | inl commit ↦ never _ (in_first (is_learnt_commit d) n.forced n.unforced commit) w.no_commit
            | inr rest ↦ elim rest [
              | inl abort ↦ never _ (elim (either _ _ abort) [
                | inl a ↦ left _ _ (in_first (is_learnt_abort d) n.forced n.unforced a)
                | inr b ↦ let k = both _ _ b in
                    right (has (is_learnt_abort d) (kept n)) _
                    (and _ _ (in_first (is_abort d) n.forced n.unforced k.0)
                    (in_first (is_prepare d) n.forced n.unforced k.1))
              ]) w.no_abort
              | inr forgot ↦ never _ (in_first (is_forgot d) n.forced n.unforced forgot) w.not_forgotten
            ]
          ]
        ]

    module _ (d : Case) (o : Outcome) (none : NoneAgainst n d o) (e : Effect) (k : Node)
        (s : StepOf (record { me = me; role = AtLeaf p; tree = tree }) n m e k)
      where
        by_either : (ByTurn me p tree m n (is_decided d (other_outcome o)) → ⊥) → NoneAgainst k d o
        by_either f = none_if (is_decided d (other_outcome o)) (ever k) (λ x.
            elim (decided_came me p tree m n d (other_outcome o) e k s x) [
              | inl before ↦ never _ before none
              | inr now ↦ f now
            ])

        -- none against stays so
        pub none_still : IsOver (record { me = me; role = AtLeaf p; tree = tree }) n d → NoneAgainst k d o
        none_still over = by_either (λ t. over_unpromised d over
            (decision_by_act place p n (heard_in m t.input) d (other_outcome o) t.effect t.turn
            t.written).mark)

        -- and where the branch acknowledges now
        pub none_now : (i : Input) (g : Effect) → m.step.happening ≡ Handles i
            → LeafTurn place p n (heard_in m i) g
            → (fs : List Finding) → IsAmong (Ack d o fs) g.messages → NoneAgainst k d o
        none_now i g hp turn fs among = by_either (λ t.
            let act = (decision_by_act place p n (heard_in m t.input) d (other_outcome o) t.effect t.turn
            t.written).act in
            let same : Handles i ≡ Handles t.input = sym hp ∙ t.happens in
            acts_ack_nothing place p n (heard_in m i) d o fs (Decide d (other_outcome o))
            (input_is i t.input (Decide d (other_outcome o)) same act) g turn among)
          where
            input_is : (a b : Input) (c : Act) → Handles a ≡ Handles b → b ≡ ActInput c → a ≡ ActInput c
            input_is a b c x y = let z : a ≡ b = cc in z ∙ y
