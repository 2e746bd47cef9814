-- The text of who reported what, piece by piece.
use Rattle.std.proofs.Common.{◌≡◌, ◌∙◌, ◌-◌, ℕ, zero, suc, Some, List, ◌++◌, codes, refl, sym, ap, arith}
use Rattle.std.specs.Fmt.{decimal}
use Rattle.protocol.specs.declared.names.Case.{Case}
use Rattle.protocol.specs.declared.names.ProcessId.{ProcessId}
use Rattle.protocol.specs.declared.names.Ticket.{Ticket}
use Rattle.protocol.specs.declared.trees.TreeProcess.{TreeProcess}
use Rattle.protocol.specs.Names.{child_case}
use Rattle.protocol.specs.Texts.{case_text}
use Rattle.protocol.specs.Trees.{parent_of}
use Rattle.audit_engine.specs.Explanations.{mixed_text, reporter_text, unreported_text, way_on, way_text}
use Rattle.audit_engine.proofs.Texts.{eight, five, six}

-- The way of a report.

-- a process told its parent, and so on
pub way_goes_on : (tree : List TreeProcess) (p q : ProcessId) (old a b c d new : List ℕ) (most : ℕ)
    → (most ≡ 0 → ⊥) → parent_of tree p ≡ Some q
    → a ≡ old ++ codes ", " → b ≡ a ++ decimal p.0 → c ≡ b ++ codes " told " → d ≡ c ++ decimal q.0
    → new ≡ d ++ way_text (most - 1) tree q → new ≡ old ++ way_text most tree p
unfolding way_text
way_goes_on tree p q old a b c d new zero some is e f g h more = absurd (some refl)
way_goes_on tree p q old a b c d new (suc n) some is e f g h more =
    let less : suc n - 1 ≡ n = omega arith in
    five old a b c d new (codes ", ") (decimal p.0) (codes " told ") (decimal q.0) (way_text n tree q)
    e f g h (more ∙ ap (λ k. d ++ way_text k tree q) less)
    ∙ ap (λ o. old ++ way_on (way_text n tree) p o) (sym is)

-- Who reported a ticket, and what to do.

pub mixed_pushed : (tree : List TreeProcess) (root : Case) (t : Ticket) (old a b c d e f g h : List ℕ)
    → a ≡ old ++ reporter_text tree t (codes " was decided otherwise by an operator")
    → b ≡ a ++ codes "  do: put the data of " → c ≡ b ++ decimal t.child.0
    → d ≡ c ++ codes " right, then forget " → e ≡ d ++ case_text (child_case root.txn t)
    → f ≡ e ++ codes ", then forget " → g ≡ f ++ case_text root → h ≡ g ++ codes "\n"
    → h ≡ old ++ mixed_text tree root t
mixed_pushed tree root t old a b c d e f g h told puts place right child then named end =
    eight old a b c d e f g h (reporter_text tree t (codes " was decided otherwise by an operator"))
    (codes "  do: put the data of ") (decimal t.child.0) (codes " right, then forget ")
    (case_text (child_case root.txn t)) (codes ", then forget ") (case_text root) (codes "\n")
    told puts place right child then named end

pub unreported_pushed : (tree : List TreeProcess) (root : Case) (t : Ticket) (old a b c d e f : List ℕ)
    → a ≡ old ++ reporter_text tree t (codes " was no longer known")
    → b ≡ a ++ codes "  do: look at the data of " → c ≡ b ++ decimal t.child.0
    → d ≡ c ++ codes " and of what is below it, then forget " → e ≡ d ++ case_text root
    → f ≡ e ++ codes "\n" → f ≡ old ++ unreported_text tree root t
unreported_pushed tree root t old a b c d e f told look place below named end =
    six old a b c d e f (reporter_text tree t (codes " was no longer known"))
    (codes "  do: look at the data of ") (decimal t.child.0) (codes " and of what is below it, then forget ")
    (case_text root) (codes "\n")
    told look place below named end
