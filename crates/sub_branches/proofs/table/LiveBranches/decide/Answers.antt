use Rattle.std.proofs.Common.{true, ap, subst, sym, ◌∙◌, ◌≡◌}
use Rattle.case_table.specs.Lends.{with_value}
use Rattle.case_table.specs.Tables.{value_at}
use Rattle.case_table.proofs.Writes.{entry_of}
use Rattle.sub_branches.specs.declared.branch.LiveBranch.{LiveBranch}
use Rattle.sub_branches.specs.declared.branch.BranchStage.TheVariants.{Heuristic}
use Rattle.sub_branches.specs.Tables.{BranchTable, NotesStage, has_promised, tickets_of}
use Rattle.sub_branches.proofs.Keeping.{some_same, table}
use Rattle.sub_branches.proofs.Tickets.{decided}
use Rattle.sub_branches.proofs.table.LiveBranches.decide.Goals as goal

pub invariant_of-self : goal.invariant_of-self
invariant_of-self c =
    let found = entry_of c.self.inside.branches c.args.key c.in-Some.branch.now
    (sym c.in-Some.ensures.value) in
    let entry = some_same c.requires.0 c.in-Some.branch.now
    (sym c.requires.1 ∙ ap (λ (t : BranchTable). value_at t.branches c.args.key) (sym c.self.view_is)
    ∙ sym c.in-Some.ensures.value) in
    (decided c.self.inside.branches c.self.invariant c.args.key found.0 c.in-Some.branch.now found.1
    c.args.told (subst (λ (b : LiveBranch). has_promised b.stage ≡ true) entry c.requires.2)).0

pub returns : goal.returns
returns c =
    let found = entry_of c.self.inside.branches c.args.key c.in-Some.branch.now
    (sym c.in-Some.ensures.value) in
    let entry = some_same c.requires.0 c.in-Some.branch.now
    (sym c.requires.1 ∙ ap (λ (t : BranchTable). value_at t.branches c.args.key) (sym c.self.view_is)
    ∙ sym c.in-Some.ensures.value) in
    let w : LiveBranch = record { xid = c.in-Some.branch.now.xid; stage = Heuristic c.args.told } in
    subst (λ t. NotesStage t (table (tickets_of (with_value c.self.inside.branches c.args.key w))
    (with_value c.self.inside.branches c.args.key w)) c.args.key (Heuristic c.args.told)) c.self.view_is
    (decided c.self.inside.branches c.self.invariant c.args.key found.0 c.in-Some.branch.now found.1
    c.args.told (subst (λ (b : LiveBranch). has_promised b.stage ≡ true) entry c.requires.2)).1
