use Rattle.std.proofs.Common.{ap, subst, sym, ◌∙◌}
use Rattle.case_table.specs.Lends.{with_value}
use Rattle.case_table.specs.Tables.{value_at}
use Rattle.case_table.proofs.Writes.{entry_of}
use Rattle.sub_branches.specs.declared.branch.LiveBranch.{LiveBranch}
use Rattle.sub_branches.specs.declared.branch.BranchStage.TheVariants.{Active}
use Rattle.sub_branches.specs.Tables.{BranchTable, IsGivenFor, NotesStage, tickets_of}
use Rattle.sub_branches.proofs.Keeping.{some_same, table}
use Rattle.sub_branches.proofs.Tickets.{noted}
use Rattle.sub_branches.proofs.table.LiveBranches.note.Goals as goal

pub invariant_of-self : goal.invariant_of-self
invariant_of-self c =
    let found = entry_of c.self.inside.branches c.args.key c.in-Some.branch.now
    (sym c.in-Some.ensures.value) in
    let entry = some_same c.requires.0 c.in-Some.branch.now
    (sym c.requires.1 ∙ ap (λ (t : BranchTable). value_at t.branches c.args.key) (sym c.self.view_is)
    ∙ sym c.in-Some.ensures.value) in
    (noted c.self.inside.branches c.self.invariant c.args.key found.0 c.in-Some.branch.now found.1
    c.args.given_for c.args.done c.args.spoiled
    (subst (λ (b : LiveBranch). IsGivenFor c.args.given_for b.stage) entry c.requires.2)).0

pub returns : goal.returns
returns c =
    let found = entry_of c.self.inside.branches c.args.key c.in-Some.branch.now
    (sym c.in-Some.ensures.value) in
    let entry = some_same c.requires.0 c.in-Some.branch.now
    (sym c.requires.1 ∙ ap (λ (t : BranchTable). value_at t.branches c.args.key) (sym c.self.view_is)
    ∙ sym c.in-Some.ensures.value) in
    let w : LiveBranch = record {
      xid = c.in-Some.branch.now.xid;
      stage = Active c.args.given_for c.args.done c.args.spoiled;
    } in
    subst (λ t. NotesStage t (table (tickets_of (with_value c.self.inside.branches c.args.key w))
    (with_value c.self.inside.branches c.args.key w)) c.args.key
    (Active c.args.given_for c.args.done c.args.spoiled)) c.self.view_is
    (noted c.self.inside.branches c.self.invariant c.args.key found.0 c.in-Some.branch.now found.1
    c.args.given_for c.args.done c.args.spoiled
    (subst (λ (b : LiveBranch). IsGivenFor c.args.given_for b.stage) entry c.requires.2)).1
