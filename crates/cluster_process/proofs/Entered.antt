-- What is made in a turn may be entered.
use Rattle.std.proofs.Common.{◌≡◌, ◌∙◌, ap, sym, subst, ℕ, true, Some, List, ◌++◌}
use Rattle.protocol.specs.declared.names.ProcessId.{ProcessId}
use Rattle.protocol.specs.declared.events.JournalEntry.{JournalEntry}
use Rattle.protocol.specs.declared.trees.TreeProcess.{TreeProcess}
use Rattle.protocol.specs.Nodes.{is_listed}
use Rattle.protocol.specs.Trees.{IsTree}
use Rattle.protocol.specs.World.{entries_of}
use Rattle.process_state.specs.States.{CoreState}
use Rattle.tree_state.specs.Cuts.{IsCut, net_of}
use Rattle.proof_cuts.specs.Owns.{OwnRun}
use Rattle.proof_cuts.specs.Turns.{AllGiven, EntersTurn}
use Rattle.proof_cuts.proofs.Turns.{all_longer, own_many, turns_enter}
use Rattle.cluster_ties.specs.declared.views.View.{View}
use Rattle.cluster_ties.specs.Views.{entries_in, own_of}
use Rattle.cluster_ties.specs.Plays.{IsUpTo}
use Rattle.cluster_ties.proofs.Lists.{in_more}
use Rattle.cluster_process.specs.Locked.{HasCut}
use Rattle.cluster_process.specs.Turns.{MadeTurn}

-- the journal with the entries is a run, and the process's entries in it are its own
pub record Entered (tree : List TreeProcess) (me : ProcessId) (all zs : List (ℕ × JournalEntry))
    (own : List JournalEntry)
    (new : CoreState) : Type 0 where
  pub has_cut : HasCut tree (entries_in (all ++ zs))
  pub runs : OwnRun tree me (own ++ entries_in zs) new

pub entering : (tree : List TreeProcess) (me : ProcessId) (v : View) (c : ℕ) (zs : List (ℕ × JournalEntry))
    (new : CoreState)
    → IsTree tree → is_listed tree me ≡ true → v.process.name ≡ Some me → IsUpTo v
    → MadeTurn tree v.process.net me c v.process.own zs new → HasCut tree (entries_in v.journal.all)
    → Entered tree me v.journal.all zs v.process.own new
entering tree me v c zs new is_tree listed name up_to made has =
    let all = v.journal.all in
    let xs = entries_in all in
    let ys = entries_in zs in
    let at : v.process.own ≡ entries_of me xs = up_to.own ∙ ap (λ n. own_of n xs) name in
    let given : AllGiven tree (net_of xs) me ys =
    subst (λ l. AllGiven tree l me ys) (sym up_to.sent.all_are)
    (all_longer tree v.process.net up_to.sent.more me ys made.given) in
    let entered : EntersTurn tree xs ys me new =
    turns_enter tree xs ys has.left me made.stood new made.held made.left is_tree listed has.cut
    (subst (λ l. OwnRun tree me l made.stood) at made.run) made.goes given in
    record {
      has_cut = record {
        left = entered.left;
        cut = subst (λ l. IsCut tree l entered.left) (sym (in_more all zs)) entered.cut;
      };
      runs = subst (λ l. OwnRun tree me l new)
          (own_many tree (net_of xs) me xs ys given ∙ ap (λ l. l ++ ys) (sym at)) entered.own;
    }
