-- What a manager does with an input of another case leaves what it sees of this one.
use Rattle.std.proofs.Common.{◌≡◌, ℕ, Bool, true, false, Option, Some, None, List, refl, subst, arith}
use Rattle.std.specs.List.{list_any}
use Rattle.protocol.specs.declared.names.Case.{Case}
use Rattle.protocol.specs.declared.names.ProcessId.{ProcessId}
use Rattle.protocol.specs.declared.names.Ticket.{Ticket}
use Rattle.protocol.specs.declared.messages.Message.{Message}
use Rattle.protocol.specs.declared.messages.Message.TheVariants.{Join, Joined, Work, Prepare, Yes, No, Read, Commit, Abort, Ack, Inquire}
use Rattle.protocol.specs.declared.events.Act.{Act}
use Rattle.protocol.specs.declared.events.Act.TheVariants.{Begin, Ask, Decide, Forget}
use Rattle.protocol_words.specs.Variants.{AbortAct, CommitAct, JoinAct, WorkAct}
use Rattle.protocol.specs.declared.events.StepError.TheVariants.{Closed, NoSuch, NotAChild, NotInDoubt, NothingToForget, UnknownTxn}
use Rattle.protocol.specs.declared.standings.Standing.{Standing}
use Rattle.protocol.specs.declared.standings.Standing.TheVariants.{Unknown, Active, Collecting, Prepared, Committing, Aborting, Heuristic}
use Rattle.protocol.specs.declared.trees.TreeProcess.{TreeProcess}
use Rattle.protocol.specs.Names.{same_case}
use Rattle.protocol.specs.NameLaws.{same_case_tells}
use Rattle.protocol.specs.Nodes.{AtLeaf, DataAnswer, Effect, Node, Place, Version, after, kept, no_effect}
use Rattle.protocol.specs.Memory.{active_ticket, memory_of}
use Rattle.protocol.specs.Standings.{ManagerView, manager_view}
use Rattle.protocol.specs.ManagerRows.{prepared_decide, heuristic_forget, untold_ask}
use Rattle.protocol.specs.Reactions.{Does, acts, asks_untold, childless_by, decide_by, forget_by, hears, leaf_ask_by, leaf_effect, leaf_joins, leaf_of}
use Rattle.protocol.specs.Views.{hears_act, hears_message, leaf_place}
use Rattle.proof_model.proofs.ManagerViewLaws.{manager_views, quiet-after}
use Rattle.proof_costs.specs.Journals.{act_is_of, message_is_of, of_case}
use Rattle.proof_costs.proofs.Entries.{either_none}
use Rattle.proof_costs.proofs.Handling.{never}

turned : (c d : Case) → same_case c d ≡ false → same_case d c ≡ false
turned c d e = grind (arith, same_case_tells)

module _ (me p : ProcessId) (tree : List TreeProcess) (n : Node) (d : Case) where
  abbrev place : Place
  place = leaf_place me p tree

  -- A message of another case.

  joins_other : (ver : Version) (k : ℕ) (a : DataAnswer) (c : Case) (o : Option Ticket) (b : Bool)
      → active_ticket (memory_of place n c).active c ≡ o → a.starts ≡ b
      → list_any (λ l. message_is_of (of_case d) l.message)
      (leaf_joins place p n c (memory_of place n c) b o).messages ≡ false
      → manager_view place (after n (hears_message ver k (Join c) a)
      (leaf_joins place p n c (memory_of place n c) b o)) d
      ≡ manager_view place n d
  joins_other ver k a c (Some t) b e s u = ((manager_views ver me p tree n c).join k a).given_again t e d
  joins_other ver k a c None false e s u =
      subst (λ x. manager_view place (after n (hears_message ver k (Join c) a)
      (leaf_joins place p n c (memory_of place n c) x None)) d ≡ manager_view place n d) s
      (((manager_views ver me p tree n c).join k a).not_started e s d)
  joins_other ver k a c None true e s u =
      let one = either_none _ false u in
      let fresh = either_none (same_case c d) _ one.0 in
      subst (λ x. manager_view place (after n (hears_message ver k (Join c) a)
      (leaf_joins place p n c (memory_of place n c) x None)) d ≡ manager_view place n d) s
      (((manager_views ver me p tree n c).join k a).others e s d (turned _ d fresh.1))

  pub other_message : (ver : Version) (k : ℕ) (m : Message) (a : DataAnswer)
      → message_is_of (of_case d) m ≡ false
      → list_any (λ l. message_is_of (of_case d) l.message)
      (hears (AtLeaf p) ver place n a m).messages ≡ false
      → manager_view place (after n (hears_message ver k m a) (hears (AtLeaf p) ver place n a m)) d
      ≡ manager_view place n d
  unfolding manager_view
  other_message ver k (Join c) a f u =
      joins_other ver k a c (active_ticket (memory_of place n c).active c) a.starts refl refl u
  other_message ver k (Work c i op) a f u = ((manager_views ver me p tree n c).work k i op a).others d f
  other_message ver k (Prepare c i) a f u = ((manager_views ver me p tree n c).prepare k i a).others d f
  other_message ver k (Commit c) a f u = ((manager_views ver me p tree n c).commit k a (kept n)).others d f
  other_message ver k (Abort c) a f u = ((manager_views ver me p tree n c).abort k a (kept n)).others d f
  other_message ver k (Joined c t) a f u = quiet-after place n (hears_message ver k (Joined c t) a)
      no_effect d refl
  other_message ver k (Yes c) a f u = quiet-after place n (hears_message ver k (Yes c) a) no_effect d refl
  other_message ver k (No c) a f u = quiet-after place n (hears_message ver k (No c) a) no_effect d refl
  other_message ver k (Read c) a f u = quiet-after place n (hears_message ver k (Read c) a) no_effect d refl
  other_message ver k (Ack c o fs) a f u = quiet-after place n (hears_message ver k (Ack c o fs) a)
      no_effect d refl
  other_message ver k (Inquire c) a f u = quiet-after place n (hears_message ver k (Inquire c) a)
      no_effect d refl

  -- An act of another case.

  abbrev Stays : Version → DataAnswer → Act → Effect → Type 0
  Stays ver a x e = manager_view place (after n (hears_act ver x a) e) d ≡ manager_view place n d

  childless : {A : Type 0} (s : Standing) (e : Effect) → childless_by s ≡ Does e → A
  childless Unknown e r = never UnknownTxn e r
  childless Active e r = never NotAChild e r
  childless Collecting e r = never Closed e r
  childless Prepared e r = never Closed e r
  childless Committing e r = never Closed e r
  childless Aborting e r = never Closed e r
  childless Heuristic e r = never Closed e r

  does_same : (g e : Effect) → Does g ≡ Does e → g ≡ e
  does_same g e q = cc

  asks : (c : Case) (e : Effect) (v : ManagerView) (s : Standing)
      → leaf_ask_by (leaf_of place p c) v s ≡ Does e
      → leaf_effect (untold_ask (leaf_of place p c) v) ≡ e
  asks c e v Prepared r = does_same (leaf_effect (untold_ask (leaf_of place p c) v)) e r
  asks c e v Heuristic r = by_told v.told r
    where
      by_told : (o : Option _) → asks_untold (leaf_of place p c) v o ≡ Does e
          → leaf_effect (untold_ask (leaf_of place p c) v) ≡ e
      by_told None q = does_same (leaf_effect (untold_ask (leaf_of place p c) v)) e q
      by_told (Some o) q = never NotInDoubt e q
  asks c e v Unknown r = never UnknownTxn e r
  asks c e v Active r = never NotInDoubt e r
  asks c e v Collecting r = never NotInDoubt e r
  asks c e v Committing r = never NotInDoubt e r
  asks c e v Aborting r = never NotInDoubt e r

  decided : (c : Case) (o : _) (e : Effect) (s : Standing) → decide_by (leaf_of place p c) o s ≡ Does e
      → leaf_effect (prepared_decide (leaf_of place p c) o) ≡ e
  decided c o e Prepared r = does_same (leaf_effect (prepared_decide (leaf_of place p c) o)) e r
  decided c o e Unknown r = never UnknownTxn e r
  decided c o e Active r = never NotInDoubt e r
  decided c o e Collecting r = never NotInDoubt e r
  decided c o e Committing r = never NotInDoubt e r
  decided c o e Aborting r = never NotInDoubt e r
  decided c o e Heuristic r = never NotInDoubt e r

  forgotten : (c : Case) (e : Effect) (s : Standing) → forget_by (leaf_of place p c) s ≡ Does e
      → leaf_effect (heuristic_forget (leaf_of place p c)) ≡ e
  forgotten c e Heuristic r = does_same (leaf_effect (heuristic_forget (leaf_of place p c))) e r
  forgotten c e Unknown r = never UnknownTxn e r
  forgotten c e Active r = never NothingToForget e r
  forgotten c e Collecting r = never NothingToForget e r
  forgotten c e Prepared r = never NothingToForget e r
  forgotten c e Committing r = never NothingToForget e r
  forgotten c e Aborting r = never NothingToForget e r

  pub other_act : (ver : Version) (x : Act) (a : DataAnswer) (e : Effect) → act_is_of (of_case d) x ≡ false
      → acts (AtLeaf p) place n x ≡ Does e → Stays ver a x e
  other_act ver (Begin q) a e f r = never NoSuch e r
  other_act ver (JoinAct c q) a e f r = childless (manager_view place n c).standing e r
  other_act ver (WorkAct c q op) a e f r = childless (manager_view place n c).standing e r
  other_act ver (CommitAct x) a e f r = never UnknownTxn e r
  other_act ver (AbortAct x) a e f r = never UnknownTxn e r
  other_act ver (Ask c) a e f r =
      let v = manager_view place n c in
      subst (Stays ver a (Ask c)) (asks c e v v.standing r)
      (((manager_views ver me p tree n c).ask a).others d f)
  other_act ver (Decide c o) a e f r =
      subst (Stays ver a (Decide c o)) (decided c o e (manager_view place n c).standing r)
      (((manager_views ver me p tree n c).decide o a).others d f)
  other_act ver (Forget c) a e f r =
      subst (Stays ver a (Forget c)) (forgotten c e (manager_view place n c).standing r)
      (((manager_views ver me p tree n c).forget a).others d f)
