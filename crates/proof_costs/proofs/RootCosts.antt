-- What a committed update costs a root in a journal.
use Rattle.std.proofs.Common.{◌≡◌, ◌∙◌, ℕ, false, None, List, [], ◌∷◌, ◌++◌, refl, sym, ap, subst, fold, length}
use Rattle.std.specs.Prelude.{filter, map}
use Rattle.std.proofs.lemmas.List.{append-nil}
use Rattle.protocol.specs.declared.names.Case.{Case}
use Rattle.protocol_words.specs.Variants.{ActInput, CommitAct, CommittedOutcome, Handles, MessageInput, VoteYes}
use Rattle.protocol.specs.declared.names.ProcessId.{ProcessId}
use Rattle.protocol.specs.declared.names.Ticket.{Ticket}
use Rattle.protocol.specs.declared.names.Txn.{Txn}
use Rattle.protocol.specs.declared.messages.Message.{Message}
use Rattle.protocol.specs.declared.messages.Message.TheVariants.{Ack, Yes}
use Rattle.protocol.specs.declared.events.JournalEntry.{JournalEntry}
use Rattle.protocol.specs.declared.events.Input.{Input}
use Rattle.protocol.specs.declared.events.Reaction.{Reaction}
use Rattle.protocol.specs.declared.standings.Standing.TheVariants.{Active}
use Rattle.protocol.specs.declared.trees.TreeProcess.{TreeProcess}
use Rattle.protocol.specs.Counts.{Cost, IsOrderOf, Walked, acknowledging, asks, cost_of, hears_yes, root_price, row_cost, together}
use Rattle.protocol.specs.Names.{child_case, root_case}
use Rattle.protocol.specs.Records.{none_of}
use Rattle.protocol.specs.Nodes.{AtRoot, Effect, First, Heard, Node, Place, Role, Second, Version, after, reaction_of}
use Rattle.protocol.specs.Standings.{CoordinatorView, coordinator_view, unknown_view}
use Rattle.protocol.specs.CoordinatorRows.{Row, Seat, active_commit, active_commit_alone, on_ack, on_vote}
use Rattle.protocol.specs.Reactions.{Does, commit_by, reacts, row_effect}
use Rattle.protocol.specs.Views.{IsOpenAlike, root_place, root_seat}
use Rattle.protocol.specs.World.{Continues, IsRun, Made, World, entries_of, journal_of}
use Rattle.proof_model.proofs.RootViewLaws.{root_views}
use Rattle.proof_pairs.proofs.turns.Steps.{turn_of}
use Rattle.proof_processes.proofs.CoordinatorsHold.{coordinates}
use Rattle.proof_costs.specs.Costs.{hears_ack, root_walk}
use Rattle.proof_costs.specs.Journals.{Acts, Brings, RootCommits, RootPays, begun_is_of, cause_of, causes, entries_cost, entry_cost, happening_is_of, is_of, no_cost, of_txn, update_causes}
use Rattle.proof_costs.proofs.Chains.{Chain, Plain, chain_of, next_of, none_next, plain_of}
use Rattle.proof_costs.proofs.Costs
use Rattle.proof_costs.proofs.Entries.{acted, after_nothing, brought, entry_pays, is_other}
use Rattle.proof_costs.proofs.Handling.{acts_so, hears_so}
use Rattle.proof_costs.proofs.OpenRoots.{none_yet}
use Rattle.proof_costs.proofs.OtherTxns.{other_leaves}
use Rattle.proof_costs.proofs.RootEffects.{ack_does, vote_does}

-- what a child says of a committed update
data Word : Type 0 where
  Votes : Ticket → Word
  Acknowledges : Ticket → Word

abbrev says : Seat → Walked → Word → Walked
says s w (Votes t) = hears_yes s w t
says s w (Acknowledges t) = hears_ack First s w t

abbrev word_row : Seat → Word → CoordinatorView → Row
word_row s (Votes t) v = on_vote s t VoteYes v v.standing
word_row s (Acknowledges t) v = on_ack First s t CommittedOutcome v.found v v.standing

abbrev pays : Cost → List JournalEntry → Cost
pays c es = fold (λ d e. together d (entry_cost e)) c es

module _ (me : ProcessId) (tree : List TreeProcess) (x : Txn) where
  abbrev place : Place
  place = root_place me tree

  abbrev seat : Seat
  seat = root_seat me (root_case x)

  abbrev see : Node → CoordinatorView
  see n = coordinator_view (root_place me tree) n (root_case x)

  -- what every run keeps of a root
  abbrev Fact : Node → Type 0
  Fact n = n.failed ≡ false → (c : Case) → IsOpenAlike (root_place me tree) n c

  abbrev mine : List JournalEntry → List JournalEntry
  mine es = filter (is_of (of_txn x)) es

  abbrev word_message : Word → Message
  word_message (Votes t) = Yes (child_case x t)
  word_message (Acknowledges t) = Ack (child_case x t) CommittedOutcome []

  heard_as : (h : Heard) (i : Input) → h.input ≡ i
      → h ≡ record { input = i; data_answer = h.data_answer; version = h.version }
  heard_as h i e = ap (λ (z : Input). record { input = z; data_answer = h.data_answer; version = h.version })
      e

  leaves : (n : Node) (h : Heard) (e : Effect) (entry : JournalEntry) → Fact n
      → entry.step.happening ≡ Handles h.input
      → entry.reaction ≡ reaction_of e → reacts place n h ≡ Does e → is_of (of_txn x) entry ≡ false
      → see (after n h e) ≡ see n
  leaves n h e entry fact hp sh r f =
      let other = is_other (of_txn x) entry f in
      other_leaves me tree n x h (ap (happening_is_of (of_txn x)) (sym hp) ∙ other.unnamed) e r
      (ap (λ (z : Reaction). begun_is_of (of_txn x) z.begun) (sym sh) ∙ other.unbegun)

  -- A step is a row's.
  record IsRow (n : Node) (h : Heard) (e : Effect) (row : Row) : Type 0 where
    effect_is : row_effect (root_case x) row ≡ e
    view_is : see (after n h e) ≡ row.view

  moved_so : (n : Node) (h : Heard) (e : Effect) (i : Input) (row : Row) → h.input ≡ i
      → row_effect (root_case x) row ≡ e
      → see (after n (record { input = i; data_answer = h.data_answer; version = h.version })
      (row_effect (root_case x) row)) ≡ row.view
      → IsRow n h e row
  moved_so n h e i row same so moved = record {
    effect_is = so;
    view_is = subst (λ (z : Heard). see (after n z e) ≡ row.view) (sym (heard_as h i same))
        (subst (λ (z : Effect). see (after n (record {
          input = i;
          data_answer = h.data_answer;
          version = h.version;
        }) z)
        ≡ row.view) so moved);
  }

  commit_step : (n : Node) (h : Heard) (e : Effect) → reacts place n h ≡ Does e
      → h.input ≡ ActInput (CommitAct x)
      → (see n).standing ≡ Active → IsRow n h e (active_commit seat (see n))
  commit_step n h e r i active =
      moved_so n h e (ActInput (CommitAct x)) (active_commit seat (see n)) i
      (does_so (sym (ap (commit_by seat (see n)) active) ∙ acts_so place n h e r (CommitAct x) i))
      (((root_views h.version me tree n x).commit h.data_answer active).moved)
    where
      does_so : Does (row_effect (root_case x) (active_commit seat (see n))) ≡ Does e
          → row_effect (root_case x) (active_commit seat (see n)) ≡ e
      does_so q = cc

  -- an acknowledgement that finds nothing, if nothing was found before, is handled alike by each version
  ack_alike : (ver : Version) (t : Ticket) (v : CoordinatorView) → v.found ≡ []
      → on_ack ver seat t CommittedOutcome (v.found ++ []) v v.standing
      ≡ on_ack First seat t CommittedOutcome v.found v v.standing
  ack_alike ver t v none =
      ap (λ fs. on_ack ver seat t CommittedOutcome fs v v.standing) (append-nil v.found ∙ none)
      ∙ (by_version ver ∙ ap (λ fs. on_ack First seat t CommittedOutcome fs v v.standing) (sym none))
    where
      by_version : (k : Version) → on_ack k seat t CommittedOutcome [] v v.standing
          ≡ on_ack First seat t CommittedOutcome [] v v.standing
      by_version First = refl
      by_version Second = Costs.acked seat t v v.standing refl

  word_step : (w : Word) (n : Node) (h : Heard) (e : Effect) → Fact n → reacts place n h ≡ Does e → (k : ℕ)
      → h.input ≡ MessageInput k (word_message w) → (see n).found ≡ [] → IsRow n h e (word_row seat w (see n))
  word_step (Votes t) n h e fact r k i none =
      moved_so n h e (MessageInput k (Yes (child_case x t)))
      (on_vote seat t VoteYes (see n) (see n).standing) i
      (sym (vote_does me tree n x t) ∙ hears_so place n h e r k (Yes (child_case x t)) i)
      (((root_views h.version me tree n x).vote k h.data_answer t VoteYes
      (fact (turn_of place n h e r).up (root_case x))).moved)
  word_step (Acknowledges t) n h e fact r k i none =
      let alike = ack_alike h.version t (see n) none in
      subst (IsRow n h e) alike
      (moved_so n h e (MessageInput k (Ack (child_case x t) CommittedOutcome []))
      (on_ack h.version seat t CommittedOutcome ((see n).found ++ []) (see n) (see n).standing) i
      (sym (ack_does me tree n x t h.version) ∙ hears_so place n h e r k
      (Ack (child_case x t) CommittedOutcome []) i)
      (((root_views h.version me tree n x).acknowledgement k h.data_answer t CommittedOutcome []
      (fact (turn_of place n h e r).up (root_case x))).moved))

  -- nothing is found by what a child says
  word_finds : (w : Word) (v : CoordinatorView) → v.found ≡ [] → (word_row seat w v).view.found ≡ []
  word_finds (Votes t) v none = Costs.voted seat t v v.standing none
  word_finds (Acknowledges t) v none =
      Costs.found_then seat (record { cost = no_cost; view = v }) t none

  says_so : (w : Word) (c : Cost) (v : CoordinatorView)
      → says seat (record { cost = c; view = v }) w
      ≡ record { cost = together c (row_cost (word_row seat w v)); view = (word_row seat w v).view }
  says_so (Votes t) c v = refl
  says_so (Acknowledges t) c v = refl

  -- what the children's entries cost
  rest_pays : (ws : List Word) (n : Node) (es : List JournalEntry) (n' : Node) → Plain place Fact n es n'
      → causes (mine es) ≡ map (λ w. Brings (word_message w)) ws → (c : Cost) → (see n).found ≡ []
      → fold (says seat) (record { cost = c; view = see n }) ws
      ≡ record { cost = pays c (mine es); view = see n' }
  rest_pays [] n es n' plain are c none =
      let z = none_next place Fact (of_txn x) see leaves n es n' plain are in
      (λ j. record { cost = pays c (sym z.0 j); view = sym z.1 j })
  rest_pays (w ∷ ws) n es n' plain are c none =
      let a = next_of place Fact (of_txn x) see leaves n es n' plain (Brings (word_message w))
      (map (λ u. Brings (word_message u)) ws) are in
      let ab = brought a.heard.input (word_message w) (ap cause_of (sym a.handles_it) ∙ a.by_cause) in
      let unfound : (see a.at).found ≡ [] = ap (λ (v : CoordinatorView). v.found) a.seen ∙ none in
      let row = word_row seat w (see a.at) in
      let step = word_step w a.at a.heard a.effect a.fact a.reacts_so ab.0 ab.1 unfound in
      let paid : entry_cost a.entry ≡ row_cost row =
      entry_pays a.entry a.effect a.shows_it
      ∙ ap (λ (z : Effect). cost_of z.written z.messages) (sym step.effect_is) in
      let next : Node = after a.at a.heard a.effect in
      let later = rest_pays ws next a.rest n' a.goes_on_plain a.then_causes (together c (entry_cost a.entry))
      (ap (λ (v : CoordinatorView). v.found) step.view_is ∙ word_finds w (see a.at) unfound) in
      ap (λ (z : Walked). fold (says seat) z ws)
      (ap (λ (v : CoordinatorView). says seat (record { cost = c; view = v }) w) (sym a.seen)
      ∙ (says_so w c (see a.at)
      ∙ (λ j. record { cost = together c (sym paid j); view = sym step.view_is j })))
      ∙ (later ∙ ap (λ es. record { cost = pays c es; view = see n' }) (sym a.is_next))

  -- what all of them cost, from the commit act on
  all_pay : (n : Node) (es : List JournalEntry) (n' : Node) → Plain place Fact n es n' → (ws : List Word)
      → causes (mine es) ≡ Acts (CommitAct x) ∷ map (λ w. Brings (word_message w)) ws
      → (see n).standing ≡ Active → (see n).found ≡ []
      → fold (says seat) (asks seat (see n)) ws ≡ record { cost = entries_cost (mine es); view = see n' }
  unfolding entries_cost
  all_pay n es n' plain ws are active none =
      let a = next_of place Fact (of_txn x) see leaves n es n' plain (Acts (CommitAct x))
      (map (λ w. Brings (word_message w)) ws) are in
      let ab = acted a.heard.input (CommitAct x) (ap cause_of (sym a.handles_it) ∙ a.by_cause) in
      let step = commit_step a.at a.heard a.effect a.reacts_so ab
      (ap (λ (v : CoordinatorView). v.standing) a.seen ∙ active) in
      let unfound : (see a.at).found ≡ [] = ap (λ (v : CoordinatorView). v.found) a.seen ∙ none in
      let row = active_commit seat (see a.at) in
      let row_finds : row.view.found ≡ [] =
      Costs.either (none_of (see a.at).accepted) (active_commit_alone seat) _ refl
      (Costs.asked seat (see a.at) x.presumption unfound) in
      let paid : together no_cost (entry_cost a.entry) ≡ row_cost row =
      after_nothing (entry_cost a.entry)
      ∙ (entry_pays a.entry a.effect a.shows_it
      ∙ ap (λ (z : Effect). cost_of z.written z.messages) (sym step.effect_is)) in
      let later = rest_pays ws (after a.at a.heard a.effect) a.rest n' a.goes_on_plain a.then_causes
      (together no_cost (entry_cost a.entry)) (ap (λ (v : CoordinatorView). v.found) step.view_is ∙ row_finds)
      in
      ap (λ (z : Walked). fold (says seat) z ws)
      (ap (asks seat) (sym a.seen) ∙ (λ j. record { cost = sym paid j; view = sym step.view_is j }))
      ∙ (later ∙ ap (λ es. record { cost = pays no_cost es; view = see n' }) (sym a.is_next))

  -- Votes, and acknowledgements after them.

  voted_first : (votes : List Ticket) (ws : List Word) (w : Walked)
      → fold (says seat) w (map (λ t. Votes t) votes ++ ws)
      ≡ fold (says seat) (fold (hears_yes seat) w votes) ws
  voted_first [] ws w = refl
  voted_first (t ∷ votes) ws w = voted_first votes ws (hears_yes seat w t)

  then_acknowledged : (acks : List Ticket) (w : Walked)
      → fold (says seat) w (map (λ t. Acknowledges t) acks) ≡ fold (hears_ack First seat) w acks
  then_acknowledged [] w = refl
  then_acknowledged (t ∷ acks) w = then_acknowledged acks (hears_ack First seat w t)

  brought_votes : (votes acks : List Ticket)
      → map (λ w. Brings (word_message w)) (map (λ t. Votes t) votes ++ map (λ t. Acknowledges t) acks)
      ≡ map (λ t. Brings (Yes (child_case x t))) votes
      ++ map (λ t. Brings (Ack (child_case x t) CommittedOutcome [])) acks
  brought_votes (t ∷ votes) acks = ap (λ l. Brings (Yes (child_case x t)) ∷ l) (brought_votes votes acks)
  brought_votes [] [] = refl
  brought_votes [] (t ∷ acks) = ap (λ l. Brings (Ack (child_case x t) CommittedOutcome []) ∷ l)
      (brought_votes [] acks)

  pub paid : (n : Node) (es : List JournalEntry) (n' : Node) → Plain place Fact n es n'
      → (votes acks : List Ticket)
      → (see n).standing ≡ Active → none_of (see n).accepted ≡ false
      → IsOrderOf votes (see n).accepted → IsOrderOf acks (see n).accepted
      → causes (mine es) ≡ update_causes x votes (acknowledging x.presumption acks)
      → (entries_cost (mine es) ≡ root_price x.presumption (length (see n).accepted))
      × (see n' ≡ unknown_view)
  paid n es n' plain votes acks active takes is is' are =
      let none = none_yet me tree n x active in
      let as' = acknowledging x.presumption acks in
      let ws = map (λ t. Votes t) votes ++ map (λ t. Acknowledges t) as' in
      let walk = all_pay n es n' plain ws (are ∙ ap (λ l. Acts (CommitAct x) ∷ l)
      (sym (brought_votes votes as'))) active
      none.1 in
      let rows : fold (says seat) (asks seat (see n)) ws ≡ root_walk First seat (see n) votes acks =
      voted_first votes (map (λ t. Acknowledges t) as') (asks seat (see n))
      ∙ then_acknowledged as' (fold (hears_yes seat) (asks seat (see n)) votes) in
      let said = (Costs.costs_by First seat).root refl (see n) active none.0 none.1 takes votes acks is is' in
      let all = sym walk ∙ (rows ∙ said) in
      (ap (λ (z : Walked). z.cost) all, ap (λ (z : Walked). z.view) all)

-- In a run.

pub root_pays : (tree : List TreeProcess) (es : List Made) (w : World) → IsRun tree es w → (later : List Made)
    (w' : World) → Continues tree w later w' → (p : ProcessId) (x : Txn) (votes acks : List Ticket)
    → RootCommits tree w (journal_of later) p x votes acks → RootPays tree w w' (journal_of later) p x
root_pays tree es w run later w' on p x votes acks c =
    let at : Role → Place = λ r. record { me = p; role = r; tree = tree } in
    let l = entries_of p (journal_of later) in
    let chain = chain_of tree p (Fact p tree x)
    (λ fs v r. (coordinates tree fs v r p None c.root).alike) es w run later w' on in
    let P : Role → Type 0 = λ r. Chain (at r) (Fact p tree x) (w.at p) l (w'.at p) in
    let plain = plain_of (at AtRoot) (Fact p tree x) (λ n i. refl) (w.at p) l (w'.at p) (subst P c.root chain)
    c.undisturbed in
    let see : Role → World → CoordinatorView = λ r v. coordinator_view (at r) (v.at p) (root_case x) in
    let k = paid p tree x (w.at p) l (w'.at p) plain votes acks
    (subst (λ (r : Role). (see r w).standing ≡ Active) c.root c.is_active)
    (subst (λ (r : Role). none_of (see r w).accepted ≡ false) c.root c.has_accepted)
    (subst (λ (r : Role). IsOrderOf votes (see r w).accepted) c.root c.each_votes)
    (subst (λ (r : Role). IsOrderOf acks (see r w).accepted) c.root c.each_acknowledges) c.are in
    record {
      cost = k.0 ∙ ap (λ (r : Role). root_price x.presumption (length (see r w).accepted)) (sym c.root);
      is_forgotten = ap (λ (r : Role). see r w') c.root ∙ k.1;
    }
