-- A restart and a trim of one process, among all, and in the tree.
use Rattle.std.proofs.Common.{◌≡◌, ◌∙◌, sym, ap, subst, refl, ℕ, false, Option, Some, List, [], ◌∷◌, ◌++◌, Result, Ok, Err, IfOk, IfErr}
use Rattle.protocol.specs.declared.names.ProcessId.{ProcessId}
use Rattle.protocol.specs.declared.events.Happening.{Happening}
use Rattle.protocol.specs.declared.events.Happening.TheVariants.{Restart}
use Rattle.protocol_words.specs.Variants.{Trimming}
use Rattle.protocol.specs.declared.events.Reaction.{Reaction}
use Rattle.protocol.specs.declared.events.StepError.{StepError}
use Rattle.protocol.specs.declared.events.StepError.TheVariants.{Memory, Device, UnknownTxn, NotAChild, Closed, Failed, NotInDoubt, NothingToForget, NoSuch, Exhausted}
use Rattle.protocol.specs.declared.trees.TreeProcess.{TreeProcess}
use Rattle.protocol.specs.Names.{same_process}
use Rattle.process_state.specs.States.{CoreState}
use Rattle.tree_state.specs.Steps.{trim_reaction}
use Rattle.tree_state.specs.Worlds
use Rattle.tree_state.specs.Worlds.{CannotReopenAt, HasFailed, SameTree, WorldState, step_entry, undelivered}
use Rattle.tree_process.specs.declared.node.Process.{Process}
use Rattle.tree_process.specs.Nodes.{core_of, data_of}
use Rattle.tree_process.specs.Restarts.{NoRestart, NoTrim, RestartsNode, TrimsNode}
use Rattle.tree_world.specs.Nodes.{MovesAt, NodesSight, SameNodes, kept_at, node_in}
use Rattle.tree_world.specs.Restarts.{NoRestartAt, NoTrimAt, RestartsAt, TrimsAt}
use Rattle.tree_journal.specs.Journals.{JournalState, SameJournal}
use Rattle.tree_world.proofs.Handling.{world}
use Rattle.tree_world.proofs.Steps.{data_stood, moves_at, same_nodes}

-- One process among all.

pub restarted : {L E : Type 0} (es fs : List (ProcessId × Process L)) (q : ProcessId)
    (bytes : Option ℕ) (before behind : Process L)
    (made : Result (ℕ × Reaction) E)
    → node_in es q ≡ Some before → node_in fs q ≡ Some behind
    → ((p : ProcessId) → same_process q p ≡ false → node_in fs p ≡ node_in es p)
    → IfOk made (RestartsNode (core_of before) (core_of behind) (data_of behind) bytes)
    → IfOk made (RestartsAt (kept_at es) (kept_at fs) q bytes)
restarted es fs q bytes before behind (Ok r) stood stands others h = record {
  before = core_of before;
  behind = core_of behind;
  moves = moves_at es fs q before behind stood stands others;
  restarts = subst (λ d. RestartsNode (core_of before) (core_of behind) d bytes r)
      (sym (data_stood fs q behind stands)) h;
}
restarted es fs q bytes before behind (Err e) stood stands others h = tt

no_restart : (old new : NodesSight) (q : ProcessId) (bytes : Option ℕ)
    (e : StepError) (s t : CoreState)
    → MovesAt old new q s t → NoRestart s t (old.data_at q) (new.data_at q) bytes e
    → NoRestartAt old new q bytes e
no_restart old new q bytes Memory s t moves h = same_nodes old new q s t moves h.0 h.1
no_restart old new q bytes Device s t moves h = record { before = s; behind = t; moves = moves; breaks = h }
no_restart old new q bytes UnknownTxn s t moves h = absurd h
no_restart old new q bytes NotAChild s t moves h = absurd h
no_restart old new q bytes Closed s t moves h = absurd h
no_restart old new q bytes Failed s t moves h = absurd h
no_restart old new q bytes NotInDoubt s t moves h = absurd h
no_restart old new q bytes NothingToForget s t moves h = absurd h
no_restart old new q bytes NoSuch s t moves h = absurd h
no_restart old new q bytes Exhausted s t moves h =
    (same_nodes old new q s t moves h.0 h.1, subst (λ o. CannotReopenAt o bytes) (sym moves.stood) h.2)

pub not_restarted : {L A : Type 0} (es fs : List (ProcessId × Process L)) (q : ProcessId)
    (bytes : Option ℕ) (before behind : Process L)
    (made : Result A StepError)
    → node_in es q ≡ Some before → node_in fs q ≡ Some behind
    → ((p : ProcessId) → same_process q p ≡ false → node_in fs p ≡ node_in es p)
    → IfErr made (NoRestart (core_of before) (core_of behind) (data_of before) (data_of behind) bytes)
    → IfErr made (NoRestartAt (kept_at es) (kept_at fs) q bytes)
not_restarted es fs q bytes before behind (Ok r) stood stands others h = tt
not_restarted es fs q bytes before behind (Err e) stood stands others h =
    no_restart (kept_at es) (kept_at fs) q bytes e (core_of before) (core_of behind)
    (moves_at es fs q before behind stood stands others)
    (subst (λ d. NoRestart (core_of before) (core_of behind) d ((kept_at fs).data_at q) bytes e)
    (sym (data_stood es q before stood))
    (subst (λ d. NoRestart (core_of before) (core_of behind) (data_of before) d bytes e)
    (sym (data_stood fs q behind stands)) h))

pub trimmed : {L E : Type 0} (es fs : List (ProcessId × Process L)) (q : ProcessId)
    (before behind : Process L) (made : Result ℕ E)
    → node_in es q ≡ Some before → node_in fs q ≡ Some behind
    → ((p : ProcessId) → same_process q p ≡ false → node_in fs p ≡ node_in es p)
    → IfOk made (TrimsNode (core_of before) (core_of behind) (data_of before) (data_of behind))
    → IfOk made (TrimsAt (kept_at es) (kept_at fs) q)
trimmed es fs q before behind (Ok r) stood stands others h = record {
  before = core_of before;
  behind = core_of behind;
  moves = moves_at es fs q before behind stood stands others;
  trims = subst (λ d. TrimsNode (core_of before) (core_of behind) d ((kept_at fs).data_at q) r)
      (sym (data_stood es q before stood))
      (subst (λ d. TrimsNode (core_of before) (core_of behind) (data_of before) d r)
      (sym (data_stood fs q behind stands)) h);
}
trimmed es fs q before behind (Err e) stood stands others h = tt

no_trim : (old new : NodesSight) (q : ProcessId) (e : StepError) (s t : CoreState)
    → MovesAt old new q s t → NoTrim s t (old.data_at q) (new.data_at q) e → NoTrimAt old new q e
no_trim old new q Memory s t moves h = same_nodes old new q s t moves h.0 h.1
no_trim old new q Device s t moves h = record { before = s; behind = t; moves = moves; breaks = h }
no_trim old new q UnknownTxn s t moves h = absurd h
no_trim old new q NotAChild s t moves h = absurd h
no_trim old new q Closed s t moves h = absurd h
no_trim old new q Failed s t moves h =
    (same_nodes old new q s t moves h.0 h.1, subst HasFailed (sym moves.stood) h.2)
no_trim old new q NotInDoubt s t moves h = absurd h
no_trim old new q NothingToForget s t moves h = absurd h
no_trim old new q NoSuch s t moves h = absurd h
no_trim old new q Exhausted s t moves h = absurd h

pub not_trimmed : {L A : Type 0} (es fs : List (ProcessId × Process L)) (q : ProcessId)
    (before behind : Process L) (made : Result A StepError)
    → node_in es q ≡ Some before → node_in fs q ≡ Some behind
    → ((p : ProcessId) → same_process q p ≡ false → node_in fs p ≡ node_in es p)
    → IfErr made (NoTrim (core_of before) (core_of behind) (data_of before) (data_of behind))
    → IfErr made (NoTrimAt (kept_at es) (kept_at fs) q)
not_trimmed es fs q before behind (Ok r) stood stands others h = tt
not_trimmed es fs q before behind (Err e) stood stands others h =
    no_trim (kept_at es) (kept_at fs) q e (core_of before) (core_of behind)
    (moves_at es fs q before behind stood stands others)
    (subst (λ d. NoTrim (core_of before) (core_of behind) d ((kept_at fs).data_at q) e)
    (sym (data_stood es q before stood))
    (subst (λ d. NoTrim (core_of before) (core_of behind) (data_of before) d e)
    (sym (data_stood fs q behind stands)) h))

-- The tree.

-- what the processes of a tree keep, and their data
abbrev pub sight_in : WorldState → NodesSight
sight_in w = record { node_at = w.node_at; data_at = w.data_at }

-- what a step's entry leaves of a tree
pub record Entered (old new : WorldState) (q : ProcessId) (happening : Happening)
    (reaction : Reaction) : Type 0 where
  pub tree : new.tree ≡ old.tree
  pub net : new.net ≡ old.net ++ reaction.messages
  pub delivered : new.delivered ≡ old.delivered ++ undelivered reaction.messages
  pub entries : new.entries ≡ old.entries ++ step_entry q happening reaction ∷ []

pub restarts_tree : (old new : WorldState) (q : ProcessId) (bytes : Option ℕ) (made : ℕ × Reaction)
    → RestartsAt (sight_in old) (sight_in new) q bytes made → Entered old new q (Restart made.0) made.1
    → Worlds.RestartsAt old new q bytes
restarts_tree old new q bytes made h entered = record {
  before = h.before;
  behind = h.behind;
  keep = h.restarts.keep;
  reaction = made.1;
  moves = record {
    tree = entered.tree;
    stood = h.moves.stood;
    stands = h.moves.stands;
    others = h.moves.others;
    others_data = h.moves.others_data;
  };
  keeps = h.restarts.keeps;
  restarts = h.restarts.restarts;
  holdings = h.restarts.holdings;
  enters = record {
    net = entered.net;
    delivered = entered.delivered;
    entries = entered.entries
        ∙ ap (λ n. old.entries ++ step_entry q (Restart n) made.1 ∷ []) h.restarts.count;
  };
}

pub trims_tree : (old new : WorldState) (q : ProcessId) (remain : ℕ)
    → TrimsAt (sight_in old) (sight_in new) q remain
    → Entered old new q Trimming (trim_reaction remain) → Worlds.TrimsAt old new q
trims_tree old new q remain h entered = record {
  before = h.before;
  behind = h.behind;
  remain = remain;
  moves = record {
    tree = entered.tree;
    stood = h.moves.stood;
    stands = h.moves.stands;
    others = h.moves.others;
    others_data = h.moves.others_data;
  };
  works = h.trims.works;
  sound = h.trims.sound;
  trims = h.trims.trims;
  holdings = h.trims.holdings;
  enters = record { net = entered.net; delivered = entered.delivered; entries = entered.entries };
}

-- Where nothing was entered.

-- all but the processes stay
pub record Unentered (old new : WorldState) : Type 0 where
  pub tree : new.tree ≡ old.tree
  pub net : new.net ≡ old.net
  pub delivered : new.delivered ≡ old.delivered
  pub entries : new.entries ≡ old.entries

same_tree : (old new : WorldState) → SameNodes (sight_in old) (sight_in new) → Unentered old new
    → SameTree old new
same_tree old new nodes stays =
    record {
      tree = stays.tree;
      nodes = nodes.nodes;
      holdings = nodes.holdings;
      net = stays.net;
      delivered = stays.delivered;
      entries = stays.entries;
    }

pub no_restart_of_tree : (old new : WorldState) (q : ProcessId) (bytes : Option ℕ) (e : StepError)
    → NoRestartAt (sight_in old) (sight_in new) q bytes e → Unentered old new
    → Worlds.NotRestartedAt old new q bytes e
no_restart_of_tree old new q bytes Memory h stays = same_tree old new h stays
no_restart_of_tree old new q bytes Device h stays = record {
  before = h.before;
  behind = h.behind;
  keep = h.breaks.keep;
  moves = record {
    tree = stays.tree;
    stood = h.moves.stood;
    stands = h.moves.stands;
    others = h.moves.others;
    others_data = h.moves.others_data;
  };
  keeps = h.breaks.keeps;
  broken = h.breaks.broken;
  net = stays.net;
  delivered = stays.delivered;
  entries = stays.entries;
}
no_restart_of_tree old new q bytes UnknownTxn h stays = absurd h
no_restart_of_tree old new q bytes NotAChild h stays = absurd h
no_restart_of_tree old new q bytes Closed h stays = absurd h
no_restart_of_tree old new q bytes Failed h stays = absurd h
no_restart_of_tree old new q bytes NotInDoubt h stays = absurd h
no_restart_of_tree old new q bytes NothingToForget h stays = absurd h
no_restart_of_tree old new q bytes NoSuch h stays = (same_tree old new h.0 stays, h.1)
no_restart_of_tree old new q bytes Exhausted h stays = (same_tree old new h.0 stays, h.1)

pub no_trim_of_tree : (old new : WorldState) (q : ProcessId) (e : StepError)
    → NoTrimAt (sight_in old) (sight_in new) q e → Unentered old new → Worlds.NotTrimmedAt old new q e
no_trim_of_tree old new q Memory h stays = same_tree old new h stays
no_trim_of_tree old new q Device h stays = record {
  before = h.before;
  behind = h.behind;
  moves = record {
    tree = stays.tree;
    stood = h.moves.stood;
    stands = h.moves.stands;
    others = h.moves.others;
    others_data = h.moves.others_data;
  };
  works = h.breaks.works;
  sound = h.breaks.sound;
  broken = h.breaks.broken;
  net = stays.net;
  delivered = stays.delivered;
  entries = stays.entries;
}
no_trim_of_tree old new q UnknownTxn h stays = absurd h
no_trim_of_tree old new q NotAChild h stays = absurd h
no_trim_of_tree old new q Closed h stays = absurd h
no_trim_of_tree old new q Failed h stays = (same_tree old new h.0 stays, h.1)
no_trim_of_tree old new q NotInDoubt h stays = absurd h
no_trim_of_tree old new q NothingToForget h stays = absurd h
no_trim_of_tree old new q NoSuch h stays = (same_tree old new h.0 stays, h.1)
no_trim_of_tree old new q Exhausted h stays = absurd h

-- The whole state, from the processes and the journals around a step.

-- a step's entry after a journal that kept all
entered : (tree : List TreeProcess) (ns ms : NodesSight)
    (j k l : JournalState) (q : ProcessId)
    (happening : Happening) (reaction : Reaction) → SameJournal j k → l.net ≡ k.net ++ reaction.messages
    → l.delivered ≡ k.delivered ++ undelivered reaction.messages
    → l.entries ≡ k.entries ++ step_entry q happening reaction ∷ []
    → Entered (world tree ns j) (world tree ms l) q happening reaction
entered tree ns ms j k l q happening reaction keeps net delivered entries = record {
  tree = refl;
  net = net ∙ ap (λ x. x ++ reaction.messages) keeps.net;
  delivered = delivered ∙ ap (λ x. x ++ undelivered reaction.messages) keeps.delivered;
  entries = entries ∙ ap (λ x. x ++ step_entry q happening reaction ∷ []) keeps.entries;
}

unentered : (tree : List TreeProcess) (ns ms : NodesSight) (j k : JournalState) → SameJournal j k
    → Unentered (world tree ns j) (world tree ms k)
unentered tree ns ms j k keeps = record {
  tree = refl;
  net = keeps.net;
  delivered = keeps.delivered;
  entries = keeps.entries;
}

pub world_restarts : (tree : List TreeProcess) (ns ms : NodesSight)
    (j k l : JournalState) (q : ProcessId)
    (bytes : Option ℕ) (made : ℕ × Reaction) → RestartsAt ns ms q bytes made → SameJournal j k
    → l.net ≡ k.net ++ made.1.messages → l.delivered ≡ k.delivered ++ undelivered made.1.messages
    → l.entries ≡ k.entries ++ step_entry q (Restart made.0) made.1 ∷ []
    → Worlds.RestartsAt (world tree ns j) (world tree ms l) q bytes
world_restarts tree ns ms j k l q bytes made h keeps net delivered entries =
    restarts_tree (world tree ns j) (world tree ms l) q bytes made h
    (entered tree ns ms j k l q (Restart made.0) made.1 keeps net delivered entries)

pub world_trims : (tree : List TreeProcess) (ns ms : NodesSight) (j k l : JournalState)
    (q : ProcessId) (remain : ℕ)
    (reaction : Reaction) → TrimsAt ns ms q remain → reaction ≡ trim_reaction remain → SameJournal j k
    → l.net ≡ k.net ++ reaction.messages → l.delivered ≡ k.delivered ++ undelivered reaction.messages
    → l.entries ≡ k.entries ++ step_entry q Trimming reaction ∷ []
    → Worlds.TrimsAt (world tree ns j) (world tree ms l) q
world_trims tree ns ms j k l q remain reaction h is keeps net delivered entries =
    trims_tree (world tree ns j) (world tree ms l) q remain h
    (subst (Entered (world tree ns j) (world tree ms l) q Trimming) is
    (entered tree ns ms j k l q Trimming reaction keeps net delivered entries))

pub world_not_restarted : (tree : List TreeProcess) (ns ms : NodesSight)
    (j k : JournalState) (q : ProcessId)
    (bytes : Option ℕ) (e : StepError) → NoRestartAt ns ms q bytes e → SameJournal j k
    → Worlds.NotRestartedAt (world tree ns j) (world tree ms k) q bytes e
world_not_restarted tree ns ms j k q bytes e h keeps =
    no_restart_of_tree (world tree ns j) (world tree ms k) q bytes e h (unentered tree ns ms j k keeps)

pub world_not_trimmed : (tree : List TreeProcess) (ns ms : NodesSight)
    (j k : JournalState) (q : ProcessId)
    (e : StepError) → NoTrimAt ns ms q e → SameJournal j k
    → Worlds.NotTrimmedAt (world tree ns j) (world tree ms k) q e
world_not_trimmed tree ns ms j k q e h keeps =
    no_trim_of_tree (world tree ns j) (world tree ms k) q e h (unentered tree ns ms j k keeps)
