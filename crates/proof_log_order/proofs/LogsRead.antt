-- What a coordinator wrote over a run reads as its records.
use Rattle.std.proofs.Common.{◌≡◌, ◌∙◌, true, List, [], ◌∷◌, Option, Some, None, refl, sym, ap, subst}
use Rattle.std.specs.Prelude.{is_some, map}
use Rattle.protocol.specs.declared.names.Kind.TheVariants.{Coordinator}
use Rattle.protocol.specs.declared.names.Case.{Case}
use Rattle.protocol.specs.declared.names.ProcessId.{ProcessId}
use Rattle.protocol.specs.declared.names.Ticket.{Ticket}
use Rattle.protocol_words.specs.Variants.{CaseBranch}
use Rattle.protocol.specs.declared.records.LogRecord.{LogRecord}
use Rattle.protocol.specs.declared.records.Record.{Record}
use Rattle.protocol.specs.declared.records.Record.TheVariants.{Opened, Collecting, Prepare, Commit, Abort, End, Cleared}
use Rattle.protocol.specs.declared.trees.TreeProcess.{TreeProcess}
use Rattle.protocol.specs.Branches.{FitsBelow}
use Rattle.protocol.specs.LogNames.{below_of, in_log, parent_of, ticket_parent}
use Rattle.protocol.specs.Nodes.{IsCoordinator, is_listed, kept, place_of, role_of}
use Rattle.protocol.specs.Records.{record_case}
use Rattle.protocol.specs.Trees.{IsTree}
use Rattle.protocol.specs.World.{IsRun, Made, World}
use Rattle.proof_processes.proofs.CoordinatorLogs.{all_fit}
use Rattle.log_text.specs.Forms.{log_form}
use Rattle.log_rules.specs.order.Orders.{SeenLog, after, nothing_seen}
use Rattle.log_rules.specs.sound.Sound.{IsSound, IsSoundName}
use Rattle.kv_state.specs.Replays.{seen_after, seen_of}
use Rattle.proof_runs.proofs.worlds.Kept.{keeps_own}
use Rattle.proof_log_grammar.specs.Grammar.{MayFollowInLog, admitted, and_then}
use Rattle.proof_log_grammar.proofs.Ordered.{ordered_is_read}
use Rattle.proof_log_order.specs.Orders.{CanStand, IsReadWhole, NameFits, NamesFit, log_of}
use Rattle.proof_log_order.proofs.Follows.{begins_still, written_so}
use Rattle.proof_log_order.proofs.Ranks.{ordered}

-- what has been seen of records is what admits them

none_after : (ls : List LogRecord) → seen_after None ls ≡ None
unfolding seen_after
none_after [] = refl
none_after (l ∷ ls) = refl

admitted_so : (s : SeenLog) (ls : List LogRecord) → admitted s ls ≡ seen_after (Some s) ls
unfolding admitted seen_after
admitted_so s [] = refl
admitted_so s (l ∷ ls) = by_next (λ t. admitted_so t ls) (after s l)
  where
    by_next : ((t : SeenLog) → admitted t ls ≡ seen_after (Some t) ls) → (o : Option SeenLog)
        → and_then o (λ t. admitted t ls) ≡ seen_after o ls
    by_next more None = sym (none_after ls)
    by_next more (Some t) = more t

-- the numbers of a name fit where its record can stand

name_fits : (p : Option ProcessId) (c : Case) → IsSoundName (ticket_parent p c.ticket) (CaseBranch c)
    → NameFits p (Some c)
name_fits p c h = (h.fits.0, subst FitsBelow (by_ticket c.ticket) h.fits.1)
  where
    by_ticket : (t : Option Ticket) → below_of t (ticket_parent p t) ≡ below_of t p
    by_ticket None = refl
    by_ticket (Some t) = refl

fits_of : (p : Option ProcessId) (r : Record) → IsSound Coordinator (in_log p r) → NameFits p (record_case r)
fits_of p (Opened n) h = tt
fits_of p (Collecting c ts) h = name_fits p c h.0
fits_of p (Prepare c ts) h = name_fits p c h.0
fits_of p (Commit c ts) h = name_fits p c h.0
fits_of p (Abort c ts) h = name_fits p c h.0
fits_of p (End c None) h = name_fits p c h
fits_of p (End c (Some r)) h = name_fits p c h.0
fits_of p (Cleared c) h = name_fits p c h
fits_of p r h = absurd h.1

all_fit_of : (p : Option ProcessId) (rs : List Record) → CanStand (map (in_log p) rs) → NamesFit p rs
all_fit_of p [] h = tt
all_fit_of p (r ∷ rs) h = (fits_of p r h.0, all_fit_of p rs h.1)

-- where each record can be in a coordinator's log, the records of the log may follow one another
pub ordered_so : (tree : List TreeProcess) (es : List Made) (w : World) → IsTree tree → IsRun tree es w
    → (q : ProcessId) → is_listed tree q ≡ true → IsCoordinator (role_of tree q) → CanStand (log_of tree w q)
    → is_some (seen_of (log_of tree w q)) ≡ true
ordered_so tree es w is_tree run q listed i sound =
    let rs = kept (w.at q) in
    let written = written_so tree es w run q i in
    ordered (place_of tree q) i rs (begins_still (w.at q).forced (w.at q).unforced written.begins)
    (all_fit tree es w run q i) written.follow (keeps_own tree es w is_tree run q listed)
    (all_fit_of (parent_of (role_of tree q)) rs sound)

-- likewise, as the grammar of a log's bytes says it
pub follow_so : (ls : List LogRecord) → is_some (seen_of ls) ≡ true → MayFollowInLog ls
follow_so ls h = ap is_some (admitted_so nothing_seen ls) ∙ h

pub reads_so : (tree : List TreeProcess) (es : List Made) (w : World) → IsTree tree → IsRun tree es w
    → (q : ProcessId) → is_listed tree q ≡ true → IsCoordinator (role_of tree q) → CanStand (log_of tree w q)
    → IsReadWhole (log_of tree w q)
reads_so tree es w is_tree run q listed i sound =
    λ p. ordered_is_read (log_form p Coordinator) (log_of tree w q) sound
    (follow_so (log_of tree w q) (ordered_so tree es w is_tree run q listed i sound))
