-- What a step adds to the counts.
use Rattle.std.proofs.Common.{◌≡◌, ◌∙◌, ap, sym, ℕ, ◌+◌, ◌≤◌, take, drop, Result, Ok, Err, OnOk, Bool, true, false, if◌then◌else◌, List, [], ◌∷◌, ◌++◌, length, map, refl, arith, length-append}
use Rattle.std.specs.List.{flat_map}
use Rattle.std.proofs.lemmas.List.{append-nil, drop_all, flat_map_more, length-map, take_all}
use Rattle.std.proofs.lemmas.List.Sums.{sum_by-append}
use Rattle.protocol.specs.declared.names.ProcessId.{ProcessId}
use Rattle.protocol.specs.declared.messages.Envelope.{Envelope}
use Rattle.protocol.specs.declared.records.ShownRecord.{ShownRecord}
use Rattle.protocol.specs.declared.events.JournalEntry.{JournalEntry}
use Rattle.protocol.specs.declared.trees.TreeProcess.{TreeProcess}
use Rattle.protocol.specs.Names.{same_process}
use Rattle.report_io.specs.declared.streams.Failure.{Failure}
use Rattle.tree_engine.specs.declared.kinds.MessageKind.{MessageKind}
use Rattle.tree_engine.specs.declared.kinds.MessageKind.TheVariants as kind
use Rattle.tree_engine.specs.declared.rows.ProcessCounts.{ProcessCounts}
use Rattle.tree_engine.specs.Counts.{count_forced, count_kind, counts_of, row_behind, row_of, rows_of, sent_by, sent_of, sent_together, together, written_by}

of_kind : (k : MessageKind) (ms ns : List Envelope)
    → count_kind k (ms ++ ns) ≡ count_kind k ms + count_kind k ns
of_kind k ms ns = sum_by-append _ ms ns

sent_of_both : (ms ns : List Envelope) → sent_of (ms ++ ns) ≡ sent_together (sent_of ms) (sent_of ns)
sent_of_both ms ns =
    let join = of_kind kind.Join ms ns in
    let joined = of_kind kind.Joined ms ns in
    let work = of_kind kind.Work ms ns in
    let prepare = of_kind kind.Prepare ms ns in
    let yes = of_kind kind.Yes ms ns in
    let no = of_kind kind.No ms ns in
    let read = of_kind kind.Read ms ns in
    let commit = of_kind kind.Commit ms ns in
    let abort = of_kind kind.Abort ms ns in
    let ack = of_kind kind.Ack ms ns in
    let inquire = of_kind kind.Inquire ms ns in
    cc

pub counts_of_both : (ws vs : List ShownRecord) (ms ns : List Envelope)
    → counts_of (ws ++ vs) (ms ++ ns) ≡ together (counts_of ws ms) (counts_of vs ns)
counts_of_both ws vs ms ns =
    let records = length-append ws vs in
    let forced : count_forced (ws ++ vs) ≡ count_forced ws + count_forced vs = sum_by-append _ ws vs in
    let messages = length-append ms ns in
    let sent = sent_of_both ms ns in
    cc

-- what a process's steps give, with one step more
with_one : {X : Type 0} (f : JournalEntry → List X) (es : List JournalEntry) (e : JournalEntry)
    (q : ProcessId) (own : Bool)
    → same_process e.step.process q ≡ own
    → flat_map (λ e. if same_process e.step.process q then f e else []) (es ++ e ∷ [])
    ≡ flat_map (λ e. if same_process e.step.process q then f e else []) es ++ (if own then f e else [])
with_one f es e q own is =
    sym (flat_map_more (λ e. if same_process e.step.process q then f e else []) [] es e)
    ∙ ap (λ b. flat_map (λ e. if same_process e.step.process q then f e else []) es
    ++ (if b then f e else [])) is

one_row : (es : List JournalEntry) (e : JournalEntry) (p : TreeProcess) (own : Bool)
    → same_process e.step.process p.id ≡ own
    → row_behind e (row_of es p) ≡ row_of (es ++ e ∷ []) p
one_row es e p true is =
    let written = with_one (λ e. e.reaction.written) es e p.id true is in
    let sent = with_one (λ e. e.reaction.messages) es e p.id true is in
    let both = counts_of_both (written_by p.id es) e.reaction.written (sent_by p.id es) e.reaction.messages in
    rw is (rw (written, sent) (ap (λ c. record { process = p.id; counts = c }) (sym both)))
one_row es e p false is =
    let written = with_one (λ e. e.reaction.written) es e p.id false is ∙ append-nil _ in
    let sent = with_one (λ e. e.reaction.messages) es e p.id false is ∙ append-nil _ in
    rw is (rw (written, sent) refl)

-- a step more
all_rows : (tree : List TreeProcess) (es : List JournalEntry) (e : JournalEntry)
    → map (row_behind e) (map (row_of es) tree) ≡ map (row_of (es ++ e ∷ [])) tree
all_rows [] es e = refl
all_rows (p ∷ ps) es e = rw (one_row es e p (same_process e.step.process p.id) refl, all_rows ps es e) refl

pub step_more : (tree : List TreeProcess) (es : List JournalEntry) (e : JournalEntry)
    → map (row_behind e) (rows_of tree es) ≡ rows_of tree (es ++ e ∷ [])
unfolding rows_of
step_more tree es e = all_rows tree es e

-- a slice of a whole list, written back
written_back : {A : Type 0} (new items : List A) (n : ℕ) → length new ≡ length items → n ≡ length items
    → take n (new ++ drop (length new) items) ≡ new
written_back new items n size is =
    let le : length items ≤ length new = omega arith in
    let all : length new ≤ n = omega arith in
    ap (λ rest. take n (new ++ rest)) (drop_all (length new) items le)
    ∙ ap (take n) (append-nil new) ∙ take_all n new all

-- the counts after a step more
pub counted : (made : Result (Unit {0}) Failure)
    (view items old new : List ProcessCounts) (n : ℕ) (e : JournalEntry)
    → items ≡ view → old ≡ items → length old ≡ n → OnOk made (new ≡ map (row_behind e) old)
    → OnOk made ((tree : List TreeProcess) (es : List JournalEntry) → view ≡ rows_of tree es
    → take n (new ++ drop (length new) items) ≡ rows_of tree (es ++ e ∷ []))
counted (Err x) view items old new n e shown value size is = is
counted (Ok x) view items old new n e shown value size is = λ tree es so.
    let long : length new ≡ length items = ap length is ∙ length-map old (row_behind e) ∙ ap length value in
    written_back new items n long (sym size ∙ ap length value) ∙ is
    ∙ ap (map (row_behind e)) (value ∙ shown ∙ so)
    ∙ step_more tree es e
