-- What an appended record changes.
use Rattle.std.proofs.Common.{◌≡◌, ◌∙◌, ap, sym, Bool, true, false, ◌||◌, List, [], ◌∷◌, ◌++◌, append_assoc, if◌then◌else◌, arith}
use Rattle.std.proofs.lemmas.List.{append-nil}
use Rattle.std.proofs.lemmas.List.Folds.{list_any-append}
use Rattle.std.proofs.lemmas.Grind.{fold-append}
use Rattle.protocol.specs.declared.names.Case.{Case}
use Rattle.protocol.specs.declared.records.BranchName.{BranchName}
use Rattle.protocol.specs.declared.records.Record.{Record}
use Rattle.protocol.specs.Records.{has, boot_of, boot_after}
use Rattle.protocol.specs.Nodes.{Place, Node, kept, Heard, Effect, Written, entries_written, is_any_forced, appends, after}
use Rattle.protocol.specs.Memory.{memory_of, remembers}
use Rattle.protocol.specs.Standings.{mark_of, mark_after}

pub has-push : (q : Record → Bool) (xs : List Record) (r : Record) → has q (xs ++ r ∷ []) ≡ (q r || has q xs)
unfolding has
has-push q xs r = grind (arith, list_any-append)

pub mark_of-push : (b : BranchName) (xs : List Record) (r : Record)
    → mark_of b (xs ++ r ∷ []) ≡ mark_after b (mark_of b xs) r
unfolding mark_of
mark_of-push b xs r = fold-append _ _ xs (r ∷ [])

pub boot_of-push : (xs : List Record) (r : Record) → boot_of (xs ++ r ∷ []) ≡ boot_after (boot_of xs) r
unfolding boot_of
boot_of-push xs r = fold-append _ _ xs (r ∷ [])

-- what is kept after an event is what was kept, and the records that it appended
appended_by : (n : Node) (new : List Record) (b : Bool) (whole part : Node)
    → whole.forced ++ whole.unforced ≡ kept n ++ new → part.forced ++ part.unforced ≡ kept n ++ new
    → kept (if b then whole else part) ≡ kept n ++ new
appended_by n new true whole part h k = h
appended_by n new false whole part h k = k

pub kept-appends : (n : Node) (ws : List Written) → kept (appends n ws) ≡ kept n ++ entries_written ws
kept-appends n ws =
    appended_by n (entries_written ws) (is_any_forced ws) _ _
    (append-nil (kept n ++ entries_written ws))
    (sym (append_assoc n.forced n.unforced (entries_written ws)))

pub kept-after : (n : Node) (h : Heard) (e : Effect)
    → kept (after n h e) ≡ kept n ++ entries_written e.written
kept-after n h e = kept-appends n e.written

-- what is remembered after an input, where the boot stays
pub memory_of-after : (place : Place) (n : Node) (h : Heard) (e : Effect) (c : Case)
    → boot_of (kept n ++ entries_written e.written) ≡ boot_of (kept n)
    → memory_of place (after n h e) c ≡ remembers place.me place.role (boot_of (kept n)) c
    (memory_of place n c) h
unfolding memory_of
memory_of-after place n h e c boot =
    let same_boot : boot_of (kept (after n h e)) ≡ boot_of (kept n) = ap boot_of (kept-after n h e) ∙ boot in
    rw same_boot (fold-append _ _ n.heard (h ∷ []))
