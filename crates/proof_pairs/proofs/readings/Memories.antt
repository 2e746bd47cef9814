-- What a process remembers after one more input.
use Rattle.std.proofs.Common.{◌≡◌, ◌∙◌, ℕ, []}
use Rattle.std.proofs.lemmas.Grind.{fold-append}
use Rattle.protocol.specs.declared.names.Case.{Case}
use Rattle.protocol.specs.declared.records.Record.{Record}
use Rattle.protocol.specs.Records.{boot_of, boot_after}
use Rattle.protocol.specs.Nodes.{Place, Node, kept, Heard, Effect, after}
use Rattle.protocol.specs.Memory.{memory_of, remembers}
use Rattle.protocol.specs.CoordinatorRows.{forced, plain}
use Rattle.proof_pairs.proofs.readings.Lists.{boot_of-push, boot_of-push_behind, boot_of-nil_behind}

pub memory_of-heard : (place : Place) (n : Node) (h : Heard) (e : Effect) (c : Case)
    → boot_of (kept (after n h e)) ≡ boot_of (kept n)
    → memory_of place (after n h e) c ≡ remembers place.me place.role (boot_of (kept n)) c
    (memory_of place n c) h
unfolding memory_of
memory_of-heard place n h e c same = rw (same, fold-append)

-- an event that writes nothing
pub memory_of-nothing : (place : Place) (n : Node) (h : Heard) (e : Effect) (c : Case) → e.written ≡ []
    → memory_of place (after n h e) c ≡ remembers place.me place.role (boot_of (kept n)) c
    (memory_of place n c) h
memory_of-nothing place n h e c none = memory_of-heard place n h e c
    (rw none (boot_of-nil_behind n.forced n.unforced))

pub memory_of-forced : (place : Place) (n : Node) (h : Heard) (e : Effect) (c : Case) (r : Record)
    → e.written ≡ forced r → ((b : ℕ) → boot_after b r ≡ b)
    → memory_of place (after n h e) c ≡ remembers place.me place.role (boot_of (kept n)) c
    (memory_of place n c) h
memory_of-forced place n h e c r one stays = memory_of-heard place n h e c (rw one (boot_of-push (kept n) r
    ∙ stays (boot_of (kept n))))

pub memory_of-plain : (place : Place) (n : Node) (h : Heard) (e : Effect) (c : Case) (r : Record)
    → e.written ≡ plain r → ((b : ℕ) → boot_after b r ≡ b)
    → memory_of place (after n h e) c ≡ remembers place.me place.role (boot_of (kept n)) c
    (memory_of place n c) h
memory_of-plain place n h e c r one stays = memory_of-heard place n h e c
    (rw one (boot_of-push_behind n.forced n.unforced r ∙ stays (boot_of (kept n))))
