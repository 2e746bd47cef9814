-- The entries of turns, one after another.
use Rattle.std.proofs.Common.{◌≡◌, ◌∙◌, ap, sym, refl, ℕ, List, [], ◌∷◌, ◌++◌, append-nil, append_assoc}
use Rattle.std.specs.Global.{Vec}
use Rattle.protocol.specs.declared.events.JournalEntry.{JournalEntry}
use Rattle.cluster_turns.specs.Turns.{LinksTurn, all_of}

pub all_both : (es fs : List (Vec (ℕ × JournalEntry))) → all_of (es ++ fs) ≡ all_of es ++ all_of fs
all_both [] fs = refl
all_both (e ∷ es) fs =
    ap (λ l. e.items ++ l) (all_both es fs) ∙ sym (append_assoc e.items (all_of es) (all_of fs))

-- those of one turn more
pub all_more : (es : List (Vec (ℕ × JournalEntry))) (e : Vec (ℕ × JournalEntry))
    → all_of (es ++ e ∷ []) ≡ all_of es ++ e.items
all_more es e = all_both es (e ∷ []) ∙ ap (λ l. all_of es ++ l) (append-nil e.items)

pub linked_all : (old new : List (Vec (ℕ × JournalEntry))) (made : List (ℕ × JournalEntry))
    → LinksTurn old new made
    → all_of new ≡ all_of old ++ made
linked_all old new made links =
    ap all_of links.new_are ∙ all_more old links.turn ∙ ap (λ l. all_of old ++ l) links.entries_are
