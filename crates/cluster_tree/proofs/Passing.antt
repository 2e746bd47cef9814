-- A pass gets longer.
use Rattle.std.proofs.Common.{◌≡◌, ◌<◌, ◌∙◌, ◌+◌, ap, get_or, slice_set, sym, refl, ℕ, zero, suc, All, List, [], ◌∷◌, ◌++◌, length, add-one, append-nil, append_assoc, length-append, arith}
use Rattle.std.proofs.lemmas.List.Elements.{All-append, All-cons, All-head, All-nil, All-tail}
use Rattle.protocol.specs.declared.events.JournalEntry.{JournalEntry}
use Rattle.protocol.specs.declared.messages.Envelope.{Envelope}
use Rattle.protocol.specs.declared.names.ProcessId.{ProcessId}
use Rattle.protocol.specs.declared.trees.TreeProcess.{TreeProcess}
use Rattle.cluster_process.specs.Passes.{PassState}
use Rattle.cluster_ties.specs.Views.{entries_in, places_from}
use Rattle.cluster_process.specs.Posts.{DeliversTurn}
use Rattle.cluster_process.specs.Turns.{IsDeliveryAt}
use Rattle.cluster_tree.specs.Passes.{IsDelivery, IsLonger, new_pass, new_passes}

pub as_long : (p : PassState) → IsLonger p p
as_long p = record {
  caller = refl;
  more = [];
  pairs = sym (append-nil p.pairs);
  deliver = All-nil IsDelivery;
}

pub longer_still : (a b c : PassState) → IsLonger a b → IsLonger b c → IsLonger a c
longer_still a b c one two = record {
  caller = two.caller ∙ one.caller;
  more = one.more ++ two.more;
  pairs = two.pairs ∙ ap (λ l. l ++ two.more) one.pairs ∙ append_assoc a.pairs one.more two.more;
  deliver = All-append IsDelivery one.more two.more one.deliver two.deliver;
}

pub same_longer : (a b : PassState) → b ≡ a → IsLonger a b
same_longer a b same = record {
  caller = ap (λ p. p.caller) same;
  more = [];
  pairs = ap (λ p. p.pairs) same ∙ sym (append-nil a.pairs);
  deliver = All-nil IsDelivery;
}

-- the pairs of deliveries are deliveries
deliver_all : (net : List Envelope) (q : ProcessId) (n : ℕ) (zs : List (ℕ × JournalEntry))
    → All (IsDeliveryAt net q) (entries_in zs) → All IsDelivery (places_from n zs)
deliver_all net q n [] all = All-nil IsDelivery
deliver_all net q n (z ∷ zs) all =
    let one = (All-head (IsDeliveryAt net q) z.1 (entries_in zs) all).is.delivers in
    All-cons IsDelivery (n, z.1) (places_from (suc n) zs)
    ((All-head (IsDeliveryAt net q) z.1 (entries_in zs) all).number, one.envelope.message, one.happens)
    (deliver_all net q (suc n) zs (All-tail (IsDeliveryAt net q) z.1 (entries_in zs) all))

-- messages were delivered in a turn
pub turn_longer : (tree : List TreeProcess) (q : ProcessId) (k : ℕ) (a b : PassState) (place : ℕ)
    → DeliversTurn tree q k a b place → IsLonger a b
turn_longer tree q k a b place p = record {
  caller = p.notes.caller;
  more = places_from place (p.first ∷ p.more);
  pairs = p.notes.pairs;
  deliver = All-cons IsDelivery (place, p.first.1) (places_from (suc place) p.more)
      (k, p.delivers_it.0, p.delivers_it.1)
      (deliver_all p.net q (suc place) p.more p.deliver);
}

-- passes that got longer, of which the first gets longer still
pub longer_first : (old mid : List PassState) (q p : PassState)
    → ((i : ℕ) (d : PassState) → i < length old → IsLonger (get_or old i d) (get_or mid i d)) → 0 < length mid
    → IsLonger (get_or mid 0 q) p → (i : ℕ) (d : PassState) → i < length old
    → IsLonger (get_or old i d) (get_or (slice_set mid 0 p) i d)
longer_first old [] q p h some still i d lt = absurd (omega (arith, some))
longer_first old (x ∷ mid) q p h some still zero d lt = longer_still (get_or old 0 d) x p (h 0 d lt) still
longer_first old (x ∷ mid) q p h some still (suc i) d lt = h (suc i) d lt

-- N new passes
pub passes_more : (n : ℕ) → new_passes (n + 1) ≡ new_passes n ++ new_pass n ∷ []
passes_more n = ap new_passes (add-one n)

pub passes_long : (n : ℕ) → length (new_passes n) ≡ n
passes_long zero = refl
passes_long (suc n) =
    let more : length (new_passes n ++ new_pass n ∷ []) ≡ length (new_passes n) + 1 =
    length-append (new_passes n) (new_pass n ∷ []) in
    let all = passes_long n in omega (arith, more, all)
