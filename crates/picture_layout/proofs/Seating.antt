-- Seats, one after another: each process of a list has one.
use Rattle.std.proofs.Common.{◌≡◌, ◌∙◌, ap, sym, subst, refl, ℕ, ◌+◌, ◌<◌, All, true, is_some, Option, Some, None, List, [], ◌∷◌, ◌++◌, find, get_or, length, take, arith, zero, suc, if◌then◌else◌}
use Rattle.std.specs.Option.{option_or}
use Rattle.std.proofs.lemmas.List.{take_more}
use Rattle.std.proofs.lemmas.List.Elements.{All-append}
use Rattle.std.proofs.lemmas.List.Folds.{find-append}
use Rattle.protocol.specs.declared.names.ProcessId.{ProcessId}
use Rattle.protocol.specs.declared.trees.TreeProcess.{TreeProcess}
use Rattle.protocol.specs.Names.{same_process}
use Rattle.picture_layout.specs.declared.seats.Column.{Column}
use Rattle.picture_layout.specs.Ways.{HasSeat}

-- it is so of one entry alone
alone : (P : TreeProcess → Type 0) (e : TreeProcess) → P e → All P (e ∷ [])
alone P e one zero d there = one
alone P e one (suc k) d there = absurd (omega (arith, there))

-- it is so of the first entries and one more
all_more : (P : TreeProcess → Type 0) (tree : List TreeProcess) (k : ℕ) (e : TreeProcess) → k < length tree
    → e ≡ get_or tree k e → All P (take k tree) → P e → All P (take (k + 1) tree)
all_more P tree k e there at before one =
    subst (λ es. All P es) (sym (take_more tree k e there ∙ ap (λ x. take k tree ++ x ∷ []) (sym at)))
    (All-append P (take k tree) (e ∷ []) before (alone P e one))

-- one more process has a seat
pub seated_more : (tree : List TreeProcess) (k : ℕ) (e : TreeProcess) (seats : List Column) → k < length tree
    → e ≡ get_or tree k e → All (HasSeat seats) (take k tree) → HasSeat seats e
    → All (HasSeat seats) (take (k + 1) tree)
seated_more tree k e seats there at before one = all_more (HasSeat seats) tree k e there at before one

first_stays : {A : Type 0} (a b : Option A) → is_some a ≡ true → is_some (option_or a b) ≡ true
first_stays (Some x) b some = refl
first_stays None b some = absurd (cc)

-- one seat more takes none away
stays : (seats : List Column) (s : Column) (e : TreeProcess) → HasSeat seats e → HasSeat (seats ++ s ∷ []) e
stays seats s e has =
    ap is_some (find-append (λ (t : Column). same_process t.process e.id) seats (s ∷ []))
    ∙ first_stays (find (λ (t : Column). same_process t.process e.id) seats)
    (find (λ (t : Column). same_process t.process e.id) (s ∷ [])) has

all_stay : (seats : List Column) (s : Column) (es : List TreeProcess) → All (HasSeat seats) es
    → All (HasSeat (seats ++ s ∷ [])) es
all_stay seats s es all = λ k d there. stays seats s (get_or es k d) (all k d there)

last_stays : {A : Type 0} (a b : Option A) → is_some b ≡ true → is_some (option_or a b) ≡ true
last_stays (Some x) b some = refl
last_stays None b some = some

-- who sits has a seat
sits : (seats : List Column) (s : Column) (e : TreeProcess) → same_process s.process e.id ≡ true
    → HasSeat (seats ++ s ∷ []) e
sits seats s e same =
    ap is_some (find-append (λ (t : Column). same_process t.process e.id) seats (s ∷ []))
    ∙ last_stays (find (λ (t : Column). same_process t.process e.id) seats)
    (find (λ (t : Column). same_process t.process e.id) (s ∷ []))
    (ap (λ b. is_some (if b then Some s else None)) same)

-- one more entry sits
pub sat_more : (tree : List TreeProcess) (k : ℕ) (e : TreeProcess) (old new : List Column) (s : Column)
    → k < length tree
    → e ≡ get_or tree k e → new ≡ old ++ s ∷ [] → s.process ≡ e.id
    → All (HasSeat old) (take k tree) → All (HasSeat new) (take (k + 1) tree)
unfolding same_process
sat_more tree k e old new s there at is process before =
    let same : same_process s.process e.id ≡ true = grind (arith, ap (λ (p : ProcessId). p.0) process) in
    subst (λ seats. All (HasSeat seats) (take (k + 1) tree)) (sym is)
    (all_more (HasSeat (old ++ s ∷ [])) tree k e there at (all_stay old s (take k tree) before)
    (sits old s e same))
