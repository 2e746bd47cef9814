-- The associations of threads, as a key store has them and as the judge has them.
use Rattle.std.proofs.Common.{◌≡◌, ℕ, ◌+◌, Bool, true, false, not, List, [], ◌∷◌, ◌++◌, ◌&&◌, ◌||◌, refl, ap, sym, subst, ◌∙◌, arith}
use Rattle.std.specs.Prelude.{◌==◌, nat_eq, if◌then◌else◌}
use Rattle.std.specs.List.{list_any, AllByRecursion, sum_by}
use Rattle.std.proofs.lemmas.Bool.{and_parts, and_from, eqb-true, eq-eqb, false≢true, false_from_ne_true, not_from_false}
use Rattle.xa_xid.specs.declared.xid.Xid.{Xid}
use Rattle.xa_tables.specs.declared.states.AssocState.{AssocState}
use Rattle.xa_tables.specs.declared.states.AssocState.TheVariants.{T0, T1, T2}
use Rattle.xa_assoc.specs.declared.held.Suspended.{Suspended}
use Rattle.xa_assoc.specs.Names.{same, same_seat}
use Rattle.xa_assoc.specs.Associations.{AssocList, Turns, counts, moved_of, own_part, own_state}
use Rattle.xa_assoc.proofs.Sound.{seat_is}
use Rattle.xa_branch.proofs.Names.{same_is, same_refl}
use Rattle.judge_state.specs.declared.parts.Link.{Link}
use Rattle.judge_state.specs.Moves.{links_without}
use Rattle.proof_judged_deeds.specs.Names.{NameNumbers}
use Rattle.proof_judged_deeds.proofs.Lists.{any_pushed, any_kept, any_gone, all_filter, all_append, or_false}

-- T1 of a thread with a branch
abbrev pub one_at : ℕ → ℕ → List Link → Bool
one_at t x ls = list_any (λ l. l.thread == t && l.branch == x && not l.suspended) ls

-- T2 of a thread with a branch
abbrev pub two_at : ℕ → ℕ → List Link → Bool
two_at t x ls = list_any (λ l. l.thread == t && l.branch == x && l.suspended) ls

-- how often a number is in a list
abbrev pub times : ℕ → List ℕ → ℕ
times x ms = sum_by (λ m. if m == x then 1 else 0) ms

abbrev pub is_one : AssocState → Bool
is_one T1 = true
is_one _ = false

abbrev pub is_two : AssocState → Bool
is_two T2 = true
is_two _ = false

-- a number is that of a branch
abbrev pub IsNamed : NameNumbers → ℕ → Type 0
IsNamed n k = (x : Xid) × (k ≡ n.xid x)

-- the associations of a manager are those of a state of the judge
pub record Tied (n : NameNumbers) (a : AssocList) (ls : List Link) (ms : List ℕ) : Type 0 where
  pub one : (t : ℕ) (x : Xid) → one_at t (n.xid x) ls ≡ is_one (own_state a t x)
  pub two : (t : ℕ) (x : Xid) → two_at t (n.xid x) ls ≡ is_two (own_state a t x)
  pub named : AllByRecursion (λ l. IsNamed n l.branch) ls
  pub moved : (x : Xid) → times (n.xid x) ms ≡ moved_of a x
  pub moved_named : AllByRecursion (IsNamed n) ms

abbrev link : ℕ → ℕ → Bool → Link
link t x b = record { thread = t; branch = x; suspended = b }

-- One association more.

here_by : (a b : Bool) → a ≡ true → b ≡ true → (a && b && true) ≡ true
here_by a b h k = rw (h, k) refl

or_true : (b : Bool) → (b || true) ≡ true
or_true true = refl
or_true false = refl

parts : (a b c : Bool) → (a && b && c) ≡ true → (a ≡ true) × (b ≡ true)
parts true true c h = (refl, refl)
parts true false c h = absurd cc
parts false b c h = absurd cc

last : (a b : Bool) → (a && b && false) ≡ false
last true true = refl
last true false = refl
last false b = refl

-- two pairs of a thread and a branch are not one
abbrev Apart : ℕ → ℕ → ℕ → ℕ → Type 0
Apart t x u y = t ≡ u → x ≡ y → ⊥

apart_by : (t x u y : ℕ) (c : Bool) → Apart t x u y → (t == u && x == y && c) ≡ false
apart_by t x u y c apart = false_from_ne_true (t == u && x == y && c) (λ h.
    let p = parts (t == u) (x == y) c h in apart (eqb-true t u p.0) (eqb-true x y p.1))

one_here : (t x : ℕ) (ls : List Link) → one_at t x (ls ++ link t x false ∷ []) ≡ true
one_here t x ls =
    any_pushed (λ l. l.thread == t && l.branch == x && not l.suspended) ls (link t x false)
    ∙ ap (λ b. one_at t x ls || b) (here_by (t == t) (x == x) (eq-eqb t t refl) (eq-eqb x x refl))
    ∙ or_true (one_at t x ls)

two_here : (t x : ℕ) (ls : List Link) → two_at t x (ls ++ link t x true ∷ []) ≡ true
two_here t x ls =
    any_pushed (λ l. l.thread == t && l.branch == x && l.suspended) ls (link t x true)
    ∙ ap (λ b. two_at t x ls || b) (here_by (t == t) (x == x) (eq-eqb t t refl) (eq-eqb x x refl))
    ∙ or_true (two_at t x ls)

one_no : (t x u y : ℕ) (ls : List Link) → one_at u y (ls ++ link t x true ∷ []) ≡ one_at u y ls
one_no t x u y ls =
    any_pushed (λ l. l.thread == u && l.branch == y && not l.suspended) ls (link t x true)
    ∙ ap (λ b. one_at u y ls || b) (last (t == u) (x == y)) ∙ or_false (one_at u y ls)

two_no : (t x u y : ℕ) (ls : List Link) → two_at u y (ls ++ link t x false ∷ []) ≡ two_at u y ls
two_no t x u y ls =
    any_pushed (λ l. l.thread == u && l.branch == y && l.suspended) ls (link t x false)
    ∙ ap (λ b. two_at u y ls || b) (last (t == u) (x == y)) ∙ or_false (two_at u y ls)

one_apart : (t x u y : ℕ) (b : Bool) (ls : List Link) → Apart t x u y
    → one_at u y (ls ++ link t x b ∷ []) ≡ one_at u y ls
one_apart t x u y b ls apart =
    any_pushed (λ l. l.thread == u && l.branch == y && not l.suspended) ls (link t x b)
    ∙ ap (λ c. one_at u y ls || c) (apart_by t x u y (not b) apart) ∙ or_false (one_at u y ls)

two_apart : (t x u y : ℕ) (b : Bool) (ls : List Link) → Apart t x u y
    → two_at u y (ls ++ link t x b ∷ []) ≡ two_at u y ls
two_apart t x u y b ls apart =
    any_pushed (λ l. l.thread == u && l.branch == y && l.suspended) ls (link t x b)
    ∙ ap (λ c. two_at u y ls || c) (apart_by t x u y b apart) ∙ or_false (two_at u y ls)

-- No association of a thread with a branch any more.

goes : (a b c : Bool) → (a && b && c) ≡ true → not (a && b) ≡ false
goes true true c h = refl
goes true false c h = absurd cc
goes false b c h = absurd cc

stays : (t x u y : ℕ) → Apart t x u y → (l : Link) (c : Bool) → (l.thread == u && l.branch == y && c) ≡ true
    → not (l.thread == t && l.branch == x) ≡ true
stays t x u y apart l c h =
    let p = parts (l.thread == u) (l.branch == y) c h in
    not_from_false (l.thread == t && l.branch == x) (false_from_ne_true (l.thread == t && l.branch == x) (λ e.
    let q = and_parts (l.thread == t) (l.branch == x) e in
    apart (sym (eqb-true l.thread t q.0) ∙ eqb-true l.thread u p.0)
    (sym (eqb-true l.branch x q.1) ∙ eqb-true l.branch y p.1)))

one_gone : (t x : ℕ) (ls : List Link) → one_at t x (links_without t x ls) ≡ false
one_gone t x ls = any_gone (λ l. l.thread == t && l.branch == x && not l.suspended)
    (λ l. not (l.thread == t && l.branch == x))
    (λ l h. goes (l.thread == t) (l.branch == x) (not l.suspended) h) ls

two_gone : (t x : ℕ) (ls : List Link) → two_at t x (links_without t x ls) ≡ false
two_gone t x ls = any_gone (λ l. l.thread == t && l.branch == x && l.suspended)
    (λ l. not (l.thread == t && l.branch == x)) (λ l h. goes (l.thread == t) (l.branch == x) l.suspended h) ls

one_stays : (t x u y : ℕ) (ls : List Link) → Apart t x u y → one_at u y (links_without t x ls) ≡ one_at u y ls
one_stays t x u y ls apart = any_kept (λ l. l.thread == u && l.branch == y && not l.suspended)
    (λ l. not (l.thread == t && l.branch == x)) (λ l h. stays t x u y apart l (not l.suspended) h) ls

two_stays : (t x u y : ℕ) (ls : List Link) → Apart t x u y → two_at u y (links_without t x ls) ≡ two_at u y ls
two_stays t x u y ls apart = any_kept (λ l. l.thread == u && l.branch == y && l.suspended)
    (λ l. not (l.thread == t && l.branch == x)) (λ l h. stays t x u y apart l l.suspended h) ls

-- Associations that turn.

-- what becomes of the judge's associations where that of a thread with a branch reaches a state
pub record Become (n : NameNumbers) (t : ℕ) (x : Xid) (ls ls' : List Link) (s : AssocState) : Type 0 where
  pub one : one_at t (n.xid x) ls' ≡ is_one s
  pub two : two_at t (n.xid x) ls' ≡ is_two s
  pub ones : (u y : ℕ) → Apart t (n.xid x) u y → one_at u y ls' ≡ one_at u y ls
  pub twos : (u y : ℕ) → Apart t (n.xid x) u y → two_at u y ls' ≡ two_at u y ls
  pub named : AllByRecursion (λ l. IsNamed n l.branch) ls'

-- and of those that are suspended for migration
pub record Count (n : NameNumbers) (x : Xid) (ms ms' : List ℕ) (from to : ℕ) : Type 0 where
  pub own : times (n.xid x) ms' + from ≡ times (n.xid x) ms + to
  pub others : (y : ℕ) → (n.xid x ≡ y → ⊥) → times y ms' ≡ times y ms
  pub named : AllByRecursion (IsNamed n) ms'

seat_self : (t : ℕ) (x : Xid) → same_seat (record { thread = t; xid = x })
    (record { thread = t; xid = x }) ≡ true
seat_self t x = and_from (nat_eq t t) (same x x) (eq-eqb t t refl) (same_refl x)

seats_apart : (n : NameNumbers) (t u : ℕ) (x y : Xid)
    → same_seat (record { thread = u; xid = y }) (record { thread = t; xid = x }) ≡ false
    → Apart t (n.xid x) u (n.xid y)
seats_apart n t u x y h p q =
    let is : x ≡ y = n.xids_apart x y q in
    let h2 : same_seat (record { thread = u; xid = y }) (record { thread = u; xid = y }) ≡ false =
    subst (λ (z : Xid). same_seat (record { thread = u; xid = y }) (record { thread = u; xid = z }) ≡ false)
    is
    (subst (λ (v : ℕ). same_seat (record { thread = u; xid = y }) (record { thread = v; xid = x }) ≡ false) p
    h) in
    false≢true (sym h2 ∙ seat_self u y)

not_same : (n : NameNumbers) (x y : Xid) → same x y ≡ false → n.xid x ≡ n.xid y → ⊥
not_same n x y h q =
    false≢true (sym h ∙ subst (λ (z : Xid). same x z ≡ true) (n.xids_apart x y q) (same_refl x))

pub turned : (n : NameNumbers) (old new : AssocList) (t : ℕ) (x : Xid) (from to : AssocState)
    (ls ls' : List Link) (ms ms' : List ℕ)
    → Tied n old ls ms → Turns old new t x from to → Become n t x ls ls' (own_part to)
    → Count n x ms ms' (counts from) (counts to) → Tied n new ls' ms'
turned n old new t x from to ls ls' ms ms' tied turns become count = record {
  one = one_by;
  two = two_by;
  named = become.named;
  moved = moved_by;
  moved_named = count.named;
} where
  one_by : (u : ℕ) (y : Xid) → one_at u (n.xid y) ls' ≡ is_one (own_state new u y)
  one_by u y = by (same_seat (record { thread = u; xid = y }) (record { thread = t; xid = x })) refl where
    by : (b : Bool) → same_seat (record { thread = u; xid = y }) (record { thread = t; xid = x }) ≡ b
        → one_at u (n.xid y) ls' ≡ is_one (own_state new u y)
    by true e = subst (λ (s : Suspended). one_at s.thread (n.xid s.xid) ls'
        ≡ is_one (own_state new s.thread s.xid))
        (sym (seat_is (record { thread = u; xid = y }) (record { thread = t; xid = x }) e))
        (become.one ∙ sym (ap is_one turns.own))
    by false e = become.ones u (n.xid y) (seats_apart n t u x y e) ∙ tied.one u y
        ∙ sym (ap is_one (turns.others u y e))

  two_by : (u : ℕ) (y : Xid) → two_at u (n.xid y) ls' ≡ is_two (own_state new u y)
  two_by u y = by (same_seat (record { thread = u; xid = y }) (record { thread = t; xid = x })) refl where
    by : (b : Bool) → same_seat (record { thread = u; xid = y }) (record { thread = t; xid = x }) ≡ b
        → two_at u (n.xid y) ls' ≡ is_two (own_state new u y)
    by true e = subst (λ (s : Suspended). two_at s.thread (n.xid s.xid) ls'
        ≡ is_two (own_state new s.thread s.xid))
        (sym (seat_is (record { thread = u; xid = y }) (record { thread = t; xid = x }) e))
        (become.two ∙ sym (ap is_two turns.own))
    by false e = become.twos u (n.xid y) (seats_apart n t u x y e) ∙ tied.two u y
        ∙ sym (ap is_two (turns.others u y e))

  moved_by : (y : Xid) → times (n.xid y) ms' ≡ moved_of new y
  moved_by y = by (same x y) refl where
    by : (b : Bool) → same x y ≡ b → times (n.xid y) ms' ≡ moved_of new y
    by true e = subst (λ (z : Xid). times (n.xid z) ms' ≡ moved_of new z) (same_is x y e)
        (let was = tied.moved x in let own = count.own in let m = turns.moved in omega arith)
    by false e = count.others (n.xid y) (not_same n x y e) ∙ tied.moved y ∙ sym (turns.moved_others y e)

-- What the judge's associations become.

pub linked_one : (n : NameNumbers) (t : ℕ) (x : Xid) (ls : List Link)
    → AllByRecursion (λ l. IsNamed n l.branch) ls
    → two_at t (n.xid x) ls ≡ false → Become n t x ls (ls ++ link t (n.xid x) false ∷ []) T1
linked_one n t x ls named none = record {
  one = one_here t (n.xid x) ls;
  two = two_no t (n.xid x) t (n.xid x) ls ∙ none;
  ones = λ u y apart. one_apart t (n.xid x) u y false ls apart;
  twos = λ u y apart. two_apart t (n.xid x) u y false ls apart;
  named = all_append (λ l. IsNamed n l.branch) ls (link t (n.xid x) false ∷ []) named ((x, refl), tt);
}

pub unlinked_none : (n : NameNumbers) (t : ℕ) (x : Xid) (ls : List Link)
    → AllByRecursion (λ l. IsNamed n l.branch) ls
    → Become n t x ls (links_without t (n.xid x) ls) T0
unlinked_none n t x ls named = record {
  one = one_gone t (n.xid x) ls;
  two = two_gone t (n.xid x) ls;
  ones = λ u y apart. one_stays t (n.xid x) u y ls apart;
  twos = λ u y apart. two_stays t (n.xid x) u y ls apart;
  named = all_filter (λ l. IsNamed n l.branch) (λ l. not (l.thread == t && l.branch == n.xid x)) ls named;
}

pub relinked_one : (n : NameNumbers) (t : ℕ) (x : Xid) (ls : List Link)
    → AllByRecursion (λ l. IsNamed n l.branch) ls
    → Become n t x ls (links_without t (n.xid x) ls ++ link t (n.xid x) false ∷ []) T1
relinked_one n t x ls named =
    let gone = unlinked_none n t x ls named in
    let back = linked_one n t x (links_without t (n.xid x) ls) gone.named gone.two in
    record {
      one = back.one;
      two = back.two;
      ones = λ u y apart. back.ones u y apart ∙ gone.ones u y apart;
      twos = λ u y apart. back.twos u y apart ∙ gone.twos u y apart;
      named = back.named;
    }

pub relinked_two : (n : NameNumbers) (t : ℕ) (x : Xid) (ls : List Link)
    → AllByRecursion (λ l. IsNamed n l.branch) ls
    → Become n t x ls (links_without t (n.xid x) ls ++ link t (n.xid x) true ∷ []) T2
relinked_two n t x ls named =
    let gone = unlinked_none n t x ls named in
    let left = links_without t (n.xid x) ls in
    record {
      one = one_no t (n.xid x) t (n.xid x) left ∙ gone.one;
      two = two_here t (n.xid x) left;
      ones = λ u y apart. one_apart t (n.xid x) u y true left apart ∙ gone.ones u y apart;
      twos = λ u y apart. two_apart t (n.xid x) u y true left apart ∙ gone.twos u y apart;
      named = all_append (λ l. IsNamed n l.branch) left (link t (n.xid x) true ∷ []) gone.named
          ((x, refl), tt);
    }

pub same_links : (n : NameNumbers) (t : ℕ) (x : Xid) (ls : List Link) (s : AssocState)
    → AllByRecursion (λ l. IsNamed n l.branch) ls → one_at t (n.xid x) ls ≡ is_one s
    → two_at t (n.xid x) ls ≡ is_two s
    → Become n t x ls ls s
same_links n t x ls s named one two = record {
  one = one;
  two = two;
  ones = λ u y apart. refl;
  twos = λ u y apart. refl;
  named = named;
}

-- What becomes of those that are suspended for migration.

pub same_count : (n : NameNumbers) (x : Xid) (ms : List ℕ) → AllByRecursion (IsNamed n) ms
    → Count n x ms ms 0 0
same_count n x ms named = record { own = refl; others = λ y apart. refl; named = named }
