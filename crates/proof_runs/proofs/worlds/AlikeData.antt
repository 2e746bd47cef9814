-- Data that answer alike, and what moves alike leave of them.
use Rattle.std.proofs.Common.{◌≡◌, ◌∙◌, ℕ, Bool, true, false, List, [], ◌∷◌, inl, inr, refl, sym, ap, subst, rules}
use Rattle.std.specs.Prelude.{◌&&◌, is_none}
use Rattle.std.specs.List.{AllByRecursion}
use Rattle.std.proofs.lemmas.Slice.Eq.{bytes_eq-Decides}
use Rattle.xa_xid.specs.declared.xid.Xid.{Xid}
use Rattle.key_lists.specs.declared.holders.Holder.{Holder}
use Rattle.key_lists.specs.declared.holders.Mode.{Mode}
use Rattle.key_lists.specs.declared.holders.Mode.TheVariants.{Exclusive, Shared}
use Rattle.key_lists.specs.Holders.{given, same, without}
use Rattle.key_lists.specs.Tables.{same_key}
use Rattle.log_rules.specs.order.Orders.{names_key}
use Rattle.protocol.specs.declared.names.Case.{Case}
use Rattle.protocol.specs.declared.messages.Message.{Message}
use Rattle.protocol.specs.declared.messages.Message.TheVariants.{Join, Work, Prepare}
use Rattle.protocol.specs.declared.messages.Op.{Op}
use Rattle.protocol.specs.declared.events.Input.{Input}
use Rattle.protocol_words.specs.Variants.{ActInput, MessageInput}
use Rattle.protocol.specs.declared.records.LogRecord.{LogRecord}
use Rattle.protocol.specs.declared.records.Write.{Write}
use Rattle.protocol.specs.Nodes.{DataAnswer, ReadsOnly}
use Rattle.protocol.specs.Plays.{held_writes, op_writes}
use Rattle.process_state.specs.States.{CoreState}
use Rattle.resource_manager.specs.Data
use Rattle.resource_manager.specs.Data.{CanBegin, HoldWrites, Holdings, IsFull, KeepsHolds, KnowsBranch, LetsHoldsGo, Locks, ManagerData, Wrote, key_of, mode_of, refusal_of}
use Rattle.resource_manager.specs.Restarting.{writes_left}
use Rattle.resource_manager.specs.Turns.{AnswersInput, Begins, DataTurn, Ends, LetsBegin, MovesData, Operates, Releases, Rests, answer_of, next_case}
use Rattle.tree_state.specs.Worlds.{HoldsPromises}

-- two names of branches that are the same are one
pub one_name : (a b : Xid) → same a b ≡ true → a ≡ b
one_name a b h = search rules

one_key : (a b : List ℕ) → same_key a b ≡ true → a ≡ b
one_key a b h = (bytes_eq-Decides a b).0 h

-- Data that are alike: nothing is written, held or known at the one that is not at the other.

abbrev pub AreAlike : ManagerData → ManagerData → Type 0
AreAlike d e = Data.DataRests d e

-- Answers.

module _ (d e : ManagerData) (alike : AreAlike d e) where
  obstacle_alike : (x : Xid) (op : Op)
      → is_none (refusal_of (e.writes x) (e.holders (key_of op)) x op)
      ≡ is_none (refusal_of (d.writes x) (d.holders (key_of op)) x op)
  obstacle_alike x op =
      ap (λ (ws : List Write). is_none (refusal_of ws (e.holders (key_of op)) x op)) (alike.keeps.writes x)
      ∙ ap (λ (hs : List Holder). is_none (refusal_of (d.writes x) hs x op)) (alike.keeps.holders (key_of op))

  known_there : (xs : List Xid) → AllByRecursion (λ x. d.known x ≡ true) xs
      → AllByRecursion (λ x. e.known x ≡ true) xs
  known_there [] h = tt
  known_there (x ∷ xs) h = (alike.known x ∙ h.0, known_there xs h.1)

  known_here : (xs : List Xid) → AllByRecursion (λ x. e.known x ≡ true) xs
      → AllByRecursion (λ x. d.known x ≡ true) xs
  known_here [] h = tt
  known_here (x ∷ xs) h = (sym (alike.known x) ∙ h.0, known_here xs h.1)

  full_there : IsFull d.known → IsFull e.known
  full_there f = record {
    branches = f.branches;
    different = f.different;
    each = known_there f.branches f.each;
    many = f.many;
  }

  full_here : IsFull e.known → IsFull d.known
  full_here f = record {
    branches = f.branches;
    different = f.different;
    each = known_here f.branches f.each;
    many = f.many;
  }

  begins_alike : (x : Xid) (b c : Bool) → CanBegin d x b → CanBegin e x c → b ≡ c
  begins_alike x true true h k = refl
  begins_alike x false false h k = refl
  begins_alike x true false h (inl known) = absurd (let f = sym h.0 ∙ sym (alike.known x) ∙ known in cc)
  begins_alike x true false h (inr full) = absurd (h.1 (full_here full))
  begins_alike x false true (inl known) k = absurd (let f = sym k.0 ∙ alike.known x ∙ known in cc)
  begins_alike x false true (inr full) k = absurd (k.1 (full_there full))

  answers_by : (x : Case → Xid) (m : Message) (b : Bool) → answer_of e x b m ≡ answer_of d x b m
  answers_by x (Join c) b = refl
  answers_by x (Work c i op) b =
      ap (λ (r : Bool). record { starts = true; does = r; holding = ReadsOnly }) (obstacle_alike (x c) op)
  answers_by x (Prepare c n) b =
      ap (λ (ws : List Write). record { starts = true; does = true; holding = held_writes ws })
      (alike.keeps.writes (x c))
  answers_by x _ b = refl

  -- of a message that begins no branch it does not matter whether one could begin
  begun_alike : (s t : CoreState) (x : Case → Xid) (m : Message) (b c : Bool)
      → ((d : Case) → next_case t d ≡ next_case s d)
      → LetsBegin s d x m b → LetsBegin t e x m c → answer_of d x c m ≡ answer_of d x b m
  begun_alike s t x (Join g) b c next h k =
      ap (λ (r : Bool). answer_of d x r (Join g))
      (sym (begins_alike (x (next_case s g)) b c h (subst (λ (f : Case). CanBegin e (x f) c) (next g) k)))
  begun_alike s t x (Work g i op) b c next h k = refl
  begun_alike s t x (Prepare g n) b c next h k = refl
  begun_alike s t x _ b c next h k = refl

  -- alike data answer an input alike
  pub answers_alike : (s t : CoreState) (x : Case → Xid) (i : Input) (a b : DataAnswer)
      → ((d : Case) → next_case t d ≡ next_case s d)
      → AnswersInput s d x i a → AnswersInput t e x i b → b ≡ a
  answers_alike s t x (ActInput act) a b next h k = k ∙ sym h
  answers_alike s t x (MessageInput n m) a b next h k =
      k.is ∙ answers_by x m k.begins ∙ begun_alike s t x m h.begins k.begins next h.lets k.lets ∙ sym h.is

-- Moves.

module _ (d d' e e' : ManagerData) (alike : AreAlike d e) where
  wrote_alike : (x : Xid) (ws vs : List Write) → vs ≡ ws → Wrote d d' x ws → Wrote e e' x vs → (y : Xid)
      → e'.writes y ≡ d'.writes y
  wrote_alike x ws vs is p q y = by_name (same x y) refl
    where
      by_name : (b : Bool) → same x y ≡ b → e'.writes y ≡ d'.writes y
      by_name true here = subst (λ (z : Xid). e'.writes z ≡ d'.writes z) (one_name x y here)
          (q.own ∙ is ∙ sym p.own)
      by_name false there = q.others y there ∙ alike.keeps.writes y ∙ sym (p.others y there)

  knows_alike : (x : Xid) (r : Bool) → KnowsBranch d d' x r → KnowsBranch e e' x r → (y : Xid)
      → e'.known y ≡ d'.known y
  knows_alike x r p q y = by_name (same x y) refl
    where
      by_name : (b : Bool) → same x y ≡ b → e'.known y ≡ d'.known y
      by_name true here = subst (λ (z : Xid). e'.known z ≡ d'.known z) (one_name x y here) (q.own ∙ sym p.own)
      by_name false there = q.others y there ∙ alike.known y ∙ sym (p.others y there)

  stay_alike : Data.StayKnown d d' → Data.StayKnown e e' → (y : Xid) → e'.known y ≡ d'.known y
  stay_alike p q y = q y ∙ alike.known y ∙ sym (p y)

  keeps_alike : KeepsHolds d d' → KeepsHolds e e' → KeepsHolds d' e'
  keeps_alike p q = record {
    writes = λ y. q.writes y ∙ alike.keeps.writes y ∙ sym (p.writes y);
    holders = λ k. q.holders k ∙ alike.keeps.holders k ∙ sym (p.holders k);
  }

  locks_alike : (x : Xid) (op : Op) → Locks d.holders d'.holders x op → Locks e.holders e'.holders x op
      → (k : List ℕ) → e'.holders k ≡ d'.holders k
  locks_alike x op p q k = by_key (same_key (key_of op) k) refl
    where
      by_key : (b : Bool) → same_key (key_of op) k ≡ b → e'.holders k ≡ d'.holders k
      by_key true here = subst (λ (l : List ℕ). e'.holders l ≡ d'.holders l) (one_key (key_of op) k here)
          (q.own ∙ ap (λ (hs : List Holder). given hs x (mode_of op)) (alike.keeps.holders (key_of op))
          ∙ sym p.own)
      by_key false there = q.others k there ∙ alike.keeps.holders k ∙ sym (p.others k there)

  lets_go_alike : (x : Xid) → LetsHoldsGo d d' x → LetsHoldsGo e e' x → KeepsHolds d' e'
  lets_go_alike x p q = record {
    writes = wrote_alike x [] [] refl p.wrote q.wrote;
    holders = λ k. q.held k ∙ ap (λ (hs : List Holder). without hs x) (alike.keeps.holders k)
        ∙ sym (p.held k);
  }

  -- what the same move leaves of alike data is alike
  pub moves_alike : (x : Case → Xid) (t : DataTurn) → MovesData d d' x t → MovesData e e' x t → AreAlike d' e'
  moves_alike x Rests p q = record {
    keeps = keeps_alike p.keeps q.keeps;
    known = stay_alike p.known q.known;
  }
  moves_alike x (Begins c) p q = record {
    keeps = keeps_alike p.keeps q.keeps;
    known = knows_alike (x c) true p.known q.known;
  }
  moves_alike x (Operates c op) p q = record {
    keeps = record {
      writes = wrote_alike (x c) (op_writes (d.writes (x c)) op) (op_writes (e.writes (x c)) op)
          (ap (λ (ws : List Write). op_writes ws op) (alike.keeps.writes (x c))) p.wrote q.wrote;
      holders = locks_alike (x c) op p.locks q.locks;
    };
    known = stay_alike p.known q.known;
  }
  moves_alike x (Releases c) p q = record {
    keeps = lets_go_alike (x c) p.lets_go q.lets_go;
    known = stay_alike p.known q.known;
  }
  moves_alike x (Ends c) p q = record {
    keeps = lets_go_alike (x c) p.lets_go q.lets_go;
    known = knows_alike (x c) false p.known q.known;
  }

-- Restarts.

abbrev same_mode : Mode → Mode → Bool
same_mode Shared Shared = true
same_mode Exclusive Exclusive = true
same_mode _ _ = false

abbrev same_holder : Holder → Holder → Bool
same_holder g h = same g.xid h.xid && same_mode g.mode h.mode

abbrev same_holders : List Holder → List Holder → Bool
same_holders [] [] = true
same_holders (g ∷ gs) (h ∷ hs) = same_holder g h && same_holders gs hs
same_holders _ _ = false

both : (a b : Bool) → (a && b) ≡ true → (a ≡ true) × (b ≡ true)
both true true h = (refl, refl)
both true false h = absurd cc
both false b h = absurd cc

one_mode : (m n : Mode) → same_mode m n ≡ true → m ≡ n
one_mode Shared Shared h = refl
one_mode Exclusive Exclusive h = refl
one_mode Shared Exclusive h = absurd cc
one_mode Exclusive Shared h = absurd cc

one_holder : (g h : Holder) → same_holder g h ≡ true → g ≡ h
one_holder g h is =
    let t = both (same g.xid h.xid) (same_mode g.mode h.mode) is in
    ap (λ (x : Xid). record { xid = x; mode = g.mode }) (one_name g.xid h.xid t.0)
    ∙ ap (λ (m : Mode). record { xid = h.xid; mode = m }) (one_mode g.mode h.mode t.1)

one_list : (gs hs : List Holder) → same_holders gs hs ≡ true → gs ≡ hs
one_list [] [] is = refl
one_list [] (h ∷ hs) is = absurd cc
one_list (g ∷ gs) [] is = absurd cc
one_list (g ∷ gs) (h ∷ hs) is =
    let t = both (same_holder g h) (same_holders gs hs) is in
    ap (λ (k : Holder). k ∷ gs) (one_holder g h t.0) ∙ ap (λ (ks : List Holder). h ∷ ks) (one_list gs hs t.1)

itself_name : (x : Xid) → same x x ≡ true
itself_name x = search rules

itself_mode : (m : Mode) → same_mode m m ≡ true
itself_mode Shared = refl
itself_mode Exclusive = refl

itself_list : (hs : List Holder) → same_holders hs hs ≡ true
itself_list [] = refl
itself_list (h ∷ hs) =
    ap (λ (b : Bool). (b && same_mode h.mode h.mode) && same_holders hs hs) (itself_name h.xid)
    ∙ ap (λ (b : Bool). b && same_holders hs hs) (itself_mode h.mode) ∙ itself_list hs

same_lists : (gs hs : List Holder) → gs ≡ hs → same_holders gs hs ≡ true
same_lists gs hs is = subst (λ (ks : List Holder). same_holders gs ks ≡ true) is (itself_list gs)

-- Where these writes are held, and nothing else is, that says who holds each key: were it two things, no
-- branch would name the key, and so nobody would hold it.
one_holding : (writes : Xid → List Write) (f g : Holdings) → HoldWrites writes f → HoldWrites writes g
    → (k : List ℕ) → g k ≡ f k
one_holding writes f g p q k = by_test (same_holders (g k) (f k)) refl
  where
    unnamed : same_holders (g k) (f k) ≡ false → (x : Xid) (b : Bool) → names_key (writes x) k ≡ b
        → names_key (writes x) k ≡ false
    unnamed apart x false is = is
    unnamed apart x true is =
        absurd (let h = sym (same_lists (g k) (f k) (q.held x k is ∙ sym (p.held x k is))) ∙ apart in cc)

    by_test : (b : Bool) → same_holders (g k) (f k) ≡ b → g k ≡ f k
    by_test true is = one_list (g k) (f k) is
    by_test false apart =
        let none = λ (x : Xid). unnamed apart x (names_key (writes x) k) refl in
        q.free k none ∙ sym (p.free k none)

-- what the same records leave is alike
pub promises_alike : (ls : List LogRecord) (d e : ManagerData) → HoldsPromises ls d → HoldsPromises ls e
    → AreAlike d e
promises_alike ls d e p q = record {
  keeps = record {
    writes = λ y. q.writes y ∙ sym (p.writes y);
    holders = one_holding (writes_left ls) d.holders e.holders p.held q.held;
  };
  known = λ y. q.known y ∙ sym (p.known y);
}
