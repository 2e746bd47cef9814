-- Lines of events: what is read is spelled so, and what is spelled so is read.
use Rattle.std.proofs.Common.{◌≡◌, ◌^◌, ◌<◌, ℕ, Bool, true, false, cond, Option, Some, None, List, [], ◌∷◌, ◌++◌, refl, ap, sym, subst, ◌∙◌, inl, inr, codes, append_assoc}
use Rattle.std.specs.Prelude.{◌&&◌}
use Rattle.std.specs.List.{list_all}
use Rattle.std.specs.Fmt.{decimal}
use Rattle.std.proofs.lemmas.Bool.{cases_eq}
use Rattle.spellings.specs.Numerals.{number_at}
use Rattle.spellings.specs.Words.{cut_at}
use Rattle.spellings.proofs.Numerals.{number_takes, number_again}
use Rattle.spellings.proofs.Cuts.{cut_takes, cut_again, some_is}
use Rattle.protocol.specs.declared.names.ProcessId.{ProcessId}
use Rattle.protocol.specs.declared.names.Outcome.{Outcome}
use Rattle.protocol.specs.declared.names.Outcome.TheVariants.{Committed, Aborted}
use Rattle.protocol.specs.declared.names.Presumption.{Presumption}
use Rattle.protocol.specs.declared.names.Presumption.TheVariants.{PresumeAbort, PresumeCommit}
use Rattle.protocol.specs.declared.names.Case.{Case}
use Rattle.protocol.specs.declared.messages.Op.{Op}
use Rattle.protocol.specs.declared.messages.Op.TheVariants.{Put, Get, Delete}
use Rattle.protocol.specs.declared.events.Act.{Act}
use Rattle.protocol.specs.declared.events.Act.TheVariants.{Begin, Join, Work, Commit, Abort, Ask, Decide, Forget}
use Rattle.protocol.specs.declared.events.Event.{Event}
use Rattle.protocol.specs.declared.events.Event.TheVariants.{Deliver, Settle, Restart, Trim}
use Rattle.protocol_words.specs.Variants.{ActOf}
use Rattle.protocol.specs.Texts.{txn_text, case_text, op_text}
use Rattle.tree_script.specs.Names.{process_at, txn_at, case_at}
use Rattle.script_words.specs.Steps.{same}
use Rattle.script_words.specs.Outcomes.{outcome_at}
use Rattle.script_words.specs.Operations.{is_visible, is_visible_word, key_at, value_at, put_at, get_at, delete_at, op_by, op_at}
use Rattle.tree_script.specs.Events.{begin_at, join_at, work_at, restart_at, restart_parts, heur_at, commit_at, abort_at, ask_at, forget_at, deliver_at, trim_at, plain_at, event_parts, event_at}
use Rattle.tree_script.specs.Spellings.{process_text, presumption_word, decision_word, event_text, FitsProcess, FitsCase, FitsOp, IsWord, FitsEvent, ReadIsSpelled, SpelledIsRead}
use Rattle.tree_script.proofs.Misses.{bind_some, misses, misses_without, not_at, cut_none, same_tells, blank}
use Rattle.tree_script.proofs.NameLaws.{process_takes, process_again, process_misses, txn_takes, txn_again, case_takes, case_again, case_no_blank}

-- which branch a test took
pub chosen : {A : Type 0} (G : Type 0) (b : Bool) (x y : Option A) (v : A) → cond b x y ≡ Some v
    → (b ≡ true → x ≡ Some v → G) → (b ≡ false → y ≡ Some v → G) → G
chosen G true x y v e f g = f refl e
chosen G false x y v e f g = g refl e

-- Keys and values.

and_left : (a b : Bool) → a && b ≡ true → a ≡ true
and_left true b h = refl
and_left false b h = absurd cc

and_right : (a b : Bool) → a && b ≡ true → b ≡ true
and_right true b h = h
and_right false b h = absurd cc

visible_no_blank : (w : List ℕ) → list_all is_visible w ≡ true → misses 32 w ≡ true
visible_no_blank [] h = refl
visible_no_blank (x ∷ xs) h =
    let here : is_visible x ≡ true = and_left (is_visible x) (list_all is_visible xs) h in
    let rest : list_all is_visible xs ≡ true = and_right (is_visible x) (list_all is_visible xs) h in
    elim (cases_eq x 32) [
      | inl e ↦ absurd (let no : is_visible 32 ≡ true = subst (λ (y : ℕ). is_visible y ≡ true) e here in cc)
      | inr e ↦ rw (not_at 32 x e) (visible_no_blank xs rest)
    ]

word_no_blank : (most : ℕ) (w : List ℕ) → IsWord most w → misses 32 w ≡ true
word_no_blank most w h = visible_no_blank w (and_right _ (list_all is_visible w) h)

word_takes : (most : ℕ) (w k : List ℕ) → cond (is_visible_word most w) (Some w) None ≡ Some k
    → (w ≡ k) × IsWord most k
word_takes most w k e =
    chosen ((w ≡ k) × IsWord most k) (is_visible_word most w) (Some w) None k e
    (λ yes here. (some_is w k here, subst (λ (v : List ℕ). IsWord most v) (some_is w k here) yes))
    (λ no here. absurd cc)

word_again : (most : ℕ) (w : List ℕ) → IsWord most w → cond (is_visible_word most w) (Some w) None ≡ Some w
word_again most w h = ap (λ (b : Bool). cond b (Some w) None) h

-- Operations.

pub two_words : (head w a r x y : List ℕ) → w ≡ a ++ 32 ∷ r → a ≡ x → r ≡ y
    → head ++ w ≡ head ++ x ++ codes " " ++ y
two_words head w a r x y e f g = rw (e, f, g) (simp append_assoc)

pub three_words : (head w a r b s x y z : List ℕ) → w ≡ a ++ 32 ∷ r → r ≡ b ++ 32 ∷ s → a ≡ x → b ≡ y → s ≡ z
    → head ++ w ≡ head ++ x ++ codes " " ++ y ++ codes " " ++ z
three_words head w a r b s x y z e d f g h = rw (e, d, f, g, h) (simp append_assoc)

pub two_form : (head x y : List ℕ) → head ++ x ++ codes " " ++ y ≡ head ++ (x ++ 32 ∷ y)
two_form head x y = simp append_assoc

pub three_form : (head x y z : List ℕ) → head ++ x ++ codes " " ++ y ++ codes " " ++ z ≡ head
    ++ (x ++ 32 ∷ (y ++ 32 ∷ z))
three_form head x y z = simp append_assoc

abbrev OpLine : List ℕ → Op → Type 0
OpLine w op = (w ≡ op_text op) × FitsOp op

put_takes : (rest : List ℕ) (op : Op) → put_at rest ≡ Some op → OpLine (codes "put " ++ rest) op
unfolding put_at
put_takes rest op e =
    let a = bind_some (cut_at 32 rest) _ op e in
    let b = bind_some (key_at a.0.0) _ op a.2 in
    let c = bind_some (value_at a.0.1) _ op b.2 in
    let key = word_takes 64 a.0.0 b.0 b.1 in
    let value = word_takes 256 a.0.1 c.0 c.1 in
    subst (λ (o : Op). OpLine (codes "put " ++ rest) o) (some_is (Put b.0 c.0) op c.2) (
      two_words (codes "put ") rest a.0.0 a.0.1 b.0 c.0 (cut_takes 32 rest a.0 a.1) key.0 value.0,
      (key.1, value.1),
    )

get_takes : (rest : List ℕ) (op : Op) → get_at rest ≡ Some op → OpLine (codes "get " ++ rest) op
get_takes rest op e =
    let a = bind_some (key_at rest) _ op e in
    let key = word_takes 64 rest a.0 a.1 in
    subst (λ (o : Op). OpLine (codes "get " ++ rest) o) (some_is (Get a.0) op a.2)
    (ap (λ (w : List ℕ). codes "get " ++ w) key.0, key.1)

delete_takes : (rest : List ℕ) (op : Op) → delete_at rest ≡ Some op → OpLine (codes "del " ++ rest) op
delete_takes rest op e =
    let a = bind_some (key_at rest) _ op e in
    let key = word_takes 64 rest a.0 a.1 in
    subst (λ (o : Op). OpLine (codes "del " ++ rest) o) (some_is (Delete a.0) op a.2)
    (ap (λ (w : List ℕ). codes "del " ++ w) key.0, key.1)

op_under : (word rest : List ℕ) (op : Op) (w : List ℕ) → same word w ≡ true → OpLine (w ++ 32 ∷ rest) op
    → OpLine (word ++ 32 ∷ rest) op
op_under word rest op w is h = subst (λ (v : List ℕ). OpLine (v ++ 32 ∷ rest) op)
    (sym (same_tells word w is)) h

verb_takes : (verb rest : List ℕ) (op : Op) → op_by verb rest ≡ Some op → OpLine (verb ++ 32 ∷ rest) op
verb_takes verb rest op e =
    chosen (OpLine (verb ++ 32 ∷ rest) op) (same verb (codes "put")) _ _ op e
    (λ is here. op_under verb rest op (codes "put") is (put_takes rest op here))
    (λ _ e1. chosen (OpLine (verb ++ 32 ∷ rest) op) (same verb (codes "get")) _ _ op e1
    (λ is here. op_under verb rest op (codes "get") is (get_takes rest op here))
    (λ _ e2. chosen (OpLine (verb ++ 32 ∷ rest) op) (same verb (codes "del")) _ _ op e2
    (λ is here. op_under verb rest op (codes "del") is (delete_takes rest op here))
    (λ _ none. absurd cc)))

pub op_takes : ReadIsSpelled op_at op_text FitsOp
unfolding op_at
op_takes w op e =
    let a = bind_some (cut_at 32 w) _ op e in
    subst (λ (v : List ℕ). OpLine v op) (sym (cut_takes 32 w a.0 a.1)) (verb_takes a.0.0 a.0.1 op a.2)

put_again : (key value : List ℕ) → IsWord 64 key → IsWord 256 value
    → put_at (key ++ 32 ∷ value) ≡ Some (Put key value)
unfolding put_at
put_again key value k v =
    rw (
      cut_again 32 key value (misses_without 32 key (word_no_blank 64 key k)),
      word_again 64 key k,
      word_again 256 value v,
    ) refl

op_cut : (verb rest : List ℕ) (op : Op) → misses 32 verb ≡ true → op_by verb rest ≡ Some op
    → op_at (verb ++ 32 ∷ rest) ≡ Some op
unfolding op_at
op_cut verb rest op free h = rw (cut_again 32 verb rest (misses_without 32 verb free)) h

pub op_again : SpelledIsRead op_at op_text FitsOp
op_again (Put key value) fits =
    ap op_at (two_form (codes "put ") key value)
    ∙ op_cut (codes "put") (key ++ 32 ∷ value) (Put key value) refl (put_again key value fits.0 fits.1)
op_again (Get key) fits = op_cut (codes "get") key (Get key) refl (rw (word_again 64 key fits) refl)
op_again (Delete key) fits = op_cut (codes "del") key (Delete key) refl (rw (word_again 64 key fits) refl)

-- The forms: what is read.

abbrev Line : ProcessId → List ℕ → Event → Type 0
Line root w e = (w ≡ event_text e) × FitsEvent root e

begin_takes : (root : ProcessId) (rest : List ℕ) (e : Event) → begin_at rest ≡ Some e
    → Line root (codes "begin " ++ rest) e
unfolding begin_at
begin_takes root rest e h =
    chosen (Line root (codes "begin " ++ rest) e) (same rest (codes "pa")) _ _ e h
    (λ is here. subst (λ (x : Event). Line root (codes "begin " ++ rest) x)
    (some_is (ActOf (Begin PresumeAbort)) e here)
    (ap (λ (w : List ℕ). codes "begin " ++ w) (same_tells rest (codes "pa") is), tt))
    (λ _ h1. chosen (Line root (codes "begin " ++ rest) e) (same rest (codes "pc")) _ _ e h1
    (λ is here. subst (λ (x : Event). Line root (codes "begin " ++ rest) x)
    (some_is (ActOf (Begin PresumeCommit)) e here)
    (ap (λ (w : List ℕ). codes "begin " ++ w) (same_tells rest (codes "pc") is), tt))
    (λ _ none. absurd cc))

join_takes : (root : ProcessId) (rest : List ℕ) (e : Event) → join_at root rest ≡ Some e
    → Line root (codes "join " ++ rest) e
unfolding join_at
join_takes root rest e h =
    let a = bind_some (cut_at 32 rest) _ e h in
    let b = bind_some (case_at root a.0.0) _ e a.2 in
    let c = bind_some (process_at a.0.1) _ e b.2 in
    let case = case_takes root a.0.0 b.0 b.1 in
    let child = process_takes a.0.1 c.0 c.1 in
    subst (λ (x : Event). Line root (codes "join " ++ rest) x) (some_is (ActOf (Join b.0 c.0)) e c.2) (
      two_words (codes "join ") rest a.0.0 a.0.1 (case_text b.0) (process_text c.0)
          (cut_takes 32 rest a.0 a.1) case.0 child.0,
      record { case_fits = case.1; child_fits = child.1 },
    )

work_takes : (root : ProcessId) (rest : List ℕ) (e : Event) → work_at root rest ≡ Some e
    → Line root (codes "work " ++ rest) e
unfolding work_at
work_takes root rest e h =
    let a = bind_some (cut_at 32 rest) _ e h in
    let b = bind_some (case_at root a.0.0) _ e a.2 in
    let q = bind_some (cut_at 32 a.0.1) _ e b.2 in
    let c = bind_some (process_at q.0.0) _ e q.2 in
    let d = bind_some (op_at q.0.1) _ e c.2 in
    let case = case_takes root a.0.0 b.0 b.1 in
    let child = process_takes q.0.0 c.0 c.1 in
    let op = op_takes q.0.1 d.0 d.1 in
    subst (λ (x : Event). Line root (codes "work " ++ rest) x) (some_is (ActOf (Work b.0 c.0 d.0)) e d.2) (
      three_words (codes "work ") rest a.0.0 a.0.1 q.0.0 q.0.1 (case_text b.0) (process_text c.0)
          (op_text d.0)
          (cut_takes 32 rest a.0 a.1) (cut_takes 32 a.0.1 q.0 q.1) case.0 child.0 op.0,
      record { case_fits = case.1; child_fits = child.1; op_fits = op.1 },
    )

commit_takes : (root : ProcessId) (rest : List ℕ) (e : Event) → commit_at root rest ≡ Some e
    → Line root (codes "commit " ++ rest) e
commit_takes root rest e h =
    let a = bind_some (txn_at root rest) _ e h in
    let x = txn_takes root rest a.0 a.1 in
    subst (λ (y : Event). Line root (codes "commit " ++ rest) y) (some_is (ActOf (Commit a.0)) e a.2)
    (ap (λ (w : List ℕ). codes "commit " ++ w) x.0, x.1)

abort_takes : (root : ProcessId) (rest : List ℕ) (e : Event) → abort_at root rest ≡ Some e
    → Line root (codes "abort " ++ rest) e
abort_takes root rest e h =
    let a = bind_some (txn_at root rest) _ e h in
    let x = txn_takes root rest a.0 a.1 in
    subst (λ (y : Event). Line root (codes "abort " ++ rest) y) (some_is (ActOf (Abort a.0)) e a.2)
    (ap (λ (w : List ℕ). codes "abort " ++ w) x.0, x.1)

ask_takes : (root : ProcessId) (rest : List ℕ) (e : Event) → ask_at root rest ≡ Some e
    → Line root (codes "ask " ++ rest) e
ask_takes root rest e h =
    let a = bind_some (case_at root rest) _ e h in
    let x = case_takes root rest a.0 a.1 in
    subst (λ (y : Event). Line root (codes "ask " ++ rest) y) (some_is (ActOf (Ask a.0)) e a.2)
    (ap (λ (w : List ℕ). codes "ask " ++ w) x.0, x.1)

forget_takes : (root : ProcessId) (rest : List ℕ) (e : Event) → forget_at root rest ≡ Some e
    → Line root (codes "forget " ++ rest) e
forget_takes root rest e h =
    let a = bind_some (case_at root rest) _ e h in
    let x = case_takes root rest a.0 a.1 in
    subst (λ (y : Event). Line root (codes "forget " ++ rest) y) (some_is (ActOf (Forget a.0)) e a.2)
    (ap (λ (w : List ℕ). codes "forget " ++ w) x.0, x.1)

deliver_takes : (root : ProcessId) (rest : List ℕ) (e : Event) → deliver_at rest ≡ Some e
    → Line root (codes "deliver " ++ rest) e
deliver_takes root rest e h =
    let a = bind_some (number_at rest) _ e h in
    let n = number_takes rest a.0 a.1 in
    subst (λ (y : Event). Line root (codes "deliver " ++ rest) y) (some_is (Deliver a.0) e a.2)
    (ap (λ (w : List ℕ). codes "deliver " ++ w) n.0, n.1)

trim_takes : (root : ProcessId) (rest : List ℕ) (e : Event) → trim_at rest ≡ Some e
    → Line root (codes "trim " ++ rest) e
trim_takes root rest e h =
    let a = bind_some (process_at rest) _ e h in
    let p = process_takes rest a.0 a.1 in
    subst (λ (y : Event). Line root (codes "trim " ++ rest) y) (some_is (Trim a.0) e a.2)
    (ap (λ (w : List ℕ). codes "trim " ++ w) p.0, p.1)

restart_read : (root : ProcessId) (rest : List ℕ) (o : Option (List ℕ × List ℕ)) → cut_at 32 rest ≡ o
    → (e : Event) → restart_parts rest o ≡ Some e → Line root (codes "restart " ++ rest) e
restart_read root rest None cut e h =
    let a = bind_some (process_at rest) _ e h in
    let p = process_takes rest a.0 a.1 in
    subst (λ (y : Event). Line root (codes "restart " ++ rest) y) (some_is (Restart a.0 None) e a.2)
    (ap (λ (w : List ℕ). codes "restart " ++ w) p.0, p.1)
restart_read root rest (Some q) cut e h =
    let a = bind_some (process_at q.0) _ e h in
    let b = bind_some (number_at q.1) _ e a.2 in
    let p = process_takes q.0 a.0 a.1 in
    let n = number_takes q.1 b.0 b.1 in
    subst (λ (y : Event). Line root (codes "restart " ++ rest) y) (some_is (Restart a.0 (Some b.0)) e b.2) (
      two_words (codes "restart ") rest q.0 q.1 (process_text a.0) (decimal b.0)
          (cut_takes 32 rest q cut) p.0 n.0,
      (p.1, n.1),
    )

restart_takes : (root : ProcessId) (rest : List ℕ) (e : Event) → restart_at rest ≡ Some e
    → Line root (codes "restart " ++ rest) e
unfolding restart_at
restart_takes root rest e h = restart_read root rest (cut_at 32 rest) refl e h

decision_takes : (w : List ℕ) (o : Outcome) → outcome_at w ≡ Some o → w ≡ decision_word o
decision_takes w o h =
    chosen (w ≡ decision_word o) (same w (codes "commit")) _ _ o h
    (λ is here. subst (λ (x : Outcome). w ≡ decision_word x) (some_is Committed o here)
    (same_tells w (codes "commit") is))
    (λ _ h1. chosen (w ≡ decision_word o) (same w (codes "rollback")) _ _ o h1
    (λ is here. subst (λ (x : Outcome). w ≡ decision_word x) (some_is Aborted o here)
    (same_tells w (codes "rollback") is))
    (λ _ none. absurd cc))

heur_takes : (root : ProcessId) (rest : List ℕ) (e : Event) → heur_at root rest ≡ Some e
    → Line root (codes "heur " ++ rest) e
unfolding heur_at
heur_takes root rest e h =
    let a = bind_some (cut_at 32 rest) _ e h in
    let b = bind_some (case_at root a.0.0) _ e a.2 in
    let c = bind_some (outcome_at a.0.1) _ e b.2 in
    let case = case_takes root a.0.0 b.0 b.1 in
    subst (λ (x : Event). Line root (codes "heur " ++ rest) x) (some_is (ActOf (Decide b.0 c.0)) e c.2) (
      two_words (codes "heur ") rest a.0.0 a.0.1 (case_text b.0) (decision_word c.0)
          (cut_takes 32 rest a.0 a.1) case.0 (decision_takes a.0.1 c.0 c.1),
      case.1,
    )

under : (root : ProcessId) (word rest : List ℕ) (e : Event) (w : List ℕ) → same word w ≡ true
    → Line root (w ++ 32 ∷ rest) e → Line root (word ++ 32 ∷ rest) e
under root word rest e w is h = subst (λ (v : List ℕ). Line root (v ++ 32 ∷ rest) e)
    (sym (same_tells word w is)) h

plain_takes : (root : ProcessId) (word rest : List ℕ) (e : Event) → plain_at root word rest ≡ Some e
    → Line root (word ++ 32 ∷ rest) e
unfolding plain_at
plain_takes root word rest e h =
    chosen (Line root (word ++ 32 ∷ rest) e) (same word (codes "begin")) _ _ e h
    (λ is here. under root word rest e (codes "begin") is (begin_takes root rest e here))
    (λ _ h1. chosen (Line root (word ++ 32 ∷ rest) e) (same word (codes "join")) _ _ e h1
    (λ is here. under root word rest e (codes "join") is (join_takes root rest e here))
    (λ _ h2. chosen (Line root (word ++ 32 ∷ rest) e) (same word (codes "commit")) _ _ e h2
    (λ is here. under root word rest e (codes "commit") is (commit_takes root rest e here))
    (λ _ h3. chosen (Line root (word ++ 32 ∷ rest) e) (same word (codes "abort")) _ _ e h3
    (λ is here. under root word rest e (codes "abort") is (abort_takes root rest e here))
    (λ _ h4. chosen (Line root (word ++ 32 ∷ rest) e) (same word (codes "ask")) _ _ e h4
    (λ is here. under root word rest e (codes "ask") is (ask_takes root rest e here))
    (λ _ h5. chosen (Line root (word ++ 32 ∷ rest) e) (same word (codes "deliver")) _ _ e h5
    (λ is here. under root word rest e (codes "deliver") is (deliver_takes root rest e here))
    (λ _ h6. chosen (Line root (word ++ 32 ∷ rest) e) (same word (codes "restart")) _ _ e h6
    (λ is here. under root word rest e (codes "restart") is (restart_takes root rest e here))
    (λ _ h7. chosen (Line root (word ++ 32 ∷ rest) e) (same word (codes "trim")) _ _ e h7
    (λ is here. under root word rest e (codes "trim") is (trim_takes root rest e here))
    (λ _ h8. chosen (Line root (word ++ 32 ∷ rest) e) (same word (codes "heur")) _ _ e h8
    (λ is here. under root word rest e (codes "heur") is (heur_takes root rest e here))
    (λ _ h9. chosen (Line root (word ++ 32 ∷ rest) e) (same word (codes "forget")) _ _ e h9
    (λ is here. under root word rest e (codes "forget") is (forget_takes root rest e here))
    (λ _ none. absurd cc))))))))))

event_read : (root : ProcessId) (line : List ℕ) (o : Option (List ℕ × List ℕ)) → cut_at 32 line ≡ o
    → (e : Event) → event_parts root line o ≡ Some e → Line root line e
event_read root line None cut e h =
    chosen (Line root line e) (same line (codes "settle")) _ _ e h
    (λ is here. subst (λ (x : Event). Line root line x) (some_is Settle e here)
    (same_tells line (codes "settle") is, tt))
    (λ _ none. absurd cc)
event_read root line (Some p) cut e h =
    subst (λ (v : List ℕ). Line root v e) (sym (cut_takes 32 line p cut))
    (chosen (Line root (p.0 ++ 32 ∷ p.1) e) (same p.0 (codes "work")) _ _ e h
    (λ is here. under root p.0 p.1 e (codes "work") is (work_takes root p.1 e here))
    (λ _ here. plain_takes root p.0 p.1 e here))

pub event_takes : (root : ProcessId) → ReadIsSpelled (event_at root) event_text (FitsEvent root)
unfolding event_at
event_takes root line e h = event_read root line (cut_at 32 line) refl e h

-- The forms: what is spelled.

pub case_cut : (root : ProcessId) (c : Case) (rest : List ℕ) → FitsCase root c
    → cut_at 32 (case_text c ++ 32 ∷ rest) ≡ Some (case_text c, rest)
case_cut root c rest fits = cut_again 32 (case_text c) rest
    (misses_without 32 (case_text c) (case_no_blank root c fits))

process_cut : (p : ProcessId) (rest : List ℕ) → FitsProcess p
    → cut_at 32 (process_text p ++ 32 ∷ rest) ≡ Some (process_text p, rest)
process_cut p rest fits = cut_again 32 (process_text p) rest
    (misses_without 32 (process_text p) (process_misses 32 blank p fits))

join_again : (root : ProcessId) (c : Case) (child : ProcessId) → FitsCase root c → FitsProcess child
    → join_at root (case_text c ++ 32 ∷ process_text child) ≡ Some (ActOf (Join c child))
unfolding join_at
join_again root c child f g = rw (
  case_cut root c (process_text child) f,
  case_again root c f,
  process_again child g,
) refl

work_again : (root : ProcessId) (c : Case) (child : ProcessId) (op : Op) → FitsCase root c → FitsProcess child
    → FitsOp op
    → work_at root (case_text c ++ 32 ∷ (process_text child ++ 32 ∷ op_text op))
    ≡ Some (ActOf (Work c child op))
unfolding work_at
work_again root c child op f g h =
    rw (
      case_cut root c (process_text child ++ 32 ∷ op_text op) f,
      case_again root c f,
      process_cut child (op_text op) g,
      process_again child g,
      op_again op h,
    ) refl

heur_again : (root : ProcessId) (c : Case) (o : Outcome) → FitsCase root c
    → heur_at root (case_text c ++ 32 ∷ decision_word o) ≡ Some (ActOf (Decide c o))
unfolding heur_at
heur_again root c Committed f = rw (case_cut root c (codes "commit") f, case_again root c f) refl
heur_again root c Aborted f = rw (case_cut root c (codes "rollback") f, case_again root c f) refl

restart_all : (p : ProcessId) → FitsProcess p → restart_at (process_text p) ≡ Some (Restart p None)
unfolding restart_at
restart_all p f = rw (cut_none 32 (process_text p) (process_misses 32 blank p f), process_again p f) refl

restart_some : (p : ProcessId) (keep : ℕ) → FitsProcess p → keep < 2 ^ 64
    → restart_at (process_text p ++ 32 ∷ decimal keep) ≡ Some (Restart p (Some keep))
unfolding restart_at
restart_some p keep f g = rw (process_cut p (decimal keep) f, process_again p f, number_again keep g) refl

begin_again : (p : Presumption) → begin_at (presumption_word p) ≡ Some (ActOf (Begin p))
unfolding begin_at
begin_again PresumeAbort = refl
begin_again PresumeCommit = refl

line_by : (root : ProcessId) (word rest : List ℕ) (e : Event) → misses 32 word ≡ true
    → event_parts root (word ++ 32 ∷ rest) (Some (word, rest)) ≡ Some e
    → event_at root (word ++ 32 ∷ rest) ≡ Some e
unfolding event_at
line_by root word rest e free h = rw (cut_again 32 word rest (misses_without 32 word free)) h

act_again : (root : ProcessId) (act : Act) → FitsEvent root (ActOf act)
    → event_at root (event_text (ActOf act)) ≡ Some (ActOf act)
unfolding plain_at
act_again root (Begin p) fits = line_by root (codes "begin") (presumption_word p) (ActOf (Begin p)) refl
    (begin_again p)
act_again root (Join c child) fits =
    ap (event_at root) (two_form (codes "join ") (case_text c) (process_text child))
    ∙ line_by root (codes "join") (case_text c ++ 32 ∷ process_text child) (ActOf (Join c child)) refl
    (join_again root c child fits.case_fits fits.child_fits)
act_again root (Work c child op) fits =
    ap (event_at root) (three_form (codes "work ") (case_text c) (process_text child) (op_text op))
    ∙ line_by root (codes "work") (case_text c ++ 32 ∷ (process_text child ++ 32 ∷ op_text op))
    (ActOf (Work c child op)) refl
    (work_again root c child op fits.case_fits fits.child_fits fits.op_fits)
act_again root (Commit x) fits = line_by root (codes "commit") (txn_text x) (ActOf (Commit x)) refl
    (rw (txn_again root x fits) refl)
act_again root (Abort x) fits = line_by root (codes "abort") (txn_text x) (ActOf (Abort x)) refl
    (rw (txn_again root x fits) refl)
act_again root (Ask c) fits = line_by root (codes "ask") (case_text c) (ActOf (Ask c)) refl
    (rw (case_again root c fits) refl)
act_again root (Decide c o) fits =
    ap (event_at root) (two_form (codes "heur ") (case_text c) (decision_word o))
    ∙ line_by root (codes "heur") (case_text c ++ 32 ∷ decision_word o) (ActOf (Decide c o)) refl
    (heur_again root c o fits)
act_again root (Forget c) fits = line_by root (codes "forget") (case_text c) (ActOf (Forget c)) refl
    (rw (case_again root c fits) refl)

settle_again : (root : ProcessId) → event_at root (codes "settle") ≡ Some Settle
unfolding event_at
settle_again root = refl

pub event_again : (root : ProcessId) → SpelledIsRead (event_at root) event_text (FitsEvent root)
unfolding plain_at
event_again root (ActOf act) fits = act_again root act fits
event_again root (Deliver n) fits = line_by root (codes "deliver") (decimal n) (Deliver n) refl
    (rw (number_again n fits) refl)
event_again root Settle fits = settle_again root
event_again root (Restart p None) fits = line_by root (codes "restart") (process_text p) (Restart p None) refl
    (restart_all p fits)
event_again root (Restart p (Some keep)) fits =
    ap (event_at root) (two_form (codes "restart ") (process_text p) (decimal keep))
    ∙ line_by root (codes "restart") (process_text p ++ 32 ∷ decimal keep) (Restart p (Some keep)) refl
    (restart_some p keep fits.0 fits.1)
event_again root (Trim p) fits = line_by root (codes "trim") (process_text p) (Trim p) refl
    (rw (process_again p fits) refl)
