-- What is told of a step is its note.
use Rattle.std.proofs.Common.{◌≡◌, ◌∙◌, ◌⊎◌, ap, sym, refl, inl, inr, ℕ, ◌+◌, Bool, true, false, not, ◌&&◌, if◌then◌else◌, Option, Some, None, List, [], ◌∷◌, ◌++◌, ◌<◌, get_or, length, map, take, true≢false}
use Rattle.std.proofs.lemmas.List.{map-append, take_more}
use Rattle.std.specs.Global.{Vec}
use Rattle.std.specs.Prelude.{is_some, unwrap_or}
use Rattle.std.proofs.lemmas.Map.Made.{is_some-lookup}
use Rattle.protocol.specs.declared.events.JournalEntry.{JournalEntry}
use Rattle.protocol.specs.declared.events.Happening.{Happening}
use Rattle.protocol.specs.declared.events.Happening.TheVariants.{Restart, Trim}
use Rattle.protocol_words.specs.Variants.{ActInput, Handles, MessageInput}
use Rattle.protocol.specs.declared.events.Input.{Input}
use Rattle.protocol.specs.declared.events.Reaction.{Reaction}
use Rattle.protocol.specs.declared.messages.Message.{Message}
use Rattle.protocol_words.specs.message
use Rattle.protocol.specs.declared.messages.Op.{Op}
use Rattle.protocol.specs.declared.messages.Op.TheVariants.{Put, Get, Delete}
use Rattle.protocol.specs.declared.names.Case.{Case}
use Rattle.protocol.specs.declared.trees.TreeProcess.{TreeProcess}
use Rattle.run_notes.specs.declared.branch.Branch.{Branch}
use Rattle.run_notes.specs.declared.branch.Spoiled.{Spoiled}
use Rattle.run_notes.specs.declared.manager.Manager.{Manager}
use Rattle.run_notes.specs.declared.notes.Notes.{Notes}
use Rattle.run_notes.specs.Managers.{branch_at, done_text, found_at, is_refused, refusal_text, takes, told_of_branch, told_of_op, told_of_work, why_no, xid_of}
use Rattle.run_notes.specs.Told.{AreManagers, AreNotes, one_more, IsNote, MayTell, MayTellAt, MayTellOf, MayTellOfInput, asks, asks_input, asks_message, is_among, is_manager, known, manager_in, refuses, same_id, told, told_at, told_by, told_of_input, told_of_message, votes_no}
use Rattle.run_notes.specs.Words.{IsNo, IsRead, read_text}

-- What is told may be told.

op_told : (m : Manager) (c : Case) (b : Branch) (op : Op) (w : List ℕ) → told_of_op m c b op ≡ Some w
    → IsRead c op w
op_told m c b (Get k) w h = let is : w ≡ read_text c k (found_at m b k) = cc in (found_at m b k, is)
op_told m c b (Put k v) w h = absurd (cc)
op_told m c b (Delete k) w h = absurd (cc)

branch_told : (m : Manager) (c : Case) (i : ℕ) (op : Op) (w : List ℕ) (o : Option Branch)
    → told_of_branch m c i op o ≡ Some w → IsRead c op w
branch_told m c i op w None h = absurd (cc)
branch_told m c i op w (Some b) h = by (takes b i && not (is_refused m (xid_of m c) b op)) h
  where
    by : (t : Bool) → (if t then told_of_op m c b op else None) ≡ Some w → IsRead c op w
    by true told = op_told m c b op w told
    by false told = absurd (cc)

done_is : (c : Case) (works done : ℕ) (o : Option Spoiled) → IsNo c (done_text c works done o)
done_is c works done None = (_, refl)
done_is c works done (Some s) = (_, refl)

refusal_is : (c : Case) (works : ℕ) (o : Option Branch) → IsNo c (refusal_text c works o)
refusal_is c works None = (_, refl)
refusal_is c works (Some b) = done_is c works b.done b.spoiled

vote_told : (m : Manager) (c : Case) (works : ℕ) (w : List ℕ) (votes : Bool)
    → (if votes then Some (why_no m c works) else None) ≡ Some w → (votes ≡ true) × IsNo c w
vote_told m c works w true h =
    let is : why_no m c works ≡ w = cc in
    let no = refusal_is c works (branch_at m (xid_of m c)) in
    (refl, (no.0, sym is ∙ no.1))
vote_told m c works w false h = absurd (cc)

message_told : (m : Manager) (n : Message) (r : Reaction) (w : List ℕ) → told_of_message m n r ≡ Some w
    → MayTellOf n r w
message_told m (message.Work c i op) r w h = branch_told m c i op w (branch_at m (xid_of m c)) h
message_told m (message.Prepare c works) r w h = vote_told m c works w (votes_no r) h
message_told m (message.Join c) r w h = absurd (cc)
message_told m (message.Joined c t) r w h = absurd (cc)
message_told m (message.Yes c) r w h = absurd (cc)
message_told m (message.No c) r w h = absurd (cc)
message_told m (message.Read c) r w h = absurd (cc)
message_told m (message.Commit c) r w h = absurd (cc)
message_told m (message.Abort c) r w h = absurd (cc)
message_told m (message.Ack c o fs) r w h = absurd (cc)
message_told m (message.Inquire c) r w h = absurd (cc)

input_told : (m : Manager) (i : Input) (r : Reaction) (w : List ℕ) → told_of_input m i r ≡ Some w
    → MayTellOfInput i r w
input_told m (ActInput a) r w h = absurd (cc)
input_told m (MessageInput n message) r w h = message_told m message r w h

step_told : (m : Manager) (h : Happening) (r : Reaction) (w : List ℕ) → told_at m h r ≡ Some w
    → MayTellAt h r w
step_told m (Handles i) r w h = input_told m i r w h
step_told m (Restart kept) r w h = absurd (cc)
step_told m Trim r w h = absurd (cc)

-- A vote NO is told.

vote_is_told : (m : Manager) (c : Case) (works : ℕ) (votes : Bool) → votes ≡ true
    → (w : List ℕ) × ((if votes then Some (why_no m c works) else None) ≡ Some w)
vote_is_told m c works true h = (why_no m c works, refl)
vote_is_told m c works false h = absurd (true≢false (sym h))

message_is_told : (m : Manager) (n : Message) (r : Reaction) → asks_message n ≡ true → votes_no r ≡ true
    → (w : List ℕ) × (told_of_message m n r ≡ Some w)
message_is_told m (message.Prepare c works) r asked votes = vote_is_told m c works (votes_no r) votes
message_is_told m (message.Work c i op) r asked votes = absurd (cc)
message_is_told m (message.Join c) r asked votes = absurd (cc)
message_is_told m (message.Joined c t) r asked votes = absurd (cc)
message_is_told m (message.Yes c) r asked votes = absurd (cc)
message_is_told m (message.No c) r asked votes = absurd (cc)
message_is_told m (message.Read c) r asked votes = absurd (cc)
message_is_told m (message.Commit c) r asked votes = absurd (cc)
message_is_told m (message.Abort c) r asked votes = absurd (cc)
message_is_told m (message.Ack c o fs) r asked votes = absurd (cc)
message_is_told m (message.Inquire c) r asked votes = absurd (cc)

input_is_told : (m : Manager) (i : Input) (r : Reaction) → asks_input i ≡ true → votes_no r ≡ true
    → (w : List ℕ) × (told_of_input m i r ≡ Some w)
input_is_told m (ActInput a) r asked votes = absurd (cc)
input_is_told m (MessageInput n message) r asked votes = message_is_told m message r asked votes

step_is_told : (m : Manager) (h : Happening) (r : Reaction) → asks h ≡ true → votes_no r ≡ true
    → (w : List ℕ) × (told_at m h r ≡ Some w)
step_is_told m (Handles i) r asked votes = input_is_told m i r asked votes
step_is_told m (Restart kept) r asked votes = absurd (cc)
step_is_told m Trim r asked votes = absurd (cc)

both : (a b : Bool) → (a && b) ≡ true → (a ≡ true) × (b ≡ true)
both true true h = (refl, refl)
both true false h = absurd (cc)
both false b h = absurd (cc)

-- The note of a step.

-- of a manager
manager_note : (tree : List TreeProcess) (m : Manager) (e : JournalEntry) (o : Option (List ℕ))
    → is_manager tree e.step.process ≡ true → o ≡ told_at m e.step.happening e.reaction
    → IsNote tree e (unwrap_or o [])
manager_note tree m e None there is = record {
  only = inl refl;
  each = λ _ refused.
      let parts = both (asks e.step.happening) (votes_no e.reaction) refused in
      let tells = step_is_told m e.step.happening e.reaction parts.0 parts.1 in
      let not : None ≡ Some tells.0 = is ∙ tells.1 in
      absurd (cc);
}
manager_note tree m e (Some w) there is = record {
  only = inr (there, step_told m e.step.happening e.reaction w (sym is));
  each = λ _ _. step_told m e.step.happening e.reaction w (sym is);
}

-- a process is among the managers if it is found
among_if_found : (n : Notes) (e : JournalEntry) (o : Option Manager)
    → manager_in n.managers.entries e.step.process ≡ o
    → is_some o ≡ is_among e.step.process (known n)
among_if_found n e o is =
    ap is_some (sym is) ∙ is_some-lookup (same_id e.step.process) n.managers.entries

pub step_note : (tree : List TreeProcess) (n : Notes) (e : JournalEntry) (o : Option (List ℕ))
    → AreManagers tree (known n) → o ≡ told n e → IsNote tree e (unwrap_or o [])
step_note tree n e o managers is = by (manager_in n.managers.entries e.step.process) refl o is
  where
    by : (f : Option Manager) → manager_in n.managers.entries e.step.process ≡ f → (o : Option (List ℕ))
        → o ≡ told_by f e → IsNote tree e (unwrap_or o [])
    by None at None is = record {
      only = inl refl;
      each = λ there _.
          absurd (true≢false (sym there ∙ sym (managers e.step.process) ∙ sym (among_if_found n e None at)));
    }
    by None at (Some w) is = absurd (cc)
    by (Some m) at o is =
        manager_note tree m e o
        (sym (managers e.step.process) ∙ sym (among_if_found n e (Some m) at)) is

-- the notes of one more step
pub notes_more : (tree : List TreeProcess) (es : List JournalEntry) (k : ℕ) (e : JournalEntry)
    (old new : List (Vec ℕ)) (v : Vec ℕ)
    (n : Notes) → k < length es → e ≡ get_or es k e → AreNotes tree (take k es) (map (λ w. w.items) old)
    → AreManagers tree (known n) → v.items ≡ unwrap_or (told n e) [] → new ≡ old ++ v ∷ []
    → AreNotes tree (take (k + 1) es) (map (λ w. w.items) new)
notes_more tree es k e old new v n there at were managers is push =
    let note : IsNote tree e v.items = rw is (step_note tree n e (told n e) managers refl) in
    let all : take (k + 1) es ≡ take k es ++ e ∷ [] =
    take_more es k e there ∙ ap (λ x. take k es ++ x ∷ []) (sym at) in
    let words : map (λ w. w.items) new ≡ map (λ w. w.items) old ++ v.items ∷ [] =
    ap (λ ws. map (λ w. w.items) ws) push ∙ map-append (λ w. w.items) old (v ∷ []) in
    rw all (rw words (one_more (take k es) (map (λ w. w.items) old) e v.items were note))
