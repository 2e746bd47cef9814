-- Texts of messages: what is read is spelled so, and what is spelled so is read.
use Rattle.std.proofs.Common.{◌≡◌, ◌^◌, ◌<◌, ℕ, true, false, eqb, Option, Some, None, List, [], ◌∷◌, ◌++◌, refl, ap, sym, subst, ◌∙◌, arith, inl, inr, codes, append_assoc}
use Rattle.std.specs.Fmt.{decimal}
use Rattle.std.proofs.lemmas.List.{append-nil}
use Rattle.std.proofs.lemmas.Bool.{cases_eq}
use Rattle.std.proofs.lemmas.Bool.Decides.{nat_tests}
use Rattle.spellings.specs.Numerals.{number_at}
use Rattle.spellings.specs.Words.{cut_at}
use Rattle.spellings.proofs.Numerals.{number_takes, number_again}
use Rattle.spellings.proofs.Cuts.{cut_takes, cut_again, some_is}
use Rattle.protocol.specs.declared.names.ProcessId.{ProcessId}
use Rattle.protocol.specs.declared.names.Outcome.{Outcome}
use Rattle.protocol.specs.declared.names.Outcome.TheVariants.{Committed, Aborted}
use Rattle.protocol.specs.declared.names.Case.{Case}
use Rattle.protocol.specs.declared.names.Ticket.{Ticket}
use Rattle.protocol.specs.declared.messages.Op.{Op}
use Rattle.protocol.specs.declared.messages.Envelope.{Envelope}
use Rattle.protocol.specs.declared.messages.Message.{Message}
use Rattle.protocol.specs.declared.messages.Message.TheVariants.{Join, Joined, Work, Prepare, Yes, No, Read, Commit, Abort, Ack, Inquire}
use Rattle.protocol.specs.Texts.{case_text, ticket_text, op_text, outcome_word, message_text, findings_text}
use Rattle.tree_script.specs.Names.{after_at, process_at, case_at, ticket_at}
use Rattle.tree_script.specs.Spellings.{process_text, FitsProcess, FitsCase, FitsOp, FitsTicket, ReadIsSpelled, SpelledIsRead}
use Rattle.tree_script.proofs.Misses.{bind_some, cut_none, misses, misses_append, misses_without, decimal_misses, same_tells, blank, IsMark}
use Rattle.tree_script.proofs.NameLaws.{process_takes, process_again, process_misses, ticket_takes, ticket_again, case_takes, case_again}
use Rattle.tree_script.proofs.LineLaws.{chosen, two_words, three_words, two_form, three_form, case_cut, op_takes, op_again}
use Rattle.script_words.specs.Steps.{same}
use Rattle.script_words.specs.Operations.{op_at}
use Rattle.node_lines.specs.Findings.{found_at}
use Rattle.node_lines.specs.Messages.{joined_at, work_at, prepare_at, ending_at, or_whole, first_word, ack_words_at, ack_found, ack_at, of_case, plain_at, message_parts, message_at}
use Rattle.node_lines.specs.Lines.{way_at, head_at, with_head, line_at}
use Rattle.node_lines.specs.Spellings.{FitsMessage, FitsLine, spelled_line}
use Rattle.node_lines.proofs.FindingLaws.{FitsTickets, behind, behind_text, both_text, both_words, found_again, found_takes, in_parts, mixed_first, text_of}

-- The forms: what is read.

abbrev Text : ProcessId → List ℕ → Message → Type 0
Text root w m = (w ≡ message_text m) × FitsMessage root m

joined_takes : (root : ProcessId) (rest : List ℕ) (m : Message) → joined_at root rest ≡ Some m
    → Text root (codes "JOINED " ++ rest) m
unfolding joined_at
joined_takes root rest m h =
    let a = bind_some (cut_at 32 rest) _ m h in
    let b = bind_some (case_at root a.0.0) _ m a.2 in
    let c = bind_some (ticket_at a.0.1) _ m b.2 in
    let case = case_takes root a.0.0 b.0 b.1 in
    let ticket = ticket_takes a.0.1 c.0 c.1 in
    subst (λ (x : Message). Text root (codes "JOINED " ++ rest) x) (some_is (Joined b.0 c.0) m c.2) (
      two_words (codes "JOINED ") rest a.0.0 a.0.1 (case_text b.0) (ticket_text c.0)
          (cut_takes 32 rest a.0 a.1) case.0 ticket.0,
      record { case_fits = case.1; ticket_fits = ticket.1 },
    )

prepare_takes : (root : ProcessId) (rest : List ℕ) (m : Message) → prepare_at root rest ≡ Some m
    → Text root (codes "PREPARE " ++ rest) m
unfolding prepare_at
prepare_takes root rest m h =
    let a = bind_some (cut_at 32 rest) _ m h in
    let b = bind_some (case_at root a.0.0) _ m a.2 in
    let c = bind_some (number_at a.0.1) _ m b.2 in
    let case = case_takes root a.0.0 b.0 b.1 in
    let count = number_takes a.0.1 c.0 c.1 in
    subst (λ (x : Message). Text root (codes "PREPARE " ++ rest) x) (some_is (Prepare b.0 c.0) m c.2) (
      two_words (codes "PREPARE ") rest a.0.0 a.0.1 (case_text b.0) (decimal c.0)
          (cut_takes 32 rest a.0 a.1) case.0 count.0,
      record { case_fits = case.1; count_fits = count.1 },
    )

ending_takes : (w : List ℕ) (o : Outcome) → ending_at w ≡ Some o → w ≡ outcome_word o
ending_takes w o h =
    chosen (w ≡ outcome_word o) (same w (codes "commit")) _ _ o h
    (λ is here. subst (λ (x : Outcome). w ≡ outcome_word x) (some_is Committed o here)
    (same_tells w (codes "commit") is))
    (λ _ h1. chosen (w ≡ outcome_word o) (same w (codes "abort")) _ _ o h1
    (λ is here. subst (λ (x : Outcome). w ≡ outcome_word x) (some_is Aborted o here)
    (same_tells w (codes "abort") is))
    (λ _ none. absurd cc))

first_takes : (text : List ℕ) (o : Option (List ℕ × List ℕ)) → cut_at 32 text ≡ o
    → text ≡ (or_whole text o).0 ++ behind_text (or_whole text o).1
first_takes text None e = sym (append-nil text)
first_takes text (Some p) e = cut_takes 32 text p e

ack_joined : (rest a b w x y t f : List ℕ) → rest ≡ a ++ 32 ∷ b → a ≡ x → b ≡ w ++ t → w ≡ y → t ≡ f
    → codes "ACK " ++ rest ≡ codes "ACK " ++ x ++ codes " " ++ y ++ f
ack_joined rest a b w x y t f e d g h k = rw (e, d, g, h, k) (simp append_assoc)

ack_takes : (root : ProcessId) (rest : List ℕ) (m : Message) → ack_at root rest ≡ Some m
    → Text root (codes "ACK " ++ rest) m
unfolding ack_words_at
ack_takes root rest m h =
    let o = bind_some (ack_words_at root rest) _ m h in
    let a = bind_some (cut_at 32 rest) _ o.0 o.1 in
    let b = bind_some (case_at root a.0.0) _ o.0 a.2 in
    let c = bind_some (ending_at (first_word a.0.1).0) _ o.0 b.2 in
    let words : (b.0, c.0, (first_word a.0.1).1) ≡ o.0 = some_is (b.0, c.0, (first_word a.0.1).1) o.0 c.2 in
    let found : ack_found (b.0, c.0, (first_word a.0.1).1) ≡ Some m =
    subst (λ (p : Case × Outcome × Option (List ℕ)). ack_found p ≡ Some m) (sym words) o.2 in
    let d = bind_some (found_at (first_word a.0.1).1) _ m found in
    let case = case_takes root a.0.0 b.0 b.1 in
    let is = found_takes (first_word a.0.1).1 d.0 d.1 in
    subst (λ (x : Message). Text root (codes "ACK " ++ rest) x) (some_is (Ack b.0 c.0 d.0) m d.2) (
      ack_joined rest a.0.0 a.0.1 (first_word a.0.1).0 (case_text b.0) (outcome_word c.0)
          (behind_text (first_word a.0.1).1) (findings_text d.0)
          (cut_takes 32 rest a.0 a.1) case.0 (first_takes a.0.1 (cut_at 32 a.0.1) refl)
          (ending_takes (first_word a.0.1).0 c.0 c.1) is.spelled,
      record { case_fits = case.1; findings_fit = is.fit; findings_ordered = is.ordered },
    )

work_takes : (root : ProcessId) (rest : List ℕ) (m : Message) → work_at root rest ≡ Some m
    → Text root (codes "WORK " ++ rest) m
unfolding work_at
work_takes root rest m h =
    let a = bind_some (cut_at 32 rest) _ m h in
    let b = bind_some (case_at root a.0.0) _ m a.2 in
    let q = bind_some (cut_at 32 a.0.1) _ m b.2 in
    let c = bind_some (number_at q.0.0) _ m q.2 in
    let d = bind_some (op_at q.0.1) _ m c.2 in
    let case = case_takes root a.0.0 b.0 b.1 in
    let number = number_takes q.0.0 c.0 c.1 in
    let op = op_takes q.0.1 d.0 d.1 in
    subst (λ (x : Message). Text root (codes "WORK " ++ rest) x) (some_is (Work b.0 c.0 d.0) m d.2) (
      three_words (codes "WORK ") rest a.0.0 a.0.1 q.0.0 q.0.1 (case_text b.0) (decimal c.0)
          (op_text d.0)
          (cut_takes 32 rest a.0 a.1) (cut_takes 32 a.0.1 q.0 q.1) case.0 number.0 op.0,
      record { case_fits = case.1; number_fits = number.1; op_fits = op.1 },
    )

-- a word that a case alone follows
of_case_takes : (root : ProcessId) (word rest : List ℕ) (made : Case → Message)
    → ((c : Case) → message_text (made c) ≡ word ++ 32 ∷ case_text c)
    → ((c : Case) → FitsCase root c → FitsMessage root (made c))
    → (m : Message) → of_case made root rest ≡ Some m → Text root (word ++ 32 ∷ rest) m
of_case_takes root word rest made spelled fits m h =
    let a = bind_some (case_at root rest) _ m h in
    let case = case_takes root rest a.0 a.1 in
    subst (λ (x : Message). Text root (word ++ 32 ∷ rest) x) (some_is (made a.0) m a.2) (
      ap (λ (t : List ℕ). word ++ 32 ∷ t) case.0 ∙ sym (spelled a.0),
      fits a.0 case.1,
    )

under : (root : ProcessId) (word rest : List ℕ) (m : Message) (w : List ℕ) → same word w ≡ true
    → Text root (w ++ 32 ∷ rest) m → Text root (word ++ 32 ∷ rest) m
under root word rest m w is h = subst (λ (v : List ℕ). Text root (v ++ 32 ∷ rest) m)
    (sym (same_tells word w is)) h

plain_takes : (root : ProcessId) (word rest : List ℕ) (m : Message) → plain_at root word rest ≡ Some m
    → Text root (word ++ 32 ∷ rest) m
unfolding plain_at
plain_takes root word rest m h =
    chosen (Text root (word ++ 32 ∷ rest) m) (same word (codes "JOIN")) _ _ m h
    (λ is here. under root word rest m (codes "JOIN") is
    (of_case_takes root (codes "JOIN") rest (λ c. Join c) (λ c. refl) (λ c f. f) m here))
    (λ _ h1. chosen (Text root (word ++ 32 ∷ rest) m) (same word (codes "JOINED")) _ _ m h1
    (λ is here. under root word rest m (codes "JOINED") is (joined_takes root rest m here))
    (λ _ h2. chosen (Text root (word ++ 32 ∷ rest) m) (same word (codes "PREPARE")) _ _ m h2
    (λ is here. under root word rest m (codes "PREPARE") is (prepare_takes root rest m here))
    (λ _ h3. chosen (Text root (word ++ 32 ∷ rest) m) (same word (codes "YES")) _ _ m h3
    (λ is here. under root word rest m (codes "YES") is
    (of_case_takes root (codes "YES") rest (λ c. Yes c) (λ c. refl) (λ c f. f) m here))
    (λ _ h4. chosen (Text root (word ++ 32 ∷ rest) m) (same word (codes "NO")) _ _ m h4
    (λ is here. under root word rest m (codes "NO") is
    (of_case_takes root (codes "NO") rest (λ c. No c) (λ c. refl) (λ c f. f) m here))
    (λ _ h5. chosen (Text root (word ++ 32 ∷ rest) m) (same word (codes "READ")) _ _ m h5
    (λ is here. under root word rest m (codes "READ") is
    (of_case_takes root (codes "READ") rest (λ c. Read c) (λ c. refl) (λ c f. f) m here))
    (λ _ h6. chosen (Text root (word ++ 32 ∷ rest) m) (same word (codes "COMMIT")) _ _ m h6
    (λ is here. under root word rest m (codes "COMMIT") is
    (of_case_takes root (codes "COMMIT") rest (λ c. Commit c) (λ c. refl) (λ c f. f) m here))
    (λ _ h7. chosen (Text root (word ++ 32 ∷ rest) m) (same word (codes "ABORT")) _ _ m h7
    (λ is here. under root word rest m (codes "ABORT") is
    (of_case_takes root (codes "ABORT") rest (λ c. Abort c) (λ c. refl) (λ c f. f) m here))
    (λ _ h8. chosen (Text root (word ++ 32 ∷ rest) m) (same word (codes "INQUIRE")) _ _ m h8
    (λ is here. under root word rest m (codes "INQUIRE") is
    (of_case_takes root (codes "INQUIRE") rest (λ c. Inquire c) (λ c. refl) (λ c f. f) m here))
    (λ _ none. absurd cc)))))))))

message_read : (root : ProcessId) (w : List ℕ) (o : Option (List ℕ × List ℕ)) → cut_at 32 w ≡ o
    → (m : Message) → message_parts root o ≡ Some m → Text root w m
message_read root w None cut m h = absurd cc
message_read root w (Some p) cut m h =
    subst (λ (v : List ℕ). Text root v m) (sym (cut_takes 32 w p cut))
    (chosen (Text root (p.0 ++ 32 ∷ p.1) m) (same p.0 (codes "WORK")) _ _ m h
    (λ is here. under root p.0 p.1 m (codes "WORK") is (work_takes root p.1 m here))
    (λ _ other. chosen (Text root (p.0 ++ 32 ∷ p.1) m) (same p.0 (codes "ACK")) _ _ m other
    (λ is here. under root p.0 p.1 m (codes "ACK") is (ack_takes root p.1 m here))
    (λ _ here. plain_takes root p.0 p.1 m here)))

pub message_takes : (root : ProcessId) → ReadIsSpelled (message_at root) message_text (FitsMessage root)
unfolding message_at
message_takes root w m h = message_read root w (cut_at 32 w) refl m h

-- The forms: what is spelled.

joined_again : (root : ProcessId) (c : Case) (t : Ticket) → FitsCase root c → FitsTicket t
    → joined_at root (case_text c ++ 32 ∷ ticket_text t) ≡ Some (Joined c t)
unfolding joined_at
joined_again root c t f g = rw (case_cut root c (ticket_text t) f, case_again root c f, ticket_again t g) refl

prepare_again : (root : ProcessId) (c : Case) (n : ℕ) → FitsCase root c → n < 2 ^ 64
    → prepare_at root (case_text c ++ 32 ∷ decimal n) ≡ Some (Prepare c n)
unfolding prepare_at
prepare_again root c n f g = rw (case_cut root c (decimal n) f, case_again root c f, number_again n g) refl

-- the first word in front of words without a blank
first_again : (w : List ℕ) (ws : List (List ℕ)) → misses 32 w ≡ true
    → first_word (w ++ behind ws) ≡ (w, text_of ws)
first_again w [] h = rw (append-nil w, cut_none 32 w h) refl
first_again w (v ∷ ws) h = rw (cut_again 32 w (v ++ behind ws) (misses_without 32 w h)) refl

ending_again : (o : Outcome) → ending_at (outcome_word o) ≡ Some o
ending_again Committed = refl
ending_again Aborted = refl

ending_misses : (o : Outcome) → misses 32 (outcome_word o) ≡ true
ending_misses Committed = refl
ending_misses Aborted = refl

ack_words_again : (root : ProcessId) (c : Case) (o : Outcome) (ws : List (List ℕ)) → FitsCase root c
    → ack_words_at root (case_text c ++ 32 ∷ (outcome_word o ++ behind ws)) ≡ Some (c, o, text_of ws)
unfolding ack_words_at
ack_words_again root c o ws f =
    rw (
      case_cut root c (outcome_word o ++ behind ws) f,
      case_again root c f,
      first_again (outcome_word o) ws (ending_misses o),
      ending_again o,
    ) refl

ack_again : (root : ProcessId) (c : Case) (o : Outcome) (ms us : List Ticket) → FitsCase root c
    → FitsTickets ms
    → FitsTickets us
    → ack_at root (case_text c ++ 32 ∷ (outcome_word o ++ findings_text (mixed_first ms us)))
    ≡ Some (Ack c o (mixed_first ms us))
ack_again root c o ms us f g h =
    ap (λ t. ack_at root (case_text c ++ 32 ∷ (outcome_word o ++ t))) (both_text ms us)
    ∙ rw (ack_words_again root c o (both_words ms us) f, found_again ms us g h) refl

number_cut : (n : ℕ) (rest : List ℕ) → n < 2 ^ 64
    → cut_at 32 (decimal n ++ 32 ∷ rest) ≡ Some (decimal n, rest)
number_cut n rest fits = cut_again 32 (decimal n) rest
    (misses_without 32 (decimal n) (decimal_misses 32 blank n fits))

work_again : (root : ProcessId) (c : Case) (i : ℕ) (op : Op) → FitsCase root c → i < 2 ^ 64 → FitsOp op
    → work_at root (case_text c ++ 32 ∷ (decimal i ++ 32 ∷ op_text op)) ≡ Some (Work c i op)
unfolding work_at
work_again root c i op f g h =
    rw (
      case_cut root c (decimal i ++ 32 ∷ op_text op) f,
      case_again root c f,
      number_cut i (op_text op) g,
      number_again i g,
      op_again op h,
    ) refl

text_by : (root : ProcessId) (word rest : List ℕ) (m : Message) → misses 32 word ≡ true
    → message_parts root (Some (word, rest)) ≡ Some m
    → message_at root (word ++ 32 ∷ rest) ≡ Some m
unfolding message_at
text_by root word rest m free h = rw (cut_again 32 word rest (misses_without 32 word free)) h

ack_form : (c o t : List ℕ) → codes "ACK " ++ c ++ codes " " ++ o ++ t ≡ codes "ACK " ++ (c ++ 32 ∷ (o ++ t))
ack_form c o t = simp append_assoc

found_so : (root : ProcessId) (c : Case) (o : Outcome) → FitsCase root c → (ms us : List Ticket)
    → FitsTickets ms
    → FitsTickets us
    → message_at root (message_text (Ack c o (mixed_first ms us))) ≡ Some (Ack c o (mixed_first ms us))
found_so root c o f ms us g h =
    ap (message_at root) (ack_form (case_text c) (outcome_word o) (findings_text (mixed_first ms us)))
    ∙ text_by root (codes "ACK") (case_text c ++ 32 ∷ (outcome_word o ++ findings_text (mixed_first ms us)))
    (Ack c o (mixed_first ms us)) refl (ack_again root c o ms us f g h)

pub message_again : (root : ProcessId) → SpelledIsRead (message_at root) message_text (FitsMessage root)
unfolding plain_at
message_again root (Join c) f = text_by root (codes "JOIN") (case_text c) (Join c) refl
    (rw (case_again root c f) refl)
message_again root (Joined c t) f =
    ap (message_at root) (two_form (codes "JOINED ") (case_text c) (ticket_text t))
    ∙ text_by root (codes "JOINED") (case_text c ++ 32 ∷ ticket_text t) (Joined c t) refl
    (joined_again root c t f.case_fits f.ticket_fits)
message_again root (Work c i op) f =
    ap (message_at root) (three_form (codes "WORK ") (case_text c) (decimal i) (op_text op))
    ∙ text_by root (codes "WORK") (case_text c ++ 32 ∷ (decimal i ++ 32 ∷ op_text op)) (Work c i op) refl
    (work_again root c i op f.case_fits f.number_fits f.op_fits)
message_again root (Prepare c n) f =
    ap (message_at root) (two_form (codes "PREPARE ") (case_text c) (decimal n))
    ∙ text_by root (codes "PREPARE") (case_text c ++ 32 ∷ decimal n) (Prepare c n) refl
    (prepare_again root c n f.case_fits f.count_fits)
message_again root (Yes c) f = text_by root (codes "YES") (case_text c) (Yes c) refl
    (rw (case_again root c f) refl)
message_again root (No c) f = text_by root (codes "NO") (case_text c) (No c) refl
    (rw (case_again root c f) refl)
message_again root (Read c) f = text_by root (codes "READ") (case_text c) (Read c) refl
    (rw (case_again root c f) refl)
message_again root (Commit c) f = text_by root (codes "COMMIT") (case_text c) (Commit c) refl
    (rw (case_again root c f) refl)
message_again root (Abort c) f = text_by root (codes "ABORT") (case_text c) (Abort c) refl
    (rw (case_again root c f) refl)
message_again root (Ack c o fs) f =
    in_parts (λ gs. message_at root (message_text (Ack c o gs)) ≡ Some (Ack c o gs)) fs
    f.findings_fit f.findings_ordered (found_so root c o f.case_fits)
message_again root (Inquire c) f = text_by root (codes "INQUIRE") (case_text c) (Inquire c) refl
    (rw (case_again root c f) refl)

-- The line.

abbrev Way : Type 0
Way = ProcessId × ProcessId

abbrev way_text : Way → List ℕ
way_text way = decimal way.0.0 ++ codes "->" ++ decimal way.1.0

after_takes : (c : ℕ) (bs rest : List ℕ) → after_at c bs ≡ Some rest → bs ≡ c ∷ rest
after_takes c [] rest e = absurd cc
after_takes c (b ∷ bs) rest e =
    elim (cases_eq b c) [
      | inl same ↦ (
          let yes : eqb b c ≡ true = grind (arith, nat_tests) in
          let here : Some bs ≡ Some rest = rw yes at e in
          ap (λ (x : ℕ). x ∷ bs) same ∙ ap (λ (t : List ℕ). c ∷ t) (some_is bs rest here))
      | inr other ↦ absurd (
          let no : eqb b c ≡ false = grind (arith, nat_tests) in
          let none : None ≡ Some rest = rw no at e in cc)
    ]

way_joined : (w a r b x y : List ℕ) → w ≡ a ++ 45 ∷ r → r ≡ 62 ∷ b → a ≡ x → b ≡ y → w ≡ x ++ codes "->" ++ y
way_joined w a r b x y e d f g = rw (e, d, f, g) (simp append_assoc)

pub way_takes : (w : List ℕ) (way : Way) → way_at w ≡ Some way
    → (w ≡ way_text way) × FitsProcess way.0 × FitsProcess way.1
unfolding way_at
way_takes w way h =
    let a = bind_some (cut_at 45 w) _ way h in
    let b = bind_some (process_at a.0.0) _ way a.2 in
    let c = bind_some (after_at 62 a.0.1) _ way b.2 in
    let d = bind_some (process_at c.0) _ way c.2 in
    let from = process_takes a.0.0 b.0 b.1 in
    let to = process_takes c.0 d.0 d.1 in
    subst (λ (x : Way). (w ≡ way_text x) × FitsProcess x.0 × FitsProcess x.1) (some_is (b.0, d.0) way d.2) (
      way_joined w a.0.0 a.0.1 c.0 (process_text b.0) (process_text d.0)
          (cut_takes 45 w a.0 a.1) (after_takes 62 a.0.1 c.0 c.1) from.0 to.0,
      from.1,
      to.1,
    )

dash : IsMark 45
dash d low high e = omega arith

way_form : (x y : List ℕ) → x ++ codes "->" ++ y ≡ x ++ 45 ∷ (62 ∷ y)
way_form x y = simp append_assoc

way_read : (from to : ProcessId) → FitsProcess from → FitsProcess to
    → way_at (process_text from ++ 45 ∷ (62 ∷ process_text to)) ≡ Some (from, to)
unfolding way_at
way_read from to f g =
    rw (
      cut_again 45 (process_text from) (62 ∷ process_text to)
          (misses_without 45 (process_text from) (process_misses 45 dash from f)),
      process_again from f,
      process_again to g,
    ) refl

way_again : (way : Way) → FitsProcess way.0 → FitsProcess way.1 → way_at (way_text way) ≡ Some way
way_again way f g = ap way_at (way_form (process_text way.0) (process_text way.1)) ∙ way_read way.0 way.1 f g

way_no_blank : (way : Way) → FitsProcess way.0 → FitsProcess way.1 → misses 32 (way_text way) ≡ true
way_no_blank way f g =
    subst (λ (t : List ℕ). misses 32 t ≡ true) (sym (way_form (process_text way.0) (process_text way.1)))
    (misses_append 32 (process_text way.0) (45 ∷ (62 ∷ process_text way.1)) (process_misses 32 blank way.0 f)
    (process_misses 32 blank way.1 g))

line_joined : (w a r b s x y z : List ℕ) → w ≡ a ++ 32 ∷ r → r ≡ b ++ 32 ∷ s → a ≡ x → b ≡ y → s ≡ z
    → w ≡ x ++ 32 ∷ (y ++ 32 ∷ z)
line_joined w a r b s x y z e d f g h = rw (e, d, f, g, h) refl

line_form : (n f t m : List ℕ) → n ++ codes " " ++ f ++ codes "->" ++ t ++ codes " " ++ m
    ≡ n ++ 32 ∷ ((f ++ codes "->" ++ t) ++ 32 ∷ m)
line_form n f t m = simp append_assoc

abbrev envelope : Way → Message → Envelope
envelope way m = record { from = way.0; to = way.1; message = m }

pub line_takes : (root : ProcessId) → ReadIsSpelled (line_at root) spelled_line (FitsLine root)
unfolding head_at
line_takes root w line h =
    let o = bind_some (head_at w) _ line h in
    let a = bind_some (cut_at 32 w) _ o.0 o.1 in
    let b = bind_some (number_at a.0.0) _ o.0 a.2 in
    let q = bind_some (cut_at 32 a.0.1) _ o.0 b.2 in
    let d = bind_some (way_at q.0.0) _ o.0 q.2 in
    let number = number_takes a.0.0 b.0 b.1 in
    let way = way_takes q.0.0 d.0 d.1 in
    let head : (b.0, d.0, q.0.1) ≡ o.0 = some_is (b.0, d.0, q.0.1) o.0 d.2 in
    let read : with_head root (b.0, d.0, q.0.1) ≡ Some line =
    subst (λ (p : ℕ × Way × List ℕ). with_head root p ≡ Some line) (sym head) o.2 in
    let m = bind_some (message_at root q.0.1) _ line read in
    let message = message_takes root q.0.1 m.0 m.1 in
    subst (λ (x : ℕ × Envelope). (w ≡ spelled_line x) × FitsLine root x)
    (some_is (b.0, envelope d.0 m.0) line m.2) (
      line_joined w a.0.0 a.0.1 q.0.0 q.0.1 (decimal b.0) (way_text d.0) (message_text m.0)
          (cut_takes 32 w a.0 a.1) (cut_takes 32 a.0.1 q.0 q.1) number.0 way.0 message.0
          ∙ sym (line_form (decimal b.0) (decimal d.0.0.0) (decimal d.0.1.0) (message_text m.0)),
      record { number_fits = number.1; sender_fits = way.1; receiver_fits = way.2; message_fits = message.1 },
    )

head_again : (n : ℕ) (way : Way) (text : List ℕ) → n < 2 ^ 64 → FitsProcess way.0 → FitsProcess way.1
    → head_at (decimal n ++ 32 ∷ (way_text way ++ 32 ∷ text)) ≡ Some (n, way, text)
unfolding head_at
head_again n way text h f g =
    rw (
      number_cut n (way_text way ++ 32 ∷ text) h,
      number_again n h,
      cut_again 32 (way_text way) text (misses_without 32 (way_text way) (way_no_blank way f g)),
      way_again way f g,
    ) refl

read_behind : (root : ProcessId) (w : List ℕ) (n : ℕ) (way : Way) (text : List ℕ) (m : Message)
    → head_at w ≡ Some (n, way, text) → message_at root text ≡ Some m
    → line_at root w ≡ Some (n, envelope way m)
read_behind root w n way text m h k = rw (h, k) refl

pub line_again : (root : ProcessId) → SpelledIsRead (line_at root) spelled_line (FitsLine root)
line_again root line f =
    let e = line.1 in
    let way : Way = (e.from, e.to) in
    ap (line_at root) (line_form (decimal line.0) (decimal e.from.0) (decimal e.to.0)
    (message_text e.message))
    ∙ read_behind root _ line.0 way (message_text e.message) e.message
    (head_again line.0 way (message_text e.message) f.number_fits f.sender_fits f.receiver_fits)
    (message_again root e.message f.message_fits)
