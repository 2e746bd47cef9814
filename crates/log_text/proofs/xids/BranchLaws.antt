-- The numbers in the names of branches are read back.
use Rattle.std.proofs.Math.Seq.{drop-append-add}
use Rattle.std.proofs.lemmas.List.{append-nil, take_all, length-drop, take-append-drop}
use Rattle.std.proofs.Common.{drop-drop}
use Rattle.log_text.proofs.NumberBytes.{AreBytes, bytes_behind, number_again}
use Rattle.std.proofs.Common.{◌≢◌, Option, Some, None, [], ◌-◌, take, ◌≡◌, ◌+◌, ◌^◌, ◌<◌, ◌++◌, ℕ, List, length, drop, refl, arith, ap, ◌∙◌, sym}
use Rattle.byteorder.specs.Endian.{big_bytes, big_number}
use Rattle.byteorder.specs.Numbers.{big_number-reads_back, length-bytes_high_first}
use Rattle.protocol.specs.declared.names.ProcessId.{ProcessId}
use Rattle.protocol.specs.declared.names.Presumption.{Presumption}
use Rattle.protocol.specs.declared.names.Ticket.{Ticket}
use Rattle.protocol.specs.declared.names.Txn.{Txn}
use Rattle.protocol.specs.Branches.{txn_bytes, ticket_bytes, below_bytes, FitsTxn, FitsBranchName}

-- the first of two parts of a name is read from the whole, and the second after it
behind : (n k : ℕ) (a b : List ℕ) → length a ≡ n → drop (n + k) (a ++ b) ≡ drop k b
behind n k a b h = rw (← h) (drop-append-add a b k)

number_alone : (n x : ℕ) → x < 256 ^ n → big_number n (big_bytes n x) ≡ x
number_alone n x h = let e : big_bytes n x ++ [] ≡ big_bytes n x = append-nil (big_bytes n x) in
    ap (λ (l : List ℕ). big_number n l) (sym e) ∙ big_number-reads_back n x [] h

-- what a transaction's name reads as
pub record ReadsTxn (x : Txn) (name : List ℕ) : Type 0 where
  pub root : big_number 4 name ≡ x.root.0
  pub boot : big_number 8 (drop 4 name) ≡ x.boot
  pub sequence : big_number 8 (drop 12 name) ≡ x.sequence

pub txn_again : (x : Txn) → FitsTxn x → ReadsTxn x (txn_bytes x)
unfolding txn_bytes
txn_again x h =
    let r = big_bytes 4 x.root.0 in
    let b = big_bytes 8 x.boot in
    let s = big_bytes 8 x.sequence in
    let at4 : drop 4 (r ++ (b ++ s)) ≡ b ++ s = behind 4 0 r (b ++ s) (length-bytes_high_first 4 x.root.0) in
    let at12 : drop 12 (r ++ (b ++ s)) ≡ s =
    behind 4 8 r (b ++ s) (length-bytes_high_first 4 x.root.0)
    ∙ behind 8 0 b s (length-bytes_high_first 8 x.boot) in
    record {
      root = big_number-reads_back 4 x.root.0 (b ++ s) h.root;
      boot = ap (λ (l : List ℕ). big_number 8 l) at4 ∙ big_number-reads_back 8 x.boot s h.boot;
      sequence = ap (λ (l : List ℕ). big_number 8 l) at12 ∙ number_alone 8 x.sequence h.sequence;
    }

-- what a parent's and a ticket's name reads as
pub record ReadsTicket (b : ProcessId × Ticket) (name : List ℕ) : Type 0 where
  pub parent : big_number 4 name ≡ b.0.0
  pub child : big_number 4 (drop 4 name) ≡ b.1.child.0
  pub boot : big_number 8 (drop 8 name) ≡ b.1.boot
  pub number : big_number 8 (drop 16 name) ≡ b.1.number

pub ticket_again : (b : ProcessId × Ticket) → FitsBranchName b → ReadsTicket b (ticket_bytes b)
unfolding ticket_bytes
ticket_again x h =
    let p = big_bytes 4 x.0.0 in
    let c = big_bytes 4 x.1.child.0 in
    let b = big_bytes 8 x.1.boot in
    let n = big_bytes 8 x.1.number in
    let lp : length p ≡ 4 = length-bytes_high_first 4 x.0.0 in
    let lc : length c ≡ 4 = length-bytes_high_first 4 x.1.child.0 in
    let lb : length b ≡ 8 = length-bytes_high_first 8 x.1.boot in
    let at4 : drop 4 (p ++ (c ++ (b ++ n))) ≡ c ++ (b ++ n) = behind 4 0 p (c ++ (b ++ n)) lp in
    let at8 : drop 8 (p ++ (c ++ (b ++ n))) ≡ b ++ n = behind 4 4 p (c ++ (b ++ n)) lp
    ∙ behind 4 0 c (b ++ n) lc in
    let at16 : drop 16 (p ++ (c ++ (b ++ n))) ≡ n =
    behind 4 12 p (c ++ (b ++ n)) lp ∙ (behind 4 8 c (b ++ n) lc ∙ behind 8 0 b n lb) in
    record {
      parent = big_number-reads_back 4 x.0.0 (c ++ (b ++ n)) h.parent;
      child = ap (λ (l : List ℕ). big_number 4 l) at4 ∙ big_number-reads_back 4 x.1.child.0 (b ++ n) h.child;
      boot = ap (λ (l : List ℕ). big_number 8 l) at8 ∙ big_number-reads_back 8 x.1.boot n h.boot;
      number = ap (λ (l : List ℕ). big_number 8 l) at16 ∙ number_alone 8 x.1.number h.number;
    }

pub length-txn_bytes : (x : Txn) → length (txn_bytes x) ≡ 20
unfolding txn_bytes
length-txn_bytes x = refl

pub length-ticket_bytes : (b : ProcessId × Ticket) → length (ticket_bytes b) ≡ 24
unfolding ticket_bytes
length-ticket_bytes b = refl

-- a number that is after the front of a name
pub number_behind : (n k v : ℕ) (bytes name : List ℕ) → bytes ≡ name → big_number n (drop k bytes) ≡ v
    → big_number n (take (length name - k) (drop k name)) ≡ v
number_behind n k v bytes name e h =
    let rest : take (length name - k) (drop k name) ≡ drop k name =
    take_all (length name - k) (drop k name) (omega (arith, length-drop k name)) in
    ap (λ (l : List ℕ). big_number n l) rest ∙ ap (λ (l : List ℕ). big_number n (drop k l)) (sym e) ∙ h

-- a number that is at the front of a name
pub number_first : (n v : ℕ) (bytes name : List ℕ) → bytes ≡ name → big_number n bytes ≡ v
    → big_number n name ≡ v
number_first n v bytes name e h = ap (λ (l : List ℕ). big_number n l) (sym e) ∙ h

pub txn_is : (root boot sequence : ℕ) (p : Presumption) (x : Txn) → root ≡ x.root.0 → boot ≡ x.boot
    → sequence ≡ x.sequence → x.presumption ≡ p
    → record { root = record { 0 = root }; boot = boot; sequence = sequence; presumption = p } ≡ x
txn_is root boot sequence p x r b s q = rw (r, b, s, ← q) refl

pub ticket_is : (parent child boot number : ℕ) (b : ProcessId × Ticket) → parent ≡ b.0.0 → child ≡ b.1.child.0
    → boot ≡ b.1.boot → number ≡ b.1.number
    → ◌≡◌ {A = ProcessId × Ticket} (
      record { 0 = parent },
      record { child = record { 0 = child }; boot = boot; number = number },
    ) b
ticket_is parent child boot number b p c o n = rw (p, c, o, n) refl

pub no_ticket : (b : Option (ProcessId × Ticket)) (name : List ℕ) → below_bytes b ≡ name → length name ≡ 0
    → b ≡ None
no_ticket None name e h = refl
no_ticket (Some t) name e h = absurd (omega (arith, length-ticket_bytes t, ap length e))

pub one_ticket : (b : Option (ProcessId × Ticket)) (name : List ℕ) → below_bytes b ≡ name → length name ≢ 0
    → length name ≡ 24
one_ticket None name e h = absurd (h (sym (ap length e)))
one_ticket (Some t) name e h = omega (arith, length-ticket_bytes t, ap length e)

-- What is read of a name spells the name again.

pub txn_spelled : (name : List ℕ) → AreBytes name → length name ≡ 20
    → big_bytes 4 (big_number 4 name)
    ++ (big_bytes 8 (big_number 8 (drop 4 name)) ++ big_bytes 8 (big_number 8 (drop 12 name))) ≡ name
txn_spelled name h n =
    let root : big_bytes 4 (big_number 4 name) ≡ take 4 name = number_again 4 name h (omega (arith, n)) in
    let boot : big_bytes 8 (big_number 8 (drop 4 name)) ≡ take 8 (drop 4 name) =
    number_again 8 (drop 4 name) (bytes_behind 4 name h) (omega (arith, n, length-drop 4 name)) in
    let sequence : big_bytes 8 (big_number 8 (drop 12 name)) ≡ drop 12 name =
    number_again 8 (drop 12 name) (bytes_behind 12 name h) (omega (arith, n, length-drop 12 name))
    ∙ take_all 8 (drop 12 name) (omega (arith, n, length-drop 12 name)) in
    (λ i. root i ++ (boot i ++ sequence i))
    ∙ ap (λ t. take 4 name ++ (take 8 (drop 4 name) ++ t)) (sym (drop-drop 8 4 name))
    ∙ ap (λ t. take 4 name ++ t) (take-append-drop 8 (drop 4 name)) ∙ take-append-drop 4 name

pub ticket_spelled : (name : List ℕ) → AreBytes name → length name ≡ 24
    → big_bytes 4 (big_number 4 name) ++ (big_bytes 4 (big_number 4 (drop 4 name))
    ++ (big_bytes 8 (big_number 8 (drop 8 name)) ++ big_bytes 8 (big_number 8 (drop 16 name)))) ≡ name
ticket_spelled name h n =
    let parent : big_bytes 4 (big_number 4 name) ≡ take 4 name = number_again 4 name h (omega (arith, n)) in
    let child : big_bytes 4 (big_number 4 (drop 4 name)) ≡ take 4 (drop 4 name) =
    number_again 4 (drop 4 name) (bytes_behind 4 name h) (omega (arith, n, length-drop 4 name)) in
    let boot : big_bytes 8 (big_number 8 (drop 8 name)) ≡ take 8 (drop 8 name) =
    number_again 8 (drop 8 name) (bytes_behind 8 name h) (omega (arith, n, length-drop 8 name)) in
    let number : big_bytes 8 (big_number 8 (drop 16 name)) ≡ drop 16 name =
    number_again 8 (drop 16 name) (bytes_behind 16 name h) (omega (arith, n, length-drop 16 name))
    ∙ take_all 8 (drop 16 name) (omega (arith, n, length-drop 16 name)) in
    (λ i. parent i ++ (child i ++ (boot i ++ number i)))
    ∙ ap (λ t. take 4 name ++ (take 4 (drop 4 name) ++ (take 8 (drop 8 name) ++ t)))
    (sym (drop-drop 8 8 name))
    ∙ ap (λ t. take 4 name ++ (take 4 (drop 4 name) ++ t)) (take-append-drop 8 (drop 8 name))
    ∙ ap (λ t. take 4 name ++ (take 4 (drop 4 name) ++ t)) (sym (drop-drop 4 4 name))
    ∙ ap (λ t. take 4 name ++ t) (take-append-drop 4 (drop 4 name)) ∙ take-append-drop 4 name

-- the number that is read of a name, from this place on
pub number_there : (n k v : ℕ) (name : List ℕ) → v ≡ big_number n (take (length name - k) (drop k name))
    → v ≡ big_number n (drop k name)
number_there n k v name e =
    e ∙ ap (λ (l : List ℕ). big_number n l)
    (take_all (length name - k) (drop k name) (omega (arith, length-drop k name)))

pub txn_spells : (name : List ℕ) (root boot sequence : ℕ) (p : Presumption) → AreBytes name → length name ≡ 20
    → root ≡ big_number 4 name → boot ≡ big_number 8 (take (length name - 4) (drop 4 name))
    → sequence ≡ big_number 8 (take (length name - 12) (drop 12 name))
    → txn_bytes (record { root = record { 0 = root }; boot = boot; sequence = sequence; presumption = p })
    ≡ name
unfolding txn_bytes
txn_spells name root boot sequence p h n r b s =
    let there = number_there 8 4 boot name b in
    let last = number_there 8 12 sequence name s in
    (λ i. big_bytes 4 (r i) ++ (big_bytes 8 (there i) ++ big_bytes 8 (last i))) ∙ txn_spelled name h n

pub ticket_spells : (name : List ℕ) (parent child boot number : ℕ) → AreBytes name → length name ≡ 24
    → parent ≡ big_number 4 name → child ≡ big_number 4 (take (length name - 4) (drop 4 name))
    → boot ≡ big_number 8 (take (length name - 8) (drop 8 name))
    → number ≡ big_number 8 (take (length name - 16) (drop 16 name))
    → ticket_bytes (
      record { 0 = parent },
      record { child = record { 0 = child }; boot = boot; number = number },
    ) ≡ name
unfolding ticket_bytes
ticket_spells name parent child boot number h n p c b k =
    let second = number_there 4 4 child name c in
    let third = number_there 8 8 boot name b in
    let last = number_there 8 16 number name k in
    (λ i. big_bytes 4 (p i) ++ (big_bytes 4 (second i) ++ (big_bytes 8 (third i) ++ big_bytes 8 (last i))))
    ∙ ticket_spelled name h n
