-- Words of a line, found and parted.
use Rattle.std.proofs.Common.{◌≡◌, ℕ, ◌+◌, ◌-◌, ◌<◌, ◌≤◌, true, false, suc, List, [], ◌∷◌, ◌++◌, length, get_or, take, drop, Bor, sym, ap, ◌∙◌, subst, arith}
use Rattle.std.specs.Prelude.{codes, nat_eq}
use Rattle.std.specs.Cmp.Lexicographic.{bytes_decides, pointwise, same_text}
use Rattle.std.proofs.lemmas.Bool.{false≢true}
use Rattle.std.proofs.lemmas.List.{get_or_default, length-drop, map-append, take_all, take_more}
use Rattle.std.proofs.Math.Seq.{split_at}
use Rattle.script_words.proofs.Texts.{blank, long, text_at, texts}
use Rattle.xa_xid.specs.declared.xid.Xid.{Xid}
use Rattle.judge_script.specs.Words.{IsName}
use Rattle.judge_script.specs.Answers.{AreNames}
use Rattle.judge_script.specs.Numbers.{IsPlace}

names_push : (ws : List (List ℕ)) (xs : List Xid) (w : List ℕ) (x : Xid) → AreNames ws xs → IsName w x
    → AreNames (ws ++ w ∷ []) (xs ++ x ∷ [])
names_push [] [] w x h n = (n, tt)
names_push [] (y ∷ ys) w x h n = absurd h
names_push (v ∷ vs) [] w x h n = absurd h
names_push (v ∷ vs) (y ∷ ys) w x h n = (h.0, names_push vs ys w x h.1 n)

-- one more word spells an XID
pub names_more : (ws : List (Bor (List ℕ))) (i : ℕ) (xs : List Xid) (x : Xid) → i < length ws
    → AreNames (take i (texts ws)) xs → IsName (get_or ws i blank).now x
    → AreNames (take (i + 1) (texts ws)) (xs ++ x ∷ [])
names_more ws i xs x lt h n =
    let within : i < length (texts ws) = omega (arith, long ws) in
    subst (λ (q : List (List ℕ)). AreNames q (xs ++ x ∷ [])) (sym (take_more (texts ws) i [] within))
    (names_push (take i (texts ws)) xs (get_or (texts ws) i []) x h
    (subst (λ (w : List ℕ). IsName w x) (sym (text_at ws i)) n))

-- a word that is equal is at its place
pub found_text : (ws : List (Bor (List ℕ))) (i : ℕ) (w : List ℕ) → i < length ws
    → true ≡ pointwise nat_eq (get_or ws i blank).now w → IsPlace (texts ws) i w
found_text ws i w lt is =
    let within : i < length (texts ws) = omega (arith, long ws) in (
      within,
      get_or_default (texts ws) i w [] within ∙ text_at ws i ∙ same_text (get_or ws i blank).now w is,
    )

-- and one that is not equal is not
pub absent_text : (ws : List (Bor (List ℕ))) (i : ℕ) (w : List ℕ) → i < length ws
    → false ≡ pointwise nat_eq (get_or ws i blank).now w → IsPlace (texts ws) i w → ⊥
absent_text ws i w lt is (within, at) =
    let e : (get_or ws i blank).now ≡ w =
    sym (text_at ws i) ∙ get_or_default (texts ws) i [] w within ∙ at in
    false≢true (is ∙ (bytes_decides (get_or ws i blank).now w).1 e)

-- the words before and after an arrow
pub parted : (ws : List (Bor (List ℕ))) (i : ℕ) → i < length ws
    → true ≡ pointwise nat_eq (get_or ws i blank).now (codes "->")
    → texts ws ≡ texts (take i ws) ++ codes "->" ∷ texts (drop (i + 1) ws)
parted ws i lt is =
    let arrow : (get_or ws i blank).now ≡ codes "->" = same_text (get_or ws i blank).now (codes "->") is in
    let next : suc i ≡ i + 1 = omega arith in
    ap texts (split_at ws i blank lt) ∙ map-append (λ s. s.now) (take i ws)
    (get_or ws i blank ∷ drop (suc i) ws)
    ∙ ap (λ (w : List ℕ). texts (take i ws) ++ w ∷ texts (drop (suc i) ws)) arrow
    ∙ ap (λ (k : ℕ). texts (take i ws) ++ codes "->" ∷ texts (drop k ws)) next

-- the same, where the words after it are told as a range
pub parted_range : (ws : List (Bor (List ℕ))) (i : ℕ) → i < length ws
    → true ≡ pointwise nat_eq (get_or ws i blank).now (codes "->")
    → texts ws ≡ texts (take i ws) ++ codes "->" ∷ texts (take (length ws - (i + 1)) (drop (i + 1) ws))
parted_range ws i lt is =
    let past : length (drop (i + 1) ws) ≤ length ws - (i + 1) = omega (arith, length-drop (i + 1) ws) in
    parted ws i lt is ∙ ap (λ (q : List (Bor (List ℕ))). texts (take i ws) ++ codes "->" ∷ texts q)
    (sym (take_all (length ws - (i + 1)) (drop (i + 1) ws) past))

-- the texts of words, with one more
pub texts_push : (ws new : List (Bor (List ℕ))) (w : Bor (List ℕ)) → new ≡ ws ++ w ∷ []
    → texts new ≡ texts ws ++ w.now ∷ []
texts_push ws new w is = ap texts is ∙ map-append (λ s. s.now) ws (w ∷ [])
