-- After a restart the judge's data are those of what the crash left.
use Rattle.std.proofs.Common.{◌≡◌, ℕ, Bool, true, false, Option, None, List, [], ◌∷◌, ◌++◌, filter, find, fold, ◌||◌, ◌&&◌, refl, ap, sym, subst, ◌∙◌, inl, inr}
use Rattle.std.specs.Prelude.{◌==◌, ◌⊎◌}
use Rattle.std.specs.List.{list_any, AllByRecursion}
use Rattle.std.proofs.lemmas.Bool.{and_parts, eqb-true, eq-eqb, false≢true}
use Rattle.xa_tables.specs.Tables.{is_in_doubt as is_doubt}
use Rattle.xa_tables.specs.declared.states.BranchState.{BranchState}
use Rattle.xa_tables.specs.declared.states.BranchState.TheVariants.{S0, S1, S2, S3, S4, S5}
use Rattle.xa_xid.specs.declared.xid.Xid.{Xid}
use Rattle.protocol.specs.declared.records.Write.{Write}
use Rattle.kv_store.specs.writes.Writes.{is_of}
use Rattle.judge_state.specs.declared.parts.JudgedBranch.{JudgedBranch}
use Rattle.judge_state.specs.declared.parts.Work.{Work}
use Rattle.judge_state.specs.Moves.{keeps_name, restarted, works_of}
use Rattle.judge_state.specs.Parts.{is_in_doubt, is_named}
use Rattle.judge_state.specs.Scans.{may_hold}
use Rattle.judge_state.specs.Sights.{Sight}
use Rattle.proof_judged_deeds.specs.Data.{HasWritten, JudgeHolds, IsHeard, MayLeave, is_at}
use Rattle.proof_judged_deeds.specs.Names.{NameNumbers, value_number}
use Rattle.proof_judged_deeds.proofs.Holding.{holds_after, holds_before, holds_kept, holds_none, holds_own, holds_twice, own_none}
use Rattle.proof_judged_deeds.proofs.Ledgers.{IsBack, IsReturned}
use Rattle.proof_judged_deeds.proofs.Lists.{all_weaker, any_filter, find_any}
use Rattle.proof_judged_deeds.proofs.Values.{all_doubted}

abbrev with_back : List Work → List Work → JudgedBranch → List Work
with_back lost js b = js ++ works_of b.name lost

-- what other branches had written comes back
back_others : (n : NameNumbers) (o : Option Write) (x k : ℕ) (lost js : List Work) (bs : List JudgedBranch)
    → AllByRecursion (λ b. b.name ≡ x → ⊥) bs → JudgeHolds n o x k js
    → JudgeHolds n o x k (fold (with_back lost) js bs)
back_others n o x k lost js [] apart h = h
back_others n o x k lost js (b ∷ bs) apart h = back_others n o x k lost
    (js ++ works_of b.name lost) bs apart.1
    (holds_before n o x k js (works_of b.name lost) h (own_none n b.name x k lost apart.0))

-- what the branch itself had written comes back, maybe not for the first time
back_more : (n : NameNumbers) (o : Option Write) (x k : ℕ) (lost js : List Work) (bs : List JudgedBranch)
    → JudgeHolds n o x k lost → JudgeHolds n o x k js → JudgeHolds n o x k (fold (with_back lost) js bs)
back_more n o x k lost js [] had h = h
back_more n o x k lost js (b ∷ bs) had h = back_more n o x k lost (js ++ works_of b.name lost) bs had
    (by (b.name == x) refl) where
      by : (c : Bool) → (b.name == x) ≡ c → JudgeHolds n o x k (js ++ works_of b.name lost)
      by true q = holds_twice n o x k js (works_of b.name lost) h
          (subst (λ (y : ℕ). JudgeHolds n o x k (works_of y lost)) (sym (eqb-true b.name x q))
          (holds_own n o x k lost had))
      by false q = holds_before n o x k js (works_of b.name lost) h
          (own_none n b.name x k lost (λ e. false≢true (sym q ∙ eq-eqb b.name x e)))

back_own : (n : NameNumbers) (o : Option Write) (x k : ℕ) (lost js : List Work) (bs : List JudgedBranch)
    → list_any (is_named x) bs ≡ true → JudgeHolds n o x k lost → list_any (is_at x k) js ≡ false
    → JudgeHolds n o x k (fold (with_back lost) js bs)
back_own n o x k lost js [] here had none = absurd (false≢true here)
back_own n o x k lost js (b ∷ bs) here had none =
    by (λ h e. back_own n o x k lost (js ++ works_of b.name lost) bs h had e) (b.name == x) refl
  where
    by : (list_any (is_named x) bs ≡ true → list_any (is_at x k) (js ++ works_of b.name lost) ≡ false
        → JudgeHolds n o x k (fold (with_back lost) (js ++ works_of b.name lost) bs))
        → (c : Bool) → (b.name == x) ≡ c → JudgeHolds n o x k
        (fold (with_back lost) (js ++ works_of b.name lost) bs)
    by rest true q = back_more n o x k lost (js ++ works_of b.name lost) bs had
        (holds_after n o x k js (works_of b.name lost) none
        (subst (λ (y : ℕ). JudgeHolds n o x k (works_of y lost)) (sym (eqb-true b.name x q))
        (holds_own n o x k lost had)))
    by rest false q = rest (subst (λ (c : Bool). (c || list_any (is_named x) bs) ≡ true) q here)
        (holds_before n None x k js (works_of b.name lost) none
        (own_none n b.name x k lost (λ e. false≢true (sym q ∙ eq-eqb b.name x e))))

abbrev is_three : BranchState → Bool
is_three S3 = true
is_three _ = false

three_is : (s : BranchState) → is_three s ≡ true → s ≡ S3
three_is S3 h = refl
three_is S0 h = absurd (false≢true h)
three_is S1 h = absurd (false≢true h)
three_is S2 h = absurd (false≢true h)
three_is S4 h = absurd (false≢true h)
three_is S5 h = absurd (false≢true h)

doubt_cases : (s : BranchState) → is_doubt s ≡ true → (s ≡ S3) ⊎ (s ≡ S5)
doubt_cases S3 h = inl refl
doubt_cases S5 h = inr refl
doubt_cases S0 h = absurd (false≢true h)
doubt_cases S1 h = absurd (false≢true h)
doubt_cases S2 h = absurd (false≢true h)
doubt_cases S4 h = absurd (false≢true h)

module _ (n : NameNumbers) (value value' : List ℕ → Option (List ℕ))
    (written promised written' : Xid → List Write)
    (back : Xid → Bool) (s u : Sight) (from to : Xid → BranchState) (returned : IsReturned n s u from to)
    (leave : MayLeave n value promised back s)
    (works : (x : Xid) → HasWritten n (written x) x s.works)
    (comes_back : (x : Xid) → back x ≡ true → (is_doubt (from x) ≡ false) × (to x ≡ S3))
    (all_back : (x : Xid) → is_doubt (from x) ≡ false → to x ≡ S3 → back x ≡ true)
    (stays : (x : Xid) → is_doubt (from x) ≡ true → to x ≡ from x)
    (kept : (x : Xid) → from x ≡ S3 → promised x ≡ written x)
    (decided : (x : Xid) → from x ≡ S5 → written x ≡ [])
    (same_values : (k : List ℕ) → value' k ≡ value k)
    (prepared : (x : Xid) → to x ≡ S3 → written' x ≡ promised x)
    (nothing : (x : Xid) → (to x ≡ S3 → ⊥) → written' x ≡ []) where
  abbrev names : ℕ → Bool
  names y = list_any (is_named y) returned.back

  abbrev rest : List Work
  rest = (restarted s).works

  values_after : (k : List ℕ) → may_hold (n.word k) (value_number n (value' k)) u.values ≡ true
  values_after k = ap (λ o. may_hold (n.word k) (value_number n o) u.values) (same_values k)
      ∙ ap (λ vs. may_hold (n.word k) (value_number n (value k)) vs)
      (returned.values ∙ all_doubted returned.back s.values)
      ∙ leave.committed names (λ x e. let c = comes_back x e in returned.here x c.0 c.1) k

  -- a branch that stays in doubt does not come back
  stays_apart : (x : Xid) → is_doubt (from x) ≡ true
      → AllByRecursion (λ b. b.name ≡ n.xid x → ⊥) returned.back
  stays_apart x q = all_weaker (IsBack n s to) (λ b. b.name ≡ n.xid x → ⊥) (λ b is e.
      false≢true (sym is.free
      ∙ find_any (is_named b.name) (filter is_in_doubt s.branches)
      ∙ any_filter (is_named b.name) is_in_doubt s.branches
      ∙ ap (λ y. list_any (λ c. is_in_doubt c && c.name == y) s.branches) e
      ∙ returned.kept x ∙ q)) returned.back returned.each

  -- nor does one that is not in S3 then
  off_apart : (x : Xid) → (to x ≡ S3 → ⊥) → AllByRecursion (λ b. b.name ≡ n.xid x → ⊥) returned.back
  off_apart x off = all_weaker (IsBack n s to) (λ b. b.name ≡ n.xid x → ⊥) (λ b is e.
      off (subst (λ (y : Xid). to y ≡ S3) (n.xids_apart is.xid x (sym is.is ∙ e)) is.three))
      returned.back returned.each

  at_branch : (x : Xid) (k : ℕ) (j : Work) → is_at (n.xid x) k j ≡ true
      → keeps_name s.branches j.branch ≡ is_doubt (from x)
  at_branch x k j e = ap (λ y. keeps_name s.branches y)
      (eqb-true j.branch (n.xid x) (and_parts (j.branch == n.xid x) (j.key == k) e).0) ∙ returned.kept x

  left_works : (x : Xid) (o : Option Write) (k : ℕ)
      → JudgeHolds n o (n.xid x) k (fold (with_back s.lost_works) rest returned.back)
      → JudgeHolds n o (n.xid x) k u.works
  left_works x o k h = subst (λ (js : List Work). JudgeHolds n o (n.xid x) k js) (sym returned.works) h

  works_after : (x : Xid) → HasWritten n (written' x) x u.works
  works_after x k = by (is_doubt (from x)) refl where
    of : List Write → Type 0
    of ws = JudgeHolds n (find (is_of k) ws) (n.xid x) (n.word k) u.works

    -- it was in doubt, and is so still
    in_doubt : is_doubt (from x) ≡ true → of (written x)
    in_doubt q = left_works x (find (is_of k) (written x)) (n.word k)
        (back_others n (find (is_of k) (written x)) (n.xid x) (n.word k) s.lost_works rest returned.back
        (stays_apart x q)
        (holds_kept n (find (is_of k) (written x)) (n.xid x) (n.word k)
        (λ w. keeps_name s.branches w.branch) s.works
        (λ j e. at_branch x (n.word k) j e ∙ q) (works x k)))

    gone : is_doubt (from x) ≡ false → list_any (is_at (n.xid x) (n.word k)) rest ≡ false
    gone q = holds_none n (n.xid x) (n.word k) (λ w. keeps_name s.branches w.branch) s.works
        (λ j e. at_branch x (n.word k) j e ∙ q)

    by : (c : Bool) → is_doubt (from x) ≡ c → of (written' x)
    by true q = elim (doubt_cases (from x) q) [
      | inl three ↦ subst of (sym (prepared x (stays x q ∙ three) ∙ kept x three)) (in_doubt q)
      | inr five ↦ subst of (decided x five ∙ sym
          (nothing x (λ e. let f : S5 ≡ S3 = sym five ∙ sym (stays x q) ∙ e in cc)))
          (in_doubt q)
    ]
    by false q = back_by (is_three (to x)) refl where
      back_by : (c : Bool) → is_three (to x) ≡ c → of (written' x)
      back_by true e =
          let three = three_is (to x) e in
          subst of (sym (prepared x three)) (left_works x (find (is_of k) (promised x)) (n.word k)
          (back_own n (find (is_of k) (promised x)) (n.xid x) (n.word k) s.lost_works rest returned.back
          (returned.here x q three) (leave.works x (all_back x q three) k) (gone q)))
      back_by false e =
          let off : to x ≡ S3 → ⊥ = λ three. false≢true (sym e ∙ ap is_three three) in
          subst of (sym (nothing x off)) (left_works x None (n.word k)
          (back_others n None (n.xid x) (n.word k) s.lost_works rest returned.back
          (off_apart x off) (gone q)))

  pub restart_heard : IsHeard n value' written' u
  restart_heard = record { committed = values_after; works = works_after }
