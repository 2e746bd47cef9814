-- Seats are cut and put together: the rule is kept.
use Rattle.std.proofs.Common.{◌≡◌, ◌≢◌, ℕ, suc, ◌+◌, ◌<◌, List, [], ◌∷◌, ◌++◌, length, set, true, false, refl, sym, ap, ◌∙◌, subst, ⊎_elim, arith}
use Rattle.std.specs.Prelude.{slice_get}
use mathlib.Core.Option.{some}
use lib.ListN.{get_elem?}
use Rattle.atomic_table.proofs.Lists.{at_set, set_again}
use Rattle.protocol.specs.declared.names.ProcessId.{ProcessId}
use Rattle.cluster_ties.specs.declared.views.View.{View}
use Rattle.cluster_ties.specs.Views.{AreBelow, beside, beside_pass, given_more, process_at, new_pass, newcomer, opened_more, pairs_by, pass_part, process_part, spent, without_pass, without_process}
use Rattle.cluster_ties.specs.Rule.{Fits, IsTied}
use Rattle.cluster_ties.proofs.Lists.{apart_by, below_next, fits_new, fits_set, no_pairs, off, upd, upd_else, upd_here}
use Rattle.cluster_ties.proofs.Moves.{holds_at, keeps_at, works_at}

module _ (names : List ProcessId) (views : List View) (id : ℕ) (v : View)
    (h : IsTied names views) (at : get_elem? views id ≡ some v) where
  -- the rule holds as it did, with other seats
  reseated : (views' : List View) (ps hs : ℕ → ℕ)
      → ((by : ℕ) (u : View) → get_elem? views' by ≡ some u → Fits names h.js h.o h.g h.log ps hs h.now by u)
      → IsTied names views'
  reseated views' ps hs fits = record {
    js = h.js;
    o = h.o;
    g = h.g;
    log = h.log;
    ps = ps;
    hs = hs;
    now = h.now;
    tie = h.tie;
    named = h.named;
    sent = h.sent;
    fresh = h.fresh;
    few = h.few;
    apart = h.apart;
    known = h.known;
    fits = fits;
  }

  -- what the rule says of the seats as they are, also where this one is set once more
  here : (j : ℕ) (u : View) → get_elem? (set views id v) j ≡ some u
      → Fits names h.js h.o h.g h.log h.ps h.hs h.now j u
  here j u e = h.fits j u (subst (λ l. get_elem? l j ≡ some u) (set_again views id v at) e)

  -- a seat that knows nothing
  pub spares : IsTied names (set views id v ++ spent ∷ [])
  spares = reseated (set views id v ++ spent ∷ []) h.ps h.hs
      (fits_new (Fits names h.js h.o h.g h.log h.ps h.hs h.now) (set views id v) spent here
      ((λ w. absurd (off w)), (λ w. absurd (off w)), (λ w. absurd (off w))))

  -- The journal's seat and a process's beside it part.
  pub parts : v.process.works ≡ true → IsTied names (set views id (without_process v) ++ process_part v ∷ [])
  parts works =
      let p = v.process.place in
      let m = works_at names views id v h at works in
      let place : ℕ = length (set views id (without_process v)) in
      let ps : ℕ → ℕ = upd h.ps p place in
      let F : ℕ → View → Type 0 = Fits names h.js h.o h.g h.log ps h.hs h.now in
      reseated (set views id (without_process v) ++ process_part v ∷ []) ps h.hs
      (fits_new F (set views id (without_process v)) (process_part v)
      (fits_set F views id (without_process v)
      (λ j u away e.
      let f = h.fits j u e in (
        f.0,
        (λ w.
            let x = f.1 w in
            let ne = apart_by h.ps j id u.process.place p away x.0 m.0 in
            (x.0 ∙ sym (upd_else h.ps p place u.process.place ne), x.1, x.2)),
        f.2,
      ))
      ((h.fits id v at).0, (λ w. absurd (off w)), (h.fits id v at).2))
      ((λ w. absurd (off w)), (λ w. (sym (upd_here h.ps p place), m.1, m.2)), (λ w. absurd (off w))))

  -- The journal's seat and a pass beside it part.
  pub parts_pass : v.pass.holds ≡ true → IsTied names (set views id (without_pass v) ++ pass_part v ∷ [])
  parts_pass holds =
      let c = v.pass.caller in
      let d = holds_at names views id v h at holds in
      let place : ℕ = length (set views id (without_pass v)) in
      let hs : ℕ → ℕ = upd h.hs c place in
      let F : ℕ → View → Type 0 = Fits names h.js h.o h.g h.log h.ps hs h.now in
      reseated (set views id (without_pass v) ++ pass_part v ∷ []) h.ps hs
      (fits_new F (set views id (without_pass v)) (pass_part v)
      (fits_set F views id (without_pass v)
      (λ j u away e.
      let f = h.fits j u e in (
        f.0,
        f.1,
        (λ w.
            let x = f.2 w in
            let ne = apart_by h.hs j id u.pass.caller c away x.0 d.0 in
            (x.0 ∙ sym (upd_else h.hs c place u.pass.caller ne), x.1, x.2)),
      ))
      ((h.fits id v at).0, (h.fits id v at).1, (λ w. absurd (off w))))
      ((λ w. absurd (off w)), (λ w. absurd (off w)), (λ w. (sym (upd_here h.hs c place), d.1, d.2))))

  -- They come together.
  was_there : (w : View) (other : ℕ) (u : View) → other ≢ id → get_elem? (set views id w) other ≡ some u
      → get_elem? views other ≡ some u
  was_there w other u ne there =
      ⊎_elim
      (λ (t : (other ≡ id) × (w ≡ u)). absurd (ne t.0))
      (λ (t : (other ≢ id) × (get_elem? views other ≡ some u)). t.1)
      (at_set views id other w u there)

  pub joins : (other : ℕ) (u : View) → u.process.works ≡ true → other ≢ id
      → get_elem? (set views id (beside v u)) other ≡ some u
      → IsTied names (set (set views id (beside v u)) other spent)
  joins other u works ne there =
      let p = u.process.place in
      let was = was_there (beside v u) other u ne there in
      let m = (h.fits other u was).1 works in
      let ps : ℕ → ℕ = upd h.ps p id in
      let F : ℕ → View → Type 0 = Fits names h.js h.o h.g h.log ps h.hs h.now in
      reseated (set (set views id (beside v u)) other spent) ps h.hs
      (fits_set F (set views id (beside v u)) other spent
      (λ j x far e. fits_set (λ i y. i ≢ other → F i y) views id (beside v u)
      (λ i y away e' far'.
      let f = h.fits i y e' in (
        f.0,
        (λ w.
            let k = f.1 w in
            let ne' = apart_by h.ps i other y.process.place p far' k.0 m.0 in
            (k.0 ∙ sym (upd_else h.ps p id y.process.place ne'), k.1, k.2)),
        f.2,
      ))
      (λ far'. (
        (h.fits id v at).0,
        (λ w. (sym (upd_here h.ps p id), m.1, m.2)),
        (h.fits id v at).2,
      ))
      j x e far)
      ((λ w. absurd (off w)), (λ w. absurd (off w)), (λ w. absurd (off w))))

  pub joins_pass : (other : ℕ) (u : View) → u.pass.holds ≡ true → other ≢ id
      → get_elem? (set views id (beside_pass v u)) other ≡ some u
      → IsTied names (set (set views id (beside_pass v u)) other spent)
  joins_pass other u holds ne there =
      let c = u.pass.caller in
      let was = was_there (beside_pass v u) other u ne there in
      let d = (h.fits other u was).2 holds in
      let hs : ℕ → ℕ = upd h.hs c id in
      let F : ℕ → View → Type 0 = Fits names h.js h.o h.g h.log h.ps hs h.now in
      reseated (set (set views id (beside_pass v u)) other spent) h.ps hs
      (fits_set F (set views id (beside_pass v u)) other spent
      (λ j x far e. fits_set (λ i y. i ≢ other → F i y) views id (beside_pass v u)
      (λ i y away e' far'.
      let f = h.fits i y e' in (
        f.0,
        f.1,
        (λ w.
            let k = f.2 w in
            let ne' = apart_by h.hs i other y.pass.caller c far' k.0 d.0 in
            (k.0 ∙ sym (upd_else h.hs c id y.pass.caller ne'), k.1, k.2)),
      ))
      (λ far'. (
        (h.fits id v at).0,
        (h.fits id v at).1,
        (λ w. (sym (upd_here h.hs c id), d.1, d.2)),
      ))
      j x e far)
      ((λ w. absurd (off w)), (λ w. absurd (off w)), (λ w. absurd (off w))))

  -- A new pass.
  pub gives : v.journal.keeps ≡ true → v.pass.holds ≡ false
      → IsTied names (set views id (given_more v) ++ new_pass v ∷ [])
  gives keeps spare =
      let k = keeps_at names views id v h at keeps in
      let c = v.journal.given in
      let place : ℕ = length (set views id (given_more v)) in
      let hs : ℕ → ℕ = upd h.hs c place in
      let F : ℕ → View → Type 0 = Fits names h.js h.o (suc c) h.log h.ps hs h.now in
      let known : AreBelow c h.log = subst (λ n. AreBelow n h.log) (sym k.3) h.known in
      record {
        js = h.js;
        o = h.o;
        log = h.log;
        ps = h.ps;
        now = h.now;
        tie = h.tie;
        named = h.named;
        sent = h.sent;
        fresh = h.fresh;
        few = h.few;
        apart = h.apart;
        g = suc c;
        hs = hs;
        known = below_next c h.log known;
        fits = fits_new F (set views id (given_more v)) (new_pass v)
            (fits_set F views id (given_more v)
            (λ j u away e.
            let f = h.fits j u e in (
              (λ w. absurd (away ((f.0 w).0 ∙ sym k.0))),
              f.1,
              (λ w.
                  let x = f.2 w in
                  let less = x.2 in
                  let same = k.3 in
                  let ne : u.pass.caller ≢ c = λ e. absurd (omega arith) in
                  (x.0 ∙ sym (upd_else h.hs c place u.pass.caller ne), x.1, omega arith)),
            )) (
              (λ w. (k.0, k.1, k.2, refl, k.4)),
              (h.fits id v at).1,
              (λ w. absurd (off (sym spare ∙ w))),
            )) (
              (λ w. absurd (off w)),
              (λ w. absurd (off w)),
              (λ w. (sym (upd_here h.hs c place), sym (no_pairs c 0 h.log known), omega arith)),
            );
      }

  -- The next process gets a seat.
  pub opens : v.journal.keeps ≡ true → v.process.works ≡ false → v.journal.opened < length names
      → IsTied names (set views id (opened_more v) ++ newcomer v ∷ [])
  opens keeps idle low =
      let k = keeps_at names views id v h at keeps in
      let p = v.journal.opened in
      let place : ℕ = length (set views id (opened_more v)) in
      let ps : ℕ → ℕ = upd h.ps p place in
      let F : ℕ → View → Type 0 = Fits names h.js (suc p) h.g h.log ps h.hs h.now in
      let new : (newcomer v).process ≡ h.now p =
      ap (λ ns. process_at p (slice_get ns p) [] []) k.4 ∙ sym (h.fresh p (let b = k.2 in omega arith)) in
      record {
        js = h.js;
        g = h.g;
        log = h.log;
        hs = h.hs;
        known = h.known;
        now = h.now;
        tie = h.tie;
        named = h.named;
        sent = h.sent;
        apart = h.apart;
        o = suc p;
        ps = ps;
        few = low;
        fresh = λ q le. h.fresh q (let b = k.2 in omega arith);
        fits = fits_new F (set views id (opened_more v)) (newcomer v)
            (fits_set F views id (opened_more v)
            (λ j u away e.
            let f = h.fits j u e in (
              (λ w. absurd (away ((f.0 w).0 ∙ sym k.0))),
              (λ w.
                  let x = f.1 w in
                  let less = x.2 in
                  let same = k.2 in
                  let ne : u.process.place ≢ p = λ e. absurd (omega arith) in
                  (x.0 ∙ sym (upd_else h.ps p place u.process.place ne), x.1, omega arith)),
              f.2,
            )) (
              (λ w. (k.0, k.1, refl, k.3, k.4)),
              (λ w. absurd (off (sym idle ∙ w))),
              (h.fits id v at).2,
            )) (
              (λ w. absurd (off w)),
              (λ w. (sym (upd_here h.ps p place), new, omega arith)),
              (λ w. absurd (off w)),
            );
      }

  -- A pass beside the journal.
  pub met : v.journal.keeps ≡ true → v.pass.holds ≡ true
      → v.pass.pairs ≡ pairs_by v.pass.caller 0 v.journal.all
  met keeps holds =
      let k = keeps_at names views id v h at keeps in
      let d = holds_at names views id v h at holds in d.1 ∙ ap (pairs_by v.pass.caller 0) (sym k.1)

  -- The journal alone.
  pub known : v.journal.keeps ≡ true → AreBelow v.journal.given v.journal.all
  known keeps =
      let k = keeps_at names views id v h at keeps in
      subst (λ l. AreBelow v.journal.given l) (sym k.1) (subst (λ n. AreBelow n h.log) (sym k.3) h.known)
