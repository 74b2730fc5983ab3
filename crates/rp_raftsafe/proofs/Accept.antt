-- Entries of a leader that are put over a log.
use Rattle.std.proofs.Common.{◌≡◌, ℕ, zero, suc, ◌+◌, ◌-◌, ◌<◌, ◌≤◌, true, eqb, ltb, List, [], ◌∷◌, ◌++◌, length, take, drop, refl, sym, ap, subst, ◌∙◌, arith, ⊎_elim, length-drop, length-take, get_or-drop, get_or-take, length-take-le, eqb-true, ltb-true, ltb-false, drop-drop, take-take, add-zero, add-suc, append-nil}
use Rattle.std.proofs.Math.Seq.{take-add}
use Rattle.std.proofs.lemmas.Bool.{cond_both, cases_lt, eqb-false}
use Rattle.std.proofs.lemmas.List.{drop-take, drop_all, take_all}
use Rattle.rp_raftlog.specs.declared.entries.Entry.{Entry}
use Rattle.rp_raftlog.specs.LogState.{LogState, same_terms, Edit, edited, overlay, accepting, accepted_to, matches, has_term}
use Rattle.rp_raftsafe.proofs.Logs.{no_entry, tm, term_in, Good, same_length, same_tm, same_term_in, logs_match, tm_past}
use Rattle.rp_raftsafe.proofs.Machine.{Abs, Inv}
use Rattle.rp_raftsafe.proofs.Store.{Stores}
use Rattle.rp_raftsafe.proofs.Views.{Shows, HasTerm, has_term_is}

-- so many places from the front have the same terms, and the next one has not
pub same_terms_left : (xs ys : List Entry) → same_terms xs ys ≤ length xs
same_terms_left [] ys = omega arith
same_terms_left (x ∷ xs) [] = omega arith
same_terms_left (x ∷ xs) (y ∷ ys) = cond_both (eqb x.term y.term) (suc (same_terms xs ys)) 0 (λ z. z ≤ suc (length xs)) (λ _. omega (arith, same_terms_left xs ys)) (λ _. omega arith)

pub same_terms_right : (xs ys : List Entry) → same_terms xs ys ≤ length ys
same_terms_right [] ys = omega arith
same_terms_right (x ∷ xs) [] = omega arith
same_terms_right (x ∷ xs) (y ∷ ys) = cond_both (eqb x.term y.term) (suc (same_terms xs ys)) 0 (λ z. z ≤ suc (length ys)) (λ _. omega (arith, same_terms_right xs ys)) (λ _. omega arith)

same_terms_at : (xs ys : List Entry) (k : ℕ) → k < same_terms xs ys → tm xs k ≡ tm ys k
same_terms_at [] ys k = λ lt. absurd (omega arith)
same_terms_at (x ∷ xs) [] k = λ lt. absurd (omega arith)
same_terms_at (x ∷ xs) (y ∷ ys) zero = cond_both (eqb x.term y.term) (suc (same_terms xs ys)) 0 (λ z. zero < z → x.term ≡ y.term) (λ e _. eqb-true x.term y.term e) (λ _ lt. absurd (omega arith))
same_terms_at (x ∷ xs) (y ∷ ys) (suc k) = cond_both (eqb x.term y.term) (suc (same_terms xs ys)) 0 (λ z. suc k < z → tm xs k ≡ tm ys k) (λ _ lt. same_terms_at xs ys k (omega arith)) (λ _ lt. absurd (omega arith))

same_terms_stop : (xs ys : List Entry) (k : ℕ) → k ≡ same_terms xs ys → k < length xs → k < length ys → tm xs k ≡ tm ys k → ⊥
same_terms_stop [] ys k = λ e lx ly. absurd (omega arith)
same_terms_stop (x ∷ xs) [] k = λ e lx ly. absurd (omega arith)
same_terms_stop (x ∷ xs) (y ∷ ys) zero = cond_both (eqb x.term y.term) (suc (same_terms xs ys)) 0 (λ z. zero ≡ z → zero < suc (length xs) → zero < suc (length ys) → x.term ≡ y.term → ⊥) (λ _ e. absurd (omega arith)) (λ ne _ _ _ same. eqb-false x.term y.term ne same)
same_terms_stop (x ∷ xs) (y ∷ ys) (suc k) = cond_both (eqb x.term y.term) (suc (same_terms xs ys)) 0 (λ z. suc k ≡ z → suc k < suc (length xs) → suc k < suc (length ys) → tm xs k ≡ tm ys k → ⊥) (λ _ e lx ly. same_terms_stop xs ys k (omega arith) (omega arith) (omega arith)) (λ _ e. absurd (omega arith))

-- the terms of a part of a log
pub tm_part : (xs : List Entry) (from most k : ℕ) → k < most → tm (take most (drop from xs)) k ≡ tm xs (from + k)
tm_part xs from most k lt = ap (λ z. z.term) (get_or-take most (drop from xs) k no_entry lt ∙ get_or-drop from xs k no_entry)

tm_drop : (xs : List Entry) (from k : ℕ) → tm (drop from xs) k ≡ tm xs (from + k)
tm_drop xs from k = ap (λ z. z.term) (get_or-drop from xs k no_entry)

-- a front of a log that matches the leaders', matches too
pub good_take : (llog : ℕ → List Entry) (xs : List Entry) (m : ℕ) → m ≤ length xs → Good llog xs → Good llog (take m xs)
good_take llog xs m le good j lt =
    let short : j < m = omega (arith, length-take-le m xs le) in
    let same : tm (take m xs) j ≡ tm xs j = ap (λ z. z.term) (get_or-take m xs j no_entry short) in
    take-take (suc j) m xs short ∙ good j (omega arith) ∙ ap (λ t. take (suc j) (llog t)) (sym same)

pub tm_take_le : (xs : List Entry) (m t : ℕ) → ((j : ℕ) → tm xs j ≤ t) → (j : ℕ) → tm (take m xs) j ≤ t
tm_take_le xs m t le j =
    ⊎_elim
    (λ (lt : j < m). subst (λ z. z.term ≤ t) (sym (get_or-take m xs j no_entry lt)) (le j))
    (λ (ge : m ≤ j). subst (λ z. z ≤ t) (sym (tm_past (take m xs) j (omega (arith, length-take m xs)))) (omega arith))
    (cases_lt j m)

-- where two logs agree up to a place, the entries that follow there in one of them agree with the other as far as the terms do
module _ (llog : ℕ → List Entry) (xs l : List Entry) (place : ℕ) (news : List Entry) (gx : Good llog xs) (gl : Good llog l)
    (px : place ≤ length xs) (pl : place ≤ length l) (front : take place xs ≡ take place l) (stand : take (length news) (drop place l) ≡ news) where
  news_within : place + length news ≤ length l
  news_within = omega (arith, ap length stand, length-take (length news) (drop place l), length-drop place l)

  same_within : place + same_terms news (drop place xs) ≤ length xs
  same_within = omega (arith, same_terms_right news (drop place xs), length-drop place xs)

  agree_to : (k : ℕ) → k ≡ same_terms news (drop place xs) → take (place + k) xs ≡ take (place + k) l
  agree_to zero e = subst (λ z. take z xs ≡ take z l) (sym (add-zero place)) front
  agree_to (suc k) e =
      let left : suc k ≤ length news = omega (arith, same_terms_left news (drop place xs)) in
      let at : tm news k ≡ tm (drop place xs) k = same_terms_at news (drop place xs) k (omega arith) in
      let ours : tm (drop place xs) k ≡ tm xs (place + k) = tm_drop xs place k in
      let theirs : tm l (place + k) ≡ tm news k = sym (tm_part l place (length news) k left) ∙ ap (λ z. tm z k) stand in
      subst (λ z. take z xs ≡ take z l) (sym (add-suc place k))
      (logs_match llog xs l (place + k) gx gl (omega (arith, same_within)) (omega (arith, news_within)) (sym ours ∙ sym at ∙ sym theirs))

  -- where the terms part before the entries end, the logs agree no further
  parts : (k : ℕ) → k ≡ same_terms news (drop place xs) → k < length news → (j : ℕ) → j ≤ length xs → take j xs ≡ take j l → j ≤ place + k
  parts k e lt j le same =
      ⊎_elim
      (λ (past : place + k < j).
      let inside : k < length (drop place xs) = omega (arith, length-drop place xs) in
      let equal : tm xs (place + k) ≡ tm l (place + k) = same_tm (place + k) j xs l past same in
      let theirs : tm l (place + k) ≡ tm news k = sym (tm_part l place (length news) k lt) ∙ ap (λ z. tm z k) stand in
      absurd (same_terms_stop news (drop place xs) k e lt inside (sym theirs ∙ sym equal ∙ sym (tm_drop xs place k))))
      (λ le'. le')
      (cases_lt (place + k) j)

  -- the cut log, seen behind a base
  cut_view : (base from k rest : ℕ) → base + from ≡ place → k ≡ same_terms news (drop place xs) → k + rest ≡ length news → take (from + k) (drop base xs) ++ drop k news ≡ drop base (take (place + length news) l)
  cut_view base from k rest at same all =
      let seen : drop base (take (place + length news) l) ≡ take (from + k + rest) (drop base l) =
      ap (λ z. drop base (take z l)) (omega (arith, at, all)) ∙ drop-take base (from + k + rest) l in
      let first : take (from + k) (drop base l) ≡ take (from + k) (drop base xs) =
      sym (drop-take base (from + k) l) ∙ ap (λ z. drop base (take z l)) (omega (arith, at)) ∙ ap (drop base) (sym (agree_to k same)) ∙ ap (λ z. drop base (take z xs)) (omega (arith, at)) ∙ drop-take base (from + k) xs in
      let last : take rest (drop (from + k) (drop base l)) ≡ drop k news =
      ap (take rest) (drop-drop (from + k) base l ∙ ap (λ z. drop z l) (omega (arith, at)) ∙ sym (drop-drop k place l)) ∙ sym (drop-take k rest (drop place l)) ∙ ap (drop k) (ap (λ z. take z (drop place l)) all ∙ stand) in
      sym (seen ∙ take-add (from + k) rest (drop base l) ∙ ap (λ z. z ++ take rest (drop (from + k) (drop base l))) first ∙ ap (λ z. take (from + k) (drop base xs) ++ z) last)

-- what an edit of a log by entries of the leader makes of it, as the machine stores it
pub record EditOk (a : Abs) (p : ℕ) (l : LogState) (edit : Edit) (m : ℕ) : Type 0 where
  pub whole : List Entry
  pub shows : Shows whole (record l { entries = edited l.entries edit })
  pub stores : Stores a p whole m

-- the entries above the base stand in the leader's log
news_stand : (ll es : List Entry) (prev skip : ℕ) → take (length es) (drop prev ll) ≡ es → take (length (drop skip es)) (drop (prev + skip) ll) ≡ drop skip es
news_stand ll es prev skip stand =
    ⊎_elim
    (λ (few : length es < skip).
    let nil : drop skip es ≡ [] = drop_all skip es (omega arith) in
    subst (λ z. take (length z) (drop (prev + skip) ll) ≡ z) (sym nil) refl)
    (λ (le : skip ≤ length es).
    let len : skip + length (drop skip es) ≡ length es = omega (arith, length-drop skip es) in
    ap (take (length (drop skip es))) (sym (drop-drop skip prev ll))
    ∙ sym (drop-take skip (length (drop skip es)) (drop prev ll))
    ∙ ap (λ z. drop skip (take z (drop prev ll))) len
    ∙ ap (drop skip) stand)
    (cases_lt (length es) skip)

module _ (n : ℕ) (a : Abs) (p : ℕ) (l : LogState) (prev prev_term : ℕ) (es : List Entry) (h : Inv n a) (s : Shows (a.log p) l)
    (within : prev ≤ length (a.llog (a.term p))) (stand : take (length es) (drop prev (a.llog (a.term p))) ≡ es) (before : term_in (a.llog (a.term p)) prev ≡ prev_term)
    (based : take l.base (a.log p) ≡ take l.base (a.llog (a.term p))) where
  -- both logs have the first entries in common, up to the previous index and the base
  in_common : matches l prev prev_term ≡ true → (prev + (l.base - prev) ≤ length (a.log p)) × (take (prev + (l.base - prev)) (a.log p) ≡ take (prev + (l.base - prev)) (a.llog (a.term p)))
  in_common =
      cond_both (ltb prev l.base) true (has_term l prev prev_term) (λ z. z ≡ true → (prev + (l.base - prev) ≤ length (a.log p)) × (take (prev + (l.base - prev)) (a.log p) ≡ take (prev + (l.base - prev)) (a.llog (a.term p))))
      (λ lt _.
      let below : prev < l.base = ltb-true prev l.base lt in
      let e : l.base ≡ prev + (l.base - prev) = omega arith in
      (omega (arith, s.within), subst (λ z. take z (a.log p) ≡ take z (a.llog (a.term p))) e based))
      (λ nlt has.
      let above : l.base ≤ prev = ltb-false prev l.base nlt in
      let ok : HasTerm (a.log p) l prev prev_term = has_term_is (a.log p) l s prev prev_term has in
      let e : prev ≡ prev + (l.base - prev) = omega arith in
      (omega (arith, ok.within), subst (λ z. take z (a.log p) ≡ take z (a.llog (a.term p))) e (matched prev ok.within within (ok.term ∙ sym before))))
    where
      matched : (k : ℕ) → k ≤ length (a.log p) → k ≤ length (a.llog (a.term p)) → term_in (a.log p) k ≡ term_in (a.llog (a.term p)) k → take k (a.log p) ≡ take k (a.llog (a.term p))
      matched zero lx ll e = refl
      matched (suc k) lx ll e = logs_match a.llog (a.log p) (a.llog (a.term p)) k (h.good_log p) (h.good_llog (a.term p)) lx ll e

  from_place : (place from : ℕ) (news : List Entry) → place ≤ length (a.log p) → take place (a.log p) ≡ take place (a.llog (a.term p)) → take (length news) (drop place (a.llog (a.term p))) ≡ news → l.base + from ≡ place → EditOk a p l (overlay l.entries from news) (place + length news)
  from_place place from news inside common stands at =
      let ll : List Entry = a.llog (a.term p) in
      let gx : Good a.llog (a.log p) = h.good_log p in
      let gl : Good a.llog (a.llog (a.term p)) = h.good_llog (a.term p) in
      let inside' : place ≤ length (a.llog (a.term p)) = same_length place (a.log p) (a.llog (a.term p)) inside common in
      let rest_of : drop from l.entries ≡ drop place (a.log p) = ap (drop from) (sym s.entries) ∙ drop-drop from l.base (a.log p) ∙ ap (λ z. drop z (a.log p)) at in
      let same : same_terms news (drop from l.entries) ≡ same_terms news (drop place (a.log p)) = ap (same_terms news) rest_of in
      let fits : place + length news ≤ length (a.llog (a.term p)) = news_within a.llog (a.log p) (a.llog (a.term p)) place news gx gl inside inside' common stands in
      cond_both (eqb (same_terms news (drop from l.entries)) (length news))
      (record { keep = length l.entries; added = [] })
      (record { keep = from + same_terms news (drop from l.entries); added = drop (same_terms news (drop from l.entries)) news })
      (λ edit. EditOk a p l edit (place + length news))
      (λ all.
      let k : length news ≡ same_terms news (drop place (a.log p)) = sym (eqb-true (same_terms news (drop from l.entries)) (length news) all) ∙ same in
      record {
        whole = a.log p;
        shows = record { within = s.within; entries = s.entries ∙ sym (append-nil (take (length l.entries) l.entries) ∙ take_all (length l.entries) l.entries (omega arith)); base_term = s.base_term };
        stores = record {
          good = gx;
          terms = h.log_terms p;
          within = fits;
          front = agree_to a.llog (a.log p) (a.llog (a.term p)) place news gx gl inside inside' common stands (length news) k;
          kept = λ j _ e. e;
        };
      })
      (λ ne.
      let k : ℕ = same_terms news (drop from l.entries) in
      let less : same_terms news (drop from l.entries) < length news = omega (arith, eqb-false (same_terms news (drop from l.entries)) (length news) ne, same_terms_left news (drop from l.entries)) in
      let len : length (take (place + length news) (a.llog (a.term p))) ≡ place + length news = length-take-le (place + length news) (a.llog (a.term p)) fits in
      record {
        whole = take (place + length news) (a.llog (a.term p));
        shows = record {
          within = omega (arith, len);
          entries = sym (ap (λ z. take (from + same_terms news (drop from l.entries)) z ++ drop (same_terms news (drop from l.entries)) news) (sym s.entries)
              ∙ cut_view a.llog (a.log p) (a.llog (a.term p)) place news gx gl inside inside' common stands l.base from (same_terms news (drop from l.entries)) (length news - same_terms news (drop from l.entries)) at same (omega arith));
          base_term = same_term_in l.base l.base (take (place + length news) (a.llog (a.term p))) (a.log p) (omega arith)
              (take-take l.base (place + length news) (a.llog (a.term p)) (omega arith) ∙ sym based) ∙ s.base_term;
        };
        stores = record {
          good = good_take a.llog (a.llog (a.term p)) (place + length news) fits gl;
          terms = tm_take_le (a.llog (a.term p)) (place + length news) (a.term p) (h.llog_terms (a.term p));
          within = fits;
          front = take-take (place + length news) (place + length news) (a.llog (a.term p)) (omega arith);
          kept = λ j le e.
              let short : j ≤ place + same_terms news (drop from l.entries) = parts a.llog (a.log p) (a.llog (a.term p)) place news gx gl inside inside' common stands (same_terms news (drop from l.entries)) same less j le e in
              take-take j (place + length news) (a.llog (a.term p)) (omega arith);
        };
      })

  pub accept_is : matches l prev prev_term ≡ true → EditOk a p l (accepting l prev es) (accepted_to l prev es)
  accept_is fits =
      let common : (prev + (l.base - prev) ≤ length (a.log p)) × (take (prev + (l.base - prev)) (a.log p) ≡ take (prev + (l.base - prev)) (a.llog (a.term p))) = in_common fits in
      let to : prev + (l.base - prev) + length (drop (l.base - prev) es) ≡ accepted_to l prev es = omega (arith, length-drop (l.base - prev) es) in
      subst (λ z. EditOk a p l (accepting l prev es) z) to
      (from_place (prev + (l.base - prev)) (prev - l.base) (drop (l.base - prev) es) common.0 common.1 (news_stand (a.llog (a.term p)) es prev (l.base - prev) stand) (omega arith))
