-- Items and records: what their texts tell.
use Rattle.std.proofs.Common.{◌≡◌, ℕ, ◌<◌, ◌^◌, Bool, true, List, [], ◌∷◌, ◌++◌, length, refl, ap, sym, ◌∙◌, arith, append_assoc}
use Rattle.std.specs.Prelude.{codes, if◌then◌else◌}
use Rattle.std.specs.Fmt.{decimal}
use Rattle.std.specs.Str.{bytes_eq}
use Rattle.std.proofs.lemmas.List.{append_cancel_right}
use Rattle.rp_base.specs.Keys.{key_text}
use Rattle.rp_base.specs.declared.Lease.{Lease}
use Rattle.rp_request.specs.Fits.{FitsRequest}
use Rattle.rp_request.specs.declared.requests.Request.{Request}
use Rattle.rp_request.specs.declared.requests.Request.TheVariants as requests
use Rattle.rp_request.specs.declared.outcomes.Reply.{Reply}
use Rattle.rp_request.specs.declared.items.Place.{Place}
use Rattle.rp_request.specs.declared.items.Place.TheVariants as places
use Rattle.rp_request.specs.declared.items.Why.{Why}
use Rattle.rp_request.specs.declared.items.Why.TheVariants.{Nothing, OldLease, OldIndex, LeaseMoved}
use Rattle.rp_request.specs.declared.items.Record.{Record}
use Rattle.rp_request.specs.declared.items.Record.TheVariants.{Took, Passed}
use Rattle.rp_report.specs.Words.{newline}
use Rattle.rp_report.specs.Items.{request_text, item_text, why_text, record_line}
use Rattle.rp_report.specs.Widths.{FitsPlace, FitsRecord}
use Rattle.rp_report.specs.InTexts.{reply_in_text, item_in_text, record_in_text}
use Rattle.rp_report.proofs.WordLaws.{IsWord, AreWords, literal_word, spoken, are_some, spoken_append, words_append, same_words, number_word, key_word, number_same, key_same}
use Rattle.rp_report.proofs.RequestWords.{request_words, request_spoken, request_are_words, requests_by_words, first_of}
use Rattle.rp_report.proofs.EndWords.{reply_words, reply_spoken, reply_are_some, reply_are_words, replies_by_words, command_word, attempts_by_words, id_word, wide_attempt}

request_are_some : (q : Request) → are_some (request_words q) ≡ true
request_are_some (requests.Put key value) = refl
request_are_some (requests.Add key by) = refl
request_are_some (requests.CPut key expect value) = refl
request_are_some (requests.Del key) = refl
request_are_some (requests.Wipe span) = refl
request_are_some (requests.Move from to by) = refl
request_are_some (requests.Split key) = refl

-- how many words a request has that begins with this one
abbrev words_behind : List ℕ → ℕ
words_behind w =
    if bytes_eq w (codes "del") then 2
    else (if bytes_eq w (codes "split") then 2
    else (if bytes_eq w (codes "cput") then 4
    else (if bytes_eq w (codes "move") then 4
    else 3)))

request_length : (q : Request) (ws : List (List ℕ)) → length (request_words q) ≡ words_behind (first_of (request_words q ++ ws))
request_length (requests.Put key value) ws = refl
request_length (requests.Add key by) ws = refl
request_length (requests.CPut key expect value) ws = refl
request_length (requests.Del key) ws = refl
request_length (requests.Wipe span) ws = refl
request_length (requests.Move from to by) ws = refl
request_length (requests.Split key) ws = refl

-- fronts of one length
fronts : (us vs ws xs : List (List ℕ)) → length us ≡ length vs → us ++ ws ≡ vs ++ xs → (us ≡ vs) × (ws ≡ xs)
fronts [] [] ws xs len same = (refl, same)
fronts [] (v ∷ vs) ws xs len same = absurd (omega arith)
fronts (u ∷ us) [] ws xs len same = absurd (omega arith)
fronts (u ∷ us) (v ∷ vs) ws xs len same =
    let first : u ≡ v = cc in
    let rest : us ++ ws ≡ vs ++ xs = cc in
    let e = fronts us vs ws xs (omega arith) rest in
    (let f = e.0 in cc, e.1)

requests_in_front : (p q : Request) (ws xs : List (List ℕ)) → FitsRequest p → FitsRequest q → request_words p ++ ws ≡ request_words q ++ xs → (p ≡ q) × (ws ≡ xs)
requests_in_front p q ws xs hp hq same =
    let len : length (request_words p) ≡ length (request_words q) =
    request_length p ws ∙ ap (λ us. words_behind (first_of us)) same ∙ sym (request_length q xs) in
    let parts = fronts (request_words p) (request_words q) ws xs len same in
    (requests_by_words p q hp hq parts.0, parts.1)

-- the words behind a request
abbrev under_words : ℕ → Reply → List (List ℕ)
under_words seq reply = codes "under" ∷ decimal seq ∷ codes "ok" ∷ reply_words reply

abbrev pub item_words : Place → List (List ℕ)
item_words (places.Write id request seq reply) =
    codes "write" ∷ command_word id ∷ decimal id.attempt ∷ (request_words request ++ under_words seq reply)
item_words (places.Split id key right seq) =
    codes "split" ∷ command_word id ∷ decimal id.attempt ∷ key_text key ∷ codes "right" ∷ decimal right ∷ codes "under" ∷ decimal seq ∷ []
item_words (places.Lease lease) = codes "lease" ∷ decimal lease.holder ∷ decimal lease.seq ∷ decimal lease.expires ∷ []

-- pieces in any grouping, with `d` between the numbers of a command and `p` between words
write_grouped : (p d w c n a r u s k t : List ℕ)
    → (w ++ p) ++ (c ++ d ++ n ++ (p ++ a) ++ p ++ r) ++ (p ++ u) ++ (p ++ s) ++ (p ++ k ++ p) ++ t
    ≡ (w ++ (p ++ ((c ++ (d ++ n)) ++ (p ++ a)))) ++ (p ++ (r ++ (p ++ ((u ++ (p ++ (s ++ (p ++ k)))) ++ (p ++ t)))))
write_grouped p d w c n a r u s k t = simp append_assoc

split_grouped : (p d w c n a k r i u s : List ℕ)
    → (w ++ p) ++ (c ++ d ++ n ++ (p ++ a)) ++ (p ++ k) ++ (p ++ r) ++ (p ++ i) ++ (p ++ u) ++ (p ++ s)
    ≡ w ++ (p ++ ((c ++ (d ++ n)) ++ (p ++ (a ++ (p ++ (k ++ (p ++ (r ++ (p ++ (i ++ (p ++ (u ++ (p ++ s)))))))))))))
split_grouped p d w c n a k r i u s = simp append_assoc

lease_grouped : (p w h s e : List ℕ) → (w ++ p) ++ (h ++ (p ++ s) ++ (p ++ e)) ≡ w ++ (p ++ (h ++ (p ++ (s ++ (p ++ e)))))
lease_grouped p w h s e = simp append_assoc

front_some : (vs ws : List (List ℕ)) → are_some vs ≡ true → are_some (vs ++ ws) ≡ true
front_some [] ws h = absurd (cc)
front_some (v ∷ vs) ws h = refl

-- words behind words behind words
spoken_three : (us vs ws xs : List (List ℕ)) → are_some us ≡ true → are_some vs ≡ true → are_some ws ≡ true → are_some xs ≡ true
    → spoken (us ++ (vs ++ (ws ++ xs))) ≡ spoken us ++ 32 ∷ (spoken vs ++ 32 ∷ (spoken ws ++ 32 ∷ spoken xs))
spoken_three us vs ws xs hu hv hw hx =
    spoken_append us (vs ++ (ws ++ xs)) hu (front_some vs (ws ++ xs) hv)
    ∙ ap (λ t. spoken us ++ 32 ∷ t) (spoken_append vs (ws ++ xs) hv (front_some ws xs hw) ∙ ap (λ t. spoken vs ++ 32 ∷ t) (spoken_append ws xs hw hx))

write_spoken : (w c n a u s k r t : List ℕ) (vs xs : List (List ℕ)) → are_some vs ≡ true → are_some xs ≡ true → r ≡ spoken vs → t ≡ spoken xs
    → (w ++ codes " ") ++ (c ++ codes "." ++ n ++ (codes " " ++ a) ++ codes " " ++ r) ++ (codes " " ++ u) ++ (codes " " ++ s) ++ (codes " " ++ k ++ codes " ") ++ t
    ≡ spoken ((w ∷ (c ++ 46 ∷ n) ∷ a ∷ []) ++ (vs ++ ((u ∷ s ∷ k ∷ []) ++ xs)))
write_spoken w c n a u s k r t vs xs hv hx e f =
    write_grouped (codes " ") (codes ".") w c n a r u s k t
    ∙ ap (λ x. (w ++ 32 ∷ ((c ++ 46 ∷ n) ++ 32 ∷ a)) ++ 32 ∷ (x ++ 32 ∷ ((u ++ 32 ∷ (s ++ 32 ∷ k)) ++ 32 ∷ t))) e
    ∙ ap (λ x. (w ++ 32 ∷ ((c ++ 46 ∷ n) ++ 32 ∷ a)) ++ 32 ∷ (spoken vs ++ 32 ∷ ((u ++ 32 ∷ (s ++ 32 ∷ k)) ++ 32 ∷ x))) f
    ∙ sym (spoken_three (w ∷ (c ++ 46 ∷ n) ∷ a ∷ []) vs (u ∷ s ∷ k ∷ []) xs refl hv refl hx)

pub item_spoken : (i : Place) → item_text i ≡ spoken (item_words i)
item_spoken (places.Write id request seq reply) =
    write_spoken (codes "write") (decimal id.client) (decimal id.seq) (decimal id.attempt) (codes "under") (decimal seq) (codes "ok")
    (request_text request) _ (request_words request) (reply_words reply) (request_are_some request) (reply_are_some reply) (request_spoken request) (reply_spoken reply)
item_spoken (places.Split id key right seq) =
    split_grouped (codes " ") (codes ".") (codes "split") (decimal id.client) (decimal id.seq) (decimal id.attempt) (key_text key) (codes "right") (decimal right) (codes "under") (decimal seq)
item_spoken (places.Lease lease) = lease_grouped (codes " ") (codes "lease") (decimal lease.holder) (decimal lease.seq) (decimal lease.expires)

pub item_are_some : (i : Place) → are_some (item_words i) ≡ true
item_are_some (places.Write id request seq reply) = refl
item_are_some (places.Split id key right seq) = refl
item_are_some (places.Lease lease) = refl

pub item_are_words : (i : Place) → FitsPlace i → AreWords (item_words i)
item_are_words (places.Write id request seq reply) h = (
  literal_word (codes "write") refl,
  (
    id_word id h.0,
    (
      number_word id.attempt (wide_attempt id h.0),
      words_append (request_words request) (under_words seq reply) (request_are_words request h.1)
          (literal_word (codes "under") refl, (number_word seq h.2, (literal_word (codes "ok") refl, reply_are_words reply h.3))),
    ),
  ),
)
item_are_words (places.Split id key right seq) h = (
  literal_word (codes "split") refl,
  (
    id_word id h.0,
    (
      number_word id.attempt (wide_attempt id h.0),
      (
        key_word key h.1,
        (literal_word (codes "right") refl, (number_word right h.2, (literal_word (codes "under") refl, (number_word seq h.3, tt)))),
      ),
    ),
  ),
)
item_are_words (places.Lease lease) h =
    (literal_word (codes "lease") refl, (number_word lease.holder h.0, (number_word lease.seq h.1, (number_word lease.expires h.2, tt))))

-- which item it is
abbrev item_kind : Place → ℕ
item_kind (places.Write id request seq reply) = 1
item_kind (places.Split id key right seq) = 2
item_kind (places.Lease lease) = 3

-- its first word says so
abbrev kind_of_word : List ℕ → ℕ
kind_of_word w = if bytes_eq w (codes "write") then 1 else (if bytes_eq w (codes "split") then 2 else 3)

item_kind_known : (i : Place) → kind_of_word (first_of (item_words i)) ≡ item_kind i
item_kind_known (places.Write id request seq reply) = refl
item_kind_known (places.Split id key right seq) = refl
item_kind_known (places.Lease lease) = refl

leases_by_fields : (a b : Lease) → a.holder ≡ b.holder → a.seq ≡ b.seq → a.expires ≡ b.expires → a ≡ b
leases_by_fields a b holder seq expires =
    let made = λ (x : ℕ) (y : ℕ) (z : ℕ). let l : Lease = record { holder = x; seq = y; expires = z } in l in
    ap (λ (x : ℕ). made x a.seq a.expires) holder ∙ ap (λ (y : ℕ). made b.holder y a.expires) seq ∙ ap (λ (z : ℕ). made b.holder b.seq z) expires

items_alike : (i j : Place) → FitsPlace i → FitsPlace j → item_kind i ≡ item_kind j → item_words i ≡ item_words j → item_in_text i ≡ item_in_text j
items_alike (places.Write a p s r) (places.Write b q t u) hi hj kind same =
    let id : a ≡ b = attempts_by_words a b hi.0 hj.0 (cc) (cc) in
    let rest : request_words p ++ under_words s r ≡ request_words q ++ under_words t u = cc in
    let parts = requests_in_front p q (under_words s r) (under_words t u) hi.1 hj.1 rest in
    let request : p ≡ q = parts.0 in
    let behind : under_words s r ≡ under_words t u = parts.1 in
    let seq : s ≡ t = number_same s t hi.2 hj.2 (cc) in
    let reply : reply_in_text r ≡ reply_in_text u = replies_by_words r u hi.3 hj.3 (cc) in
    cc
items_alike (places.Split a k r s) (places.Split b l u t) hi hj kind same =
    let id : a ≡ b = attempts_by_words a b hi.0 hj.0 (cc) (cc) in
    let key : k ≡ l = key_same k l hi.1 hj.1 (cc) in
    let right : r ≡ u = number_same r u hi.2 hj.2 (cc) in
    let seq : s ≡ t = number_same s t hi.3 hj.3 (cc) in
    cc
items_alike (places.Lease a) (places.Lease b) hi hj kind same =
    ap places.Lease
    (leases_by_fields a b (number_same a.holder b.holder hi.0 hj.0 (cc)) (number_same a.seq b.seq hi.1 hj.1 (cc)) (number_same a.expires b.expires hi.2 hj.2 (cc)))
items_alike i j hi hj kind same = absurd (omega arith)

pub items_by_words : (i j : Place) → FitsPlace i → FitsPlace j → item_words i ≡ item_words j → item_in_text i ≡ item_in_text j
items_by_words i j hi hj same = items_alike i j hi hj (sym (item_kind_known i) ∙ ap (λ ws. kind_of_word (first_of ws)) same ∙ item_kind_known j) same

-- items with one text are told alike
pub one_item : (i j : Place) → FitsPlace i → FitsPlace j → item_text i ≡ item_text j → item_in_text i ≡ item_in_text j
one_item i j hi hj same =
    items_by_words i j hi hj (same_words (item_words i) (item_words j) (item_are_words i hi) (item_are_words j hj) (sym (item_spoken i) ∙ same ∙ item_spoken j))

abbrev pub record_words : ℕ → Record → List (List ℕ)
record_words index (Took item) = codes "place" ∷ decimal index ∷ item_words item
record_words index (Passed why) = codes "pass" ∷ decimal index ∷ why_text why ∷ []

record_grouped : (p w n i e : List ℕ) → w ++ (p ++ n) ++ p ++ i ++ e ≡ (w ++ (p ++ (n ++ (p ++ i)))) ++ e
record_grouped p w n i e = simp append_assoc

-- the line of a record is its words
pub record_spoken : (index : ℕ) (r : Record) → record_line index r ≡ spoken (record_words index r) ++ newline
record_spoken index (Took item) =
    record_grouped (codes " ") (codes "place") (decimal index) (item_text item) newline
    ∙ ap (λ t. (codes "place" ++ 32 ∷ (decimal index ++ 32 ∷ t)) ++ newline) (item_spoken item)
    ∙ ap (λ t. t ++ newline) (sym (spoken_append (codes "place" ∷ decimal index ∷ []) (item_words item) refl (item_are_some item)
    ∙ append_assoc (codes "place") (32 ∷ decimal index) (32 ∷ spoken (item_words item))))
record_spoken index (Passed why) = record_grouped (codes " ") (codes "pass") (decimal index) (why_text why) newline

why_word : (why : Why) → IsWord (why_text why)
why_word Nothing = literal_word (codes "nothing") refl
why_word OldLease = literal_word (codes "old-lease") refl
why_word OldIndex = literal_word (codes "old-index") refl
why_word LeaseMoved = literal_word (codes "lease-moved") refl

pub record_are_words : (index : ℕ) (r : Record) → index < 2 ^ 64 → FitsRecord r → AreWords (record_words index r)
record_are_words index (Took item) fits h = (literal_word (codes "place") refl, (number_word index fits, item_are_words item h))
record_are_words index (Passed why) fits h = (literal_word (codes "pass") refl, (number_word index fits, (why_word why, tt)))

-- why an entry was passed over, by its word
abbrev why_of : List ℕ → Why
why_of w = if bytes_eq w (codes "nothing") then Nothing
    else (if bytes_eq w (codes "old-lease") then OldLease
    else (if bytes_eq w (codes "old-index") then OldIndex
    else LeaseMoved))

why_read : (why : Why) → why_of (why_text why) ≡ why
why_read Nothing = refl
why_read OldLease = refl
why_read OldIndex = refl
why_read LeaseMoved = refl

abbrev is_place_word : List ℕ → Bool
is_place_word w = bytes_eq w (codes "place")

records_by_words : (m n : ℕ) (r s : Record) → m < 2 ^ 64 → n < 2 ^ 64 → FitsRecord r → FitsRecord s → record_words m r ≡ record_words n s
    → (m ≡ n) × (record_in_text r ≡ record_in_text s)
records_by_words m n (Took i) (Took j) hm hn hr hs same =
    let words : item_words i ≡ item_words j = cc in
    (number_same m n hm hn (cc), ap Took (items_by_words i j hr hs words))
records_by_words m n (Took i) (Passed why) hm hn hr hs same = absurd (let e = ap (λ ws. is_place_word (first_of ws)) same in cc)
records_by_words m n (Passed why) (Took i) hm hn hr hs same = absurd (let e = ap (λ ws. is_place_word (first_of ws)) same in cc)
records_by_words m n (Passed v) (Passed w) hm hn hr hs same =
    let words : why_text v ≡ why_text w = cc in
    (number_same m n hm hn (cc), ap Passed (sym (why_read v) ∙ ap why_of words ∙ why_read w))

-- records with one line are told alike, and stand at one index
pub one_record : (m n : ℕ) (r s : Record) → m < 2 ^ 64 → n < 2 ^ 64 → FitsRecord r → FitsRecord s → record_line m r ≡ record_line n s
    → (m ≡ n) × (record_in_text r ≡ record_in_text s)
one_record m n r s hm hn hr hs same =
    records_by_words m n r s hm hn hr hs
    (same_words (record_words m r) (record_words n s) (record_are_words m r hm hr) (record_are_words n s hn hs)
    (append_cancel_right (spoken (record_words m r)) (spoken (record_words n s)) newline (sym (record_spoken m r) ∙ same ∙ record_spoken n s)))
