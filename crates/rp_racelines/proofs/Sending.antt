-- What each client sends, line by line.
use Rattle.std.proofs.Common.{◌≡◌, ℕ, zero, suc, ◌+◌, ◌-◌, ◌<◌, ◌≤◌, Bool, true, false, cond, ⊎_elim, max, Option, None, Some, List, [], ◌∷◌, ◌++◌, length, map, replicate, get_or, set, take, refl, sym, ap, ◌∙◌, arith, append-nil}
use Rattle.std.specs.Prelude.{filter_map, fold, option_to_list, ◌==◌}
use Rattle.std.proofs.lemmas.Bool.{cases_eq, cases_lt, eq-eqb, eqb-true}
use Rattle.std.proofs.lemmas.List.{ext_get_or, length-map, length_push, map-append, take_more, length-replicate, length-set, get_or-replicate, get_or_append_left, get_or-append_right, get_or-set_same, get_or-set_other}
use Rattle.std.proofs.lemmas.List.Elements.{filter_map-append}
use Rattle.rp_raftstep.specs.RaftState.{nodes_to}
use Rattle.rp_request.specs.declared.requests.Request.{Request}
use Rattle.rp_script.specs.declared.lines.NumberedLine.{NumberedLine}
use Rattle.rp_script.specs.declared.lines.ScriptLine.{ScriptLine}
use Rattle.rp_script.specs.declared.lines.ScriptLine.TheVariants as lines
use Rattle.rp_race.specs.declared.rules.ClientRequests.{ClientRequests}
use Rattle.rp_race.specs.declared.rules.Handover.{Handover}
use Rattle.rp_racelines.specs.Rules.{client_in, clients_in, handover_in, request_in, sent_after, sent_by, with_request}

-- the first lines, with one more
one_more : (ls : List NumberedLine) (i : ℕ) (l : NumberedLine) → i < length ls → l ≡ get_or ls i l → take (i + 1) ls ≡ take i ls ++ l ∷ []
one_more ls i l lt is = take_more ls i l lt ∙ ap (λ k. take i ls ++ k ∷ []) (sym is)

-- as many numbers as that, and the one at each place
pub length_to : (n : ℕ) → length (nodes_to n) ≡ n
length_to zero = refl
length_to (suc n) = let l = length_push (nodes_to n) (suc n) in let more = length_to n in omega (arith, l, more)

pub get_to : {X : Type 0} (f : ℕ → X) (n i : ℕ) (d : X) → i < n → get_or (map f (nodes_to n)) i d ≡ f (suc i)
get_to f zero i d h = absurd (omega (arith, h))
get_to f (suc n) i d h =
    let l : length (map f (nodes_to n)) ≡ n = length-map (nodes_to n) f ∙ length_to n in
    ap (λ xs. get_or xs i d) (map-append f (nodes_to n) (suc n ∷ [])) ∙ ⊎_elim
    (λ (lt : i < n). get_or_append_left (map f (nodes_to n)) (f (suc n) ∷ []) d i (omega (arith, lt, l)) ∙ get_to f n i d lt)
    (λ (ge : n ≤ i).
    let same : n ≡ i = omega (arith, h, ge) in
    get_or-append_right (map f (nodes_to n)) (f (suc n) ∷ []) n i d l ge
    ∙ ap (λ k. get_or (f (suc n) ∷ []) k d) (let z : i - n ≡ 0 = omega (arith, same) in z) ∙ ap (λ k. f (suc k)) same)
    (cases_lt i n)

-- functions that give the same from 1 on give one list
pub same_to : {X : Type 0} (f g : ℕ → X) (n : ℕ) → ((i : ℕ) → f (suc i) ≡ g (suc i)) → map f (nodes_to n) ≡ map g (nodes_to n)
same_to f g zero same = refl
same_to f g (suc n) same =
    map-append f (nodes_to n) (suc n ∷ []) ∙ ap (λ xs. xs ++ f (suc n) ∷ []) (same_to f g n same)
    ∙ ap (λ x. map g (nodes_to n) ++ x ∷ []) (same n) ∙ sym (map-append g (nodes_to n) (suc n ∷ []))

-- a line more
pub sent_push : (client : ℕ) (ls : List NumberedLine) (l : NumberedLine) (o : Option Request) → request_in client l.line ≡ o
    → sent_by client (ls ++ l ∷ []) ≡ record { requests = (sent_by client ls).requests ++ option_to_list o }
sent_push client ls l o is =
    let test : NumberedLine → Option Request = λ k. request_in client k.line in
    ap (λ (rs : List Request). let sent : ClientRequests = record { requests = rs } in sent)
    (filter_map-append test ls (l ∷ []) ∙ ap (λ xs. filter_map test ls ++ xs) (one o is))
  where
    one : (o : Option Request) → request_in client l.line ≡ o → filter_map (λ (k : NumberedLine). request_in client k.line) (l ∷ []) ≡ option_to_list o
    one None is = ap (λ (o : Option Request). filter_map (λ (k : Option Request). k) (o ∷ [])) is
    one (Some r) is = ap (λ (o : Option Request). filter_map (λ (k : Option Request). k) (o ∷ [])) is

none_more : (client : ℕ) (ls : List NumberedLine) (l : NumberedLine) → request_in client l.line ≡ None → sent_by client (ls ++ l ∷ []) ≡ sent_by client ls
none_more client ls l is =
    sent_push client ls l None is
    ∙ ap (λ (rs : List Request). let sent : ClientRequests = record { requests = rs } in sent) (append-nil (sent_by client ls).requests)

by_number : (sender client : ℕ) (request : Request) (b : Bool) → (sender == client) ≡ b → cond (sender == client) (Some request) None ≡ cond {A = Option Request} b (Some request) None
by_number sender client request b is = ap (λ v. cond {A = Option Request} v (Some request) None) is

other_number : (a b : ℕ) → (a ≡ b → ⊥) → (a == b) ≡ false
other_number a b ne = go (a == b) refl where
  go : (v : Bool) → (a == b) ≡ v → v ≡ false
  go true is = absurd (ne (eqb-true a b is))
  go false is = refl

same_number : (a : ℕ) → (a == a) ≡ true
same_number a = eq-eqb a a refl

abbrev nothing : ClientRequests
nothing = record { requests = [] }

abbrev SendsMore : (ls : List NumberedLine) (l : NumberedLine) (n : ℕ) → Type 0
SendsMore ls l n = map (λ client. sent_by client (ls ++ l ∷ [])) (nodes_to n) ≡ sent_after l.line (map (λ client. sent_by client ls) (nodes_to n))

still : (ls : List NumberedLine) (l : NumberedLine) (n : ℕ) → ((client : ℕ) → request_in client l.line ≡ None)
    → map (λ client. sent_by client (ls ++ l ∷ [])) (nodes_to n) ≡ map (λ client. sent_by client ls) (nodes_to n)
still ls l n none = same_to (λ client. sent_by client (ls ++ l ∷ [])) (λ client. sent_by client ls) n (λ i. none_more (suc i) ls l (none (suc i)))

sends : (ls : List NumberedLine) (number node range client : ℕ) (request : Request) (n : ℕ) → client ≤ n
    → SendsMore ls (record { number = number; line = lines.Send node range client request }) n
sends ls number node range zero request n h =
    let l : NumberedLine = record { number = number; line = lines.Send node range 0 request } in
    same_to (λ client. sent_by client (ls ++ l ∷ [])) (λ client. sent_by client ls) n
    (λ i. none_more (suc i) ls l (by_number 0 (suc i) request false (other_number 0 (suc i) (λ e. omega (arith, e)))))
sends ls number node range (suc place) request n h =
    let l : NumberedLine = record { number = number; line = lines.Send node range (suc place) request } in
    let f : ℕ → ClientRequests = λ client. sent_by client ls in
    let g : ℕ → ClientRequests = λ client. sent_by client (ls ++ l ∷ []) in
    let xs : List ClientRequests = map f (nodes_to n) in
    let len : length xs ≡ n = length-map (nodes_to n) f ∙ length_to n in
    let long : length (map g (nodes_to n)) ≡ n = length-map (nodes_to n) g ∙ length_to n in
    let there : get_or xs place nothing ≡ f (suc place) = get_to f n place nothing (omega (arith, h)) in
    let new : ClientRequests = with_request request (get_or xs place nothing) in
    ext_get_or nothing (map g (nodes_to n)) (set xs place new) (long ∙ sym (length-set xs place new ∙ len))
    (λ i within. ⊎_elim
    (λ (same : i ≡ place).
    get_to g n i nothing (omega (arith, within, long))
    ∙ ap (λ k. g (suc k)) same
    ∙ sent_push (suc place) ls l (Some request) (by_number (suc place) (suc place) request true (same_number (suc place)))
    ∙ ap (λ (s : ClientRequests). with_request request s) (sym there)
    ∙ sym (get_or-set_same xs place new nothing (omega (arith, h, len)))
    ∙ ap (λ k. get_or (set xs place new) k nothing) (sym same))
    (λ (ne : i ≡ place → ⊥).
    get_to g n i nothing (omega (arith, within, long))
    ∙ none_more (suc i) ls l (by_number (suc place) (suc i) request false (other_number (suc place) (suc i) (λ e. ne (omega (arith, e)))))
    ∙ sym (get_to f n i nothing (omega (arith, within, long)))
    ∙ sym (get_or-set_other xs place i new nothing ne))
    (cases_eq i place))

sends_at : (ls : List NumberedLine) (number : ℕ) (line : ScriptLine) (n : ℕ) → client_in line ≤ n → SendsMore ls (record { number = number; line = line }) n
sends_at ls number (lines.Send node range client request) n h = sends ls number node range client request n h
sends_at ls number line n h = still ls (record { number = number; line = line }) n (λ c. refl)

pub sends_more : (ls : List NumberedLine) (l : NumberedLine) (n : ℕ) → client_in l.line ≤ n → SendsMore ls l n
sends_more ls l n h = sends_at ls l.number l.line n h

-- the step of a loop
pub takes_line : (ls : List NumberedLine) (i : ℕ) (l : NumberedLine) (sent new : List ClientRequests) → i < length ls → l ≡ get_or ls i l
    → client_in l.line ≤ clients_in ls → sent ≡ map (λ client. sent_by client (take i ls)) (nodes_to (clients_in ls)) → new ≡ sent_after l.line sent
    → new ≡ map (λ client. sent_by client (take (i + 1) ls)) (nodes_to (clients_in ls))
takes_line ls i l sent new lt is most before after =
    after ∙ ap (sent_after l.line) before ∙ sym (sends_more (take i ls) l (clients_in ls) most)
    ∙ ap (λ k. map (λ client. sent_by client k) (nodes_to (clients_in ls))) (sym (one_more ls i l lt is))

-- the greatest is no less than any
most_of : (f : NumberedLine → ℕ) (start : ℕ) (ls : List NumberedLine) → start ≤ fold (λ (m : ℕ) (l : NumberedLine). max m (f l)) start ls
most_of f start [] = omega arith
most_of f start (l ∷ ls) = let more = most_of f (max start (f l)) ls in omega (arith, more)

most_at : (f : NumberedLine → ℕ) (start : ℕ) (ls : List NumberedLine) (i : ℕ) (d : NumberedLine) → i < length ls → f (get_or ls i d) ≤ fold (λ (m : ℕ) (l : NumberedLine). max m (f l)) start ls
most_at f start [] i d lt = absurd (omega (arith, lt))
most_at f start (l ∷ ls) zero d lt = let more = most_of f (max start (f l)) ls in omega (arith, more)
most_at f start (l ∷ ls) (suc i) d lt = most_at f (max start (f l)) ls i d (omega (arith, lt))

pub is_within : (ls : List NumberedLine) (i : ℕ) (l : NumberedLine) → i < length ls → l ≡ get_or ls i l → client_in l.line ≤ clients_in ls
is_within ls i l lt is =
    let most = most_at (λ k. client_in k.line) 0 ls i l lt in
    let same : client_in l.line ≡ client_in (get_or ls i l).line = ap (λ (k : NumberedLine). client_in k.line) is in
    omega (arith, most, same)

pub sent_length : (n : ℕ) (ls : List NumberedLine) → length (map (λ client. sent_by client ls) (nodes_to n)) ≡ n
sent_length n ls = length-map (nodes_to n) (λ client. sent_by client ls) ∙ length_to n

-- before any line
pub none_sent : (n : ℕ) → replicate n nothing ≡ map (λ client. sent_by client []) (nodes_to n)
none_sent n = ext_get_or nothing (replicate n nothing) (map (λ client. sent_by client []) (nodes_to n))
    (length-replicate n nothing ∙ sym (sent_length n []))
    (λ i within.
    let len = length-replicate n nothing in
    get_or-replicate n i nothing nothing (omega (arith, within, len)) ∙ sym (get_to (λ client. sent_by client []) n i nothing (omega (arith, within, len))))

-- the handovers with a line more
pub hands_more : (ls : List NumberedLine) (i : ℕ) (l : NumberedLine) (hs new : List Handover) (next : Option Handover) → i < length ls → l ≡ get_or ls i l
    → hs ≡ filter_map (λ k. handover_in k.line) (take i ls) → next ≡ handover_in l.line → new ≡ hs ++ option_to_list next
    → new ≡ filter_map (λ k. handover_in k.line) (take (i + 1) ls)
hands_more ls i l hs new next lt is before found after =
    let test : NumberedLine → Option Handover = λ k. handover_in k.line in
    after ∙ ap (λ xs. xs ++ option_to_list next) before
    ∙ ap (λ o. filter_map test (take i ls) ++ option_to_list o) found
    ∙ ap (λ xs. filter_map test (take i ls) ++ xs) (one (handover_in l.line) refl)
    ∙ sym (filter_map-append test (take i ls) (l ∷ []))
    ∙ ap (filter_map test) (sym (one_more ls i l lt is))
  where
    one : (o : Option Handover) → handover_in l.line ≡ o → option_to_list (handover_in l.line) ≡ filter_map (λ (k : NumberedLine). handover_in k.line) (l ∷ [])
    one o is = by o is where
      by : (o : Option Handover) → handover_in l.line ≡ o → option_to_list (handover_in l.line) ≡ filter_map (λ (k : Option Handover). k) (handover_in l.line ∷ [])
      by None is = ap option_to_list is ∙ sym (ap (λ (o : Option Handover). filter_map (λ (k : Option Handover). k) (o ∷ [])) is)
      by (Some h) is = ap option_to_list is ∙ sym (ap (λ (o : Option Handover). filter_map (λ (k : Option Handover). k) (o ∷ [])) is)
