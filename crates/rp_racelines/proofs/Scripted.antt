-- What the lines of a script keep to, its rules keep to.
use Rattle.std.proofs.Common.{◌≡◌, ℕ, zero, suc, ◌+◌, ◌<◌, ◌≤◌, Bool, true, false, cond, max, ⊎_elim, Option, None, Some, List, [], ◌∷◌, length, map, refl, ap, subst, ◌∙◌, arith}
use Rattle.std.specs.Prelude.{filter_map, fold, nat_lt, option_to_list, sum_by, All, ◌==◌, if◌then◌else◌}
use Rattle.std.specs.List.{cons_option, AllByRecursion}
use Rattle.std.proofs.lemmas.Bool.{cases_lt, eqb-true, le-ltb, lt-ltb}
use Rattle.std.proofs.lemmas.List.{map-append}
use Rattle.std.proofs.lemmas.List.Elements.{All-from_recursion}
use Rattle.std.proofs.lemmas.List.Sums.{sum_by-append}
use Rattle.rp_raftstep.specs.RaftState.{nodes_to}
use Rattle.rp_request.specs.Fits.{FitsRequest}
use Rattle.rp_request.specs.declared.requests.Request.{Request}
use Rattle.rp_script.specs.Bounds.{AllFollow, FollowsIn, IsFirst, IsScript}
use Rattle.rp_script.specs.Seen.{Seen, after, unseen}
use Rattle.rp_script.specs.declared.lines.NumberedLine.{NumberedLine}
use Rattle.rp_script.specs.declared.lines.ScriptLine.{ScriptLine}
use Rattle.rp_script.specs.declared.lines.ScriptLine.TheVariants as lines
use Rattle.rp_race.specs.declared.rules.ClientRequests.{ClientRequests}
use Rattle.rp_racelines.specs.Rules.{client_in, clients_in, handover_in, nodes_by, nodes_in, request_in, requests_in, rules_of, sent_by, AreOfWorld, IsOfWorld}
use Rattle.rp_racelines.specs.Verdicts.{command_count}
use Rattle.rp_racelines.proofs.Sending.{sent_length}

-- what a line keeps to as far as a race's rules read it
abbrev LineFits : (nodes : ℕ) → ScriptLine → Type 0
LineFits nodes (lines.Send node range client request) = (client ≤ 64) × FitsRequest request
LineFits nodes (lines.Transfer node range to) = IsOfWorld nodes (record { node = node; range = range; to = to })
LineFits nodes line = Unit {0}

abbrev AllFit : (nodes : ℕ) → List NumberedLine → Type 0
AllFit nodes ls = AllByRecursion (λ (l : NumberedLine). LineFits nodes l.line) ls

-- a later line
record LineGoes (count : ℕ) (s : Seen) (line : ScriptLine) : Type 0 where
  fits : LineFits count line
  nodes : (after s (Some line)).nodes ≡ Some count

goes : (n : ℕ) (s : Seen) (line : ScriptLine) → FollowsIn (Some n) s.ended s.commands line → s.nodes ≡ Some n → LineGoes n s line
goes n s (lines.Cluster nodes) h is = absurd h.1
goes n s (lines.Send node range client request) h is = record { fits = (h.1.2.1, h.1.3); nodes = is }
goes n s (lines.Transfer node range to) h is = record { fits = record { node = h.1.0; range = h.1.1; to = h.1.2 }; nodes = is }
goes n s line h is = record { fits = tt; nodes = is }

all_go : (n : ℕ) (ls : List NumberedLine) (s : Seen) → s.nodes ≡ Some n → AllFollow s ls → AllFit n ls
all_go n [] s is h = tt
all_go n (l ∷ ls) s is h =
    let first = goes n s l.line (subst (λ o. FollowsIn o s.ended s.commands l.line) is h.0) is in
    (first.fits, all_go n ls (after s (Some l.line)) first.nodes h.1)

all_fit : (ls : List NumberedLine) → IsScript ls → AllFit (nodes_in ls) ls
all_fit [] script = tt
all_fit (l ∷ ls) script = by l.line script.follow.0 script.follow.1 where
  by : (line : ScriptLine) → IsFirst line → AllFollow (after (unseen false) (Some line)) ls → LineFits (nodes_by line) line × AllFit (nodes_by line) ls
  by (lines.Cluster nodes) first more = (tt, all_go nodes ls (after (unseen false) (Some (lines.Cluster nodes))) refl more)
  by line first more = absurd first

-- what a client sends
requests_fit : (n client : ℕ) (ls : List NumberedLine) → AllFit n ls → AllByRecursion FitsRequest (sent_by client ls).requests
requests_fit n client [] h = tt
requests_fit n client (l ∷ ls) h = by l.line h.0 (requests_fit n client ls h.1) where
  one : (b : Bool) (request : Request) → FitsRequest request → AllByRecursion FitsRequest (sent_by client ls).requests
      → AllByRecursion FitsRequest (cons_option (if b then Some request else None) (sent_by client ls).requests)
  one true request fits more = (fits, more)
  one false request fits more = more

  by : (line : ScriptLine) → LineFits n line → AllByRecursion FitsRequest (sent_by client ls).requests
      → AllByRecursion FitsRequest (cons_option (request_in client line) (sent_by client ls).requests)
  by (lines.Send node range sender request) fits more = one (sender == client) request fits.1 more
  by line fits more = more

all_to : {X : Type 0} (P : X → Type 0) (f : ℕ → X) → ((k : ℕ) → P (f k)) → (xs : List ℕ) → AllByRecursion P (map f xs)
all_to P f holds [] = tt
all_to P f holds (x ∷ xs) = (holds x, all_to P f holds xs)

hands_fit : (n : ℕ) (ls : List NumberedLine) → AllFit n ls → AllByRecursion (IsOfWorld n) (filter_map (λ (l : NumberedLine). handover_in l.line) ls)
hands_fit n [] h = tt
hands_fit n (l ∷ ls) h = by l.line h.0 (hands_fit n ls h.1) where
  by : (line : ScriptLine) → LineFits n line → AllByRecursion (IsOfWorld n) (filter_map (λ (l : NumberedLine). handover_in l.line) ls)
      → AllByRecursion (IsOfWorld n) (cons_option (handover_in line) (filter_map (λ (l : NumberedLine). handover_in l.line) ls))
  by (lines.Transfer node range to) fits more = (fits, more)
  by line fits more = more

pub of_world : (loss salt : ℕ) (ls : List NumberedLine) → IsScript ls → AreOfWorld (nodes_in ls) (rules_of loss salt ls)
of_world loss salt ls script =
    let fit = all_fit ls script in
    record {
      requests = All-from_recursion (λ (sent : ClientRequests). All FitsRequest sent.requests) (requests_in ls)
          (all_to (λ (sent : ClientRequests). All FitsRequest sent.requests) (λ client. sent_by client ls)
          (λ client. All-from_recursion FitsRequest (sent_by client ls).requests (requests_fit (nodes_in ls) client ls fit)) (nodes_to (clients_in ls)));
      transfers = All-from_recursion (IsOfWorld (nodes_in ls)) (rules_of loss salt ls).transfers (hands_fit (nodes_in ls) ls fit);
    }

-- clients are 1 to 64
client_most : (n : ℕ) (line : ScriptLine) → LineFits n line → client_in line ≤ 64
client_most n (lines.Send node range client request) fits = fits.0
client_most n line fits = omega arith

clients_most : (n : ℕ) (ls : List NumberedLine) (most : ℕ) → most ≤ 64 → AllFit n ls → fold (λ (m : ℕ) (l : NumberedLine). max m (client_in l.line)) most ls ≤ 64
clients_most n [] most h fit = h
clients_most n (l ∷ ls) most h fit =
    let c = client_most n l.line fit.0 in clients_most n ls (max most (client_in l.line)) (omega (arith, h, c)) fit.1

pub few_clients : (ls : List NumberedLine) → IsScript ls → length (requests_in ls) ≤ 64
few_clients ls script =
    let most = clients_most (nodes_in ls) ls 0 (omega arith) (all_fit ls script) in
    let len = sent_length (clients_in ls) ls in
    omega (arith, most, len)

-- how many lines send for a client above this
above : (n : ℕ) → List NumberedLine → ℕ
above n [] = 0
above n (l ∷ ls) = cond (nat_lt n (client_in l.line)) 1 0 + above n ls

above_most : (n : ℕ) (ls : List NumberedLine) → above n ls ≤ length ls
unfolding above
above_most n [] = omega arith
above_most n (l ∷ ls) = by (nat_lt n (client_in l.line)) (above_most n ls) where
  by : (b : Bool) → above n ls ≤ length ls → cond b 1 0 + above n ls ≤ length (l ∷ ls)
  by true more = omega (arith, more)
  by false more = omega (arith, more)

-- a line that sends for a client counts once
counts_once : (n : ℕ) (line : ScriptLine) → cond (nat_lt (suc n) (client_in line)) 1 0 + length (option_to_list (request_in (suc n) line)) ≤ cond (nat_lt n (client_in line)) 1 0
counts_once n (lines.Send node range client request) = by (client == suc n) refl where
  by : (b : Bool) → (client == suc n) ≡ b
      → cond (nat_lt (suc n) client) 1 0 + length (option_to_list (if b then Some request else None)) ≤ cond (nat_lt n client) 1 0
  by true is =
      let same = eqb-true client (suc n) is in
      let above_not : ◌≡◌ {A = ℕ} (cond (nat_lt (suc n) client) 1 0) 0 = ap (λ b. cond {A = ℕ} b 1 0) (le-ltb (suc n) client (omega (arith, same))) in
      let is_above : ◌≡◌ {A = ℕ} (cond (nat_lt n client) 1 0) 1 = ap (λ b. cond {A = ℕ} b 1 0) (lt-ltb n client (omega (arith, same))) in
      omega (arith, above_not, is_above)
  by false is = ⊎_elim
      (λ (lt : suc n < client).
      let a : ◌≡◌ {A = ℕ} (cond (nat_lt (suc n) client) 1 0) 1 = ap (λ b. cond {A = ℕ} b 1 0) (lt-ltb (suc n) client lt) in
      let b : ◌≡◌ {A = ℕ} (cond (nat_lt n client) 1 0) 1 = ap (λ b. cond {A = ℕ} b 1 0) (lt-ltb n client (omega (arith, lt))) in
      omega (arith, a, b))
      (λ (le : client ≤ suc n).
      let a : ◌≡◌ {A = ℕ} (cond (nat_lt (suc n) client) 1 0) 0 = ap (λ b. cond {A = ℕ} b 1 0) (le-ltb (suc n) client le) in
      omega (arith, a))
      (cases_lt (suc n) client)
counts_once n line = let none : ◌≡◌ {A = ℕ} (cond (nat_lt (suc n) 0) 1 0) 0 = ap (λ b. cond {A = ℕ} b 1 0) (le-ltb (suc n) 0 (omega arith)) in omega (arith, none)

above_step : (n : ℕ) (ls : List NumberedLine) → above (suc n) ls + length (sent_by (suc n) ls).requests ≤ above n ls
unfolding above
above_step n [] = omega arith
above_step n (l ∷ ls) =
    let more = above_step n ls in
    let once = counts_once n l.line in
    let len = joined (request_in (suc n) l.line) in
    omega (arith, more, once, len)
  where
    joined : (o : Option Request) → length (cons_option o (sent_by (suc n) ls).requests) ≡ length (option_to_list o) + length (sent_by (suc n) ls).requests
    joined None = omega arith
    joined (Some r) = omega arith

abbrev sent_to : (n : ℕ) → List NumberedLine → ℕ
sent_to n ls = sum_by (λ (sent : ClientRequests). length sent.requests) (map (λ client. sent_by client ls) (nodes_to n))

all_above : (n : ℕ) (ls : List NumberedLine) → sent_to n ls + above n ls ≤ length ls
all_above zero ls = let most = above_most 0 ls in omega (arith, most)
all_above (suc n) ls =
    let more = all_above n ls in
    let step = above_step n ls in
    let count : ClientRequests → ℕ = λ sent. length sent.requests in
    let sum : sent_to (suc n) ls ≡ sent_to n ls + sum_by count (sent_by (suc n) ls ∷ []) =
    ap (sum_by count) (map-append (λ client. sent_by client ls) (nodes_to n) (suc n ∷ []))
    ∙ sum_by-append count (map (λ client. sent_by client ls) (nodes_to n)) (sent_by (suc n) ls ∷ []) in
    omega (arith, more, step, sum)

pub few_commands : (loss salt : ℕ) (ls : List NumberedLine) → command_count (rules_of loss salt ls) ≤ length ls
few_commands loss salt ls = let all = all_above (clients_in ls) ls in omega (arith, all)
