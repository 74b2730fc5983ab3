-- The reply lines, command by command.
use Rattle.std.proofs.Common.{◌≡◌, ℕ, suc, ◌+◌, ◌<◌, Option, None, Some, List, [], ◌∷◌, ◌++◌, drop, get_or, length, map, refl, sym, ap, ◌∙◌, arith, append_assoc}
use Rattle.std.proofs.lemmas.List.{drop_more, map-append}
use Rattle.rp_raftstep.specs.RaftState.{nodes_to}
use Rattle.rp_request.specs.declared.notes.ReplyLine.{ReplyLine}
use Rattle.rp_events.specs.Worlds.{World, outcome_of}
use Rattle.rp_clients.specs.Tries.{id_of}
use Rattle.rp_race.specs.declared.rules.ClientRequests.{ClientRequests}
use Rattle.rp_race.specs.Ends.{Command, commands_from, latest_attempt}
use Rattle.rp_racelines.specs.declared.attempts.Latest.{Latest}
use Rattle.rp_racelines.specs.declared.attempts.Latest.TheVariants.{Attempt}
use Rattle.rp_racelines.specs.Latest.{IsLatest}
use Rattle.rp_racelines.specs.Replies.{line_by, line_of, reply_line}

-- what is known of the latest attempt makes the line
pub line_is : (w : World) (client seq : ℕ) (known : Option Latest) → IsLatest w client seq known → line_of client seq known ≡ reply_line w client seq
line_is w client seq None h =
    let none : outcome_of w (id_of client seq (latest_attempt w client seq)) ≡ None = h.1 (latest_attempt w client seq) in
    sym (ap (line_by client seq (latest_attempt w client seq)) none)
line_is w client seq (Some (Attempt attempt outcome)) h =
    let found : outcome_of w (id_of client seq (latest_attempt w client seq)) ≡ Some outcome = ap (λ k. outcome_of w (id_of client seq k)) h.latest ∙ h.ended in
    sym (ap (line_by client seq (latest_attempt w client seq)) found ∙ ap (λ k. line_by client seq k (Some outcome)) h.latest)

pub pushes : (w : World) (client seq : ℕ) (known : Option Latest) (lines : List ReplyLine) → IsLatest w client seq known
    → lines ++ line_of client seq known ∷ [] ≡ lines ++ reply_line w client seq ∷ []
pushes w client seq known lines h = ap (λ l. lines ++ l ∷ []) (line_is w client seq known h)

-- a command more of a client
pub lines_more : (w : World) (client n : ℕ) (before lines new : List ReplyLine) → lines ≡ before ++ map (reply_line w client) (nodes_to n)
    → new ≡ lines ++ reply_line w client (n + 1) ∷ [] → new ≡ before ++ map (reply_line w client) (nodes_to (n + 1))
lines_more w client n before lines new so_far more =
    more ∙ ap (λ l. l ++ reply_line w client (n + 1) ∷ []) so_far
    ∙ append_assoc before (map (reply_line w client) (nodes_to n)) (reply_line w client (n + 1) ∷ [])
    ∙ ap (λ l. before ++ l) (unfolded n)
  where
    unfolded : (n : ℕ) → map (reply_line w client) (nodes_to n) ++ reply_line w client (n + 1) ∷ [] ≡ map (reply_line w client) (nodes_to (n + 1))
    unfolded n =
        let s : suc n ≡ n + 1 = omega arith in
        ap (λ k. map (reply_line w client) (nodes_to n) ++ reply_line w client k ∷ []) (sym s)
        ∙ sym (map-append (reply_line w client) (nodes_to n) (suc n ∷ []))
        ∙ ap (λ k. map (reply_line w client) (nodes_to k)) s

mapped : (w : World) (client : ℕ) (seqs : List ℕ)
    → map (λ (c : Command). reply_line w c.client c.seq) (map (λ seq. record { client = client; seq = seq }) seqs) ≡ map (reply_line w client) seqs
mapped w client [] = refl
mapped w client (seq ∷ seqs) = ap (λ l. reply_line w client seq ∷ l) (mapped w client seqs)

-- a client more
pub clients_more : (w : World) (client i n : ℕ) (requests : List ClientRequests) (s : ClientRequests) (lines new total : List ReplyLine)
    → i < length requests → s ≡ get_or requests i s → n ≡ length s.requests → new ≡ lines ++ map (reply_line w (client + 1)) (nodes_to n)
    → lines ++ map (λ (c : Command). reply_line w c.client c.seq) (commands_from (client + 1) (drop i requests)) ≡ total
    → new ++ map (λ (c : Command). reply_line w c.client c.seq) (commands_from (client + 1 + 1) (drop (i + 1) requests)) ≡ total
clients_more w client i n requests s lines new total lt is len more before =
    let line : Command → ReplyLine = λ c. reply_line w c.client c.seq in
    let mine : List Command = map (λ seq. record { client = client + 1; seq = seq }) (nodes_to (length s.requests)) in
    let rest : List Command = commands_from (client + 1 + 1) (drop (i + 1) requests) in
    ap (λ l. l ++ map line rest) (more ∙ ap (λ k. lines ++ map (reply_line w (client + 1)) (nodes_to k)) len)
    ∙ append_assoc lines (map (reply_line w (client + 1)) (nodes_to (length s.requests))) (map line rest)
    ∙ ap (λ l. lines ++ l) (ap (λ l. l ++ map line rest) (sym (mapped w (client + 1) (nodes_to (length s.requests)))) ∙ sym (map-append line mine rest))
    ∙ ap (λ l. lines ++ map line (commands_from (client + 1) l)) (sym (drop_more requests i s lt ∙ ap (λ y. y ∷ drop (i + 1) requests) (sym is)))
    ∙ before
