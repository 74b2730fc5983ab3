-- The rules of a race, as the lines of its script say them (this project).
use Rattle.std.specs.Prelude.{ℕ, zero, suc, ◌≤◌, max, ◌==◌, if◌then◌else◌, List, [], ◌∷◌, ◌++◌, slice_index_or, slice_set, map, filter_map, fold, All, Option, None, Some}
use Rattle.rp_raftstep.specs.RaftState.{nodes_to}
use Rattle.rp_request.specs.Fits.{FitsRequest}
use Rattle.rp_request.specs.declared.requests.Request.{Request}
use Rattle.rp_script.specs.declared.lines.NumberedLine.{NumberedLine}
use Rattle.rp_script.specs.declared.lines.ScriptLine.{ScriptLine}
use Rattle.rp_script.specs.declared.lines.ScriptLine.TheVariants as lines
use Rattle.rp_script.specs.Bounds.{IsNode}
use Rattle.rp_race.specs.declared.rules.ClientRequests.{ClientRequests}
use Rattle.rp_race.specs.declared.rules.Handover.{Handover}
use Rattle.rp_race.specs.declared.rules.RaceRules.{RaceRules}

-- how many nodes the first line names
abbrev pub nodes_by : ScriptLine → ℕ
nodes_by (lines.Cluster nodes) = nodes
nodes_by line = 0

abbrev pub nodes_in : List NumberedLine → ℕ
nodes_in [] = 0
nodes_in (l ∷ ls) = nodes_by l.line

-- the client of a line that sends a request, 0 for any other line: clients are numbered from 1
abbrev pub client_in : ScriptLine → ℕ
client_in (lines.Send node range client request) = client
client_in line = 0

-- the greatest number of a client that sends a request
abbrev pub clients_in : List NumberedLine → ℕ
clients_in ls = fold (λ most l. max most (client_in l.line)) 0 ls

-- the request that a line sends for this client
abbrev pub request_in : (client : ℕ) → ScriptLine → Option Request
request_in client (lines.Send node range sender request) =
    if sender == client then Some request else None
request_in client line = None

-- what a client sends: the requests of its lines, in their order
abbrev pub sent_by : (client : ℕ) → List NumberedLine → ClientRequests
sent_by client ls = record { requests = filter_map (λ l. request_in client l.line) ls }

-- what each client sends, by number from 1 up to the greatest: one that no line names sends nothing
abbrev pub requests_in : List NumberedLine → List ClientRequests
requests_in ls = map (λ client. sent_by client ls) (nodes_to (clients_in ls))

-- the request of a line goes behind those of its client
abbrev pub with_request : Request → ClientRequests → ClientRequests
with_request request sent = record { requests = sent.requests ++ request ∷ [] }

abbrev pub sent_at : (client : ℕ) → Request → List ClientRequests → List ClientRequests
sent_at zero request sent = sent
sent_at (suc place) request sent =
    slice_set sent place (with_request request (slice_index_or sent place (record { requests = [] })))

abbrev pub sent_after : ScriptLine → List ClientRequests → List ClientRequests
sent_after (lines.Send node range client request) sent = sent_at client request sent
sent_after line sent = sent

-- the handover of a line
abbrev pub handover_in : ScriptLine → Option Handover
handover_in (lines.Transfer node range to) = Some (record { node = node; range = range; to = to })
handover_in line = None

-- the rules of the race that these lines describe, with this loss and salt
abbrev pub rules_of : (loss salt : ℕ) → List NumberedLine → RaceRules
rules_of loss salt ls = record {
  loss = loss;
  salt = salt;
  requests = requests_in ls;
  transfers = filter_map (λ l. handover_in l.line) ls;
}

-- a handover is of nodes of the world
pub record IsOfWorld (nodes : ℕ) (h : Handover) : Type 0 where
  pub node : IsNode nodes h.node
  pub range : h.range ≤ 7
  pub to : IsNode nodes h.to

-- what the rules name is of a world of so many nodes: requests have the widths of their parts
pub record AreOfWorld (nodes : ℕ) (rules : RaceRules) : Type 0 where
  pub requests : All (λ (sent : ClientRequests). All FitsRequest sent.requests) rules.requests
  pub transfers : All (IsOfWorld nodes) rules.transfers
