-- Worked runs, by computation: the laws do not speak of worlds in which nothing happens.
use Rattle.std.proofs.Common.{◌≡◌, ℕ, zero, suc, ◌+◌, List, [], ◌∷◌, ◌++◌, length, refl}
use Rattle.std.specs.Prelude.{sum}
use Rattle.rp_raftlog.specs.declared.entries.Entry.{Entry}
use Rattle.rp_raftstep.specs.declared.heads.Role.{Role}
use Rattle.rp_raftstep.specs.declared.heads.Role.TheVariants.{Follower, Candidate, Leader}
use Rattle.rp_raftsafe.specs.World.{Range, Status, Absent, Live, Removed, World, Begin, Ticks, Proposes, Applies, Cuts, Removes, Restarts, Event, Acts, Comes, site, world_after}

-- a state is a sum of bytes
abbrev pub adds : ℕ → Entry → ℕ
adds state entry = state + sum entry.payload

-- range 0 of three nodes
abbrev pub three : Range ℕ
three = record { nodes = 3; holder = 1; base = 0; start = 0; act = adds }

abbrev pub role_number : Role → ℕ
role_number Follower = 0
role_number Candidate = 1
role_number Leader = 2

-- a node's term, role, base, last index, commit index, applied index and state
abbrev pub shown_by : Status ℕ → List ℕ
shown_by Absent = []
shown_by (Live r) = r.raft.head.term ∷ role_number r.raft.head.role ∷ r.raft.log.base ∷ length r.raft.log.entries ∷ r.raft.head.commit ∷ r.applied ∷ r.state ∷ []
shown_by Removed = 9 ∷ []

abbrev pub shown : World ℕ → ℕ → List ℕ
shown w node = shown_by (site w node).status

abbrev all_begin : List Event
all_begin = Acts 1 Begin ∷ Acts 2 Begin ∷ Acts 3 Begin ∷ []

abbrev proposal : List Event
proposal = all_begin ++ Acts 1 (Proposes ((7 ∷ []) ∷ [])) ∷ Comes 1 1 [] ∷ Comes 2 1 [] ∷ Acts 1 Applies ∷ []

committed_by_two : shown (world_after three proposal) 1 ≡ 1 ∷ 2 ∷ 0 ∷ 1 ∷ 1 ∷ 1 ∷ 7 ∷ []
committed_by_two = refl

-- so many ticks of a node
abbrev ticks : ℕ → ℕ → List Event
ticks zero node = []
ticks (suc n) node = Acts node (Ticks []) ∷ ticks n node

-- node 2 stands after 16 ticks, node 1 votes for it, and it leads term 2 with an entry Nothing
abbrev election : List Event
election = all_begin ++ ticks 16 2 ++ Comes 2 1 [] ∷ Comes 1 1 [] ∷ []

node_two_leads : shown (world_after three election) 2 ≡ 2 ∷ 2 ∷ 0 ∷ 1 ∷ 0 ∷ 0 ∷ 0 ∷ []
node_two_leads = refl

-- its Append comes to node 1 and is answered: the entry Nothing is committed
abbrev led : List Event
led = election ++ Comes 2 3 [] ∷ Comes 1 2 [] ∷ []

node_two_commits : shown (world_after three led) 2 ≡ 2 ∷ 2 ∷ 0 ∷ 1 ∷ 1 ∷ 0 ∷ 0 ∷ []
node_two_commits = refl

-- a follower forwards a payload, and the Forward comes three times
abbrev forwarded : List Event
forwarded =
    led ++ Acts 1 (Proposes ((7 ∷ []) ∷ [])) ∷ Comes 1 3 [] ∷ Comes 1 3 [] ∷ Comes 1 3 [] ∷ Comes 2 9 [] ∷ Comes 1 4 [] ∷ []
    ++ ticks 2 2
    ++ Comes 2 11 [] ∷ Acts 1 Applies ∷ Acts 1 Applies ∷ Acts 1 Applies ∷ Acts 1 Applies ∷ []

three_times_one : shown (world_after three forwarded) 1 ≡ 2 ∷ 0 ∷ 0 ∷ 4 ∷ 4 ∷ 4 ∷ 22 ∷ []
three_times_one = refl

three_times_two : shown (world_after three forwarded) 2 ≡ 2 ∷ 2 ∷ 0 ∷ 4 ∷ 4 ∷ 0 ∷ 0 ∷ []
three_times_two = refl

-- a leader that has cut its log sends its applied state, which is taken in
abbrev cut_and_sent : List Event
cut_and_sent =
    led ++ Acts 1 (Proposes ((7 ∷ []) ∷ [])) ∷ Comes 1 3 [] ∷ Comes 2 6 [] ∷ Comes 3 1 [] ∷ Acts 2 Applies ∷ Acts 2 Applies ∷ Acts 2 Cuts ∷ []
    ++ ticks 2 2
    ++ Comes 2 7 [] ∷ []

taken_in : shown (world_after three cut_and_sent) 1 ≡ 2 ∷ 0 ∷ 2 ∷ 0 ∷ 2 ∷ 2 ∷ 8 ∷ []
taken_in = refl

-- an entry of node 1 is overwritten by node 2's, and is proposed again twice
abbrev overwritten : List Event
overwritten =
    all_begin ++ Acts 1 (Proposes ((7 ∷ []) ∷ [])) ∷ []
    ++ ticks 16 2
    ++ Comes 2 2 [] ∷ Comes 3 1 [] ∷ Comes 2 4 [] ∷ Comes 3 2 [] ∷ Comes 2 3 ((7 ∷ []) ∷ []) ∷ []
    ++ ticks 4 1
    ++ Acts 1 (Ticks ((7 ∷ []) ∷ [])) ∷ Comes 1 5 [] ∷ Comes 2 5 [] ∷ Comes 1 6 [] ∷ Comes 1 4 [] ∷ Comes 2 7 [] ∷ Comes 1 7 [] ∷ []
    ++ ticks 2 2
    ++ Comes 2 9 [] ∷ Acts 1 Applies ∷ Acts 1 Applies ∷ Acts 1 Applies ∷ []

applied_again : shown (world_after three overwritten) 1 ≡ 2 ∷ 0 ∷ 0 ∷ 3 ∷ 3 ∷ 3 ∷ 15 ∷ []
applied_again = refl

others_after : shown (world_after three overwritten) 2 ++ shown (world_after three overwritten) 3 ≡ 2 ∷ 2 ∷ 0 ∷ 3 ∷ 3 ∷ 0 ∷ 0 ∷ 2 ∷ 0 ∷ 0 ∷ 1 ∷ 0 ∷ 0 ∷ 0 ∷ []
others_after = refl

-- a range whose log begins behind the index 10, with a state
abbrev pub right : Range ℕ
right = record { nodes = 3; holder = 1; base = 10; start = 100; act = adds }

-- two entries are committed, applied and cut away; node 3 has nothing yet, answers an Append so, and is sent the state
abbrev caught_up : List Event
caught_up =
    Acts 1 Begin ∷ Acts 2 Begin ∷ Acts 1 (Proposes ((7 ∷ []) ∷ (8 ∷ []) ∷ [])) ∷ Comes 1 1 [] ∷ Comes 2 1 [] ∷ Acts 1 Applies ∷ Acts 1 Applies ∷ Acts 1 Cuts ∷ Comes 1 2 [] ∷ Comes 3 1 [] ∷ Comes 1 3 [] ∷ []

made_by_the_state : shown (world_after right caught_up) 3 ≡ 1 ∷ 0 ∷ 12 ∷ 0 ∷ 12 ∷ 12 ∷ 115 ∷ []
made_by_the_state = refl

-- a node that is removed takes nothing in
gone_for_good : shown (world_after right (Acts 3 Begin ∷ Acts 3 Removes ∷ caught_up)) 3 ≡ 9 ∷ []
gone_for_good = refl

-- a node alone that restarts is its own majority
abbrev alone : Range ℕ
alone = record { nodes = 1; holder = 1; base = 0; start = 0; act = adds }

abbrev comes_back : List Event
comes_back = Acts 1 Begin ∷ Acts 1 (Proposes ((7 ∷ []) ∷ [])) ∷ Acts 1 Restarts ∷ [] ++ ticks 13 1

leads_again : shown (world_after alone comes_back) 1 ≡ 2 ∷ 2 ∷ 0 ∷ 2 ∷ 2 ∷ 0 ∷ 0 ∷ []
leads_again = refl
