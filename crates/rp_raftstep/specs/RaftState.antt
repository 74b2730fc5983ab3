-- What contracts see of a replica's Raft: its head and its log; and how it begins.
use Rattle.std.specs.Prelude.{ℕ, zero, suc, ◌+◌, ◌-◌, ◌*◌, Bool, true, false, not, Option, Some, None, List, [], ◌∷◌, ◌++◌, replicate, slice_index_or, slice_set, nat_lt, ◌==◌, if◌then◌else◌, filter}
use Rattle.rp_raftstep.specs.declared.heads.Role.{Role}
use Rattle.rp_raftstep.specs.declared.heads.Role.TheVariants.{Follower, Candidate, Leader}
use Rattle.rp_raftstep.specs.declared.heads.Head.{Head}
use Rattle.rp_raftlog.specs.LogState.{LogState, log_at}

pub record RaftState : Type 0 where
  pub head : Head
  pub log : LogState

abbrev pub is_leader : Role → Bool
is_leader Follower = false
is_leader Candidate = false
is_leader Leader = true

abbrev pub is_candidate : Role → Bool
is_candidate Follower = false
is_candidate Candidate = true
is_candidate Leader = false

-- what a table has for a node
abbrev pub of_node : {A : Type 0} → List A → ℕ → A → A
of_node table node default = slice_index_or table (node - 1) default

-- the table with this for the node
abbrev pub with_node : {A : Type 0} → List A → ℕ → A → List A
with_node table node value = slice_set table (node - 1) value

-- a table that has this for each node
abbrev pub for_each_node : {A : Type 0} → A → List A
for_each_node value = replicate 5 value

-- the nodes from 1 to n
abbrev pub nodes_to : ℕ → List ℕ
nodes_to zero = []
nodes_to (suc n) = nodes_to n ++ suc n ∷ []

-- the other nodes, ascending
abbrev pub peers : Head → List ℕ
peers head = filter (λ node. not (node == head.node)) (nodes_to head.nodes)

-- so many are more than half of the nodes
abbrev pub is_majority : Head → ℕ → Bool
is_majority head count = nat_lt head.nodes (2 * count)

-- the start of a range: each node knows the leader of term 1 and has voted for it
abbrev pub started : ℕ → ℕ → ℕ → ℕ → ℕ → RaftState
started node nodes leader base base_term = record {
  head = record {
    node = node;
    nodes = nodes;
    term = 1;
    vote = Some leader;
    role = if node == leader then Leader else Follower;
    leader = Some leader;
    commit = base;
    votes = for_each_node false;
    next = for_each_node (base + 1);
    matched = for_each_node 0;
    silent = 0;
    beat = 0;
  };
  log = log_at base base_term;
}

-- a replica that a leader's snapshot makes
abbrev pub made_by_snap : ℕ → ℕ → ℕ → ℕ → ℕ → ℕ → RaftState
made_by_snap node nodes term from index index_term = record {
  head = record {
    node = node;
    nodes = nodes;
    term = term;
    vote = None;
    role = Follower;
    leader = Some from;
    commit = index;
    votes = for_each_node false;
    next = for_each_node (index + 1);
    matched = for_each_node 0;
    silent = 0;
    beat = 0;
  };
  log = log_at index index_term;
}

-- a replica made of what is kept: node, number of nodes, term, vote, log, and what is applied
abbrev pub revived : ℕ → ℕ → ℕ → Option ℕ → LogState → ℕ → RaftState
revived node nodes term vote log applied = record {
  head = record {
    node = node;
    nodes = nodes;
    term = term;
    vote = vote;
    role = Follower;
    leader = None;
    commit = applied;
    votes = for_each_node false;
    next = for_each_node (log.base + 1);
    matched = for_each_node 0;
    silent = 0;
    beat = 0;
  };
  log = log;
}

-- a replica after a restart: term, vote and log are kept, and of the commit index what is applied
abbrev pub restarted : ℕ → RaftState → RaftState
restarted applied st = revived st.head.node st.head.nodes st.head.term st.head.vote st.log applied
