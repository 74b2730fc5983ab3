-- What a desk in memory stands for.
use Rattle.std.specs.Prelude.{ℕ, nat_lt, if◌then◌else◌, slice_index_or}
use Rattle.rp_request.specs.declared.outcomes.Refusal.{Refusal}
use Rattle.rp_request.specs.declared.outcomes.Refusal.TheVariants.{NoReplica, NotLeaseHolder}
use Rattle.rp_clients.specs.Desks.{Standing}
use Rattle.rp_client_calls.specs.declared.fakes.FakeDesk.{FakeDesk}

abbrev pub standing_of : FakeDesk → Standing
standing_of d = record {
  tries = d.tries.items;
  told = λ n. slice_index_or d.told n 0;
  client = d.client;
  nodes = d.nodes;
  requests = d.requests;
  is_over = d.is_over;
  is_short = d.is_short;
  is_put = d.is_put;
  capacity = d.capacity;
  held = d.held;
}

-- a refusal that names no node of so many is taken for one that names none
abbrev pub named : ℕ → Refusal → Refusal
named nodes (NotLeaseHolder lease) = if nat_lt nodes lease.holder then NoReplica else NotLeaseHolder lease
named nodes refusal = refusal
