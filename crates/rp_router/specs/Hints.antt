-- What a client knows of where ranges are served, and where it asks next (this project's router).
use Rattle.std.specs.Prelude.{ℕ, ◌+◌, ◌%◌, ◌≤◌, Bool, false, ◌&&◌, ◌==◌, nat_lt, nat_le, if◌then◌else◌, List, replicate, position, slice_index_or, slice_set, Option, None, Some}
use Rattle.std.specs.Option.{option_map_or, option_or}
use Rattle.rp_base.specs.Splits.{first_desc}
use Rattle.rp_base.specs.declared.ranges.Desc.{Desc}
use Rattle.rp_request.specs.declared.outcomes.Refusal.{Refusal}
use Rattle.rp_request.specs.declared.outcomes.Refusal.TheVariants.{NoReplica, NotLeaseHolder, RangeMismatch, Latched, ConditionFailed, IsText, Overflow, Short, TooWide, NotInside, SplitLimit}
use Rattle.rp_router.specs.declared.places.Hint.{Hint}

-- the number of nodes, what is known of each of the eight ranges, and the range to ask where no
-- known one holds the key, counted on with each refusal that says that the range was wrong
pub record Known : Type 0 where
  pub nodes : ℕ
  pub hints : List Hint
  pub turn : ℕ

-- of a range nothing is known at first, and node 1 is asked
abbrev pub unknown : Hint
unknown = record { desc = None; holder = 1 }

-- at first range 0 is known to have all keys
abbrev pub started : ℕ → Known
started nodes = record {
  nodes = nodes;
  hints = slice_set (replicate 8 unknown) 0 (record { desc = Some first_desc; holder = 1 });
  turn = 0;
}

abbrev pub hint_of : Known → ℕ → Hint
hint_of k range = slice_index_or k.hints range unknown

-- the description is known, of this level, and its bounds hold the key
abbrev pub holds_at : (level key : ℕ) → Hint → Bool
holds_at level key h =
    option_map_or (λ d. d.level == level && (nat_le d.start key && nat_lt key d.end)) h.desc false

-- the known range of this level that holds the key, the least number first
abbrev pub found_at : (level key : ℕ) → List Hint → Option ℕ
found_at level key hints = position (holds_at level key) hints

-- the known range that holds the key: of the greatest level, which is at most 3
abbrev pub found : ℕ → List Hint → Option ℕ
found key hints =
    option_or (found_at 3 key hints)
    (option_or (found_at 2 key hints) (option_or (found_at 1 key hints) (found_at 0 key hints)))

-- the range that a key is sought in: the known one that holds it, else the one whose turn it is
abbrev pub aimed_range : Known → ℕ → ℕ
aimed_range k key = option_map_or (λ range. range) (found key k.hints) (k.turn % 8)

-- at the node that is known to hold that range's lease
abbrev pub aimed_node : Known → ℕ → ℕ
aimed_node k key = (hint_of k (aimed_range k key)).holder

-- the node after this one, cyclically
abbrev pub next_node : (nodes node : ℕ) → ℕ
next_node nodes node = node % nodes + 1

-- the lease of a range is sought at a node
abbrev pub with_holder : ℕ → ℕ → Known → Known
with_holder range node k = record k {
  hints = slice_set k.hints range (record { desc = (hint_of k range).desc; holder = node });
}

-- a description is kept where its level is not lower than that of the one that is known
abbrev pub newer : Option Desc → Desc → Desc
newer known d = option_map_or (λ old. if nat_le old.level d.level then d else old) known d

abbrev pub with_desc : ℕ → Desc → Known → Known
with_desc range d k = record k {
  hints = slice_set k.hints range (record {
    desc = Some (newer (hint_of k range).desc d);
    holder = (hint_of k range).holder;
  });
}

-- the next range has its turn; the count wraps at 256
abbrev pub turned : Known → Known
turned k = record k { turn = (k.turn + 1) % 256 }

-- what a refusal teaches a client that asked a node for a range: another holder is asked; a
-- description is kept, and a range had its turn; where there is no replica the next node is asked,
-- and a range had its turn; any other refusal says nothing of ranges and nodes
abbrev pub learnt : Known → (node range : ℕ) → Refusal → Known
learnt k node range NoReplica = turned (with_holder range (next_node k.nodes node) k)
learnt k node range (NotLeaseHolder lease) = with_holder range lease.holder k
learnt k node range (RangeMismatch d) = turned (with_desc range d k)
learnt k node range (Latched by held) = k
learnt k node range (ConditionFailed actual) = k
learnt k node range (IsText key) = k
learnt k node range (Overflow actual) = k
learnt k node range (Short actual) = k
learnt k node range (TooWide count) = k
learnt k node range NotInside = k
learnt k node range (SplitLimit level) = k

-- where a refusal names another holder of the lease, it is one of so many nodes
abbrev pub NamesNode : ℕ → Refusal → Type 0
NamesNode nodes (NotLeaseHolder lease) = lease.holder ≤ nodes
NamesNode nodes _ = Unit {0}
