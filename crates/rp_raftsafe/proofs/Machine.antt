-- Raft as a machine over whole logs with its history, and what holds of each state of it.
use Rattle.std.proofs.Common.{◌≡◌, ℕ, suc, ◌<◌, ◌≤◌, List, [], length, take, ◌⊎◌}
use Rattle.rp_raftlog.specs.declared.entries.Entry.{Entry}
use Rattle.rp_raftsafe.proofs.Logs.{tm, last_tm, Good}
use Rattle.rp_raftsafe.proofs.Quorum.{Majority}

-- nodes and terms are counted from 1, and 0 is none of them
pub record Abs : Type 0 where
  -- of a node
  pub term : ℕ → ℕ
  pub log : ℕ → List Entry
  -- of a node and a term, for good: whom it voted for there
  pub vote : ℕ → ℕ → ℕ
  -- of a term and a candidate: its log as it asked for votes
  pub asked : ℕ → ℕ → List Entry
  -- of a term, for good: its leader, and the leader's log so far
  pub lead : ℕ → ℕ
  pub llog : ℕ → List Entry
  -- of a node and a term: how much of that leader's log it held while it was in the term
  pub ack : ℕ → ℕ → ℕ

-- the place of the leader's log of the term t holds an entry of that term
pub record Proper (llog : ℕ → List Entry) (t j : ℕ) : Type 0 where
  pub within : j < length (llog t)
  pub own : tm (llog t) j ≡ t

-- that entry is committed, or may still become so: a majority acknowledged it or is not past its term
abbrev pub Open : ℕ → (ℕ → ℕ) → (ℕ → ℕ → ℕ) → ℕ → ℕ → Type 0
Open n term ack t j = Majority n (λ q. (j < ack q t) ⊎ (term q ≤ t))

-- the last term of a log is above t, or is t and the log passes the place
abbrev pub IsFresh : ℕ → ℕ → List Entry → Type 0
IsFresh t j xs = (t < last_tm xs) ⊎ ((t ≡ last_tm xs) × (j < length xs))

-- a log is at least as up to date as another
abbrev pub AtLeast : List Entry → List Entry → Type 0
AtLeast xs ys = (last_tm ys < last_tm xs) ⊎ ((last_tm ys ≡ last_tm xs) × (length ys ≤ length xs))

pub record Inv (n : ℕ) (a : Abs) : Type 0 where
  -- votes
  pub unvoted : (p t : ℕ) → a.term p < t → a.vote p t ≡ 0
  pub asked_first : (p t : ℕ) → 0 < a.vote p t → a.vote (a.vote p t) t ≡ a.vote p t
  pub elected : (t : ℕ) → 0 < a.lead t → Majority n (λ q. a.vote q t ≡ a.lead t)
  -- leaders
  pub unled : (t : ℕ) → a.lead t ≡ 0 → a.llog t ≡ []
  pub lead_term : (t : ℕ) → 0 < a.lead t → t ≤ a.term (a.lead t)
  pub lead_log : (p : ℕ) → 0 < p → a.lead (a.term p) ≡ p → a.log p ≡ a.llog (a.term p)
  pub lead_ack : (t : ℕ) → 0 < a.lead t → a.ack (a.lead t) t ≡ length (a.llog t)
  -- logs
  pub good_log : (p : ℕ) → Good a.llog (a.log p)
  pub good_llog : (t : ℕ) → Good a.llog (a.llog t)
  pub log_terms : (p j : ℕ) → tm (a.log p) j ≤ a.term p
  pub llog_terms : (t j : ℕ) → tm (a.llog t) j ≤ t
  -- acknowledgements
  pub ack_length : (p t : ℕ) → a.ack p t ≤ length (a.llog t)
  pub ack_term : (p t : ℕ) → a.term p < t → a.ack p t ≡ 0
  -- what is acknowledged stays in the log while it may become committed
  pub stored : (p t j : ℕ) → Proper a.llog t j → Open n a.term a.ack t j → j < a.ack p t → take (suc j) (a.llog t) ≡ take (suc j) (a.log p)
  -- who voted later voted for a log with it
  pub fresh : (p s t j : ℕ) → 0 < a.vote p s → t < s → Proper a.llog t j → Open n a.term a.ack t j → j < a.ack p t → IsFresh t j (a.asked s (a.vote p s))
  -- later leaders have it
  pub complete : (s t j : ℕ) → 0 < a.lead s → t < s → Proper a.llog t j → Open n a.term a.ack t j → take (suc j) (a.llog t) ≡ take (suc j) (a.llog s)
