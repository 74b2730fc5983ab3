-- What the seats of a race know before its threads start and after they end (this project).
use Rattle.std.specs.Prelude.{◌≡◌, ℕ, ◌+◌, ◌-◌, ◌^◌, ◌%◌, ◌<◌, ◌≤◌, Bool, false, [], length}
use Rattle.rp_clients.specs.Finals.{HasDoneAll}
use Rattle.rp_race.specs.declared.rules.RaceRules.{RaceRules}
use Rattle.rp_race.specs.Played.{requests_of}
use Rattle.rp_switch.specs.Gifts.{tries_known}
use Rattle.rp_switch.specs.Rules.{clients_of}
use Rattle.rp_switch.specs.Views.{Tries, Rounds, Idle, Knowledge, right_at}
use Rattle.rp_desks.specs.Onward.{heard_over}

-- no client has more requests than there are numbers for
abbrev pub AreFew : RaceRules → Type 0
AreFew rules = (client : ℕ) → length (requests_of rules client) < 2 ^ 32

-- the seat carries the client's right, without a try
abbrev pub IsUntried : (client : ℕ) → Knowledge → Type 0
IsUntried client v = right_at v.rights (v.terms.nodes + client - 1) ≡ Tries []

-- and so it does of each client from this one on
abbrev pub AreUntried : (from : ℕ) → Knowledge → Type 0
AreUntried from v = (client : ℕ) → from ≤ client → client ≤ clients_of v.terms → IsUntried client v

-- the seat carries the rights to the rounds of all nodes that workers from this one on serve
abbrev pub AreUnserved : (from workers : ℕ) → Knowledge → Type 0
AreUnserved from workers v =
    (place : ℕ) → place < v.terms.nodes → from ≤ place % workers → right_at v.rights place ≡ Rounds

-- the client has done all its requests, but where memory was refused, or where the seat heard that no
-- more is to be waited for
abbrev pub EndsWell : (client : ℕ) → (is_short : Bool) → Knowledge → Type 0
EndsWell client is_short v = is_short ≡ false → heard_over v ≡ false
    → HasDoneAll client (requests_of v.terms.rules client) (tries_known v client)

-- and so has each client from this one on
abbrev pub EndWell : (from : ℕ) → (is_short : Bool) → Knowledge → Type 0
EndWell from is_short v =
    (client : ℕ) → from ≤ client → client ≤ clients_of v.terms → EndsWell client is_short v

-- the seat is made for the same, has as many parts and no node
pub record IsWhole (v w : Knowledge) : Type 0 where
  pub terms : w.terms ≡ v.terms
  pub parts : w.parts ≡ v.parts
  pub idle : w.stage ≡ Idle

-- the clients from this one on have run: what the seat carried of those before it stays
pub record HaveRun (from : ℕ) (v w : Knowledge) : Type 0 where
  pub whole : IsWhole v w
  pub stays : (client : ℕ) → 1 ≤ client → client < from
      → right_at w.rights (v.terms.nodes + client - 1) ≡ right_at v.rights (v.terms.nodes + client - 1)
