-- Which lists of events are lawful, and what may come behind them (this project).
use Rattle.std.specs.Prelude.{◌≡◌, ℕ, Bool, true, false, not, ◌&&◌, ◌||◌, ◌==◌, nat_le, nat_lt, IsTrue, [], ◌∷◌, length}
use Rattle.std.specs.Option.{option_map_or}
use Rattle.rp_base.specs.Limits.{buffer_capacity}
use Rattle.rp_base.specs.declared.ids.CmdId.{CmdId}
use Rattle.rp_request.specs.Attempts.{previous}
use Rattle.rp_request.specs.Fits.{FitsId, FitsRequest}
use Rattle.rp_request.specs.declared.outcomes.Outcome.{Outcome}
use Rattle.rp_request.specs.declared.outcomes.Outcome.TheVariants.{Success, Refused, Ambiguous, Pending}
use Rattle.rp_request.specs.declared.requests.Request.{Request}
use Rattle.rp_events.specs.Nodes.{is_full, parcel_of}
use Rattle.rp_request.specs.Requests.{same_request}
use Rattle.rp_events.specs.Worlds.{World, Happening, Admit, Transfer, Collect, Deliver, Scene, Schedule, first_world, node_of, sent_by, happens, run, was_asked, outcome_of, asked_request}

-- the attempt ended by a refusal
abbrev pub is_refusal : Outcome → Bool
is_refusal (Success reply) = false
is_refusal (Refused refusal) = true
is_refusal (Ambiguous why) = false
is_refusal Pending = false

abbrev pub was_refused : World → CmdId → Bool
was_refused w id = option_map_or is_refusal (outcome_of w id) false

-- an attempt is made once: it is the first of its command, or the one before it was for the same request
-- and was refused
abbrev pub may_begin : World → CmdId → Request → Bool
may_begin w id request =
    not (was_asked w id)
    && (id.attempt == 1
    || (nat_lt 1 id.attempt && was_refused w (previous id)
    && option_map_or (same_request request) (asked_request w (previous id)) false))

-- the message stands in its sender's sent list and is for this node
abbrev pub is_sent_to : World → (node from number : ℕ) → Bool
is_sent_to w node from number =
    option_map_or (λ p. p.to == node) (parcel_of (sent_by w from) number) false

-- what may happen at a node: a collect gives no more than a buffer holds, a transfer goes to a node that
-- there is, a message was sent to this node, an attempt may begin
abbrev pub is_allowed : World → (node : ℕ) → Happening → Bool
is_allowed w node (Admit range id request) = may_begin w id request
is_allowed w node (Transfer range to) = nat_lt 0 to && nat_le to (length w)
is_allowed w node (Collect range taken) = nat_le (length taken) buffer_capacity
is_allowed w node (Deliver from number) = is_sent_to w node from number
is_allowed w node _ = true

-- a scene is lawful at a node that the world has and that is not full
abbrev pub is_lawful : World → Scene → Bool
is_lawful w x =
    option_map_or (λ n. not (is_full n) && is_allowed w x.node x.what) (node_of w x.node) false

-- the numbers of an admission have the widths of their types
abbrev pub HasWidths : Happening → Type 0
HasWidths (Admit range id request) = FitsId id × FitsRequest request
HasWidths _ = Unit {0}

pub record Lawful (w : World) (x : Scene) : Type 0 where
  pub lawful : IsTrue (is_lawful w x)
  pub widths : HasWidths x.what

-- each scene is lawful where it happens
abbrev pub AllLawful : World → Schedule → Type 0
AllLawful w [] = Unit {0}
AllLawful w (x ∷ xs) = Lawful w x × AllLawful (happens w x) xs

-- the world as it can be: a lawful schedule leads to it from its start
pub record IsReached (nodes : ℕ) (w : World) : Type 0 where
  pub some : IsTrue (nat_lt 0 nodes)
  pub few : IsTrue (nat_le nodes 5)
  pub schedule : Schedule
  pub lawful : AllLawful (first_world nodes) schedule
  pub reached : run (first_world nodes) schedule ≡ w

-- the world as it can become: a lawful schedule leads on
pub record IsLater (w later : World) : Type 0 where
  pub schedule : Schedule
  pub lawful : AllLawful w schedule
  pub reached : run w schedule ≡ later

-- what happens where it is lawful; else it is skipped
abbrev pub happens_if : Bool → World → Scene → World
happens_if true w x = happens w x
happens_if false w x = w

abbrev pub plays : World → Schedule → World
plays w [] = w
plays w (x ∷ xs) = plays (happens_if (is_lawful w x) w x) xs
