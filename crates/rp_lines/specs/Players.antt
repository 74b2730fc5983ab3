-- A world that plays the lines of a script: the nodes with their buffers, the book of what clients sent,
-- and what lines have told (this project).
use Rattle.std.specs.Prelude.{ℕ, ◌+◌, ◌-◌, ◌/◌, ◌^◌, min, nat_lt, ◌==◌, if◌then◌else◌, List, [], ◌∷◌, ◌++◌, length, replicate, sum_by, Result, Ok, Err}
use Rattle.std.specs.Option.{option_map_or}
use Rattle.std.specs.FinMap.{entries}
use Rattle.rp_base.specs.ClientCounts.{no_counts, count_of, one_more_of}
use Rattle.rp_base.specs.declared.ids.CmdId.{CmdId}
use Rattle.rp_base.specs.declared.limits.Which.{Which}
use Rattle.rp_base.specs.declared.limits.Which.TheVariants.{Events, Weight}
use Rattle.rp_raftlog.specs.declared.entries.Entry.{Entry}
use Rattle.rp_raftstep.specs.declared.messages.Message.{Message}
use Rattle.rp_raftstep.specs.declared.messages.Message.TheVariants.{Vote, VoteReply, Append, AppendReply, Forward, Snap}
use Rattle.rp_request.specs.Applied.{AppliedState}
use Rattle.rp_request.specs.declared.notes.Note.{Note}
use Rattle.rp_request.specs.declared.requests.Request.{Request}
use Rattle.rp_events.specs.declared.answers.EventAnswer.{EventAnswer}
use Rattle.rp_events.specs.declared.answers.EventAnswer.TheVariants as answers
use Rattle.rp_events.specs.declared.parcels.Parcel.{Parcel}
use Rattle.rp_events.specs.declared.world_events.WorldEvent.{WorldEvent}
use Rattle.rp_events.specs.Worlds.{World, node_of}
use Rattle.rp_events.specs.Buffered.{Buffered, first_buffered, buffered_step}
use Rattle.rp_book.specs.declared.bookings.Booked.{Booked}
use Rattle.rp_book.specs.Books.{Book, booked, last_of}
use Rattle.rp_book.specs.Handling.{Handling}

-- how many of a hundred messages are lost in a settling, and by which salt
pub record Loss : Type 0 where
  pub percent : ℕ
  pub salt : ℕ

-- the nodes and buffers; how many commands each client has sent; the book; of each sender which messages
-- were handled; the loss of settlings to come; what lines have told; and how many events there were
pub record Player : Type 0 where
  pub world : Buffered
  pub sent : List ℕ
  pub book : Book
  pub handled : List Handling
  pub loss : Loss
  pub notes : List Note
  pub events : ℕ

-- no line was played
abbrev pub first_player : (nodes : ℕ) → Player
first_player nodes = record {
  world = first_buffered nodes;
  sent = no_counts;
  book = [];
  handled = replicate nodes [];
  loss = record { percent = 0; salt = 0 };
  notes = [];
  events = 0;
}

-- which limit was met, and what was counted, as far as 64 bits count
pub record Limit : Type 0 where
  pub which : Which
  pub count : ℕ

-- a player, or the limit at which playing ended
abbrev pub Played : Type 0
Played = Result Player Limit

-- goes on, where no limit was met
abbrev pub and_then : Played → (Player → Played) → Played
and_then (Ok p) next = next p
and_then (Err limit) next = Err limit

-- what an entry weighs in a message
abbrev pub entry_weight : Entry → ℕ
entry_weight e = 1 + length e.payload / 128

-- the weight of what a message carries: its entries, or the rows of its snapshot
abbrev pub load_of : Message AppliedState → ℕ
load_of (Vote term last_index last_term) = 0
load_of (VoteReply term granted) = 0
load_of (Append term prev_index prev_term entries commit) = sum_by entry_weight entries
load_of (AppendReply term ok index) = 0
load_of (Forward payload) = 0
load_of (Snap term index index_term snapshot) = length (entries snapshot.table)

abbrev pub weight_of : Parcel AppliedState → ℕ
weight_of p = 1 + load_of p.message

-- the weight of all that the nodes have sent
abbrev pub weight : World → ℕ
weight w = sum_by (λ n. sum_by weight_of n.sent) w

-- how many events may come, and what messages may weigh
abbrev pub most_events : ℕ
most_events = 4194304

abbrev pub most_weight : ℕ
most_weight = 2097152

-- the greatest count that is told
abbrev pub most_count : ℕ
most_count = 2 ^ 64 - 1

-- after an event the weight is judged
abbrev pub weighed : Player → Played
weighed p =
    if nat_lt most_weight (weight p.world.nodes)
    then Err (record { which = Weight; count = min (weight p.world.nodes) most_count })
    else Ok p

-- an event of the world
abbrev pub did : WorldEvent → Player → Played
did e p =
    if p.events == most_events
    then Err (record { which = Events; count = most_events })
    else weighed (record p { world = buffered_step p.world e; events = p.events + 1 })

-- what the node answered to its last event
abbrev pub last_answer : Player → (node : ℕ) → EventAnswer
last_answer p node =
    option_map_or (λ n. option_map_or (λ e. e.answer) (last_of n.journal) answers.Done)
    (node_of p.world.nodes node) answers.Done

-- a line has this to tell
abbrev pub noted : (line : ℕ) → List ℕ → Player → Player
noted line text p =
    record p { notes = p.notes ++ record { line = line; text = text } ∷ [] }

-- the book has this of an attempt from now on
abbrev pub with_booking : CmdId → Booked → Player → Player
with_booking id b p = record p { book = booked id b p.book }

-- the first attempt of a client's next command; and the client has sent one more
abbrev pub next_command : Player → (client : ℕ) → CmdId
next_command p client = record { client = client; seq = count_of p.sent client + 1; attempt = 1 }

abbrev pub counted : (client : ℕ) → Player → Player
counted client p = record p { sent = one_more_of p.sent client }
