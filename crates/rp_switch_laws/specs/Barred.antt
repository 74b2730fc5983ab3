-- How often a node's journal has an event, and when a command is done with (this project).
use Rattle.std.specs.Prelude.{ℕ, Bool, false, ◌&&◌, ◌==◌, count_by}
use Rattle.rp_events.specs.declared.journals.PastEvent.{PastEvent}
use Rattle.rp_events.specs.declared.journals.PastEvent.TheVariants.{Admit}
use Rattle.rp_events.specs.Nodes.{Node}

-- how many entries of a node's journal are such events
abbrev pub times : (PastEvent → Bool) → Node → ℕ
times p n = count_by (λ e. p e.event) n.journal

-- an admission of a client's command
abbrev pub is_try_of : (client seq : ℕ) → PastEvent → Bool
is_try_of client seq (Admit range id place) = id.client == client && id.seq == seq
is_try_of client seq _ = false
